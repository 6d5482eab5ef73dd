use Rattle.std.proofs.Common.{◌≡◌, rules, arith, ◌∙◌, subst}
use Rattle.std.specs.Prelude.{IfErr}
use Rattle.random_days.specs.Entries.{first_entries}
use Rattle.random_days.specs.Faultless.{AllFaultless}
use Rattle.store.specs.Rows.{count_of}
use Rattle.random_days.proofs.Replayed.{first_honest, later_honest, one_fewer}
use Rattle.random_days.proofs.days.judge_entries.Goals as goal

pub loop-entry-preserved-in-Ok : goal.loop-entry-preserved-in-Ok
loop-entry-preserved-in-Ok c =
    record {
      counted = search rules;
      fault = search rules;
      size = search rules;
      behind = λ all. later_honest c.in-Some.entry.now c.loop-entry.entry-iterator.rest.now c.next.new.self.rest.now (search rules) (search rules) (c.loop-entry.invariant.behind all);
      dishonest = search rules;
      honest = one_fewer c.loop-entry.judged c.in-Some.entry.now c.loop-entry.entry-iterator.rest.now c.next.new.self.rest.now c.into_iter-entry-iterator.result.rest.now (search rules) (search rules) (search rules) c.loop-entry.invariant.honest;
    }

pub loop-entry-preserved : goal.loop-entry-preserved
loop-entry-preserved c =
    let all_behind = c.loop-entry.invariant.behind in
    record {
      counted = search rules;
      fault = search rules;
      size = search rules;
      honest = search rules;
      behind = λ all. later_honest c.in-Some.entry.now c.loop-entry.entry-iterator.rest.now c.next.new.self.rest.now (search rules) (search rules) (all_behind all);
      dishonest = λ all. let none = first_honest c.in-Some.entry.now c.loop-entry.entry-iterator.rest.now c.next.new.self.rest.now (search rules) (search rules) (all_behind all) in let told = c.in-Err.ensures ∙ none in absurd (grind (arith, told));
    }

pub returns-clause-dishonest : goal.returns-clause-dishonest
returns-clause-dishonest c =
    let entries = first_entries (count_of c.args.store.now) c.args.store.now in
    let same : c.into_iter-entry-iterator.result.rest.now ≡ entries = search rules in
    subst (λ row. IfErr c.loop-entry.judged (λ _. ¬ AllFaultless row)) same c.loop-entry.invariant.dishonest
