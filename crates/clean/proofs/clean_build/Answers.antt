use Rattle.std.proofs.Common.{◌≤◌, length, ap, ◌∙◌, arith}
use Rattle.std.proofs.lemmas.Bool.{cond-true, lt-ltb}
use Rattle.items.specs.Listing.{listed}
use Rattle.items.specs.Rows.{items_in}
use Rattle.clean.specs.Builds.{known_items}
use Rattle.clean.proofs.Marks.{none_seen}
use Rattle.clean.proofs.Whole.{fresh_sound, whole_answer, whole_built}
use Rattle.clean.proofs.clean_build.Goals as goal

pub evaluate-answer-requires : goal.evaluate-answer-requires
evaluate-answer-requires c =
    let d = items_in c.args.items.now in
    let few : length d ≤ 256 = omega (arith, c.item_count-count.ensures.value, c.item_count-count.ensures.bound) in
    rw (c.new-evaluation.ensures.same, c.new-evaluation.ensures.fresh)
    (record { sound = fresh_sound d 256 few; deep = omega (arith, none_seen (length d) 256, c.item_count-count.ensures.value) })

pub returns-clause-answer : goal.returns-clause-answer
returns-clause-answer c =
    let done = rw (c.new-evaluation.ensures.same, c.new-evaluation.ensures.fresh) at c.evaluate-answer.ensures.outcome in
    c.into.ensures ∙ whole_answer (items_in c.args.items.now) 256 _ c.args.item c.evaluate-answer.result done

pub returns-clause-list : goal.returns-clause-list
returns-clause-list c =
    let d = items_in c.args.items.now in
    let marks = c.evaluate-answer.new.self.marks in
    let done = rw (c.new-evaluation.ensures.same, c.new-evaluation.ensures.fresh) at c.evaluate-answer.ensures.outcome in
    record {
      ran = known_items marks (length d);
      built = whole_built d 256 _ c.args.item c.evaluate-answer.result done;
      row = c.list_runs.ensures ∙ cond-true _ _ _ (lt-ltb c.item_count-count.result (length c.args.ran.now) (omega arith)) ∙ ap (λ n. listed (known_items marks n) c.args.ran.now) c.item_count-count.ensures.value;
    }
