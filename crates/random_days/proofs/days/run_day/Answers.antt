use Rattle.std.proofs.Common.{◌≡◌, Err, rules, arith, ap, ◌∙◌}
use Rattle.std.specs.Option.{option_map}
use Rattle.std.specs.Result.{result_err}
use Rattle.random_days.proofs.Reached.{as_many, at_the_end, next}
use Rattle.random_days.proofs.days.run_day.Goals as goal

pub returns-in-Err : goal.returns-in-Err
returns-in-Err c =
    let house = c.loop-deed.day.watched.house in
    record {
      house = house;
      reached = as_many c.loop-deed.deed _ house (omega arith) c.loop-deed.invariant.0;
      at_end = λ same. absurd (c.in_ok-fault.ensures.fault (c.in-Err.is ∙ ap Err same));
      at_command = grind arith;
      said = λ _. search rules;
    }

pub loop-deed-preserved : goal.loop-deed-preserved
loop-deed-preserved c = (next _ _ _ c.loop-deed.invariant.0 (search rules), search rules, grind arith)

pub returns : goal.returns
returns c =
    let house = c.loop-deed.day.watched.house in
    let reached = as_many _ c.draw_count-deeds.result house (omega arith) c.loop-deed.invariant.0 in
    let honest = rw c.as_slice.ensures.value at c.judge_entries-honest.ensures.honest in
    let dishonest = rw c.as_slice.ensures.value at c.judge_entries-honest.ensures.dishonest in
    let end = at_the_end c.args.tally.now.commands c.judge_entries-honest.new.tally.commands _ house (search rules) reached (grind arith) c.judge_entries-honest.result honest dishonest c.judge_entries-honest.ensures.fault in
    let told : c.map.result ≡ option_map (λ fault. record { deed = c.draw_count-deeds.result; fault = fault }) (result_err c.judge_entries-honest.result) = search rules in
    rw told end
