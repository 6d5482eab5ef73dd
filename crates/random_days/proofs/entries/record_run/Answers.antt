use Rattle.std.proofs.Common.{◌≡◌, ◌≤◌, length, refl, ◌∙◌, arith}
use Rattle.script.proofs.Lines.{script_short}
use Rattle.entry.specs.Layout.{entry_size}
use Rattle.random_days.specs.Spoiled.{asked_in}
use Rattle.random_days.proofs.Records.{asked_stays, behind_written, later_stays, not_both, recorded_end, recorded_more, recorded_none}
use Rattle.random_days.proofs.entries.record_run.Goals.{else-loop-index-test, then-loop-index-test+in_default}
use Rattle.random_days.proofs.entries.record_run.Goals as goal

pub loop-index-init : goal.loop-index-init
loop-index-init c = record { behind = refl; recorded = λ room none. recorded_none _ _ none c.new-registers.ensures }

pub loop-index-preserved : goal.loop-index-preserved
loop-index-preserved c =
    let old = c.write_script.new.row in
    let row = c.loop-index.row in
    let i = c.loop-index.index in
    let wait = c.in-Asks.waiting in
    record {
      behind = behind_written _ _ _ c.write.ensures (omega arith) ∙ behind_written _ _ _ c.put_all.ensures (omega arith) ∙ c.loop-index.invariant.behind;
      recorded = λ room none.
          recorded_more old row i _ _ _ _ c.loop-index.registers c.answer-registers.result wait
          room (omega arith) c.in-Asks.ensures.step c.in-Asks.ensures.progress.0 c.answer-registers.ensures c.put_all.ensures c.write.ensures (omega arith) (omega arith) (c.loop-index.invariant.recorded room none);
    }

pub returns-in-Gives-clause-behind : goal.returns-in-Gives-clause-behind
returns-in-Gives-clause-behind c =
    behind_written _ _ _ c.put_all-in-Gives.ensures (omega arith) ∙ c.loop-index.invariant.behind ∙ later_stays c.args.row.now c.write_script.new.row c.write_script.ensures.behind

pub returns-in-Gives-clause-honest : goal.returns-in-Gives-clause-honest
returns-in-Gives-clause-honest c = λ room none.
    let old = c.write_script.new.row in
    let long : entry_size ≤ length old = omega arith in
    let first : asked_in old ≡ 0 = asked_stays c.args.row.now old c.write_script.ensures.behind ∙ none in
    recorded_end old c.loop-index.row c.loop-index.index c.in-Gives.result c.loop-index.registers long (omega arith) (c.write_script.ensures.allowed (omega arith)) c.in-Gives.ensures.step
    c.put_all-in-Gives.ensures (c.loop-index.invariant.recorded long first)

pub returns-in_default-run-clause-behind : goal.returns-in_default-run-clause-behind
returns-in_default-run-clause-behind c = c.loop-index.invariant.behind ∙ later_stays c.args.row.now c.write_script.new.row c.write_script.ensures.behind

pub returns-in_default-run-clause-honest : goal.returns-in_default-run-clause-honest
returns-in_default-run-clause-honest c = λ room none.
    let old = c.write_script.new.row in
    let long : entry_size ≤ length old = omega arith in
    let first : asked_in old ≡ 0 = asked_stays c.args.row.now old c.write_script.ensures.behind ∙ none in
    let so_far = c.loop-index.invariant.recorded long first in
    let past = so_far.past in
    let on = c.in_default-run.ensures.progress.0 in
    let most = c.in_default-run.ensures.progress.1 in
    elim c.loop-index-test.branch [
      | else-loop-index-test w ↦ let t = w.loop-index-test in absurd (omega (arith, past, on, most, script_short c.loop-index.row))
      | then-loop-index-test+in_default w ↦ absurd (not_both _ _ _ _ w.in_default.ensures.step c.in_default-run.ensures.step)
    ]
