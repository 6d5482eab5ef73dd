use Rattle.std.proofs.Common.{Ok, Err, refl, ap, ◌∙◌, subst, rules}
use Rattle.std.proofs.lemmas.Result.{err_from_is_err_and}
use Rattle.items.specs.Rows.{items_in}
use Rattle.script.specs.Rows.{script_in}
use Rattle.machine.specs.Machine.{rest}
use Rattle.clean.specs.Outcomes.{Evaluated}
use Rattle.clean.proofs.Already.{known_already, written_evaluated}
use Rattle.clean.proofs.Closing.{held_evaluated, known_evaluated}
use Rattle.clean.proofs.Opening.{opened_ready}
use Rattle.clean.proofs.Running.{running_ends, running_held, running_on, running_start}
use Rattle.clean.proofs.evaluation.Evaluation.+evaluate_run_script.Goals as goal

pub evaluate-returns-in-Written-clause-outcome : goal.evaluate-returns-in-Written-clause-outcome
evaluate-returns-in-Written-clause-outcome t c = written_evaluated c.requires.sound _ _ c.in-Written.ensures

pub evaluate-returns-in-Known-clause-outcome : goal.evaluate-returns-in-Known-clause-outcome
evaluate-returns-in-Known-clause-outcome t c = known_already c.requires.sound _ _ c.in-Known.is

pub evaluate-overflow_sub-depth : goal.evaluate-overflow_sub-depth
evaluate-overflow_sub-depth t c = (opened_ready (record { sound = c.requires.sound; is_made = c.in-Made.ensures; is_unseen = c.in-Unseen.is }) c.requires.deep).0

pub evaluate-run_script-requires : goal.evaluate-run_script-requires
evaluate-run_script-requires t c =
    let ready = opened_ready (record { sound = c.requires.sound; is_made = c.in-Made.ensures; is_unseen = c.in-Unseen.is }) c.requires.deep in
    (search rules, ready.1)

pub evaluate-returns-in_err-value-clause-outcome : goal.evaluate-returns-in_err-value-clause-outcome
evaluate-returns-in_err-value-clause-outcome t c =
    let failed = err_from_is_err_and c.from_residual.result c.from_residual.ensures.1 in
    rw (failed.1, failed.2)
    (held_evaluated (record { sound = c.requires.sound; is_made = c.in-Made.ensures; is_unseen = c.in-Unseen.is }) _ c.in_err-value.ensures.outcome)

pub evaluate-returns-clause-outcome : goal.evaluate-returns-clause-outcome
evaluate-returns-clause-outcome t c =
    known_evaluated (record { sound = c.requires.sound; is_made = c.in-Made.ensures; is_unseen = c.in-Unseen.is }) c.in_ok-value.ensures.outcome

pub run_script-loop-value-init : goal.run_script-loop-value-init
run_script-loop-value-init t c = record { same = refl; running = running_start _ _ c.new-registers.ensures c.requires.sound }

pub run_script-returns-in-Gives-clause-outcome : goal.run_script-returns-in-Gives-clause-outcome
run_script-returns-in-Gives-clause-outcome t c = running_ends c.loop-value.invariant.running _ c.in-Gives.ensures.step

pub run_script-returns-in_default-clause-outcome : goal.run_script-returns-in_default-clause-outcome
run_script-returns-in_default-clause-outcome t c =
    let so_far = c.loop-value.invariant in
    let held = subst (λ row. Evaluated (items_in row) c.loop-value.self.marks c.evaluate.new.self.marks c.in-Asks.item (Err c.in_default.field-0)) so_far.same c.in_default.ensures.outcome in
    running_held so_far.running c.in-Asks.ensures.step _ held

pub run_script-loop-value-preserved : goal.run_script-loop-value-preserved
run_script-loop-value-preserved t c =
    let so_far = c.loop-value.invariant in
    let valued = subst (λ row. Evaluated (items_in row) c.loop-value.self.marks c.evaluate.new.self.marks c.in-Asks.item (Ok c.in-Ok.value)) so_far.same c.in-Ok.ensures.outcome in
    record {
      same = c.evaluate.ensures.same ∙ so_far.same;
      running = running_on so_far.running c.in-Asks.ensures.step _ _ valued (ap (rest (script_in c.args.script.now)) c.answer-registers.ensures);
    }
