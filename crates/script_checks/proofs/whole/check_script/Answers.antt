use Rattle.std.proofs.lemmas.Result.{err_from_is_err_and}
use Rattle.script_checks.proofs.Faults.{allowed, over, pass, refused, stop}
use Rattle.script_checks.proofs.whole.check_script.Goals as goal

pub returns-in_err-check : goal.returns-in_err-check
returns-in_err-check c =
    let p = err_from_is_err_and c.from_residual.result c.from_residual.ensures.1 in
    let fault = stop _ _ c.loop-index.invariant _ _ c.loop-index-test.true c.in_err-check.ensures.fault in
    rw (p.1, p.2) (record { fault = fault; exactly = refused _ _ fault })

pub loop-index-preserved : goal.loop-index-preserved
loop-index-preserved c = pass _ _ c.loop-index.invariant _ c.loop-index-test.true c.in_ok-check.ensures.fault

pub returns : goal.returns
returns c =
    let fault = over _ _ c.loop-index.invariant c.loop-index-test.false in
    record { fault = fault; exactly = allowed _ fault }
