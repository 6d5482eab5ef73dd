use Rattle.script_checks.proofs.Faults.{Passed}
use Rattle.script_checks.proofs.whole.check_script.Given as goal

abbrev pub invariant-loop-index : goal.invariant-loop-index
invariant-loop-index l = Passed l.lines l.index
