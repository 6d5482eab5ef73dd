use Rattle.script.specs.Allowed.{sources_in}
use Rattle.script_checks.proofs.Faults.{Passed}
use Rattle.script_checks.proofs.whole.check_script_row.Given as goal

abbrev pub invariant-loop-index : goal.invariant-loop-index
invariant-loop-index l = Passed (sources_in l.script) l.index
