use Prim.Native.Nat.{◌-◌}
use lib.ListN.{length}
use Rattle.script.specs.Rows.{script_in}
use Rattle.runner.proofs.Ahead.{Ahead}
use Rattle.runner.proofs.run.Given as goal

abbrev pub invariant-loop-line : goal.invariant-loop-line
invariant-loop-line l = Ahead (script_in l.script) l.initial.state l.state

abbrev pub decreases-loop-line : goal.decreases-loop-line
decreases-loop-line l = length (script_in l.script) - l.state.next
