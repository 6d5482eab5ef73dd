use Rattle.std.proofs.Common.{◌≡◌, take}
use Rattle.script.specs.Rows.{script_in}
use Rattle.script_rows.proofs.comparing.same_script.Given as goal

abbrev pub invariant-loop-index : goal.invariant-loop-index
invariant-loop-index l = take l.index (script_in l.left) ≡ take l.index (script_in l.right)
