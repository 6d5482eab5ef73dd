-- What one turn of the runner keeps: the rest of the script is worth the same. Assumes nothing.
use mathlib.Core.Path.{◌≡◌}
use Prim.Native.Nat.{◌≤◌}
use lib.ListN.{length}
use Rattle.script.specs.Layout.{max_lines}
use Rattle.script.specs.Rule.{Script}
use Rattle.machine.specs.Machine.{rest}
use Rattle.machine.specs.declared.registers.Registers.{Registers}

-- from registers g the runner came to registers h
pub record Ahead (s : Script) (g h : Registers) : Type 0 where
  pub short : length s ≤ max_lines
  pub same : rest s g ≡ rest s h
  pub on : g.next ≤ h.next
