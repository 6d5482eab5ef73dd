use Rattle.std.proofs.Common.{◌+◌, ◌*◌, ◌≤◌, List, length}
use Rattle.rows.specs.Rows.{Gives}
use Rattle.rows.proofs.Pieces.{Begun}
use Rattle.rows.proofs.counting.put_counted.Given as goal

-- the pieces so far stand behind the first number
abbrev pub invariant-loop-index : goal.invariant-loop-index
invariant-loop-index g l = 1 + l.size * l.count ≤ length l.initial.row → (pieces : List _) → Gives (g.P.AsSlice.items) (goal.F-post g l.numbers) l.size l.count pieces → Begun (g.P.AsSlice.items) l.size l.initial.row pieces l.index l.row
