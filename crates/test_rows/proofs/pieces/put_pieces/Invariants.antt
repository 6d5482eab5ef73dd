use Rattle.std.proofs.Common.{◌≡◌, ◌+◌, ◌*◌, drop}
use Rattle.rows.specs.Rows.{written_at}
use Rattle.test_rows.specs.Laid.{joined}
use Rattle.test_rows.proofs.pieces.put_pieces.Given as goal

abbrev pub invariant-loop-index : goal.invariant-loop-index
invariant-loop-index g l =
    written_at l.row (l.at + g.row.N * l.index) (joined (drop l.index l.pieces)) ≡ written_at l.initial.row l.at (joined l.pieces)
