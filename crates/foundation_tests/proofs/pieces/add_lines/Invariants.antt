use Rattle.std.proofs.Common.{◌≡◌, ◌+◌, ◌*◌, length, vec_items}
use Rattle.foundation_tests.proofs.pieces.add_lines.Given as goal

abbrev pub invariant-loop-index : goal.invariant-loop-index
invariant-loop-index l = length (vec_items l.file) ≡ length (vec_items l.fn.file) + 1 + 13 * l.index
