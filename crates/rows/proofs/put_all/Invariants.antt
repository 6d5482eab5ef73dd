use Rattle.std.proofs.Common.{◌≡◌, ◌+◌, drop}
use Rattle.rows.specs.Rows.{written_at}
use Rattle.rows.proofs.put_all.Given as goal

abbrev pub invariant-loop-offset : goal.invariant-loop-offset
invariant-loop-offset l = written_at l.row (l.at + l.offset) (drop l.offset l.numbers) ≡ written_at l.initial.row l.at l.numbers
