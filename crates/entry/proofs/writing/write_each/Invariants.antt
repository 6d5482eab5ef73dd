use Rattle.rows.proofs.Counted.{Begun}
use Rattle.entry.specs.Layout.{asking_size}
use Rattle.entry.specs.Rows.{asking_out, askings_in}
use Rattle.entry.proofs.Askings.{length_asking}
use Rattle.entry.proofs.writing.write_each.Given as goal

-- the askings so far stand behind the first number
abbrev pub invariant-loop-index : goal.invariant-loop-index
invariant-loop-index l = Begun asking_out asking_size length_asking l.initial.row (askings_in l.askings) l.index l.row
