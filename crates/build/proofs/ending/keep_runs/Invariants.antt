use Rattle.items.specs.Rows.{items_in}
use Rattle.build.proofs.Keeping.{Keeping}
use Rattle.build.proofs.ending.keep_runs.Given as goal

abbrev pub invariant-loop-item : goal.invariant-loop-item
invariant-loop-item l = Keeping (items_in l.items) l.scratch l.initial.rows l.item l.rows
