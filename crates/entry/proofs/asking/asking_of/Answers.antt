use Rattle.std.proofs.Common.{◌<◌, length, sym, ◌∙◌}
use Rattle.rows.proofs.Counted.{counted_at}
use Rattle.script.specs.Layout.{max_askings}
use Rattle.entry.specs.Layout.{asking_size}
use Rattle.entry.specs.Rows.{askings_in, first_asking}
use Rattle.entry.proofs.asking.asking_of.Goals as goal

pub returns-then-index-asking_count : goal.returns-then-index-asking_count
returns-then-index-asking_count c =
    let row = c.args.askings.now in
    let inside : c.args.index < length (askings_in row) = rw c.asking_count.ensures.value at c.if-index-asking_count.true in
    (inside, counted_at first_asking asking_size max_askings row _ c.read.result inside ∙ sym c.read.ensures)
