use Rattle.std.proofs.Common.{◌<◌, length, sym, ◌∙◌}
use Rattle.script.specs.Rows.{script_in}
use Rattle.script.proofs.Lines.{script_at}
use Rattle.script_rows.proofs.reading.line_of.Goals as goal

pub returns-then-index-line_count : goal.returns-then-index-line_count
returns-then-index-line_count c =
    let inside : c.args.index < length (script_in c.args.script.now) = rw c.line_count.ensures.value at c.if-index-line_count.true in
    (inside, script_at c.args.script.now _ c.read.result inside ∙ sym c.read.ensures)
