use Rattle.std.proofs.Common.{◌+◌, ◌*◌, ◌<◌, ◌≤◌, length, sym, ◌∙◌, arith}
use Rattle.script.specs.Layout.{line_size}
use Rattle.script.specs.Rows.{line_out, script_in}
use Rattle.rows.proofs.Counted.{begun_end, begun_more}
use Rattle.script.proofs.Lines.{length_line, script_at, script_short}
use Rattle.script_rows.proofs.writing.write_lines.Goals as goal

pub loop-index-preserved : goal.loop-index-preserved
loop-index-preserved c =
    let row = c.args.script.now in
    let inside : c.loop-index.index < length (script_in row) = omega (arith, c.line_count-index-end.ensures.value) in
    let room : 1 + line_size * length (script_in row) ≤ length c.args.row.now = omega (arith, script_short row) in
    let here = script_at row c.loop-index.index c.read.result inside ∙ sym c.read.ensures in
    begun_more line_out line_size length_line _ _ _ c.read.result inside room here c.write.ensures.after c.loop-index.invariant

pub returns : goal.returns
returns c =
    begun_end line_out line_size length_line _ _ _ (omega (arith, c.line_count-index-end.ensures.value, c.loop-index.auto.index-end)) c.loop-index.invariant
