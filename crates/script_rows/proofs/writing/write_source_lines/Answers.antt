use Rattle.std.proofs.Common.{◌+◌, ◌*◌, ◌<◌, ◌≤◌, map, length, sym, ◌∙◌, arith}
use Rattle.std.proofs.lemmas.List.{get_or-map, length-map}
use Rattle.rows.proofs.Counted.{begun_end, begun_more}
use Rattle.script.specs.Allowed.{counted_as}
use Rattle.script.specs.Layout.{line_size}
use Rattle.script.specs.Rows.{line_out}
use Rattle.script.proofs.Lines.{length_line}
use Rattle.script_rows.proofs.writing.write_source_lines.Goals as goal

pub loop-index-preserved : goal.loop-index-preserved
loop-index-preserved c =
    let lines = c.args.lines.now in
    let many = length-map lines counted_as in
    let inside : c.loop-index.index < length (map counted_as lines) = omega (arith, c.loop-index-test.true) in
    let room : 1 + line_size * length (map counted_as lines) ≤ length c.args.row.now = omega (arith, c.requires.long, c.requires.few) in
    let here = get_or-map counted_as lines c.loop-index.index _ c.from.result c.loop-index-test.true ∙ sym c.from.ensures in
    begun_more line_out line_size length_line _ _ _ c.from.result inside room here c.write.ensures.after c.loop-index.invariant

pub returns : goal.returns
returns c =
    begun_end line_out line_size length_line _ _ _ (omega (arith, length-map c.args.lines.now counted_as, c.loop-index.auto.index-end)) c.loop-index.invariant
