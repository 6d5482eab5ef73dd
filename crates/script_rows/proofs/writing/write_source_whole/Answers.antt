use Rattle.std.proofs.Common.{◌≤◌, map, length, sym, arith}
use Rattle.std.proofs.lemmas.List.{length-map}
use Rattle.rows.proofs.Counted.{ended}
use Rattle.script.specs.Allowed.{counted_as}
use Rattle.script.specs.Layout.{line_size, max_lines}
use Rattle.script.specs.Rows.{line_out}
use Rattle.script.proofs.Lines.{length_line}
use Rattle.script_rows.proofs.writing.write_source_whole.Goals as goal

pub returns : goal.returns
returns c =
    let lines = c.args.lines.now in
    let many = length-map lines counted_as in
    let few : length (map counted_as lines) ≤ max_lines = omega (arith, c.requires.few) in
    ended line_out line_size length_line (map counted_as lines) max_lines (length lines) c.args.row.now _ c.write_source_lines.new.row (sym many) few c.requires.long c.put_all.ensures (omega arith)
    c.write_source_lines.ensures c.clear_from.ensures
