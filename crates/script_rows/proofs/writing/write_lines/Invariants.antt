use Rattle.script.specs.Layout.{line_size}
use Rattle.script.specs.Rows.{line_out, script_in}
use Rattle.rows.proofs.Counted.{Begun}
use Rattle.script.proofs.Lines.{length_line}
use Rattle.script_rows.proofs.writing.write_lines.Given as goal

-- the lines so far stand behind the first number
abbrev pub invariant-loop-index : goal.invariant-loop-index
invariant-loop-index l = Begun line_out line_size length_line l.initial.row (script_in l.script) l.index l.row
