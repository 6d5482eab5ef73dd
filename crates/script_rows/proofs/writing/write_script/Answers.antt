use Rattle.std.proofs.Common.{length, sym, ◌∙◌, arith}
use Rattle.std.proofs.lemmas.Bool.{cond-true, eq-eqb}
use Rattle.script.specs.Layout.{line_size, max_lines, script_size}
use Rattle.script.specs.Rows.{line_out, script_in}
use Rattle.rows.proofs.Counted.{ended}
use Rattle.script.proofs.Lines.{length_line, script_short}
use Rattle.script_rows.proofs.writing.write_script.Goals as goal

pub returns-then-row-eq-SCRIPT_SIZE : goal.returns-then-row-eq-SCRIPT_SIZE
returns-then-row-eq-SCRIPT_SIZE c =
    let row = c.args.row.now in
    ended line_out line_size length_line (script_in c.args.script.now) max_lines _ row _ c.write_lines.new.row
    c.line_count-count.ensures.value (script_short c.args.script.now) c.if-row-eq-SCRIPT_SIZE.true c.put_all.ensures (omega arith) c.write_lines.ensures c.clear_from.ensures
    ∙ sym (cond-true _ _ _ (eq-eqb (length row) script_size c.if-row-eq-SCRIPT_SIZE.true))
