use Rattle.std.proofs.Common.{min, sym, ap, ◌∙◌, arith}
use Rattle.script.specs.Layout.{max_lines}
use Rattle.script.proofs.Lines.{length_script}
use Rattle.script_rows.proofs.reading.line_count.Goals as goal

pub returns : goal.returns
returns c = record {
  value = c.min.ensures ∙ ap (λ n. min n max_lines) c.number_after-count.ensures ∙ sym (length_script c.args.script.now);
  bound = omega arith;
}
