use Rattle.std.proofs.Common.{min, sym, ap, ◌∙◌, arith}
use Rattle.rows.proofs.Counted.{count_in}
use Rattle.script.specs.Layout.{max_askings}
use Rattle.entry.specs.Layout.{asking_size}
use Rattle.entry.specs.Rows.{first_asking}
use Rattle.entry.proofs.asking.asking_count.Goals as goal

pub returns : goal.returns
returns c = record {
  value = c.min.ensures ∙ ap (λ n. min n max_askings) c.number_after-count.ensures ∙ sym (count_in first_asking asking_size max_askings c.args.askings.now);
  bound = omega arith;
}
