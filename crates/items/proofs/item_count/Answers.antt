use Rattle.std.proofs.Common.{min, sym, ap, ◌∙◌}
use Rattle.rows.proofs.Counted.{count_in}
use Rattle.items.specs.Rows.{first_item, item_size, max_items}
use Rattle.items.proofs.item_count.Goals as goal

pub returns-clause-value : goal.returns-clause-value
returns-clause-value c = c.min.ensures ∙ ap (λ n. min n max_items) c.number_after-count.ensures ∙ sym (count_in first_item item_size max_items c.args.items.now)
