use Rattle.std.proofs.Common.{◌<◌, length, sym, ap, ◌∙◌, subst, arith}
use Rattle.rows.proofs.Counted.{counted_at}
use Rattle.theory.specs.Items.{written}
use Rattle.items.specs.Rows.{StandsFor, first_item, item_size, items_in, max_items}
use Rattle.items.proofs.item_of.Goals as goal

pub returns : goal.returns
returns c =
    let row = c.args.items.now in
    let k = c.args.item in
    let inside : k < length (items_in row) = omega (arith, c.item_count.ensures.value, c.if-item-item_count.false) in
    let here = counted_at first_item item_size max_items row k (written 0) inside ∙ ap first_item (sym c.tail.ensures) in
    subst (λ i. StandsFor i c.first_item.result) (sym here) c.first_item.ensures
