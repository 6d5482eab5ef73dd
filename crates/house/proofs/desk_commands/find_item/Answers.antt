use Rattle.std.proofs.Common.{sym, ap, ◌∙◌}
use Rattle.items.specs.Rows.{has_item}
use Rattle.house.proofs.Parts.{both_there, cut_out, no_item, spanned}
use Rattle.house.proofs.desk_commands.find_item.Goals as goal

pub returns-then-not-has_item : goal.returns-then-not-has_item
returns-then-not-has_item c =
    let z = c.args.size in
    let row = c.args.desks.now in
    let at = spanned z row c.args.place.desk c.in-Some.span c.in-Some.ensures in
    let missing = ap (λ xs. has_item xs c.args.place.item) (sym (cut_out z row c.args.place.desk _ _ at.1 at.2)) ∙ sym c.if-not-has_item.ensures in
    record { fault = no_item z row c.args.place.desk c.args.place.item at.0 missing; value = tt }

pub returns : goal.returns
returns c =
    let z = c.args.size in
    let row = c.args.desks.now in
    let at = spanned z row c.args.place.desk c.in-Some.span c.in-Some.ensures in
    let has = ap (λ xs. has_item xs c.args.place.item) (sym (cut_out z row c.args.place.desk _ _ at.1 at.2)) ∙ sym c.if-not-has_item.ensures in
    record {
      fault = both_there z row c.args.place.desk c.args.place.item at.0 has;
      value = record { start = at.1; end = at.2; inside = at.3; has = has };
    }
