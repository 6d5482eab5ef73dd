use Rattle.std.proofs.Common.{ap, ◌∙◌}
use Rattle.items.specs.Rows.{has_item}
use Rattle.theory.specs.Items.{written}
use Rattle.house.proofs.Parts.{cut_out, rewritten_in}
use Rattle.house.proofs.desk_commands.write_at.Goals as goal

pub returns : goal.returns
returns c =
    let z = c.args.size in
    let row = c.args.desks.now in
    let found = c.in_ok-span.ensures in
    let there = found.value in
    let has = ap (λ xs. has_item xs c.args.place.item) (cut_out z row c.args.place.desk _ _ there.start there.end) ∙ there.has in
    record { fault = found.fault; after = rewritten_in z row c.args.place.desk c.args.place.item c.in_ok-span.span there _ (written c.args.value) (has) c.write_value.ensures }
