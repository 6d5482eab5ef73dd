use Rattle.std.proofs.Common.{map, refl, ap, ◌∙◌}
use Rattle.std.proofs.lemmas.Bool.{and_from, le-leb}
use Rattle.items.specs.Rows.{has_item}
use Rattle.script.specs.Allowed.{counted_as}
use Rattle.theory.specs.Items.{made}
use Rattle.house.proofs.Parts.{cut_out, rewritten_in}
use Rattle.house.proofs.desk_commands.script_at.Goals as goal

pub returns : goal.returns
returns c =
    let z = c.args.size in
    let row = c.args.desks.now in
    let found = c.in_ok-span.ensures in
    let there = found.value in
    let has = ap (λ xs. has_item xs c.args.place.item) (cut_out z row c.args.place.desk _ _ there.start there.end) ∙ there.has in
    let allowed = c.in_ok-check_script.ensures in
    let few = (allowed.exactly.0 refl).0 in
    record { fault = allowed.fault ∙ rw (← found.fault) refl; after = rewritten_in z row c.args.place.desk c.args.place.item c.in_ok-span.span there _ (made (map counted_as c.args.lines.now)) (and_from _ _ has (le-leb _ _ few)) c.write_made.ensures }
