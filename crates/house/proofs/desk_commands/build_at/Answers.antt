use Rattle.std.proofs.Common.{subst}
use Rattle.build.specs.Build.{BuiltSo}
use Rattle.house.proofs.Parts.{cut_out, spanned}
use Rattle.house.proofs.desk_commands.build_at.Goals as goal

pub returns : goal.returns
returns c =
    let z = c.args.size in
    let row = c.args.desks.now in
    let at = spanned z row c.args.place.desk c.in-Some.span c.in-Some.ensures in
    let part = cut_out z row c.args.place.desk _ _ at.1 at.2 in
    let built = subst (λ items. BuiltSo items c.args.rows.now c.args.ran.now c.args.place.item c.build_item.result c.build_item.new.rows c.build_item.new.ran) part c.build_item.ensures in
    rw at.0 built
