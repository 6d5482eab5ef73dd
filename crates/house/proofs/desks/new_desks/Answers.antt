use Rattle.std.proofs.Common.{[], ◌++◌, replicate, ap, ◌∙◌}
use Rattle.std.specs.List.{flat_map}
use Rattle.std.proofs.lemmas.List.{flat_map_more, replicate_more}
use Rattle.house.specs.Desks.{new_desk}
use Rattle.house.proofs.desks.new_desks.Goals as goal

pub loop-desk-preserved : goal.loop-desk-preserved
loop-desk-preserved c =
    let items = c.args.size.items in
    let desks = replicate c.loop-desk._desk items in
    c.in_ok-push_desk.ensures ∙ ap (λ xs. xs ++ new_desk items) c.loop-desk.invariant ∙ flat_map_more (λ n. new_desk n) [] desks items ∙ ap (flat_map (λ n. new_desk n)) (replicate_more c.loop-desk._desk items)
