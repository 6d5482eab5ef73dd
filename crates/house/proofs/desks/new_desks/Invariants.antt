use Rattle.std.proofs.Common.{◌≡◌, replicate, vec_items}
use Rattle.std.specs.List.{flat_map}
use Rattle.house.specs.Desks.{new_desk}
use Rattle.house.proofs.desks.new_desks.Given as goal

abbrev pub invariant-loop-desk : goal.invariant-loop-desk
invariant-loop-desk l = vec_items l.row ≡ flat_map (λ items. new_desk items) (replicate l._desk l.size.items)
