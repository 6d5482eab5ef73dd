-- A house that owns its rows, at a day's beginning. Assumes nothing: these are definitions.
use Rattle.std.specs.Prelude.{◌≡◌, ◌+◌, ◌*◌, ◌∷◌, replicate, vec_items}
use Rattle.entry.specs.Layout.{entry_size}
use Rattle.house.specs.Desks.{new_desks}
use Rattle.house.specs.declared.owned.House.{House}
use Rattle.house.specs.declared.size.HouseSize.{HouseSize}

-- every item is written with 0, the store is empty, and the list has room for every item of a desk
pub record NewHouse (z : HouseSize) (h : House) : Type 0 where
  pub size : h.size ≡ z
  pub at_desks : vec_items h.desks ≡ new_desks z
  pub at_store : vec_items h.rows ≡ 0 ∷ (z.room ∷ replicate (entry_size * z.room) 0)
  pub at_list : vec_items h.ran ≡ replicate (z.items + 1) 0
