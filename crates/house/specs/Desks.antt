-- How the desks of a house stand in a row: one behind the other, each its items. Assumes nothing: these are definitions.
use Rattle.std.specs.Prelude.{ℕ, ◌+◌, ◌*◌, Bool, ◌&&◌, List, ◌∷◌, ◌++◌, length, take, drop, replicate, nat_le, nat_lt}
use Rattle.std.specs.List.{flat_map}
use Rattle.items.specs.Rows.{item_size, items_in}
use Rattle.theory.specs.Items.{Item}
use Rattle.house.specs.declared.size.HouseSize.{HouseSize}

-- numbers that a desk with so many items takes: their count, and the items
abbrev pub desk_size : ℕ → ℕ
desk_size items = 1 + item_size * items

-- the row has all the numbers of desk x
abbrev pub has_desk : HouseSize → List ℕ → ℕ → Bool
has_desk z row x = nat_lt x z.desks && nat_le (desk_size z.items * (x + 1)) (length row)

-- the part of the row that is desk x
abbrev pub desk_part : HouseSize → List ℕ → ℕ → List ℕ
desk_part z row x = take (desk_size z.items) (drop (desk_size z.items * x) row)

abbrev pub desk_in : HouseSize → List ℕ → ℕ → List Item
desk_in z row x = items_in (desk_part z row x)

-- the row with another part for desk x; every other number stays
abbrev pub with_desk : HouseSize → List ℕ → ℕ → List ℕ → List ℕ
with_desk z row x part = take (desk_size z.items * x) row ++ (part ++ drop (desk_size z.items * (x + 1)) row)

-- a desk at the start: every item is written with 0
abbrev pub new_desk : ℕ → List ℕ
new_desk items = items ∷ replicate (item_size * items) 0

abbrev pub new_desks : HouseSize → List ℕ
new_desks z = flat_map (λ items. new_desk items) (replicate z.desks z.items)
