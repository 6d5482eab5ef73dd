-- The house that stands in the rows of desks, store and list, and a day as it goes in them. Assumes nothing: these are definitions.
use Rattle.std.specs.Prelude.{◌≡◌, ℕ, ◌*◌, Bool, true, false, List, [], ◌∷◌, length, take, drop, replicate, slice_index}
use Rattle.rows.specs.Rows.{chunks}
use Rattle.items.specs.Rows.{items_in}
use Rattle.store.specs.Rows.{entries_in, room_of}
use Rattle.theory.specs.Clean.{ring, value}
use Rattle.theory.specs.Items.{Item}
use Rattle.house.specs.Deeds.{Deed}
use Rattle.house.specs.Desks.{desk_size}
use Rattle.house.specs.Performed.{PerformedSo}
use Rattle.house.specs.declared.perform.Told as perform
use Rattle.house.specs.declared.perform.Told.TheVariants.{Done, Refused, Ring, Value}
use Rattle.house.specs.declared.size.HouseSize.{HouseSize}
use Rattle.days.specs.Goes.{Told, built, fine, refused}
use Rattle.days.specs.House.{House}

-- the items of a desk of the house in the row from its first number on
abbrev pub desk_at : HouseSize → List ℕ → List Item
desk_at z xs = items_in (take (desk_size z.items) xs)

abbrev pub desks_in : HouseSize → List ℕ → List (List Item)
desks_in z row = chunks (desk_at z) (desk_size z.items) z.desks row

abbrev pub count_at : List ℕ → ℕ
count_at xs = slice_index xs 0

-- a row of desks that is as long as the house asks for, each with the count of its items in front
pub record Shaped (z : HouseSize) (row : List ℕ) : Type 0 where
  pub long : length row ≡ desk_size z.items * z.desks
  pub counts : chunks count_at (desk_size z.items) z.desks row ≡ replicate z.desks z.items

abbrev pub house_of : HouseSize → (desks rows ran : List ℕ) → House
house_of z desks rows ran = record { desks = desks_in z desks; store = entries_in rows; room = room_of rows; store_row = length rows; list_row = length ran }

-- the list of what ran: its length stands in front of it
abbrev pub list_in : List ℕ → List ℕ
list_in ran = take (slice_index ran 0) (drop 1 ran)

-- what is told, with the list that a build left in its row
abbrev pub told_in : perform.Told → List ℕ → Told
told_in Done ran = fine
told_in (Refused f) ran = refused f
told_in (Value v) ran = built (value v) (list_in ran)
told_in Ring ran = built ring (list_in ran)

-- an answer comes with a list
abbrev pub comes_with_list : perform.Told → Bool
comes_with_list Done = false
comes_with_list (Refused f) = false
comes_with_list (Value v) = true
comes_with_list Ring = true

-- one command after the other over whatever rows are lent
pub data RowDay (z : HouseSize) : (desks rows ran : List ℕ) → List Deed → List Told → (desks₁ rows₁ ran₁ : List ℕ) → Type 0 where
  over : {desks rows ran : List ℕ} → RowDay z desks rows ran [] [] desks rows ran
  next : {desks rows ran desks₁ rows₁ ran₁ desks₂ rows₂ ran₂ : List ℕ} {d : Deed} {ds : List Deed} {ts : List Told} (r : perform.Told) →
      PerformedSo z d desks rows ran r desks₁ rows₁ ran₁ → RowDay z desks₁ rows₁ ran₁ ds ts desks₂ rows₂ ran₂ →
      RowDay z desks rows ran (d ∷ ds) (told_in r ran₁ ∷ ts) desks₂ rows₂ ran₂
