-- A command that is refused in a house, or not. Assumes nothing: these are definitions.
use Rattle.std.specs.Prelude.{◌≡◌, ℕ, ◌+◌, ◌<◌, List, length, min}
use Rattle.script.specs.Refusals.{number_of, place_of}
use Rattle.script.specs.declared.refusal.Refusal.{Refusal}
use Rattle.store.specs.Rows.{count_of, entry_at}
use Rattle.house.specs.Deeds.{Deed}
use Rattle.house.specs.Performed.{PerformedSo}
use Rattle.house.specs.declared.perform.Told.{Told}
use Rattle.house.specs.declared.perform.Told.TheVariants.{Refused}
use Rattle.house.specs.declared.size.HouseSize.{HouseSize}
use Rattle.house_tests.specs.Told.{told_as_numbers}
use Rattle.house_tests.specs.declared.lent.Lent.{Lent}

-- the rows of the store and of the list are cut as they are lent, and the store says that it keeps so many entries
pub record LentSo (z : HouseSize) (lent : Lent) (rows ran : List ℕ) : Type 0 where
  pub store : length rows ≡ min lent.store (entry_at z.room)
  pub list : length ran ≡ min lent.list (z.items + 1)
  pub count : 0 < lent.store → count_of rows ≡ lent.count

-- performed over some desks of a house of this size and rows so lent, the command is refused with this number at this place, and the rows are as they were
pub record RefusedThere (z : HouseSize) (lent : Lent) (d : Deed) (numbers : ℕ × ℕ) : Type 0 where
  pub desks : List ℕ
  pub rows : List ℕ
  pub ran : List ℕ
  pub lent_so : LentSo z lent rows ran
  pub desks₁ : List ℕ
  pub rows₁ : List ℕ
  pub ran₁ : List ℕ
  pub f : Refusal
  pub performed : PerformedSo z d desks rows ran (Refused f) desks₁ rows₁ ran₁
  pub number : numbers.0 ≡ number_of f
  pub place : numbers.1 ≡ place_of f
  pub desks_stay : desks₁ ≡ desks
  pub rows_stay : rows₁ ≡ rows
  pub ran_stays : ran₁ ≡ ran

-- performed over such rows, the command is told otherwise, or the rows are not as they were
pub record NotRefusedThere (z : HouseSize) (lent : Lent) (d : Deed) (numbers : ℕ × ℕ) : Type 0 where
  pub desks : List ℕ
  pub rows : List ℕ
  pub ran : List ℕ
  pub lent_so : LentSo z lent rows ran
  pub desks₁ : List ℕ
  pub rows₁ : List ℕ
  pub ran₁ : List ℕ
  pub told : Told
  pub performed : PerformedSo z d desks rows ran told desks₁ rows₁ ran₁
  pub other : ¬ ((told_as_numbers told ≡ (3, numbers.0, numbers.1)) × (desks₁ ≡ desks) × (rows₁ ≡ rows) × (ran₁ ≡ ran))
