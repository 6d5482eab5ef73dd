-- How a house is after a step of a day that went as it says, or otherwise. Assumes nothing: these are definitions.
use Rattle.std.specs.Prelude.{◌≡◌, ◌≢◌, ℕ, List, true, vec_items}
use Rattle.store.specs.Rows.{count_of}
use Rattle.house.specs.Deeds.{Deed, build}
use Rattle.house.specs.New.{NewHouse}
use Rattle.house.specs.Performed.{PerformedSo}
use Rattle.house.specs.declared.owned.House.{House}
use Rattle.house.specs.declared.perform.Told.{Told}
use Rattle.house.specs.declared.size.HouseSize.{HouseSize}
use Rattle.test_rows.specs.Laid.{Lists}
use Rattle.test_rows.specs.Spent.{Spent, StopsAt}
use Rattle.house_tests.specs.Drafted.{carries_lines, drafted}
use Rattle.house_tests.specs.declared.step.Step.{Step}
use Rattle.house_tests.specs.declared.step.Step.TheVariants.{Do, Build}

-- one command, of which this is told
abbrev pub Went : Deed → Told → House → House → Type 0
Went d t h h₁ =
    PerformedSo h.size d (vec_items h.desks) (vec_items h.rows) (vec_items h.ran) t (vec_items h₁.desks) (vec_items h₁.rows) (vec_items h₁.ran)

abbrev pub Stepped : Step → House → House → Type 0
Stepped (Do draft t) h h₁ = Went (drafted draft) t h h₁ × (h₁.size ≡ h.size)
Stepped (Build x k t list kept) h h₁ = Went (build x k) t h h₁ × (h₁.size ≡ h.size) × Lists (vec_items h₁.ran) list.now × (count_of (vec_items h₁.rows) ≡ kept)

-- something is told of the command, but not what the step says, or not with its list and its count
abbrev pub Otherwise : Step → House → House → Type 0
Otherwise (Do draft t) h h₁ = (told : Told) × Went (drafted draft) told h h₁ × (h₁.size ≡ h.size) × (told ≢ t)
Otherwise (Build x k t list kept) h h₁ =
    (told : Told) × Went (build x k) told h h₁ × (h₁.size ≡ h.size) × ¬ ((told ≡ t) × Lists (vec_items h₁.ran) list.now × (count_of (vec_items h₁.rows) ≡ kept))

-- there is no memory for the lines of the step's command, and nothing has changed
abbrev pub Unmade : Step → House → House → Type 0
Unmade (Do draft t) h h₁ = (h₁ ≡ h) × (carries_lines draft ≡ true)
Unmade (Build x k t list kept) h h₁ = ⊥

-- step by step, from a new house of this size on
pub record SpentAnew (z : HouseSize) (ss : List Step) : Type 0 where
  pub first : House
  pub last : House
  pub begins : NewHouse z first
  pub spent : Spent Stepped ss first last

-- the steps before i so, and step i otherwise
pub record StoppedAnew (z : HouseSize) (ss : List Step) (i : ℕ) : Type 0 where
  pub first : House
  pub last : House
  pub begins : NewHouse z first
  pub stops : StopsAt Stepped Otherwise ss i first last
