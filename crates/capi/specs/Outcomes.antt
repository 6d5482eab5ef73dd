-- What is told of a command in three numbers, and what a command does whose answer is told so. Assumes nothing: these are definitions.
use Rattle.std.specs.Prelude.{◌≡◌, ℕ, cond, List, ◌==◌}
use Rattle.build.specs.Build.{BuiltSo}
use Rattle.build.specs.declared.building.Answer.{Answer}
use Rattle.house.specs.Deeds.{Deed}
use Rattle.house.specs.Performed.{PerformedSo, told_of}
use Rattle.house.specs.declared.perform.Told.{Told}
use Rattle.house.specs.declared.perform.Told.TheVariants.{Done, Refused, Ring, Value}
use Rattle.house.specs.declared.size.HouseSize.{HouseSize}
use Rattle.script.specs.Refusals.{number_of, place_of}
use Rattle.capi.specs.declared.at_desk.Size.{Size}
use Rattle.capi.specs.declared.outcome.Outcome.{Outcome}

abbrev pub outcome_of : Told → Outcome
outcome_of Done = record { told = 0; number = 0; place = 0 }
outcome_of (Value v) = record { told = 1; number = v; place = 0 }
outcome_of Ring = record { told = 2; number = 0; place = 0 }
outcome_of (Refused f) = record { told = 3; number = number_of f; place = place_of f }

abbrev pub outcome_by : Answer → Outcome
outcome_by answer = outcome_of (told_of answer)

abbrev pub no_memory : Outcome
no_memory = record { told = 4; number = 0; place = 0 }

abbrev pub size_of : Size → HouseSize
size_of z = record { desks = z.desks; items = z.items; room = z.room }

-- a build, with its answer in three numbers
pub record BuiltFor (items rows ran : List ℕ) (k : ℕ) (r : Outcome) (rows₁ ran₁ : List ℕ) : Type 0 where
  pub answer : Answer
  pub tells : r ≡ outcome_by answer
  pub built : BuiltSo items rows ran k answer rows₁ ran₁

-- a command, with what is told of it in three numbers
pub record PerformedFor (z : HouseSize) (d : Deed) (desks rows ran : List ℕ) (r : Outcome) (desks₁ rows₁ ran₁ : List ℕ) : Type 0 where
  pub told : Told
  pub tells : r ≡ outcome_of told
  pub performed : PerformedSo z d desks rows ran told desks₁ rows₁ ran₁

-- a command whose parts are copied first: without memory for them nothing is done, and just this is told
abbrev pub PerformedOrShort : HouseSize → Deed → (desks rows ran : List ℕ) → Outcome → (desks₁ rows₁ ran₁ : List ℕ) → Type 0
PerformedOrShort z d desks rows ran r desks₁ rows₁ ran₁ =
    cond (r.told == 4) ((r ≡ no_memory) × (desks₁ ≡ desks) × (rows₁ ≡ rows) × (ran₁ ≡ ran)) (PerformedFor z d desks rows ran r desks₁ rows₁ ran₁)
