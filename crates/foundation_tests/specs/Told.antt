-- What is told of a file of one command. Assumes nothing: these are definitions.
use Rattle.std.specs.Prelude.{◌≡◌, ℕ, List, [], ◌∷◌, length, Option, Some, None, Err}
use Rattle.script.specs.Refusals.{number_of, place_of}
use Rattle.script.specs.declared.refusal.Refusal.{Refusal}
use Rattle.house.specs.Deeds.{Deed}
use Rattle.house.specs.Faults.{early_fault}
use Rattle.house.specs.declared.size.HouseSize.{HouseSize}
use Rattle.dayfile.specs.Day.{DayRead, Reads}
use Rattle.dayfile.specs.Format.{head_bytes, head_in}
use Rattle.foundation_tests.specs.declared.files.Untold.{Untold}
use Rattle.foundation_tests.specs.declared.files.Untold.TheVariants.{Day, NotOneCommand}

-- a refusal's number and place
abbrev pub fault_numbers : Option Refusal → Option (ℕ × ℕ)
fault_numbers (Some f) = Some (number_of f, place_of f)
fault_numbers None = None

-- the file holds this house and one whole command, and the rules refuse it so before a store is looked at
pub record ToldOfOne (bs : List ℕ) (told : Option (ℕ × ℕ)) : Type 0 where
  pub size : HouseSize
  pub deed : Deed
  pub head : head_in bs ≡ Some size
  pub only : Reads bs head_bytes (deed ∷ []) None
  pub said : told ≡ fault_numbers (early_fault size deed)

-- nothing is told of it: the day cannot be read, or reads as other than one whole command
abbrev pub UntoldOf : List ℕ → Untold → Type 0
UntoldOf bs (Day error) = DayRead bs (Err error)
UntoldOf bs NotOneCommand = (deeds : List Deed) × (stopped : Option Refusal) × Reads bs head_bytes deeds stopped × ((stopped ≡ None) × (length deeds ≡ 1) → ⊥)
