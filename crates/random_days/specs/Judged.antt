-- When two answers are the same, and when what was told is what the rules say. Assumes nothing: these are definitions.
use Rattle.std.specs.Prelude.{◌≡◌, true, Option, Some, None}
use Rattle.clean.specs.declared.answer.CleanAnswer.{CleanAnswer}
use Rattle.clean.specs.declared.answer.CleanAnswer.TheVariants.{Value as Valued, Ring as Ringing}
use Rattle.house.specs.declared.perform.Told.{Told}
use Rattle.house.specs.declared.perform.Told.TheVariants.{Done, Refused, Ring, Value}
use Rattle.random_days.specs.declared.beside.Beside.{Beside}
use Rattle.random_days.specs.declared.expected.Expected.{Expected}
use Rattle.random_days.specs.declared.expected.Expected.TheVariants.{Open, Performed, Refused as Foreseen}

-- both are answers of a build, and the same one
abbrev pub SameAnswer : Told → Told → Type 0
SameAnswer (Value v) (Value w) = v ≡ w
SameAnswer Ring Ring = Unit {0}
SameAnswer told other = ⊥

-- a refusal is foreseen with its place
abbrev pub Meets : Expected → Told → Type 0
Meets Open told = Unit {0}
Meets (Foreseen refusal) (Refused f) = f ≡ refusal
Meets (Foreseen refusal) told = ⊥
Meets Performed (Refused f) = ⊥
Meets Performed told = Unit {0}

-- of two that are checked one after the other
abbrev pub first_told : Expected → Expected → Expected
first_told Performed later = later
first_told Open later = Open
first_told (Foreseen refusal) later = Foreseen refusal

-- the answer of a clean build, as a command's
abbrev pub told_of : CleanAnswer → Told
told_of (Valued v) = Value v
told_of Ringing = Ring

-- what was told as an answer is that of a clean build beside it; where nothing was built there is nothing to agree on
abbrev pub AgreedBeside : Told → Option Beside → Type 0
AgreedBeside Done beside = Unit {0}
AgreedBeside (Refused f) beside = Unit {0}
AgreedBeside told None = ⊥
AgreedBeside told (Some beside) = beside.agrees ≡ true
