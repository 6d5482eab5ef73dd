-- What is expected of a command that is drawn, case by case. Assumes nothing.
use Rattle.std.proofs.Common.{◌≡◌, ℕ, ◌%◌, ◌<◌, ◌≤◌, Bool, true, false, List, Option, Some, None, refl, subst, sym, arith}
use Rattle.std.specs.Prelude.{Decides}
use Rattle.script.specs.declared.refusal.Refusal.{Refusal}
use Rattle.script.specs.declared.refusal.Refusal.TheVariants.{Unreadable, NoSuchDesk, NoSuchItem, TooManyLines, UnknownKind, NoSuchRegister, SkipsTooMany, NoSuchEntry, TooManyAskings, NotHonest, StoreFull, StoreTooShort, StoreOverfull, ListTooShort}
use Rattle.house.specs.declared.size.HouseSize.{HouseSize}
use Rattle.house.specs.declared.size.Place.{Place}
use Rattle.store.specs.Rows.{count_of}
use Rattle.random_days.specs.Drawn.{DrawnRemoval, DrawnScript, ExpectedAt, ExpectedOf, ExpectedOfImport, ExpectedOfScript, FaultBy, ImportBy, KindBy, PlaceBy, PlacedBy, RowBy, RowOf, EntryRefusedOrOpen, ScriptRefused, expected_by}
use Rattle.random_days.specs.Judged.{first_told}
use Rattle.random_days.specs.Seeds.{Happens}
use Rattle.random_days.specs.declared.drafts.Kind.{Kind}
use Rattle.random_days.specs.declared.drafts.Kind.TheVariants.{Write, Script, Build, Remove, Import}
use Rattle.random_days.specs.declared.expected.Expected.{Expected}
use Rattle.random_days.specs.declared.expected.Expected.TheVariants.{Open, Performed, Refused}

-- an entry is spoiled by its script
pub script_spoils : (expected : Expected) → ScriptRefused expected → EntryRefusedOrOpen expected
script_spoils Open h = tt
script_spoils Performed h = absurd h
script_spoils (Refused (Unreadable at)) h = absurd h
script_spoils (Refused (NoSuchDesk desk)) h = absurd h
script_spoils (Refused (NoSuchItem item)) h = absurd h
script_spoils (Refused TooManyLines) h = tt
script_spoils (Refused (UnknownKind line)) h = tt
script_spoils (Refused (NoSuchRegister line)) h = tt
script_spoils (Refused (SkipsTooMany line)) h = tt
script_spoils (Refused (NoSuchEntry entry)) h = absurd h
script_spoils (Refused TooManyAskings) h = tt
script_spoils (Refused (NotHonest asking)) h = tt
script_spoils (Refused (StoreFull room)) h = absurd h
script_spoils (Refused (StoreTooShort n)) h = absurd h
script_spoils (Refused (StoreOverfull count)) h = absurd h
script_spoils (Refused (ListTooShort n)) h = absurd h

-- of an entry that was spoiled, that is told first
pub spoiled_first : (spoiled later : Expected) → EntryRefusedOrOpen spoiled → EntryRefusedOrOpen (first_told spoiled later)
spoiled_first Open later h = tt
spoiled_first Performed later h = absurd h
spoiled_first (Refused refusal) later h = h

-- of a script at a place, the place is told first
pub script_expected : (number : ℕ) (fault : Option Refusal) (at later : Expected) → at ≡ expected_by fault → DrawnScript number later → ExpectedOfScript number fault (first_told at later)
script_expected number None at later e h = rw e h
script_expected number (Some refusal) at later e h = rw e refl

-- what is expected of a removal is expected of the command that it is
pub removal_expected : (z : HouseSize) (store : List ℕ) (number : ℕ) (kind : Kind) (expected : Expected) → DrawnRemoval number (count_of store) kind expected → ExpectedOf z store number kind expected
removal_expected z store number (Write at value) expected h = absurd h
removal_expected z store number (Script at) expected h = absurd h
removal_expected z store number (Build at) expected h = absurd h
removal_expected z store number (Remove entry) expected h = h
removal_expected z store number Import expected h = absurd h

-- a removal keeps the row
pub removal_keeps : (count number seeded : ℕ) (kind : Kind) (expected : Expected) (row : List ℕ) → DrawnRemoval seeded count kind expected → RowOf number kind row row
removal_keeps count number seeded (Write at value) expected row h = absurd h
removal_keeps count number seeded (Script at) expected row h = absurd h
removal_keeps count number seeded (Build at) expected row h = absurd h
removal_keeps count number seeded (Remove entry) expected row h = refl
removal_keeps count number seeded Import expected row h = absurd h

-- what is expected of an import is expected of the command that it is
pub import_expected : (z : HouseSize) (store : List ℕ) (number : ℕ) (kind : Kind) (expected : Expected) → kind ≡ Import → ExpectedOfImport number z.room (count_of store) expected → ExpectedOf z store number kind expected
import_expected z store number kind expected e h = rw e h

-- an import may take the row
pub import_keeps : (number : ℕ) (kind : Kind) (old new : List ℕ) → kind ≡ Import → RowOf number kind old new
import_keeps number kind old new e = rw e tt

-- a removal is of the kind whose part is drawn
pub removal_by : (number count seeded : ℕ) (kind : Kind) (expected : Expected) → 86 ≤ number % 100 → number % 100 < 91 → DrawnRemoval seeded count kind expected → KindBy number kind
removal_by number count seeded (Write at value) expected low high h = absurd h
removal_by number count seeded (Script at) expected low high h = absurd h
removal_by number count seeded (Build at) expected low high h = absurd h
removal_by number count seeded (Remove entry) expected low high h = (low, high)
removal_by number count seeded Import expected low high h = absurd h

-- and so is an import
pub import_by : (number : ℕ) (kind : Kind) → 91 ≤ number % 100 → kind ≡ Import → KindBy number kind
import_by number kind low e = rw e low

-- what is expected at a place says whether it is there
pub place_by : (z : HouseSize) (number : ℕ) (at : Place) (expected : Expected) → ExpectedAt z at expected → FaultBy number expected → PlaceBy z number at
place_by z number at expected same by = λ desks items. subst (FaultBy number) (same desks items) by

-- a removal has no place
pub removal_placed : (z : HouseSize) (number count seeded : ℕ) (kind : Kind) (expected : Expected) → DrawnRemoval seeded count kind expected → PlacedBy z number kind
removal_placed z number count seeded (Write at value) expected h = absurd h
removal_placed z number count seeded (Script at) expected h = absurd h
removal_placed z number count seeded (Build at) expected h = absurd h
removal_placed z number count seeded (Remove entry) expected h = tt
removal_placed z number count seeded Import expected h = absurd h

-- and an import has none
pub import_placed : (z : HouseSize) (number : ℕ) (kind : Kind) → kind ≡ Import → PlacedBy z number kind
import_placed z number kind e = rw e tt

-- a removal takes no row
pub removal_row : (z : HouseSize) (store : List ℕ) (scripts number count seeded : ℕ) (kind : Kind) (expected : Expected) (old new : List ℕ) → DrawnRemoval seeded count kind expected → RowBy z store scripts number kind expected old new
removal_row z store scripts number count seeded (Write at value) expected old new h = absurd h
removal_row z store scripts number count seeded (Script at) expected old new h = absurd h
removal_row z store scripts number count seeded (Build at) expected old new h = absurd h
removal_row z store scripts number count seeded (Remove entry) expected old new h = tt
removal_row z store scripts number count seeded Import expected old new h = absurd h

-- an import has the row that is drawn for it
pub import_row : (z : HouseSize) (store : List ℕ) (scripts number : ℕ) (kind : Kind) (expected : Expected) (old new : List ℕ) → kind ≡ Import → ImportBy number store expected old new → RowBy z store scripts number kind expected old new
import_row z store scripts number kind expected old new e h = rw e h

-- what is expected of an entry that was spoiled stays, whatever is behind it
pub spoiled_stays : (spoiled later : Expected) → EntryRefusedOrOpen spoiled → first_told spoiled later ≡ spoiled
spoiled_stays Open later h = refl
spoiled_stays Performed later h = absurd h
spoiled_stays (Refused refusal) later h = refl

-- what is drawn by a seed happens by its number
pub does : (happens : Bool) (drawn number chance : ℕ) → Decides happens (Happens drawn chance) → drawn ≡ number → happens ≡ true → Happens number chance
does happens drawn number chance decides same so = subst (λ n. Happens n chance) same (decides.0 so)

pub does_not : (happens : Bool) (drawn number chance : ℕ) → Decides happens (Happens drawn chance) → drawn ≡ number → happens ≡ false → ¬ Happens number chance
does_not happens drawn number chance decides same fails =
    λ yes. let so : happens ≡ true = decides.1 (subst (λ n. Happens n chance) (sym same) yes) in grind (arith, so, fails)
