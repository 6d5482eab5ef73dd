-- What is drawn of a command, and what is then expected of it. Assumes nothing: these are definitions.
use Rattle.std.specs.Prelude.{◌≡◌, ℕ, ◌+◌, ◌-◌, ◌*◌, ◌%◌, ◌^◌, ◌<◌, ◌≤◌, ◌⊎◌, min, List, Option, Some, None, length, take, drop, cond, nat_lt, slice_index}
use Rattle.script.specs.Allowed.{ScriptAllowed, sources_in}
use Rattle.script.specs.Layout.{max_askings, max_lines, script_size}
use Rattle.script.specs.declared.refusal.Refusal.{Refusal}
use Rattle.script.specs.declared.refusal.Refusal.TheVariants.{NoSuchDesk, NoSuchEntry, NoSuchItem, NoSuchRegister, NotHonest, SkipsTooMany, StoreFull, TooManyAskings, TooManyLines, UnknownKind}
use Rattle.entry.specs.Layout.{entry_size}
use Rattle.house.specs.Faults.{place_fault}
use Rattle.house.specs.declared.size.HouseSize.{HouseSize}
use Rattle.house.specs.declared.size.Place.{Place}
use Rattle.rows.specs.Rows.{written_at}
use Rattle.store.specs.Rows.{count_of, entry_at}
use Rattle.random_days.specs.Judged.{first_told}
use Rattle.random_days.specs.Pooled.{DrawnLines}
use Rattle.random_days.specs.Recorded.{Believed, RecordedEntry}
use Rattle.random_days.specs.Seeds.{Happens, chosen, number_at}
use Rattle.random_days.specs.Spoiled.{ChangedEntry, EntryTold, ScriptTold, SpoiledScript, asked_in}
use Rattle.random_days.specs.declared.drafts.Draft.{Draft}
use Rattle.random_days.specs.declared.drafts.Kind.{Kind}
use Rattle.random_days.specs.declared.drafts.Kind.TheVariants.{Write, Script, Build, Remove, Import}
use Rattle.random_days.specs.declared.expected.Expected.{Expected}
use Rattle.random_days.specs.declared.expected.Expected.TheVariants.{Open, Performed, Refused}

-- what a row says of the lines of its script
abbrev pub line_count : List ℕ → ℕ
line_count row = slice_index row 0

-- a number that may name an item, or the highest
abbrev pub DrawnValue : ℕ → ℕ → Type 0
DrawnValue items value = (value ≡ 2 ^ 64 - 1) ⊎ (value ≤ items)

-- at just this place, of which item 0 is always written; where a number is written the row stays
abbrev pub FirstKind : ℕ → Place → Kind → List ℕ → List ℕ → Type 0
FirstKind items place (Write at value) old new = (at ≡ place) × (DrawnValue items value × (new ≡ old))
FirstKind items place (Script at) old new = (at ≡ place) × ((0 < place.item) × (line_count new ≤ max_lines))
FirstKind items place (Build at) old new = ⊥
FirstKind items place (Remove entry) old new = ⊥
FirstKind items place Import old new = ⊥

-- of an item's first command nothing is refused
abbrev pub DrawnFirst : ℕ → Place → Draft → List ℕ → List ℕ → Type 0
DrawnFirst items place draft old new = (draft.expected ≡ Performed) × FirstKind items place draft.kind old new

-- by the rule for a command, which refuses or does not
abbrev pub expected_by : Option Refusal → Expected
expected_by None = Performed
expected_by (Some refusal) = Refused refusal

-- a store that is sound refuses to remove an entry only where it has none
abbrev pub removal_fault : ℕ → ℕ → Option Refusal
removal_fault count entry = cond (nat_lt entry count) None (Some (NoSuchEntry entry))

abbrev pub room_fault : ℕ → ℕ → Option Refusal
room_fault room count = cond (nat_lt count room) None (Some (StoreFull room))

-- in a house with a desk and an item, which of the two is missing is known
abbrev pub ExpectedAt : HouseSize → Place → Expected → Type 0
ExpectedAt z at expected = 0 < z.desks → 0 < z.items → expected ≡ expected_by (place_fault z at.desk at.item)

-- an entry of the store or the place behind its last, by the number of its seed
abbrev pub DrawnRemoval : ℕ → ℕ → Kind → Expected → Type 0
DrawnRemoval number count (Remove entry) expected = (entry ≤ count) × ((count + 1 < 2 ^ 64 → entry ≡ number % (count + 1)) × (expected ≡ expected_by (removal_fault count entry)))
DrawnRemoval number count (Write at value) expected = ⊥
DrawnRemoval number count (Script at) expected = ⊥
DrawnRemoval number count (Build at) expected = ⊥
DrawnRemoval number count Import expected = ⊥

-- a script that was spoiled is refused for its length or for a line
abbrev pub ScriptRefused : Expected → Type 0
ScriptRefused (Refused TooManyLines) = Unit {0}
ScriptRefused (Refused (UnknownKind line)) = Unit {0}
ScriptRefused (Refused (NoSuchRegister line)) = Unit {0}
ScriptRefused (Refused (SkipsTooMany line)) = Unit {0}
ScriptRefused expected = ⊥

-- an entry that was spoiled is refused for its script, its count of askings or its replay, or it is open
abbrev pub EntryRefusedOrOpen : Expected → Type 0
EntryRefusedOrOpen Open = Unit {0}
EntryRefusedOrOpen (Refused TooManyAskings) = Unit {0}
EntryRefusedOrOpen (Refused (NotHonest asking)) = Unit {0}
EntryRefusedOrOpen expected = ScriptRefused expected

-- the script of this seed, of which 15 in a hundred are spoiled
abbrev pub DrawnScript : ℕ → Expected → Type 0
DrawnScript number expected = ((¬ Happens (number_at number 1) 15) × (expected ≡ Performed)) ⊎ (Happens (number_at number 1) 15 × ScriptRefused expected)

-- a missing place is told before a script that was spoiled
abbrev pub ExpectedOfScript : ℕ → Option Refusal → Expected → Type 0
ExpectedOfScript number None expected = DrawnScript number expected
ExpectedOfScript number (Some refusal) expected = expected ≡ Refused refusal

-- half of the entries are spoiled, and for want of room only another is refused
abbrev pub ExpectedOfImport : ℕ → ℕ → ℕ → Expected → Type 0
ExpectedOfImport number room count expected = ((¬ Happens (number_at number 2) 50) × (expected ≡ expected_by (room_fault room count))) ⊎ (Happens (number_at number 2) 50 × EntryRefusedOrOpen expected)

-- by the rules of a house that is of this size and has this store; the number is that of the seed that the command is drawn by
abbrev pub ExpectedOf : HouseSize → List ℕ → ℕ → Kind → Expected → Type 0
ExpectedOf z store number (Write at value) expected = ExpectedAt z at expected × DrawnValue z.items value
ExpectedOf z store number (Script at) expected = 0 < z.desks → 0 < z.items → ExpectedOfScript number (place_fault z at.desk at.item) expected
ExpectedOf z store number (Build at) expected = ExpectedAt z at expected
ExpectedOf z store number (Remove entry) expected = DrawnRemoval number (count_of store) (Remove entry) expected
ExpectedOf z store number Import expected = ExpectedOfImport number z.room (count_of store) expected

-- what the row then holds: a script that is not spoiled has no more lines than it may have, and only a script and an import take the row
abbrev pub RowOf : ℕ → Kind → List ℕ → List ℕ → Type 0
RowOf number (Write at value) old new = new ≡ old
RowOf number (Script at) old new = (¬ Happens (number_at number 1) 15) → line_count new ≤ max_lines
RowOf number (Build at) old new = new ≡ old
RowOf number (Remove entry) old new = new ≡ old
RowOf number Import old new = Unit {0}

-- the kind comes by the number of its seed: half of the commands are builds
abbrev pub KindBy : ℕ → Kind → Type 0
KindBy number (Build at) = number % 100 < 50
KindBy number (Write at value) = (50 ≤ number % 100) × (number % 100 < 72)
KindBy number (Script at) = (72 ≤ number % 100) × (number % 100 < 86)
KindBy number (Remove entry) = (86 ≤ number % 100) × (number % 100 < 91)
KindBy number Import = 91 ≤ number % 100

-- one place in sixty has no such desk, and one no such item
abbrev pub FaultBy : ℕ → Expected → Type 0
FaultBy number Performed = 2 ≤ number % 60
FaultBy number Open = ⊥
FaultBy number (Refused (NoSuchDesk desk)) = number % 60 ≡ 0
FaultBy number (Refused (NoSuchItem item)) = number % 60 ≡ 1
FaultBy number (Refused refusal) = ⊥

-- whether the place is there hangs on the number of its seed
abbrev pub PlaceBy : HouseSize → ℕ → Place → Type 0
PlaceBy z number at = 0 < z.desks → 0 < z.items → FaultBy number (expected_by (place_fault z at.desk at.item))

-- the same of a command at a place
abbrev pub PlacedBy : HouseSize → ℕ → Kind → Type 0
PlacedBy z number (Write at value) = PlaceBy z number at
PlacedBy z number (Script at) = PlaceBy z number at
PlacedBy z number (Build at) = PlaceBy z number at
PlacedBy z number (Remove entry) = Unit {0}
PlacedBy z number Import = Unit {0}

-- the plans of the desks stand behind the scripts among the seeds of the pool; every second desk is alike
abbrev pub plan_of : ℕ → ℕ
plan_of desk = min (desk * (desk % 2) + 1000) (2 ^ 64 - 1)

-- the number of the seed that the first command of an item is drawn by
abbrev pub first_seed : ℕ → Place → ℕ
first_seed number place = number_at (number_at number (plan_of place.desk)) place.item

-- item 0 and one in four are written; a script has the lines of the one that is chosen for the item
abbrev pub FirstBy : (scripts number : ℕ) → Place → Kind → List ℕ → List ℕ → Type 0
FirstBy scripts number place (Write at value) old new = (place.item ≡ 0) ⊎ Happens (number_at number 0) 25
FirstBy scripts number place (Script at) old new = (¬ Happens (number_at number 0) 25) × (script_size ≤ length old → DrawnLines (2 * chosen scripts (number_at number 1) place.item) new × ScriptAllowed (sources_in new))
FirstBy scripts number place (Build at) old new = ⊥
FirstBy scripts number place (Remove entry) old new = ⊥
FirstBy scripts number place Import old new = ⊥

-- a script that is not spoiled is let in, with the lines of the one that is chosen for the item; of one that is spoiled the rules tell what is expected
abbrev pub ScriptBy : (scripts number item : ℕ) → Expected → List ℕ → List ℕ → Type 0
ScriptBy scripts number item expected old new = script_size ≤ length old → ((¬ Happens (number_at number 1) 15) → DrawnLines (2 * chosen scripts (number_at number 0) item) new × ScriptAllowed (sources_in new)) × (Happens (number_at number 1) 15 → ScriptTold expected new)

-- half of the times an entry is read back, if the store has one, and else one is recorded from a run
abbrev pub ReadOrRecorded : ℕ → (store old row : List ℕ) → Type 0
ReadOrRecorded number store old row =
    ((0 < count_of store) × Happens (number_at number 0) 50 × (row ≡ written_at old 0 (take entry_size (drop (entry_at (number_at number 1 % count_of store)) store))))
    ⊎ ((0 < count_of store → ¬ Happens (number_at number 0) 50) × RecordedEntry old row)

-- an entry that is drawn so stays so, or half of the times it is spoiled, and then the rules tell of it what is expected
pub record ImportBy (number : ℕ) (store : List ℕ) (expected : Expected) (old new : List ℕ) : Type 0 where
  pub row : List ℕ
  pub size : length row ≡ length old
  pub drawn : ReadOrRecorded number store old row
  pub kept : (¬ Happens (number_at number 2) 50) → new ≡ row
  pub changed : Happens (number_at number 2) 50 → entry_size ≤ length row → line_count row ≤ max_lines → asked_in row ≤ max_askings → SpoiledScript expected row new ⊎ ChangedEntry expected row new
  pub told : Happens (number_at number 2) 50 → entry_size ≤ length row → Believed row → EntryTold expected new

-- the row of a script, of which what is expected comes behind what is expected of its place, and that of an import
abbrev pub RowBy : HouseSize → (store : List ℕ) → (scripts number : ℕ) → Kind → Expected → List ℕ → List ℕ → Type 0
RowBy z store scripts number (Script at) expected old new = (later : Expected) × (0 < z.desks → 0 < z.items → expected ≡ first_told (expected_by (place_fault z at.desk at.item)) later) × ScriptBy scripts number at.item later old new
RowBy z store scripts number (Write at value) expected old new = Unit {0}
RowBy z store scripts number (Build at) expected old new = Unit {0}
RowBy z store scripts number (Remove entry) expected old new = Unit {0}
RowBy z store scripts number Import expected old new = ImportBy number store expected old new
