-- What stands in a row that was made so that the rules refuse it. Assumes nothing: these are definitions.
use Rattle.std.specs.Prelude.{◌≡◌, ℕ, ◌+◌, ◌*◌, ◌%◌, ◌^◌, ◌<◌, ◌⊎◌, max, List, take, drop, Some, slice_index, slice_set}
use Rattle.script.specs.Allowed.{first_source, line_fault, script_fault, sources_in}
use Rattle.script.specs.Layout.{line_size, max_askings, max_lines, script_size}
use Rattle.script.specs.Refusals.{place_of}
use Rattle.script.specs.declared.refusal.Refusal.{Refusal}
use Rattle.script.specs.declared.refusal.Refusal.TheVariants.{NotHonest, TooManyAskings, TooManyLines}
use Rattle.entry.specs.Layout.{asking_size, result_at}
use Rattle.store.specs.Faults.{entry_fault}
use Rattle.random_days.specs.declared.expected.Expected.{Expected}
use Rattle.random_days.specs.declared.expected.Expected.TheVariants.{Open, Performed, Refused}
use Rattle.random_days.specs.declared.spoiling.Changed.{Changed}
use Rattle.random_days.specs.declared.spoiling.Changed.TheVariants.{Answer, Count, Item, Result, TooManyAskings as MoreAskings}

-- so many lines as no script has, and all behind their count stays
abbrev pub ManyLines : List ℕ → List ℕ → Type 0
ManyLines old new = (max_lines < slice_index new 0) × (drop 1 new ≡ drop 1 old)

-- a script with no line has one then
abbrev pub lines_then : List ℕ → ℕ
lines_then old = max (slice_index old 0) 1

-- where a line of a script begins
abbrev pub line_place : ℕ → ℕ
line_place line = 1 + line_size * line

-- the line is one of the script's and has this very fault; what stands before and behind it stays
abbrev pub FaultyLine : Refusal → ℕ → List ℕ → List ℕ → Type 0
FaultyLine refusal line old new =
    (slice_index new 0 ≡ lines_then old)
    × (line < lines_then old)
    × (line_fault line (first_source (drop (line_place line) new)) ≡ Some refusal)
    × (take (line_size * line) (drop 1 new) ≡ take (line_size * line) (drop 1 old))
    × (drop (line_place line + line_size) new ≡ drop (line_place line + line_size) old)

abbrev pub RefusedFor : Refusal → List ℕ → List ℕ → Type 0
RefusedFor TooManyLines old new = ManyLines old new
RefusedFor refusal old new = FaultyLine refusal (place_of refusal) old new

-- a refusal is expected, and the script is one that is refused so
abbrev pub SpoiledScript : Expected → List ℕ → List ℕ → Type 0
SpoiledScript (Refused refusal) old new = RefusedFor refusal old new
SpoiledScript Performed old new = ⊥
SpoiledScript Open old new = ⊥

-- the rules tell of the script just what was expected
abbrev pub ScriptTold : Expected → List ℕ → Type 0
ScriptTold (Refused refusal) new = script_fault (sources_in new) ≡ Some refusal
ScriptTold Performed new = ⊥
ScriptTold Open new = ⊥

-- the rules tell of the entry just what was expected; with another answer it may still replay
abbrev pub EntryTold : Expected → List ℕ → Type 0
EntryTold (Refused refusal) new = entry_fault new ≡ Some refusal
EntryTold Performed new = ⊥
EntryTold Open new = Unit {0}

-- the number at a place is one more, and all others stay; the highest becomes 0
abbrev pub raised : ℕ → List ℕ → List ℕ
raised at old = slice_set old at ((slice_index old at + 1) % 2 ^ 64)

-- where an asking of an entry begins
abbrev pub asking_place : ℕ → ℕ
asking_place asking = script_size + 1 + asking_size * asking

abbrev pub asked_in : List ℕ → ℕ
asked_in old = slice_index old script_size

-- more askings than an entry names, and all other numbers stay
abbrev pub ManyAskings : List ℕ → List ℕ → Type 0
ManyAskings old new = (max_askings < asked_in new) × (new ≡ slice_set old script_size (asked_in new))

-- the asking's item is another; or the number of askings is told, and there is one more or the result is another
abbrev pub OtherRun : ℕ → List ℕ → List ℕ → Type 0
OtherRun asking old new =
    ((asking < asked_in old) × (new ≡ raised (asking_place asking) old))
    ⊎ ((asking ≡ asked_in old) × ((new ≡ raised result_at old) ⊎ ((asked_in old < max_askings) × (new ≡ raised script_size old))))

-- one asking has another answer
abbrev pub OtherAnswer : List ℕ → List ℕ → Type 0
OtherAnswer old new = (asking : ℕ) × ((asking < asked_in old) × (new ≡ raised (asking_place asking + 1) old))

abbrev pub ChangedEntry : Expected → List ℕ → List ℕ → Type 0
ChangedEntry (Refused TooManyAskings) old new = ManyAskings old new
ChangedEntry (Refused (NotHonest asking)) old new = OtherRun asking old new
ChangedEntry (Refused refusal) old new = ⊥
ChangedEntry Performed old new = ⊥
ChangedEntry Open old new = OtherAnswer old new

-- what can be changed in an entry with so many askings
abbrev pub Changeable : Changed → ℕ → Type 0
Changeable MoreAskings count = Unit {0}
Changeable Count count = count < max_askings
Changeable Item count = 0 < count
Changeable Answer count = 0 < count
Changeable Result count = Unit {0}
