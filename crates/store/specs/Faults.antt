-- Why a store refuses. Assumes nothing: these are definitions.
use Rattle.std.specs.Prelude.{ℕ, cond, List, length, Some, None, Option, nat_lt, slice_index}
use Rattle.std.specs.Option.{option_map}
use Rattle.script.specs.Allowed.{or_else, script_fault, sources_in}
use Rattle.script.specs.Layout.{max_askings, script_size}
use Rattle.script.specs.declared.refusal.Refusal.{Refusal}
use Rattle.script.specs.declared.refusal.Refusal.TheVariants.{NoSuchEntry, NotHonest, StoreFull, StoreOverfull, StoreTooShort, TooManyAskings}
use Rattle.entry.specs.Replay.{difference}
use Rattle.entry.specs.Rows.{entry_in}
use Rattle.store.specs.Rows.{count_of, entry_at, room_of}

-- too short for its room, or more entries than room
abbrev pub store_fault : List ℕ → Option Refusal
store_fault rows =
    cond (nat_lt (length rows) (entry_at (room_of rows))) (Some (StoreTooShort (length rows)))
    (cond (nat_lt (room_of rows) (count_of rows)) (Some (StoreOverfull (count_of rows))) None)

abbrev pub full_fault : List ℕ → Option Refusal
full_fault rows = cond (nat_lt (count_of rows) (room_of rows)) None (Some (StoreFull (room_of rows)))

-- an entry with so many askings
abbrev pub many_fault : ℕ → Option Refusal
many_fault n = cond (nat_lt max_askings n) (Some TooManyAskings) None

abbrev pub askings_fault : List ℕ → Option Refusal
askings_fault xs = many_fault (slice_index xs script_size)

-- what stands in an entry from elsewhere before it is replayed: its script line by line, and then its count of askings
abbrev pub parts_fault : List ℕ → Option Refusal
parts_fault xs = or_else (script_fault (sources_in xs)) (askings_fault xs)

abbrev pub replay_fault : List ℕ → Option Refusal
replay_fault xs = option_map NotHonest (difference (entry_in xs))

-- what is told of an entry from elsewhere by itself: its script line by line, its count of askings, and whether it replays
abbrev pub entry_fault : List ℕ → Option Refusal
entry_fault xs = or_else (script_fault (sources_in xs)) (or_else (askings_fault xs) (replay_fault xs))

abbrev pub add_fault : List ℕ → Option Refusal
add_fault rows = or_else (full_fault rows) (store_fault rows)

-- an entry that is allowed is turned away if it does not replay, and then for want of room
abbrev pub admit_fault : List ℕ → List ℕ → Option Refusal
admit_fault rows xs = or_else (replay_fault xs) (add_fault rows)

abbrev pub import_fault : List ℕ → List ℕ → Option Refusal
import_fault rows xs = or_else (entry_fault xs) (add_fault rows)

abbrev pub remove_fault : List ℕ → ℕ → Option Refusal
remove_fault rows i = cond (nat_lt i (count_of rows)) (store_fault rows) (Some (NoSuchEntry i))
