-- Why a house refuses a command: the first number of the list that applies. Assumes nothing: these are definitions.
use Rattle.std.specs.Prelude.{ℕ, ◌+◌, cond, List, length, Some, None, Option, nat_lt}
use Rattle.std.specs.Option.{option_map}
use Rattle.script.specs.Allowed.{or_else, script_fault}
use Rattle.script.specs.Rule.{Value}
use Rattle.script.specs.declared.refusal.Refusal.{Refusal}
use Rattle.script.specs.declared.refusal.Refusal.TheVariants.{ListTooShort, NoSuchDesk, NoSuchEntry, NoSuchItem, NotHonest, StoreFull, StoreOverfull, StoreTooShort}
use Rattle.script.specs.declared.source.SourceLine.{SourceLine}
use Rattle.entry.specs.Replay.{difference}
use Rattle.entry.specs.Rows.{entry_of}
use Rattle.entry.specs.declared.asking.Asking.{Asking}
use Rattle.store.specs.Rows.{entry_at}
use Rattle.house.specs.Deeds.{Deed, bring, build, forget, give, write}
use Rattle.house.specs.Faults.{askings_fault}
use Rattle.days.specs.House.{House, desk}

-- the desk, and then the item at it
abbrev pub place_fault : House → ℕ → ℕ → Option Refusal
place_fault h x k = cond (nat_lt x (length h.desks)) (cond (nat_lt k (length (desk h x))) None (Some (NoSuchItem k))) (Some (NoSuchDesk x))

-- a row that is too short for its room, or more entries than room
abbrev pub store_fault : House → Option Refusal
store_fault h =
    cond (nat_lt h.store_row (entry_at h.room)) (Some (StoreTooShort h.store_row))
    (cond (nat_lt h.room (length h.store)) (Some (StoreOverfull (length h.store))) None)

-- a list of all items of the desk, with its length in front, has to find room
abbrev pub list_fault : House → ℕ → Option Refusal
list_fault h x = cond (nat_lt h.list_row (length (desk h x) + 1)) (Some (ListTooShort h.list_row)) None

abbrev pub full_fault : House → Option Refusal
full_fault h = cond (nat_lt (length h.store) h.room) None (Some (StoreFull h.room))

-- an entry from elsewhere: its script line by line, its count of askings, whether it replays, and then for want of room
abbrev pub bring_fault : House → List SourceLine → List Asking → Value → Option Refusal
bring_fault h ls qs v =
    or_else (script_fault ls) (or_else (askings_fault qs) (or_else (option_map NotHonest (difference (entry_of ls qs v))) (or_else (full_fault h) (store_fault h))))

abbrev pub deed_fault : House → Deed → Option Refusal
deed_fault h (write x k v) = place_fault h x k
deed_fault h (give x k ls) = or_else (place_fault h x k) (script_fault ls)
deed_fault h (build x k) = or_else (place_fault h x k) (or_else (store_fault h) (list_fault h x))
deed_fault h (forget i) = cond (nat_lt i (length h.store)) (store_fault h) (Some (NoSuchEntry i))
deed_fault h (bring ls qs v) = bring_fault h ls qs v
