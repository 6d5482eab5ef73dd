-- Why a command is refused, before the store is looked at and over it. Assumes nothing: these are definitions.
use Rattle.std.specs.Prelude.{ℕ, cond, List, length, Some, None, Option, nat_lt}
use Rattle.std.specs.Option.{option_map}
use Rattle.script.specs.Allowed.{or_else, script_fault}
use Rattle.script.specs.declared.refusal.Refusal.{Refusal}
use Rattle.script.specs.declared.refusal.Refusal.TheVariants.{NoSuchDesk, NoSuchItem, NotHonest}
use Rattle.script.specs.Rule.{Value}
use Rattle.script.specs.declared.source.SourceLine.{SourceLine}
use Rattle.entry.specs.Replay.{difference}
use Rattle.entry.specs.Rows.{entry_of}
use Rattle.store.specs.Faults.{add_fault, many_fault}
use Rattle.house.specs.Deeds.{Deed, write, give, build, forget, bring}
use Rattle.entry.specs.declared.asking.Asking.{Asking}
use Rattle.house.specs.declared.size.HouseSize.{HouseSize}

-- the desk, and then the item at it
abbrev pub place_fault : HouseSize → ℕ → ℕ → Option Refusal
place_fault z x k = cond (nat_lt x z.desks) (cond (nat_lt k z.items) None (Some (NoSuchItem k))) (Some (NoSuchDesk x))

abbrev pub askings_fault : List Asking → Option Refusal
askings_fault qs = many_fault (length qs)

-- the parts of an entry from elsewhere: its script line by line, and then its count of askings
abbrev pub parts_fault : List SourceLine → List Asking → Option Refusal
parts_fault ls qs = or_else (script_fault ls) (askings_fault qs)

abbrev pub early_fault : HouseSize → Deed → Option Refusal
early_fault z (write x k v) = place_fault z x k
early_fault z (give x k ls) = or_else (place_fault z x k) (script_fault ls)
early_fault z (build x k) = place_fault z x k
early_fault z (forget i) = None
early_fault z (bring ls qs v) = parts_fault ls qs

-- an entry from elsewhere: its script line by line, its count of askings, whether it replays, and then for want of room
abbrev pub bring_fault : List ℕ → List SourceLine → List Asking → Value → Option Refusal
bring_fault rows ls qs v =
    or_else (script_fault ls) (or_else (askings_fault qs) (or_else (option_map NotHonest (difference (entry_of ls qs v))) (add_fault rows)))
