-- When the entries of a row replay. Assumes nothing: these are definitions.
use Rattle.std.specs.Prelude.{◌≡◌, ℕ, ◌+◌, ◌*◌, ◌≤◌, List, None, length, take, drop}
use Rattle.entry.specs.Layout.{entry_size}
use Rattle.store.specs.Faults.{entry_fault}

-- an entry has no fault
abbrev pub Faultless : List ℕ → Type 0
Faultless entry = entry_fault entry ≡ None

-- every whole entry that stands in the row is one
abbrev pub AllFaultless : List ℕ → Type 0
AllFaultless row = (k : ℕ) → entry_size * (k + 1) ≤ length row → Faultless (take entry_size (drop (entry_size * k) row))
