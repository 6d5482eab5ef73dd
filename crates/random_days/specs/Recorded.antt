-- Entries that the rules believe, and those that are recorded from a run. Assumes nothing: these are definitions.
use Rattle.std.specs.Prelude.{◌≡◌, ◌≤◌, ℕ, List, length}
use Rattle.entry.specs.Entry.{Honest}
use Rattle.entry.specs.Layout.{entry_size}
use Rattle.entry.specs.Rows.{entry_in}
use Rattle.script.specs.Allowed.{ScriptAllowed, sources_in}
use Rattle.script.specs.Layout.{max_askings}
use Rattle.random_days.specs.Spoiled.{asked_in}

-- the script is let in, no more askings are named than may be, and the entry replays
abbrev pub Believed : List ℕ → Type 0
Believed row = ScriptAllowed (sources_in row) × (asked_in row ≤ max_askings) × Honest (entry_in row)

-- a row that names no asking yet holds such an entry then
abbrev pub RecordedEntry : List ℕ → List ℕ → Type 0
RecordedEntry old new = entry_size ≤ length old → asked_in old ≡ 0 → Believed new
