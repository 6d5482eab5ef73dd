-- How an entry stands in its row of numbers: its script, its askings, its result. Assumes nothing: these are definitions.
use Rattle.std.specs.Prelude.{◌≡◌, ℕ, ◌≤◌, List, [], ◌∷◌, ◌++◌, map, length, drop, slice_index}
use Rattle.rows.specs.Rows.{counted, counted_out}
use Rattle.script.specs.Allowed.{counted_as}
use Rattle.script.specs.Layout.{max_askings, max_lines, script_size}
use Rattle.script.specs.Rows.{script_in, script_out}
use Rattle.script.specs.Rule.{Value}
use Rattle.script.specs.declared.source.SourceLine.{SourceLine}
use Rattle.entry.specs.Entry.{Entry}
use Rattle.entry.specs.Layout.{asking_size, result_at}
use Rattle.entry.specs.declared.asking.Asking.{Asking}

abbrev pub first_asking : List ℕ → Asking
first_asking xs = record { item = slice_index xs 0; answer = slice_index xs 1 }

abbrev pub asking_out : Asking → List ℕ
asking_out q = q.item ∷ q.answer ∷ []

-- a count of askings, of which one above 32 is read as 32, and the askings
abbrev pub askings_in : List ℕ → List Asking
askings_in xs = counted first_asking asking_size max_askings xs

abbrev pub askings_out : List Asking → List ℕ
askings_out qs = counted_out asking_out asking_size max_askings qs

-- an entry from the rows of its script and its askings, and its result
abbrev pub entry_from : List ℕ → List ℕ → Value → Entry
entry_from script askings v = record { script = script_in script; asked = askings_in askings; result = v }

-- an entry from outside, by its parts
abbrev pub entry_of : List SourceLine → List Asking → Value → Entry
entry_of lines askings v = record { script = map counted_as lines; asked = askings; result = v }

abbrev pub entry_in : List ℕ → Entry
entry_in xs = entry_from xs (drop script_size xs) (slice_index xs result_at)

-- what an entry does not use of its row is 0
abbrev pub entry_out : Entry → List ℕ
entry_out e = script_out e.script ++ (askings_out e.asked ++ (e.result ∷ []))

-- the entry has no more lines and askings than its row has room for
abbrev pub Fitting : Entry → Type 0
Fitting e = (length e.script ≤ max_lines) × (length e.asked ≤ max_askings)

-- the row is as some entry is written down
abbrev pub InForm : List ℕ → Type 0
InForm xs = (e : Entry) × Fitting e × (xs ≡ entry_out e)
