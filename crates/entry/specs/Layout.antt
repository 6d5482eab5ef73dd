-- Where the parts of an entry stand in its row. Assumes nothing.
use Rattle.std.specs.Prelude.{ℕ, ◌+◌, ◌*◌}
use Rattle.script.specs.Layout.{max_askings, script_size}

-- the item and the answer
abbrev pub asking_size : ℕ
asking_size = 2

-- a count of askings, and room for the most that an entry names
abbrev pub askings_size : ℕ
askings_size = 1 + asking_size * max_askings

abbrev pub result_at : ℕ
result_at = script_size + askings_size

abbrev pub entry_size : ℕ
entry_size = result_at + 1
