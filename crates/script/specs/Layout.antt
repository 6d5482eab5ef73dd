-- The sizes of a script and of its place in a row of numbers, each named once. Assumes nothing.
use Rattle.std.specs.Prelude.{ℕ, ◌+◌, ◌*◌}

abbrev pub line_size : ℕ
line_size = 4

abbrev pub max_lines : ℕ
max_lines = 32

abbrev pub max_skip : ℕ
max_skip = 32

abbrev pub max_askings : ℕ
max_askings = 32

abbrev pub register_count : ℕ
register_count = 8

-- a script in a row: a count of lines, and room for the most that it has
abbrev pub script_size : ℕ
script_size = 1 + line_size * max_lines
