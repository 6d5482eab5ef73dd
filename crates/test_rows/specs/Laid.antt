-- How tests lay out scripts, desks and lists in rows of numbers. Assumes nothing: these are definitions.
use Rattle.std.specs.Prelude.{◌≡◌, ℕ, List, ◌∷◌, length, take, drop, slice_index}
use Rattle.std.specs.List.{flat_map}
use Rattle.script.specs.Layout.{max_lines}

-- pieces of numbers, one behind the other
abbrev pub joined : List (List ℕ) → List ℕ
joined pieces = flat_map (λ piece. piece) pieces

-- a count of lines as given, and of the lines as many as a script may have
abbrev pub script_numbers : List (List ℕ) → List ℕ
script_numbers lines = length lines ∷ joined (take max_lines lines)

-- the row begins with the length of the list and the list
abbrev pub Lists : List ℕ → List ℕ → Type 0
Lists row list = (slice_index row 0 ≡ length list) × (take (length list) (drop 1 row) ≡ list)
