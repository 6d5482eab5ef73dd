-- How lines and scripts stand in a row of numbers. Assumes nothing: these are definitions.
use Rattle.std.specs.Prelude.{◌≡◌, ℕ, ◌+◌, ◌≤◌, cond, List, [], ◌∷◌, ◌==◌, nat_lt, slice_index}
use Rattle.rows.specs.Rows.{counted, counted_out}
use Rattle.script.specs.Layout.{line_size, max_lines}
use Rattle.script.specs.declared.line.Line.{Line}
use Rattle.script.specs.declared.line.Line.TheVariants.{Ask, AskAt, Number, Sum, Unless, Give}

-- a line is four numbers: its kind and three more; a kind above 5 counts as 5
abbrev pub line_in : ℕ → ℕ → ℕ → ℕ → Line
line_in kind r a b =
    cond (kind == 0) (Ask r a)
    (cond (kind == 1) (AskAt r a) (cond (kind == 2) (Number r a) (cond (kind == 3) (Sum r a b) (cond (kind == 4) (Unless r a b) (Give r)))))

-- how a line is written down; what it does not use is 0
abbrev pub line_out : Line → List ℕ
line_out (Ask r k) = 0 ∷ r ∷ k ∷ 0 ∷ []
line_out (AskAt r a) = 1 ∷ r ∷ a ∷ 0 ∷ []
line_out (Number r n) = 2 ∷ r ∷ n ∷ 0 ∷ []
line_out (Sum r a b) = 3 ∷ r ∷ a ∷ b ∷ []
line_out (Unless a b n) = 4 ∷ a ∷ b ∷ n ∷ []
line_out (Give r) = 5 ∷ r ∷ 0 ∷ 0 ∷ []

-- how many numbers a kind uses beside itself
abbrev pub used : ℕ → ℕ
used kind = cond (nat_lt kind 3) 2 (cond (nat_lt kind 5) 3 1)

-- numbers that stand for a line just as it is written down: a known kind, and 0 in what it does not use
abbrev pub InForm : ℕ → ℕ → ℕ → Type 0
InForm kind a b = (kind ≤ 5) × (used kind ≤ 1 → a ≡ 0) × (used kind ≤ 2 → b ≡ 0)

-- the four numbers from a place of the row on; one that is not there reads as 0
abbrev pub numbers_at : List ℕ → ℕ → List ℕ
numbers_at row at = slice_index row (at + 0) ∷ slice_index row (at + 1) ∷ slice_index row (at + 2) ∷ slice_index row (at + 3) ∷ []

-- the line that begins at a place of the row
abbrev pub line_at : List ℕ → ℕ → Line
line_at row at = line_in (slice_index row (at + 0)) (slice_index row (at + 1)) (slice_index row (at + 2)) (slice_index row (at + 3))

abbrev pub first_line : List ℕ → Line
first_line xs = line_at xs 0

-- a script in a row: a count of lines, and the lines
abbrev pub script_in : List ℕ → List Line
script_in xs = counted first_line line_size max_lines xs

abbrev pub script_out : List Line → List ℕ
script_out ls = counted_out line_out line_size max_lines ls
