-- Laws of the lines that stand in a row. Assumes nothing.
use Rattle.std.proofs.Common.{◌≡◌, ℕ, ◌+◌, ◌*◌, ◌<◌, ◌≤◌, min, List, ◌++◌, length, get_or, take, drop, refl, ap, ◌∙◌, arith}
use Rattle.std.proofs.lemmas.List.{get_or-drop, get_or-take}
use Rattle.script.specs.Allowed.{first_source, source_line}
use Rattle.script.specs.Layout.{line_size, max_lines, script_size}
use Rattle.script.specs.Rows.{first_line, line_at, line_out, script_in, script_out}
use Rattle.script.specs.declared.line.Line.{Line}
use Rattle.script.specs.declared.line.Line.TheVariants.{Ask, AskAt, Number, Sum, Unless, Give}
use Rattle.rows.proofs.Counted.{count_in, counted_at, counted_back, counted_take, length_counted}
use Rattle.rows.proofs.Written.{getD_written}
use Rattle.rows.specs.Rows.{written_at}

pub length_script : (xs : List ℕ) → length (script_in xs) ≡ min (get_or xs 0 0) max_lines
length_script xs = count_in first_line line_size max_lines xs

pub script_short : (xs : List ℕ) → length (script_in xs) ≤ max_lines
script_short xs = rw length_script (omega arith)

-- a line in what is left of a row is a line of the whole row
pub line_drop : (xs : List ℕ) (n at : ℕ) → line_at (drop n xs) at ≡ line_at xs (n + at)
line_drop xs n at =
    let same : (j : ℕ) → get_or (drop n xs) (at + j) 0 ≡ get_or xs (n + at + j) 0
    = λ j. get_or-drop n xs (at + j) 0 ∙ ap (λ i. get_or xs i 0) (omega arith) in
    rw (same 0, same 1, same 2, same 3) refl

-- and so is a line from outside
pub source_drop : (xs : List ℕ) (at : ℕ) → first_source (drop at xs) ≡ source_line (get_or xs (at + 0) 0) (get_or xs (at + 1) 0) (get_or xs (at + 2) 0) (get_or xs (at + 3) 0)
source_drop xs at = let there : (j : ℕ) → get_or (drop at xs) j 0 ≡ get_or xs (at + j) 0 = λ j. get_or-drop at xs j 0 in rw (there 0, there 1, there 2, there 3) refl

pub script_at : (xs : List ℕ) (i : ℕ) (d : Line) → i < length (script_in xs) → get_or (script_in xs) i d ≡ line_at xs (1 + line_size * i)
script_at xs i d h =
    counted_at first_line line_size max_lines xs i d h ∙ line_drop xs (1 + line_size * i) 0 ∙ ap (line_at xs) (omega arith)

-- what is written of a line stands for it
pub line_back : (l : Line) → line_at (line_out l) 0 ≡ l
line_back (Ask r k) = refl
line_back (AskAt r a) = refl
line_back (Number r n) = refl
line_back (Sum r a b) = refl
line_back (Unless a b n) = refl
line_back (Give r) = refl

pub length_line : (l : Line) → length (line_out l) ≡ line_size
length_line (Ask r k) = refl
length_line (AskAt r a) = refl
length_line (Number r n) = refl
length_line (Sum r a b) = refl
length_line (Unless a b n) = refl
length_line (Give r) = refl

-- a line that is written where there is room for it is read there again
pub line_written : (row : List ℕ) (at : ℕ) (l : Line) → at + line_size ≤ length row → line_at (written_at row at (line_out l)) at ≡ l
line_written row at l fits =
    let four = length_line l in
    let read : (j : ℕ) → j < line_size → get_or (written_at row at (line_out l)) (at + j) 0 ≡ get_or (line_out l) j 0
    = λ j h. getD_written row at (line_out l) j (omega arith) (omega arith) in
    rw (read 0 (omega arith), read 1 (omega arith), read 2 (omega arith), read 3 (omega arith)) (line_back l)

first_back : (l : Line) (zs : List ℕ) → first_line (line_out l ++ zs) ≡ l
first_back (Ask r k) zs = refl
first_back (AskAt r a) zs = refl
first_back (Number r n) zs = refl
first_back (Sum r a b) zs = refl
first_back (Unless a b n) zs = refl
first_back (Give r) zs = refl

-- a script that is written down is read back, whatever follows it
pub script_back : (s : List Line) (more : List ℕ) → length s ≤ max_lines → script_in (script_out s ++ more) ≡ s
script_back s more few = counted_back line_out line_size length_line first_line first_back max_lines s more few

pub length_script_out : (s : List Line) → length s ≤ max_lines → length (script_out s) ≡ script_size
length_script_out s few = length_counted line_out line_size length_line max_lines s few

-- a line is read from its own four numbers, and a script from as many as it has room for
first_local : (xs : List ℕ) → first_line xs ≡ first_line (take line_size xs)
first_local xs =
    let same : (j : ℕ) → j < line_size → get_or (take line_size xs) j 0 ≡ get_or xs j 0 = λ j h. get_or-take line_size xs j 0 h in
    rw (same 0 (omega arith), same 1 (omega arith), same 2 (omega arith), same 3 (omega arith)) refl

pub script_take : (m : ℕ) (xs : List ℕ) → script_size ≤ m → script_in xs ≡ script_in (take m xs)
script_take m xs h = counted_take first_line line_size max_lines first_local m xs h
