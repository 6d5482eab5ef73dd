-- Laws of rows that are made so that they are refused. Assumes nothing.
use Rattle.std.proofs.Common.{◌≡◌, ℕ, ◌+◌, ◌*◌, ◌<◌, ◌≤◌, max, List, [], ◌∷◌, length, get_or, take, drop, set, Some, sym, refl, ap, ◌∙◌, arith}
use Rattle.std.proofs.lemmas.List.{get_or-set_same}
use Rattle.std.proofs.lemmas.Bool.Decides.{nat_tests}
use Rattle.rows.specs.Rows.{written_at}
use Rattle.rows.proofs.Written.{drop_written, getD_written, length_written}
use Rattle.script.proofs.Lines.{source_drop}
use Rattle.script.specs.Allowed.{first_source, line_fault, source_line}
use Rattle.script.specs.Layout.{line_size, max_askings, max_lines, script_size}
use Rattle.script.specs.declared.refusal.Refusal.{Refusal}
use Rattle.script.specs.declared.refusal.Refusal.TheVariants.{NoSuchRegister, SkipsTooMany, UnknownKind}
use Rattle.random_days.proofs.Fronts.{between_stays, first_kept}
use Rattle.random_days.specs.Spoiled.{FaultyLine, ManyAskings, ManyLines, asked_in, line_place, lines_then}

-- one number written is one set
pub written_one : (row : List ℕ) (at n : ℕ) → written_at row at (n ∷ []) ≡ set row at n
unfolding written_at
written_one row at n = refl

-- a source line that is written is read back
pub source_written : (row : List ℕ) (at kind r a b : ℕ) → at + 4 ≤ length row → first_source (drop at (written_at row at (kind ∷ r ∷ a ∷ b ∷ []))) ≡ source_line kind r a b
source_written row at kind r a b fits =
    let ns = kind ∷ r ∷ a ∷ b ∷ [] in
    let read : (j : ℕ) → j < 4 → get_or (written_at row at ns) (at + j) 0 ≡ get_or ns j 0 = λ j h. getD_written row at ns j fits h in
    source_drop _ at ∙ rw (read 0 (omega arith), read 1 (omega arith), read 2 (omega arith), read 3 (omega arith)) refl

pub many_lines : (old : List ℕ) (n : ℕ) {new : List ℕ} → new ≡ written_at old 0 (n ∷ []) → max_lines < n → 1 ≤ length old → ManyLines old new
many_lines old n {new} is many some =
    let set_one : new ≡ set old 0 n = is ∙ written_one old 0 n in
    let first : get_or new 0 0 ≡ n = ap (λ xs. get_or xs 0 0) set_one ∙ get_or-set_same old 0 n 0 (omega arith) in
    (omega arith, ap (drop 1) is ∙ drop_written old 0 (n ∷ []) 1 (omega arith))

pub many_askings : (old : List ℕ) (n : ℕ) {new : List ℕ} → new ≡ written_at old script_size (n ∷ []) → max_askings < n → script_size < length old → ManyAskings old new
many_askings old n {new} is many long =
    let set_one : new ≡ set old script_size n = is ∙ written_one old script_size n in
    let there : asked_in new ≡ n = ap asked_in set_one ∙ get_or-set_same old script_size n 0 long in
    (omega (arith, there), set_one ∙ ap (set old script_size) (sym there))

-- a count of lines, and one line that has a fault
pub faulty_line : (old : List ℕ) (count many line kind r a b at : ℕ) (made : List ℕ × Refusal) (refusal : Refusal) {row new : List ℕ} → made ≡ (kind ∷ r ∷ a ∷ b ∷ [], refusal) → line_fault line (source_line kind r a b) ≡ Some refusal → script_size ≤ length old → count ≡ get_or old 0 0 → count ≤ max_lines → (0 < count → line < count) → (count ≡ 0 → line ≡ 0) → at ≡ line_place line → many ≡ max count 1 → row ≡ written_at old 0 (many ∷ []) → new ≡ written_at row at made.0 → FaultyLine refusal line old new
faulty_line old count many line kind r a b at made refusal {row} {new} numbers fault long is few inside none place some_line counts written =
    let ns : List ℕ = kind ∷ r ∷ a ∷ b ∷ [] in
    let some = many ∷ [] in
    let behind = line_place line + line_size in
    let before = λ (xs : List ℕ). take (line_size * line) (drop 1 xs) in
    let size : length row ≡ length old = ap length counts ∙ length_written old 0 some in
    let below : line < max count 1 = grind arith in
    let fits : 1 + line_size * line + 4 ≤ length row = omega arith in
    let same : new ≡ written_at row (line_place line) ns = written ∙ (λ i. written_at row (place i) ((numbers i).0)) in
    let first : get_or row 0 0 ≡ max count 1 = ap (λ xs. get_or xs 0 0) (counts ∙ written_one old 0 many) ∙ get_or-set_same old 0 many 0 (omega arith) ∙ some_line in
    let then : max count 1 ≡ lines_then old = ap (λ n. max n 1) is in
    let kept : drop 1 row ≡ drop 1 old = ap (drop 1) counts ∙ drop_written old 0 some 1 (omega arith) in
    let later : drop behind row ≡ drop behind old = ap (drop behind) counts ∙ drop_written old 0 some behind (omega arith) in (
      ap (λ xs. get_or xs 0 0) same ∙ first_kept row (line_place line) ns (omega arith) ∙ first ∙ then,
      omega (arith, then),
      ap (λ xs. line_fault line (first_source (drop (line_place line) xs))) same ∙ ap (line_fault line) (source_written row (line_place line) kind r a b fits) ∙ fault,
      ap before same ∙ between_stays row 1 (line_size * line) ns fits ∙ ap (take (line_size * line)) kept,
      ap (drop behind) same ∙ drop_written row (line_place line) ns behind (omega arith) ∙ later,
    )

pub unknown_kind : (line kind r a b : ℕ) → 5 < kind → line_fault line (source_line kind r a b) ≡ Some (UnknownKind line)
unknown_kind line kind r a b h = grind (arith, nat_tests)

pub no_register : (line kind r a b : ℕ) → kind ≡ 4 → 7 < a → line_fault line (source_line kind r a b) ≡ Some (NoSuchRegister line)
no_register line kind r a b is h = rw is (grind (arith, nat_tests))

pub skips_many : (line kind r a b : ℕ) → kind ≡ 4 → r < 8 → a < 8 → 32 < b → line_fault line (source_line kind r a b) ≡ Some (SkipsTooMany line)
skips_many line kind r a b is first second h = rw is (grind (arith, nat_tests))
