-- Laws of numbers that are written into a row one behind the other. Assumes nothing.
use Rattle.std.proofs.Common.{◌≡◌, ℕ, ◌+◌, ◌<◌, ◌≤◌, min, List, [], ◌∷◌, ◌++◌, length, get_or, take, drop, set, sym, refl, ap, ◌∙◌, ⊎_elim, add-zero, arith}
use Rattle.std.proofs.lemmas.Bool.{cases_lt}
use Rattle.std.proofs.lemmas.List.{append_assoc, append-nil, at_drop_all, at_drop_more, drop-set-lt, get_or-append-add, get_or-take, length-set, length-take-le, set_past, take_more_set}
use Rattle.rows.specs.Rows.{written_at}

pub length_written : (row : List ℕ) (at : ℕ) (ns : List ℕ) → length (written_at row at ns) ≡ length row
unfolding written_at
length_written row at [] = refl
length_written row at (n ∷ ns) = length_written (set row at n) (at + 1) ns ∙ length-set row at n

-- what lies before the numbers, and the numbers themselves
pub take_written : (row : List ℕ) (at : ℕ) (ns : List ℕ) → at + length ns ≤ length row → take (at + length ns) (written_at row at ns) ≡ take at row ++ ns
unfolding written_at
take_written row at [] h = ap (λ n. take n row) (add-zero at) ∙ sym (append-nil (take at row))
take_written row at (n ∷ ns) h =
    let fits : at + 1 + length ns ≤ length (set row at n) = rw length-set (omega arith) in
    ap (λ k. take k (written_at (set row at n) (at + 1) ns)) (omega arith)
    ∙ take_written (set row at n) (at + 1) ns fits
    ∙ ap (λ xs. xs ++ ns) (take_more_set row at n (omega arith))
    ∙ append_assoc (take at row) (n ∷ []) ns

-- what lies behind them stays
pub drop_written : (row : List ℕ) (at : ℕ) (ns : List ℕ) (k : ℕ) → at + length ns ≤ k → drop k (written_at row at ns) ≡ drop k row
unfolding written_at
drop_written row at [] k h = refl
drop_written row at (n ∷ ns) k h = drop_written (set row at n) (at + 1) ns k (omega arith) ∙ drop-set-lt k row at n (omega arith)

-- past the end of the row nothing is written
pub written_past : (row : List ℕ) (at : ℕ) (ns : List ℕ) → length row ≤ at → written_at row at ns ≡ row
unfolding written_at
written_past row at [] h = refl
written_past row at (n ∷ ns) h = ap (λ xs. written_at xs (at + 1) ns) (set_past row at n h) ∙ written_past row (at + 1) ns (omega arith)

-- so a place that no row reaches may stand for each place behind it
pub written_capped : (row : List ℕ) (at most : ℕ) (ns : List ℕ) → length row ≤ most → written_at row (min at most) ns ≡ written_at row at ns
written_capped row at most ns short =
    ⊎_elim
    (λ below. ap (λ k. written_at row k ns) (omega arith))
    (λ above. written_past row (min at most) ns (omega arith) ∙ sym (written_past row at ns (omega arith)))
    (cases_lt at most)

-- one number further: what is left to be written gives the same
pub written_none : (row : List ℕ) (at : ℕ) (ns : List ℕ) → written_at row (at + 0) ns ≡ written_at row at ns
written_none row at ns = ap (λ k. written_at row k ns) (add-zero at)

pub written_more : (row : List ℕ) (at : ℕ) (ns : List ℕ) (i : ℕ) {row₁ whole : List ℕ} → i < length ns → row₁ ≡ set row (at + i) (get_or ns i 0) → written_at row (at + i) (drop i ns) ≡ whole → written_at row₁ (at + (i + 1)) (drop (i + 1) ns) ≡ whole
unfolding written_at
written_more row at ns i h is so_far =
    let next : at + (i + 1) ≡ at + i + 1 = omega arith in
    rw (is, next) (sym (at_drop_more (written_at row (at + i)) ns i 0 h) ∙ so_far)

pub written_all : (row : List ℕ) (at : ℕ) (ns : List ℕ) (i : ℕ) → length ns ≤ i → written_at row at (drop i ns) ≡ row
unfolding written_at
written_all row at ns i h = at_drop_all (written_at row at) ns i h

-- each of the numbers is then read at its place
pub getD_written : (row : List ℕ) (at : ℕ) (ns : List ℕ) (j : ℕ) → at + length ns ≤ length row → j < length ns → get_or (written_at row at ns) (at + j) 0 ≡ get_or ns j 0
getD_written row at ns j h lt =
    sym (get_or-take (at + length ns) (written_at row at ns) (at + j) 0 (omega arith))
    ∙ ap (λ xs. get_or xs (at + j) 0) (take_written row at ns h)
    ∙ ap (λ k. get_or (take at row ++ ns) (k + j) 0) (sym (length-take-le at row (omega arith)))
    ∙ get_or-append-add (take at row) ns j 0
