-- Laws of the front of a row. Assumes nothing.
use Rattle.std.proofs.Common.{◌≡◌, ℕ, ◌+◌, ◌<◌, ◌≤◌, min, List, [], ◌∷◌, ◌++◌, length, slice_index, slice_set, take, drop, refl, sym, ap, ◌∙◌, ⊎_elim, arith}
use Rattle.std.proofs.lemmas.List.{drop-take, get_or-set_other, length-take-le, take-take, take_all, take_at}
use Rattle.std.proofs.lemmas.Bool.{cases_lt}
use Rattle.rows.specs.Rows.{written_at}
use Rattle.rows.proofs.Written.{take_written}

-- a count that is held down to no less than the length takes the same
pub take_most : {X : Type 0} (n most : ℕ) (xs : List X) → length xs ≤ most → take (min n most) xs ≡ take n xs
take_most n most xs h =
    ⊎_elim
    (λ below. ap (λ k. take k xs) (omega arith))
    (λ above. take_all (min n most) xs (omega arith) ∙ sym (take_all n xs (omega arith)))
    (cases_lt n most)

-- what is written further back leaves the first number
pub first_kept : (row : List ℕ) (at : ℕ) (ns : List ℕ) → 0 < at → slice_index (written_at row at ns) 0 ≡ slice_index row 0
unfolding written_at
first_kept row at [] h = refl
first_kept row at (n ∷ ns) h = first_kept (slice_set row at n) (at + 1) ns (omega arith) ∙ get_or-set_other row at 0 n 0 (omega arith)

-- the first number that is written is read there, or none is
pub first_written : (row : List ℕ) (n most : ℕ) → n ≤ most → slice_index (written_at row 0 (n ∷ [])) 0 ≤ most
unfolding written_at
first_written [] n most h = omega arith
first_written (x ∷ row) n most h = h

-- what stands before the numbers that are written stays
pub take_less : (row : List ℕ) (at m : ℕ) (ns : List ℕ) → at + length ns ≤ length row → m ≤ at → take m (written_at row at ns) ≡ take m row
take_less row at m ns fits h =
    sym (take-take m (at + length ns) (written_at row at ns) (omega arith))
    ∙ ap (take m) (take_written row at ns fits)
    ∙ sym (take-take m at (take at row ++ ns) h)
    ∙ ap (take m) (take_at (take at row) ns at (length-take-le at row (omega arith)))
    ∙ take-take m at row h

pub between_stays : (row : List ℕ) (m n : ℕ) (ns : List ℕ) → m + n + length ns ≤ length row → take n (drop m (written_at row (m + n) ns)) ≡ take n (drop m row)
between_stays row m n ns fits =
    sym (drop-take m n (written_at row (m + n) ns)) ∙ ap (drop m) (take_less row (m + n) (m + n) ns fits (omega arith)) ∙ drop-take m n row
