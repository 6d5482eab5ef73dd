-- Laws of pieces that are written into a row one behind the other. Assumes nothing.
use Rattle.std.proofs.Common.{◌≡◌, ℕ, ◌+◌, ◌*◌, ◌<◌, ◌≤◌, min, List, [], ◌∷◌, ◌++◌, length, get_or, drop, set, sym, ap, ◌∙◌, add-zero, mul-zero, mul-suc, add-one, arith}
use Rattle.std.proofs.lemmas.List.{drop_all, drop_more}
use Rattle.rows.specs.Rows.{written_at}
use Rattle.rows.proofs.Written.{written_capped}
use Rattle.test_rows.specs.Laid.{joined}

-- two parts, one behind the other
written_append : (row : List ℕ) (at : ℕ) (xs ys : List ℕ) → written_at row at (xs ++ ys) ≡ written_at (written_at row at xs) (at + length xs) ys
unfolding written_at
written_append row at [] ys = ap (λ k. written_at row k ys) (sym (add-zero at))
written_append row at (x ∷ xs) ys = written_append (set row at x) (at + 1) xs ys ∙ ap (λ k. written_at (written_at (set row at x) (at + 1) xs) k ys) (omega arith)

pub pieces_none : (row : List ℕ) (at n : ℕ) (pieces : List (List ℕ)) → written_at row (at + n * 0) (joined pieces) ≡ written_at row at (joined pieces)
pieces_none row at n pieces = ap (λ k. written_at row (at + k) (joined pieces)) (mul-zero n) ∙ ap (λ k. written_at row k (joined pieces)) (add-zero at)

-- a place that is cut off at a number that no row reaches takes the piece as the place itself does
pub piece_capped : (row : List ℕ) (at far most : ℕ) (piece : List ℕ) {near place : ℕ} → length row ≤ most → near ≡ min far most → place ≡ min (at + near) most → written_at row place piece ≡ written_at row (at + far) piece
piece_capped row at far most piece {near} {place} short nears is =
    let same : place ≡ min (at + far) most = omega arith in
    ap (λ k. written_at row k piece) same ∙ written_capped row (at + far) most piece short

-- one piece further: what is left to be written gives the same
pub pieces_more : (row : List ℕ) (at n : ℕ) (pieces : List (List ℕ)) (i : ℕ) (piece : List ℕ) {row₁ whole : List ℕ} → i < length pieces → piece ≡ get_or pieces i piece → length piece ≡ n → row₁ ≡ written_at row (at + n * i) piece → written_at row (at + n * i) (joined (drop i pieces)) ≡ whole → written_at row₁ (at + n * (i + 1)) (joined (drop (i + 1) pieces)) ≡ whole
pieces_more row at n pieces i piece {row₁} {whole} h here long is so_far =
    let rest = joined (drop (i + 1) pieces) in
    let first : drop i pieces ≡ piece ∷ drop (i + 1) pieces = drop_more pieces i piece h ∙ ap (λ p. p ∷ drop (i + 1) pieces) (sym here) in
    let next : at + n * (i + 1) ≡ at + n * i + length piece = ap (λ k. at + k) (ap (λ k. n * k) (add-one i) ∙ mul-suc n i) ∙ omega (arith, long) in
    rw (is, next) (sym (written_append row (at + n * i) piece rest) ∙ sym (ap (λ ps. written_at row (at + n * i) (joined ps)) first) ∙ so_far)

-- all of them stand there
pub pieces_all : (row : List ℕ) (at : ℕ) (pieces : List (List ℕ)) (i : ℕ) → length pieces ≤ i → written_at row at (joined (drop i pieces)) ≡ row
unfolding written_at
pieces_all row at pieces i h = ap (λ ps. written_at row at (joined ps)) (drop_all i pieces h)
