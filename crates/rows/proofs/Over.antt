-- One piece of a row written over: the others stay. Assumes nothing.
use Rattle.std.proofs.Common.{◌≡◌, ℕ, suc, ◌+◌, ◌-◌, ◌*◌, ◌<◌, ◌≤◌, List, ◌∷◌, ◌++◌, length, take, drop, set, sym, ap, ◌∙◌, mul-suc, add-one, arith}
use Rattle.std.proofs.lemmas.List.{drop_at, drop-drop, length-take-le, set_at, take_all, take_at}
use Rattle.rows.specs.Rows.{chunks}
use Rattle.rows.proofs.Chunks.{chunks_same, chunks_split, length_chunks, same_read}

module _ {X : Type 0} (read : List ℕ → X) (size : ℕ) (local : (xs : List ℕ) → read xs ≡ read (take size xs)) where
  module _ (n k : ℕ) (xs ys : List ℕ) (inside : k < n) (fits : size * (k + 1) ≤ length xs) (whole : length ys ≡ size) where
    abbrev pub over : List ℕ
    over = take (size * k) xs ++ (ys ++ drop (size * (k + 1)) xs)

    next : size * (k + 1) ≡ size * k + size
    next = ap (λ m. size * m) (add-one k) ∙ mul-suc size k

    front : length (take (size * k) xs) ≡ size * k
    front = length-take-le (size * k) xs (omega (arith, next))

    before : chunks read size k over ≡ chunks read size k xs
    before = chunks_same read size local k over xs (take_at (take (size * k) xs) _ (size * k) front)

    there : read (drop (size * k) over) ≡ read ys
    there = same_read read size local _ ys (ap (take size) (drop_at (take (size * k) xs) _ (size * k) front) ∙ take_at ys _ size whole ∙ sym (take_all size ys (omega arith)))

    behind : drop size (drop (size * k) over) ≡ drop size (drop (size * k) xs)
    behind =
        ap (drop size) (drop_at (take (size * k) xs) _ (size * k) front) ∙ drop_at ys _ size whole
        ∙ ap (λ m. drop m xs) next ∙ sym (drop-drop size (size * k) xs)

    later : ℕ
    later = n - (k + 1)

    -- the pieces before, the piece, and the pieces behind
    three : (zs : List ℕ) → chunks read size n zs ≡ chunks read size k zs ++ (read (drop (size * k) zs) ∷ chunks read size later (drop size (drop (size * k) zs)))
    unfolding chunks later
    three zs = let all : n ≡ k + suc later = omega arith in ap (λ m. chunks read size m zs) all ∙ chunks_split read size k (suc later) zs

    pub chunks_over : chunks read size n over ≡ set (chunks read size n xs) k (read ys)
    chunks_over =
        three over
        ∙ (λ i. before i ++ (there i ∷ chunks read size later (behind i)))
        ∙ sym (ap (λ zs. set zs k (read ys)) (three xs) ∙ set_at (chunks read size k xs) _ _ (read ys) k (length_chunks read size k xs))
