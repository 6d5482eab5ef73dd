-- Laws of pieces of one length in a row. Assumes nothing.
use Rattle.std.proofs.Common.{◌≡◌, ℕ, zero, suc, ◌+◌, ◌-◌, ◌*◌, ◌<◌, ◌≤◌, min, List, [], ◌∷◌, ◌++◌, map, length, get_or, take, drop, sym, refl, ap, ◌∙◌, ⊎_elim, suc-add, mul-zero, zero-add, mul-suc, add-one, arith}
use Rattle.std.proofs.lemmas.List.{drop_all, drop_at, drop-drop, drop-take, take_all, take_at, take-take}
use Rattle.std.proofs.lemmas.Bool.{cases_lt}
use Rattle.rows.specs.Rows.{chunks}

-- a place that is held down to one past the end drops the same
pub drop_min : {X : Type 0} (n most : ℕ) (xs : List X) → length xs ≤ most → drop (min n most) xs ≡ drop n xs
drop_min n most xs h =
    ⊎_elim
    (λ below. ap (λ k. drop k xs) (omega arith))
    (λ above. drop_all (min n most) xs (omega arith) ∙ sym (drop_all n xs (omega arith)))
    (cases_lt n most)

-- and a count that is held down to the length takes the same
pub take_min : {X : Type 0} (n : ℕ) (xs : List X) → take (min n (length xs)) xs ≡ take n xs
take_min n xs =
    ⊎_elim
    (λ below. ap (λ k. take k xs) (omega arith))
    (λ above. take_all (min n (length xs)) xs (omega arith) ∙ sym (take_all n xs above))
    (cases_lt n (length xs))

module _ {A X : Type 0} (read : List A → X) (size : ℕ) where
  pub chunks_none : (xs : List A) → chunks read size 0 xs ≡ []
  unfolding chunks
  chunks_none xs = refl

  -- none is left
  pub chunks_over : (n : ℕ) (xs : List A) → n < 1 → chunks read size n xs ≡ []
  chunks_over n xs none = ap (λ m. chunks read size m xs) (omega arith) ∙ chunks_none xs

  -- the first piece, and what is left behind it
  pub chunks_next : (n k : ℕ) (xs : List A) → 1 ≤ n → k ≡ n - 1 → chunks read size n xs ≡ read xs ∷ chunks read size k (drop size xs)
  unfolding chunks
  chunks_next zero k xs some is = absurd (omega arith)
  chunks_next (suc n) k xs some is = ap (λ m. read xs ∷ chunks read size m (drop size xs)) (omega arith)

  pub length_chunks : (n : ℕ) (xs : List A) → length (chunks read size n xs) ≡ n
  unfolding chunks
  length_chunks zero xs = refl
  length_chunks (suc n) xs = ap suc (length_chunks n (drop size xs))

  -- what lies behind one more piece
  behind : (i : ℕ) (xs : List A) → drop (size * i) (drop size xs) ≡ drop (size * suc i) xs
  behind i xs = drop-drop (size * i) size xs ∙ ap (λ k. drop k xs) (omega (arith, mul-suc size i))

  front : (xs : List A) → drop (size * 0) xs ≡ xs
  front xs = ap (λ k. drop k xs) (mul-zero size)

  -- each part read is the piece
  pub map_chunks : (n : ℕ) (xs : List A) → map read (chunks (λ ys. ys) size n xs) ≡ chunks read size n xs
  unfolding chunks
  map_chunks zero xs = refl
  map_chunks (suc n) xs = ap (λ ys. read xs ∷ ys) (map_chunks n (drop size xs))

  pub chunk_at : (n : ℕ) (xs : List A) (i : ℕ) (d : X) → i < n → get_or (chunks read size n xs) i d ≡ read (drop (size * i) xs)
  unfolding chunks
  chunk_at zero xs i d h = absurd (omega arith)
  chunk_at (suc n) xs zero d h = ap read (sym (front xs))
  chunk_at (suc n) xs (suc i) d h = chunk_at n (drop size xs) i d (omega arith) ∙ ap read (behind i xs)

  one_more : (n : ℕ) (xs : List A) → chunks read size (suc n) xs ≡ chunks read size n xs ++ read (drop (size * n) xs) ∷ []
  unfolding chunks
  one_more zero xs = ap (λ x. read x ∷ []) (sym (front xs))
  one_more (suc n) xs =
      ap (λ ys. read xs ∷ ys) (one_more n (drop size xs) ∙ ap (λ x. chunks read size n (drop size xs) ++ read x ∷ []) (behind n xs))

  -- one piece more at the end
  pub chunks_more : (n : ℕ) (xs : List A) → chunks read size (n + 1) xs ≡ chunks read size n xs ++ read (drop (size * n) xs) ∷ []
  chunks_more n xs = rw add-one (one_more n xs)

  -- the same where the pieces so far and the new one are known by equations
  pub chunks_push : (n : ℕ) (xs : List A) {ys zs : List X} {x : X} → ys ≡ chunks read size n xs → x ≡ read (drop (size * n) xs) → zs ≡ ys ++ x ∷ [] → zs ≡ chunks read size (n + 1) xs
  chunks_push n xs so_far is pushed = rw (pushed, so_far, is, chunks_more)

  -- the pieces of two parts, one behind the other
  pub chunks_split : (n m : ℕ) (xs : List A) → chunks read size (n + m) xs ≡ chunks read size n xs ++ chunks read size m (drop (size * n) xs)
  unfolding chunks
  chunks_split zero m xs = rw (zero-add m, front xs) refl
  chunks_split (suc n) m xs =
      rw suc-add (ap (λ ys. read xs ∷ ys) (chunks_split n m (drop size xs) ∙ ap (λ ys. chunks read size n (drop size xs) ++ chunks read size m ys) (behind n xs)))

  pub take_chunks : (n m : ℕ) (xs : List A) → take n (chunks read size (n + m) xs) ≡ chunks read size n xs
  take_chunks n m xs = ap (take n) (chunks_split n m xs) ∙ take_at _ _ n (length_chunks n xs)

  pub drop_chunks : (n m : ℕ) (xs : List A) → drop n (chunks read size (n + m) xs) ≡ chunks read size m (drop (size * n) xs)
  drop_chunks n m xs = ap (drop n) (chunks_split n m xs) ∙ drop_at _ _ n (length_chunks n xs)

-- pieces that are read from their own numbers alone
module _ {A X : Type 0} (read : List A → X) (size : ℕ) (local : (xs : List A) → read xs ≡ read (take size xs)) where
  pub same_read : (xs ys : List A) → take size xs ≡ take size ys → read xs ≡ read ys
  same_read xs ys e = local xs ∙ ap read e ∙ sym (local ys)

  -- rows that begin alike have the same pieces there
  pub chunks_same : (n : ℕ) (xs ys : List A) → take (size * n) xs ≡ take (size * n) ys → chunks read size n xs ≡ chunks read size n ys
  unfolding chunks
  chunks_same zero xs ys e = refl
  chunks_same (suc n) xs ys e =
      let more : size * suc n ≡ size + size * n = omega (arith, mul-suc size n) in
      let first : take size xs ≡ take size ys = sym (take-take size (size * suc n) xs (omega arith)) ∙ ap (take size) e ∙ take-take size (size * suc n) ys (omega arith) in
      let later : take (size * n) (drop size xs) ≡ take (size * n) (drop size ys) =
      sym (drop-take size (size * n) xs) ∙ ap (λ k. drop size (take k xs)) (sym more) ∙ ap (drop size) e ∙ ap (λ k. drop size (take k ys)) more ∙ drop-take size (size * n) ys in
      (λ i. same_read xs ys first i ∷ chunks_same n (drop size xs) (drop size ys) later i)

  -- so the pieces are those of the row's beginning
  pub chunks_take : (n m : ℕ) (xs : List A) → size * n ≤ m → chunks read size n xs ≡ chunks read size n (take m xs)
  chunks_take n m xs h = chunks_same n xs (take m xs) (sym (take-take (size * n) m xs h))
