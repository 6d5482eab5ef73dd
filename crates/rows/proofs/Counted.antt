-- Laws of counted lists: how one is written piece by piece, and that it is read back. Assumes nothing.
use Rattle.std.proofs.Common.{◌≡◌, ℕ, suc, ◌+◌, ◌-◌, ◌*◌, ◌<◌, ◌≤◌, min, List, [], ◌∷◌, ◌++◌, length, get_or, take, drop, replicate, sym, refl, ap, ◌∙◌, mul-le-mul_left, mul-zero, mul-suc, add-one, arith}
use Rattle.std.specs.List.{flat_map}
use Rattle.std.proofs.lemmas.List.{append_assoc, append-nil, drop_at, drop-drop, drop-take, get_or-take, flat_map_more, length-append, length-replicate, take_all, take_more}
use Rattle.rows.specs.Rows.{chunks, counted, counted_out, written_at}
use Rattle.rows.proofs.Chunks.{chunk_at, chunks_take, length_chunks}
use Rattle.rows.proofs.Written.{length_written, take_written}

module _ {X : Type 0} (out : X → List ℕ) (size : ℕ) (each : (y : X) → length (out y) ≡ size) where
  pub length_joined : (ys : List X) → length (flat_map out ys) ≡ size * length ys
  length_joined [] = sym (mul-zero size)
  length_joined (y ∷ ys) = length-append (out y) (flat_map out ys) ∙ omega (arith, each y, length_joined ys, mul-suc size (length ys))

  pub length_counted : (most : ℕ) (ys : List X) → length ys ≤ most → length (counted_out out size most ys) ≡ 1 + size * most
  length_counted most ys few =
      let inside : size * length ys ≤ size * most = mul-le-mul_left size few in
      simp (length-append, length-replicate) (omega (arith, length_joined ys))

  -- the first i pieces stand behind the first number of the row
  pub record Begun (row : List ℕ) (ys : List X) (i : ℕ) (row₁ : List ℕ) : Type 0 where
    pub long : length row₁ ≡ length row
    pub front : take (1 + size * i) row₁ ≡ take 1 row ++ flat_map out (take i ys)

  pub begun_none : (row : List ℕ) (ys : List X) → Begun row ys 0 row
  begun_none row ys = record { long = refl; front = rw mul-zero (sym (append-nil (take 1 row))) }

  pub begun_more : (row : List ℕ) (ys : List X) (i : ℕ) (y : X) {row₁ row₂ : List ℕ} → i < length ys → 1 + size * length ys ≤ length row → get_or ys i y ≡ y → row₂ ≡ written_at row₁ (1 + size * i) (out y) → Begun row ys i row₁ → Begun row ys (i + 1) row₂
  begun_more row ys i y {row₁} {row₂} h room here is so_far =
      let at = 1 + size * i in
      let more : size * (i + 1) ≡ size * i + size = rw add-one (mul-suc size i) in
      let inside : size * (i + 1) ≤ size * length ys = mul-le-mul_left size (omega arith) in
      let next : 1 + size * (i + 1) ≡ at + length (out y) = omega (arith, each y) in
      let fits : at + length (out y) ≤ length row₁ = omega (arith, each y, so_far.long) in
      let taken : take (i + 1) ys ≡ take i ys ++ y ∷ [] = take_more ys i y h ∙ ap (λ x. take i ys ++ x ∷ []) here in
      record {
        long = ap length is ∙ length_written row₁ at (out y) ∙ so_far.long;
        front =
            rw (next, is, taken) (take_written row₁ at (out y) fits ∙ ap (λ xs. xs ++ out y) so_far.front ∙ flat_map_more out (take 1 row) (take i ys) y);
      }

  -- all the pieces stand there
  pub begun_end : (row : List ℕ) (ys : List X) (i : ℕ) {row₁ : List ℕ} → i ≡ length ys → Begun row ys i row₁ → take (1 + size * length ys) row₁ ≡ take 1 row ++ flat_map out ys
  begun_end row ys i {row₁} all so_far =
      let whole : take i ys ≡ ys = take_all i ys (omega arith) in
      ap (λ n. take (1 + size * n) row₁) (sym all) ∙ so_far.front ∙ ap (λ zs. take 1 row ++ flat_map out zs) whole

  -- with the count in front and 0 behind the pieces the list is written down
  pub ended : (ys : List X) (most n : ℕ) (row row₁ row₂ : List ℕ) {row₃ : List ℕ} → n ≡ length ys → length ys ≤ most → length row ≡ 1 + size * most → row₁ ≡ written_at row 0 (n ∷ []) → length row₂ ≡ length row → take (1 + size * length ys) row₂ ≡ take 1 row₁ ++ flat_map out ys → row₃ ≡ take (1 + size * n) row₂ ++ replicate (length row₂ - (1 + size * n)) 0 → row₃ ≡ counted_out out size most ys
  ended ys most n row row₁ row₂ all few long counts kept front is =
      let count : take 1 row₁ ≡ length ys ∷ [] = ap (take 1) counts ∙ take_written row 0 (n ∷ []) (omega arith) ∙ ap (λ k. k ∷ []) all in
      let behind : length row₂ - (1 + size * length ys) ≡ 1 + size * most - suc (length (flat_map out ys)) = omega (arith, length_joined ys) in
      is ∙ rw (all, front, count, behind) refl

  module _ (read : List ℕ → X) (back : (y : X) (zs : List ℕ) → read (out y ++ zs) ≡ y) where
    chunks_back : (ys : List X) (zs : List ℕ) → chunks read size (length ys) (flat_map out ys ++ zs) ≡ ys
    unfolding chunks
    chunks_back [] zs = refl
    chunks_back (y ∷ ys) zs =
        let rest = flat_map out ys ++ zs in
        let behind : drop size (out y ++ rest) ≡ rest = drop_at (out y) rest size (each y) in
        rw (append_assoc, back, behind) (ap (λ xs. y ∷ xs) (chunks_back ys zs))

    -- what is written down is read back, whatever follows it
    pub counted_back : (most : ℕ) (ys : List X) (more : List ℕ) → length ys ≤ most → counted read size most (counted_out out size most ys ++ more) ≡ ys
    counted_back most ys more few =
        let count : min (length ys) most ≡ length ys = omega arith in
        rw (count, append_assoc) (chunks_back ys _)

-- reading a counted list: how many pieces it has, and each of them
module _ {X : Type 0} (read : List ℕ → X) (size most : ℕ) where
  pub count_in : (xs : List ℕ) → length (counted read size most xs) ≡ min (get_or xs 0 0) most
  count_in xs = length_chunks read size _ _

  pub counted_at : (xs : List ℕ) (i : ℕ) (d : X) → i < length (counted read size most xs) → get_or (counted read size most xs) i d ≡ read (drop (1 + size * i) xs)
  counted_at xs i d h = chunk_at read size _ (drop 1 xs) i d (rw count_in at h) ∙ ap read (drop-drop (size * i) 1 xs)

  -- a counted list is read from as many numbers as it has room for
  pub counted_take : ((xs : List ℕ) → read xs ≡ read (take size xs)) → (m : ℕ) (xs : List ℕ) → 1 + size * most ≤ m → counted read size most xs ≡ counted read size most (take m xs)
  counted_take local m xs h =
      let n = min (get_or xs 0 0) most in
      let inside : size * n ≤ size * most = mul-le-mul_left size (omega arith) in
      let back : 1 + (m - 1) ≡ m = omega arith in
      let first : get_or (take m xs) 0 0 ≡ get_or xs 0 0 = get_or-take m xs 0 0 (omega arith) in
      let behind : drop 1 (take m xs) ≡ take (m - 1) (drop 1 xs) = ap (λ k. drop 1 (take k xs)) (sym back) ∙ drop-take 1 (m - 1) xs in
      chunks_take read size local n (m - 1) (drop 1 xs) (omega arith) ∙ rw (first, behind) refl
