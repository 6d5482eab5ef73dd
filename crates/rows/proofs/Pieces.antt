-- Laws of a counted list that is written piece by piece. Assumes nothing.
use Rattle.std.proofs.Common.{◌≡◌, ℕ, ◌+◌, ◌-◌, ◌*◌, ◌<◌, ◌≤◌, List, [], ◌∷◌, ◌++◌, map, length, get_or, take, replicate, sym, refl, ap, ◌∙◌, subst, mul-le-mul_left, mul-zero, mul-suc, add-one, arith}
use Rattle.std.specs.List.{flat_map}
use Rattle.std.proofs.lemmas.List.{append-nil, flat_map_more, get_or-map, length-append, length-map, take_all, take_more}
use Rattle.std.proofs.lemmas.List.Folds.{flat_map-map}
use Rattle.rows.specs.Rows.{Gives, counted_out, padded, written_at}
use Rattle.rows.proofs.Written.{length_written, take_written}

module _ {P : Type 0} (out : P → List ℕ) (size : ℕ) where
  -- the first i pieces, all of one size, stand behind the first number of the row
  pub record Begun (row : List ℕ) (pieces : List P) (i : ℕ) (row₁ : List ℕ) : Type 0 where
    pub long : length row₁ ≡ length row
    pub whole : length (flat_map out (take i pieces)) ≡ size * i
    pub front : take (1 + size * i) row₁ ≡ take 1 row ++ flat_map out (take i pieces)

  pub begun_none : (row : List ℕ) (pieces : List P) → Begun row pieces 0 row
  begun_none row pieces = record { long = refl; whole = sym (mul-zero size); front = rw mul-zero (sym (append-nil (take 1 row))) }

  pub begun_more : (n : ℕ) (row : List ℕ) (pieces : List P) (i : ℕ) (piece : P) {row₁ row₂ : List ℕ} → i < n → length pieces ≡ n → 1 + size * n ≤ length row → (get_or pieces i piece ≡ piece) × (length (out piece) ≡ size) → row₂ ≡ written_at row₁ (1 + size * i) (out piece) → Begun row pieces i row₁ → Begun row pieces (i + 1) row₂
  begun_more n row pieces i piece {row₁} {row₂} h all room here is so_far =
      let at = 1 + size * i in
      let more : size * (i + 1) ≡ size * i + size = rw add-one (mul-suc size i) in
      let inside : size * (i + 1) ≤ size * n = mul-le-mul_left size (omega arith) in
      let next : 1 + size * (i + 1) ≡ at + length (out piece) = omega (arith, here.1) in
      let fits : at + length (out piece) ≤ length row₁ = omega (arith, so_far.long) in
      let taken : take (i + 1) pieces ≡ take i pieces ++ piece ∷ [] = take_more pieces i piece (omega arith) ∙ ap (λ x. take i pieces ++ x ∷ []) here.0 in
      let joins : flat_map out (take i pieces) ++ out piece ≡ flat_map out (take (i + 1) pieces) = flat_map_more out [] (take i pieces) piece ∙ ap (flat_map out) (sym taken) in
      record {
        long = ap length is ∙ length_written row₁ at (out piece) ∙ so_far.long;
        whole = sym (ap length joins) ∙ length-append (flat_map out (take i pieces)) (out piece) ∙ omega (arith, so_far.whole, here.1);
        front =
            rw (next, is, taken) (take_written row₁ at (out piece) fits ∙ ap (λ xs. xs ++ out piece) so_far.front ∙ flat_map_more out (take 1 row) (take i pieces) piece);
      }

  -- with the count in front and 0 behind all the pieces the list is written down
  pub begun_end : (n : ℕ) (row : List ℕ) (pieces : List P) {i : ℕ} {row₁ row₂ row₃ : List ℕ} → i ≡ n → length pieces ≡ n → 1 + size * n ≤ length row → row₁ ≡ written_at row 0 (n ∷ []) → Begun row₁ pieces i row₂ → row₃ ≡ take (1 + size * n) row₂ ++ replicate (length row₂ - (1 + size * n)) 0 → row₃ ≡ padded (length row) (n ∷ flat_map out pieces)
  begun_end n row pieces {i} {row₁} {row₂} done all room counts begun is =
      let so_far : Begun row₁ pieces n row₂ = subst (λ k. Begun row₁ pieces k row₂) done begun in
      let joined = flat_map out pieces in
      let long : length row₁ ≡ length row = ap length counts ∙ length_written row 0 (n ∷ []) in
      let first : take 1 row₁ ≡ n ∷ [] = ap (take 1) counts ∙ take_written row 0 (n ∷ []) (omega arith) in
      let taken : take n pieces ≡ pieces = take_all n pieces (omega arith) in
      let whole : length joined ≡ size * n = ap (λ zs. length (flat_map out zs)) (sym taken) ∙ so_far.whole in
      let behind : length row₂ - (1 + size * n) ≡ length row - length (n ∷ joined) = omega (arith, so_far.long, long, whole) in
      is ∙ ap (λ xs. xs ++ replicate (length row₂ - (1 + size * n)) 0) (so_far.front ∙ (λ i. first i ++ flat_map out (taken i))) ∙ ap (λ m. (n ∷ joined) ++ replicate m 0) behind

-- what `put_counted` has put, where each call gives what the thing of that number is written as
pub put_as : {X : Type 0} (out : X → List ℕ) (size most n : ℕ) (xs : List X) (row : List ℕ) {row₁ : List ℕ} {Call : ℕ → List ℕ → Type 0} → ((pieces : List (List ℕ)) → Gives (λ piece. piece) Call size n pieces → row₁ ≡ padded (length row) (n ∷ flat_map (λ piece. piece) pieces)) → length xs ≡ n → length row ≡ 1 + size * most → ((x : X) → length (out x) ≡ size) → ((i : ℕ) (piece : List ℕ) → i < n → Call i piece → (x : X) × (get_or xs i x ≡ x) × (piece ≡ out x)) → row₁ ≡ counted_out out size most xs
put_as {X} out size most n xs row {Call = Call} put all long each calls =
    let gives : (i : ℕ) (piece : List ℕ) → i < n → Call i piece → (get_or (map out xs) i piece ≡ piece) × (length piece ≡ size)
    = λ i piece h call.
    let here = calls i piece h call in
    (get_or-map out xs i here.0 piece (omega arith) ∙ ap out here.1 ∙ sym here.2, ap length here.2 ∙ each here.0) in
    put (map out xs) (length-map xs out ∙ all, gives)
    ∙ (λ i. padded (long i) (sym all i ∷ flat_map-map (λ z. z) out xs i))
