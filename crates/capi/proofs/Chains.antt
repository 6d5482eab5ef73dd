-- What a chain reads from the whole pieces of a row, each by itself, are the pieces of the row.
use Rattle.std.proofs.Common.{◌≡◌, ℕ, ◌*◌, ◌/◌, ◌<◌, List, [], length, get_or, take, drop, Result, Ok, Err, sym, ap, ◌∙◌, mul_comm, arith}
use Rattle.std.proofs.lemmas.List.{ext_get_or}
use Rattle.std.specs.Result.{IfOk}
use Rattle.rows.proofs.Chunks.{chunk_at, length_chunks}
use Rattle.rows.specs.Rows.{chunks}

module _ {X : Type 0} (read : List ℕ → X) (size : ℕ) (local : (xs : List ℕ) → read xs ≡ read (take size xs)) where
  by_place : (xs : List ℕ) (ys : List X) → length ys ≡ length xs / size → ((k : ℕ) (d : X) → k < length ys → get_or ys k d ≡ read (take size (drop (k * size) xs))) → ys ≡ chunks read size (length xs / size) xs
  by_place xs ys long each =
      let n = length xs / size in
      let d = read [] in
      ext_get_or d ys (chunks read size n xs) (long ∙ sym (length_chunks read size n xs))
      (λ k h. each k d h ∙ sym (local (drop (k * size) xs)) ∙ ap (λ at. read (drop at xs)) (mul_comm k size) ∙ sym (chunk_at read size n xs k d (omega arith)))

  pub collected : {V E : Type 0} (items : V → List X) (r : Result V E) (xs : List ℕ) → IfOk r (λ v. length (items v) ≡ length xs / size) → IfOk r (λ v. (k : ℕ) (d : X) → k < length (items v) → get_or (items v) k d ≡ read (take size (drop (k * size) xs))) → IfOk r (λ v. items v ≡ chunks read size (length xs / size) xs)
  collected items (Ok v) xs long each = by_place xs (items v) long each
  collected items (Err e) xs long each = tt
