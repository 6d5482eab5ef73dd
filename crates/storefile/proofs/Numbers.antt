-- The numbers of a store's file, each known by its place, are the numbers of the file. Assumes nothing.
use Rattle.std.proofs.Common.{◌≡◌, ℕ, ◌*◌, ◌/◌, ◌<◌, List, length, get_or, take, drop, Result, Ok, Err, sym, refl, ap, ◌∙◌, mul_comm, arith}
use Rattle.std.proofs.lemmas.List.{ext_get_or, get_or-take}
use Rattle.std.specs.Result.{IfOk}
use Rattle.rows.proofs.Chunks.{chunk_at, length_chunks}
use Rattle.storefile.specs.File.{first_number, number_bytes, numbers_in}

-- a number reads no byte behind its own
first_local : (bs : List ℕ) → first_number bs ≡ first_number (take number_bytes bs)
first_local bs =
    let same : (j : ℕ) → j < number_bytes → get_or (take number_bytes bs) j 0 ≡ get_or bs j 0 = λ j h. get_or-take number_bytes bs j 0 h in
    rw (same 0 (omega arith), same 1 (omega arith), same 2 (omega arith), same 3 (omega arith), same 4 (omega arith), same 5 (omega arith), same 6 (omega arith), same 7 (omega arith)) refl

by_place : (bs ys : List ℕ) → length ys ≡ length bs / number_bytes → ((k d : ℕ) → k < length ys → get_or ys k d ≡ first_number (take number_bytes (drop (k * number_bytes) bs))) → ys ≡ numbers_in bs
by_place bs ys long each =
    let n = length bs / number_bytes in
    ext_get_or 0 ys (numbers_in bs) (long ∙ sym (length_chunks first_number number_bytes n bs))
    (λ k h. each k 0 h ∙ sym (first_local (drop (k * number_bytes) bs)) ∙ ap (λ at. first_number (drop at bs)) (mul_comm k number_bytes) ∙ sym (chunk_at first_number number_bytes n bs k 0 (omega arith)))

pub collected : {V E : Type 0} (items : V → List ℕ) (r : Result V E) (bs : List ℕ) → IfOk r (λ v. length (items v) ≡ length bs / number_bytes) → IfOk r (λ v. (k d : ℕ) → k < length (items v) → get_or (items v) k d ≡ first_number (take number_bytes (drop (k * number_bytes) bs))) → IfOk r (λ v. items v ≡ numbers_in bs)
collected items (Ok v) bs long each = by_place bs (items v) long each
collected items (Err e) bs long each = tt
