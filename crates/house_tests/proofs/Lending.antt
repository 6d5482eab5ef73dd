-- The rows of a house as they are lent. Assumes nothing.
use Rattle.std.proofs.Common.{◌≡◌, ℕ, ◌+◌, ◌*◌, ◌<◌, List, [], ◌∷◌, min, length, get_or, take, replicate, ap, ◌∙◌, arith, length-take, get_or-take, get_or-set_same}
use Rattle.std.proofs.lemmas.List.{length-replicate}
use Rattle.rows.specs.Rows.{written_at}
use Rattle.rows.proofs.Written.{length_written}
use Rattle.entry.specs.Layout.{entry_size}
use Rattle.store.specs.Rows.{entry_at}
use Rattle.house.specs.declared.size.HouseSize.{HouseSize}
use Rattle.house_tests.specs.Refused.{LentSo}
use Rattle.house_tests.specs.declared.lent.Lent.{Lent}

module _ (z : HouseSize) (lent : Lent) {rows₀ ran₀ put rows₁ ran₁ : List ℕ} (rows ran : List ℕ) where
  pub lent_so :
      rows₀ ≡ 0 ∷ (z.room ∷ replicate (entry_size * z.room) 0) → ran₀ ≡ replicate (z.items + 1) 0 → length rows ≡ length rows₀ → length ran ≡ length ran₀
      → put ≡ written_at rows 0 (lent.count ∷ []) → rows₁ ≡ take lent.store put → ran₁ ≡ take lent.list ran → LentSo z lent rows₁ ran₁
  unfolding written_at
  lent_so new_rows new_ran rows_long ran_long puts cut_rows cut_ran =
      let empty : length {A = ℕ} (replicate (entry_size * z.room) 0) ≡ entry_size * z.room = length-replicate (entry_size * z.room) 0 in
      let long : length rows ≡ entry_at z.room = rows_long ∙ ap length new_rows ∙ omega (arith, empty) in
      let short : length ran ≡ z.items + 1 = ran_long ∙ ap length new_ran ∙ length-replicate (z.items + 1) 0 in
      let filled : 0 < length rows = omega (arith, long) in
      record {
        store = ap length cut_rows ∙ length-take lent.store put ∙ ap (λ n. min lent.store n) (ap length puts ∙ length_written rows 0 (lent.count ∷ []) ∙ long);
        list = ap length cut_ran ∙ length-take lent.list ran ∙ ap (λ n. min lent.list n) short;
        count = λ some. ap (λ xs. get_or xs 0 0) (cut_rows ∙ ap (λ xs. take lent.store xs) puts) ∙ rw get_or-take (get_or-set_same rows 0 lent.count 0 filled);
      }
