-- A counted row of askings with one more. Assumes nothing.
use Rattle.std.proofs.Common.{◌≡◌, ℕ, ◌+◌, ◌*◌, ◌<◌, ◌≤◌, min, List, [], ◌∷◌, ◌++◌, length, get_or, take, drop, sym, refl, ap, ◌∙◌, arith}
use Rattle.std.proofs.lemmas.List.{drop-drop, drop-take, get_or-drop, length-take-le, take_at, take-take}
use Rattle.rows.specs.Rows.{chunks, written_at}
use Rattle.rows.proofs.Chunks.{chunks_push, chunks_same}
use Rattle.rows.proofs.Counted.{count_in}
use Rattle.rows.proofs.Written.{drop_written, getD_written, length_written, take_written}
use Rattle.script.specs.Layout.{max_askings}
use Rattle.entry.specs.Layout.{asking_size, askings_size}
use Rattle.entry.specs.Rows.{asking_out, askings_in, first_asking}
use Rattle.entry.specs.declared.asking.Asking.{Asking}
use Rattle.build.proofs.Locals.{asking_local}

module _ (row : List ℕ) (n : ℕ) (q : Asking) (long : askings_size ≤ length row) (is : n ≡ length (askings_in row)) (few : n < max_askings) where
  at : ℕ
  at = 1 + asking_size * n

  with_q : List ℕ
  with_q = written_at row at (asking_out q)

  -- the numbers before it stay
  front : take at with_q ≡ take at row
  unfolding at with_q
  front =
      sym (take-take at (at + 2) with_q (omega arith))
      ∙ ap (take at) (take_written row at (asking_out q) (omega arith))
      ∙ take_at (take at row) (asking_out q) at (length-take-le at row (omega arith))

  before : chunks first_asking asking_size n (drop 1 row) ≡ chunks first_asking asking_size n (drop 1 with_q)
  unfolding at with_q
  before =
      chunks_same first_asking asking_size asking_local n (drop 1 row) (drop 1 with_q)
      (sym (drop-take 1 (asking_size * n) row) ∙ ap (drop 1) (sym front) ∙ drop-take 1 (asking_size * n) with_q)

  here : q ≡ first_asking (drop (asking_size * n) (drop 1 with_q))
  unfolding at with_q
  here =
      let read : (j : ℕ) → j < 2 → get_or (asking_out q) j 0 ≡ get_or (drop (asking_size * n) (drop 1 with_q)) j 0
      = λ j h.
      sym (getD_written row at (asking_out q) j (omega arith) h)
      ∙ sym (get_or-drop at with_q j 0)
      ∙ ap (λ xs. get_or xs j 0) (sym (drop-drop (asking_size * n) 1 with_q)) in
      (λ i. record { item = read 0 (omega arith) i; answer = read 1 (omega arith) i })

  so_far : askings_in row ≡ chunks first_asking asking_size n (drop 1 with_q)
  so_far =
      let count : min (get_or row 0 0) max_askings ≡ n = sym (count_in first_asking asking_size max_askings row) ∙ sym is in
      ap (λ m. chunks first_asking asking_size m (drop 1 row)) count ∙ before

  pub pushed : (row₁ row₂ : List ℕ) → row₁ ≡ written_at row (1 + 2 * n) (asking_out q) → row₂ ≡ written_at row₁ 0 ((n + 1) ∷ []) → askings_in row₂ ≡ askings_in row ++ q ∷ []
  unfolding at with_q
  pushed row₁ row₂ one two =
      let same : length with_q ≡ length row = length_written row at (asking_out q) in
      let whole : row₂ ≡ written_at with_q 0 ((n + 1) ∷ []) = two ∙ ap (λ xs. written_at xs 0 ((n + 1) ∷ [])) one in
      let count : get_or row₂ 0 0 ≡ n + 1 = ap (λ xs. get_or xs 0 0) whole ∙ getD_written with_q 0 ((n + 1) ∷ []) 0 (omega arith) (omega arith) in
      let least : min (get_or row₂ 0 0) max_askings ≡ n + 1 = omega arith in
      let behind : drop 1 row₂ ≡ drop 1 with_q = ap (drop 1) whole ∙ drop_written with_q 0 ((n + 1) ∷ []) 1 (omega arith) in
      (λ i. chunks first_asking asking_size (least i) (behind i))
      ∙ sym (chunks_push first_asking asking_size n (drop 1 with_q) so_far here refl)
