-- What one entry more does to a store's row. Assumes nothing.
use Rattle.std.proofs.Common.{◌≡◌, ℕ, ◌+◌, ◌-◌, ◌*◌, ◌<◌, ◌≤◌, List, [], ◌∷◌, ◌++◌, length, take, drop, sym, ap, ◌∙◌, arith}
use Rattle.std.proofs.lemmas.List.{append_assoc, drop_at, drop-drop, drop-set-lt, drop-take, get_or_append_left, get_or-set_other, get_or-set_same, get_or-take, length-append, length-drop, length-set, length-take-le, take_at}
use Rattle.rows.specs.Rows.{chunks}
use Rattle.rows.proofs.Chunks.{chunks_more, chunks_same}
use Rattle.entry.specs.Entry.{Entry}
use Rattle.entry.specs.Layout.{entry_size}
use Rattle.entry.specs.Rows.{Fitting, entry_in, entry_out}
use Rattle.entry.proofs.Forms.{length_entry}
use Rattle.store.specs.Rows.{added, count_of, entries_in, entry_at, room_of}
use Rattle.build.specs.Build.{old_part}
use Rattle.build.proofs.Locals.{entry_front, entry_local}

module _ (rows : List ℕ) (e : Entry) (fits : Fitting e) (long : entry_at (count_of rows + 1) ≤ length rows) where
  front : List ℕ
  front = take (entry_at (count_of rows)) rows

  rest : List ℕ
  rest = drop (entry_at (count_of rows + 1)) rows

  -- the row before the new count is set
  whole : List ℕ
  whole = front ++ (entry_out e ++ rest)

  length_front : length front ≡ entry_at (count_of rows)
  unfolding front
  length_front = length-take-le (entry_at (count_of rows)) rows (omega arith)

  length_both : length (front ++ entry_out e) ≡ entry_at (count_of rows + 1)
  length_both = length-append front (entry_out e) ∙ omega (arith, length_front, length_entry e fits)

  length_whole : length whole ≡ length rows
  unfolding whole rest
  length_whole =
      ap length (sym (append_assoc front (entry_out e) rest)) ∙ length-append (front ++ entry_out e) rest ∙ omega (arith, length_both, length-drop (entry_at (count_of rows + 1)) rows)

  behind_first : (m : ℕ) → 0 < m → drop m (added rows e) ≡ drop m whole
  unfolding whole front rest
  behind_first m h = drop-set-lt m whole 0 (count_of rows + 1) h

  pub length_added : length (added rows e) ≡ length rows
  unfolding whole front rest
  length_added = length-set whole 0 (count_of rows + 1) ∙ length_whole

  pub count_added : count_of (added rows e) ≡ count_of rows + 1
  unfolding whole front rest
  count_added = get_or-set_same whole 0 (count_of rows + 1) 0 (omega (arith, length_whole))

  pub room_added : room_of (added rows e) ≡ room_of rows
  unfolding whole front rest
  room_added =
      get_or-set_other whole 0 1 (count_of rows + 1) 0 (λ e. omega arith)
      ∙ get_or_append_left front (entry_out e ++ rest) 0 1 (omega (arith, length_front))
      ∙ get_or-take (entry_at (count_of rows)) rows 1 0 (omega arith)

  take_whole : take (entry_at (count_of rows)) whole ≡ take (entry_at (count_of rows)) rows
  unfolding whole front
  take_whole = take_at front (entry_out e ++ rest) (entry_at (count_of rows)) length_front

  pub old_added : old_part (count_of rows) (added rows e) ≡ old_part (count_of rows) rows
  old_added =
      let m = 1 + entry_size * count_of rows in
      let one : entry_at (count_of rows) ≡ 1 + m = omega arith in
      ap (take m) (behind_first 1 (omega arith))
      ∙ sym (drop-take 1 m whole)
      ∙ ap (λ k. drop 1 (take k whole)) (sym one)
      ∙ ap (drop 1) take_whole
      ∙ ap (λ k. drop 1 (take k rows)) one
      ∙ drop-take 1 m rows

  past_all : drop (entry_at (count_of rows + 1)) whole ≡ drop (entry_at (count_of rows + 1)) rows
  unfolding whole rest
  past_all = ap (drop (entry_at (count_of rows + 1))) (sym (append_assoc front (entry_out e) rest)) ∙ drop_at (front ++ entry_out e) rest (entry_at (count_of rows + 1)) length_both

  pub past_added : (m : ℕ) → entry_at (count_of rows + 1) ≤ m → drop m (added rows e) ≡ drop m rows
  past_added m h =
      let at = entry_at (count_of rows + 1) in
      let more : m ≡ at + (m - at) = omega arith in
      behind_first m (omega arith)
      ∙ ap (λ k. drop k whole) more
      ∙ sym (drop-drop (m - at) at whole)
      ∙ ap (drop (m - at)) past_all
      ∙ drop-drop (m - at) at rows
      ∙ ap (λ k. drop k rows) (sym more)

  pub entries_added : entries_in (added rows e) ≡ entries_in rows ++ e ∷ []
  unfolding whole rest
  entries_added =
      let m = count_of rows in
      let two : drop 2 (added rows e) ≡ drop 2 whole = behind_first 2 (omega arith) in
      let alike : take (entry_size * m) (drop 2 whole) ≡ take (entry_size * m) (drop 2 rows)
      = sym (drop-take 2 (entry_size * m) whole) ∙ ap (drop 2) take_whole ∙ drop-take 2 (entry_size * m) rows in
      let last : entry_in (drop (entry_size * m) (drop 2 whole)) ≡ e
      = ap entry_in (drop-drop (entry_size * m) 2 whole ∙ drop_at front (entry_out e ++ rest) (entry_at m) length_front) ∙ entry_front e rest fits in
      (λ i. chunks entry_in entry_size (count_added i) (two i))
      ∙ chunks_more entry_in entry_size m (drop 2 whole)
      ∙ (λ i. chunks_same entry_in entry_size entry_local m (drop 2 whole) (drop 2 rows) alike i ++ last i ∷ [])
