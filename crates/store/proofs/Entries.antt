-- What a store holds after an entry is added or removed. Assumes nothing.
use Rattle.std.proofs.Common.{◌≡◌, ℕ, ◌+◌, ◌-◌, ◌*◌, ◌<◌, ◌≤◌, List, [], ◌∷◌, ◌++◌, length, take, drop, replicate, sym, ap, ◌∙◌, arith}
use Rattle.std.proofs.lemmas.List.{drop_at, drop-drop, drop-set-lt, drop-take, get_or-set_same, length-append, length-drop, length-replicate, length-set, length-take-le, take_at}
use Rattle.rows.specs.Rows.{chunks}
use Rattle.rows.proofs.Chunks.{chunks_more, chunks_same, chunks_split, drop_chunks, take_chunks}
use Rattle.entry.specs.Entry.{Entry}
use Rattle.entry.specs.Layout.{entry_size}
use Rattle.entry.specs.Rows.{Fitting, entry_in, entry_out}
use Rattle.entry.proofs.Forms.{entry_first, entry_local, length_entry}
use Rattle.store.specs.Rows.{added, count_of, entries_in, entry_at, removed, without}

-- rows that agree up to entry n have the same first n entries
first_same : (xs ys : List ℕ) (n : ℕ) → take (entry_at n) xs ≡ take (entry_at n) ys → chunks entry_in entry_size n (drop 2 xs) ≡ chunks entry_in entry_size n (drop 2 ys)
first_same xs ys n e =
    chunks_same entry_in entry_size entry_local n (drop 2 xs) (drop 2 ys)
    (sym (drop-take 2 (entry_size * n) xs) ∙ ap (drop 2) e ∙ drop-take 2 (entry_size * n) ys)

module _ (rows : List ℕ) (e : Entry) (fits : Fitting e) (long : entry_at (count_of rows + 1) ≤ length rows) where
  n : ℕ
  n = count_of rows

  -- the row before its count is set
  laid : List ℕ
  laid = take (entry_at n) rows ++ (entry_out e ++ drop (entry_at (n + 1)) rows)

  front : length (take (entry_at n) rows) ≡ entry_at n
  unfolding n
  front = length-take-le (entry_at n) rows (omega arith)

  pub count_added : count_of (added rows e) ≡ count_of rows + 1
  unfolding n
  count_added = get_or-set_same _ 0 (count_of rows + 1) 0 (rw length-append (omega (arith, front)))

  pub length_added : length (added rows e) ≡ length rows
  unfolding n laid
  length_added =
      length-set laid 0 (n + 1)
      ∙ length-append (take (entry_at n) rows) (entry_out e ++ drop (entry_at (n + 1)) rows)
      ∙ omega (arith, front, length-append (entry_out e) (drop (entry_at (n + 1)) rows), length_entry e fits, length-drop (entry_at (n + 1)) rows)

  pub entries_added : entries_in (added rows e) ≡ entries_in rows ++ e ∷ []
  unfolding n laid
  entries_added =
      let rest : drop 2 (added rows e) ≡ drop 2 laid = drop-set-lt 2 laid 0 (n + 1) (omega arith) in
      let same : take (entry_at n) laid ≡ take (entry_at n) rows = take_at (take (entry_at n) rows) _ (entry_at n) front in
      let behind : drop (entry_size * n) (drop 2 laid) ≡ entry_out e ++ drop (entry_at (n + 1)) rows = drop-drop (entry_size * n) 2 laid ∙ drop_at (take (entry_at n) rows) _ (entry_at n) front in
      (λ i. chunks entry_in entry_size (count_added i) (rest i))
      ∙ chunks_more entry_in entry_size n (drop 2 laid)
      ∙ (λ i. first_same laid rows n same i ++ (ap entry_in behind ∙ entry_first e fits _) i ∷ [])

module _ (rows : List ℕ) (i : ℕ) (inside : i < count_of rows) (long : entry_at (count_of rows) ≤ length rows) where
  -- how many entries move up
  later : ℕ
  later = count_of rows - 1 - i

  behind_it : List ℕ
  behind_it = drop (entry_at (i + 1)) rows

  -- the row before its count is set
  closed_up : List ℕ
  closed_up = take (entry_at i) rows ++ (take (entry_size * later) behind_it ++ (replicate entry_size 0 ++ drop (entry_at (count_of rows)) rows))

  before : length (take (entry_at i) rows) ≡ entry_at i
  before = length-take-le (entry_at i) rows (omega arith)

  moved_up : length (take (entry_size * later) behind_it) ≡ entry_size * later
  unfolding later behind_it
  moved_up = length-take-le (entry_size * later) behind_it (rw length-drop (omega arith))

  pub count_removed : count_of (removed rows i) ≡ count_of rows - 1
  count_removed = get_or-set_same _ 0 (count_of rows - 1) 0 (rw length-append (omega (arith, before)))

  pub length_removed : length (removed rows i) ≡ length rows
  unfolding later behind_it closed_up
  length_removed =
      let end = drop (entry_at (count_of rows)) rows in
      length-set closed_up 0 (count_of rows - 1)
      ∙ length-append (take (entry_at i) rows) (take (entry_size * later) behind_it ++ (replicate entry_size 0 ++ end))
      ∙ omega (arith, before, moved_up, length-append (take (entry_size * later) behind_it) (replicate entry_size 0 ++ end), length-append (replicate entry_size 0) end, length-replicate {A = ℕ} entry_size 0, length-drop (entry_at (count_of rows)) rows)

  pub entries_removed : entries_in (removed rows i) ≡ without (entries_in rows) i
  unfolding later behind_it closed_up
  entries_removed =
      let xs = drop 2 rows in
      let rest : drop 2 (removed rows i) ≡ drop 2 closed_up = drop-set-lt 2 closed_up 0 (count_of rows - 1) (omega arith) in
      let fewer : count_of (removed rows i) ≡ i + later = count_removed ∙ omega arith in
      let same : take (entry_at i) closed_up ≡ take (entry_at i) rows = take_at (take (entry_at i) rows) _ (entry_at i) before in
      let front : chunks entry_in entry_size i (drop 2 closed_up) ≡ take i (entries_in rows)
      = first_same closed_up rows i same ∙ sym (take_chunks entry_in entry_size i (later + 1) xs) ∙ ap (λ k. take i (chunks entry_in entry_size k xs)) (omega arith) in
      let shifted : drop (entry_size * i) (drop 2 closed_up) ≡ take (entry_size * later) behind_it ++ (replicate entry_size 0 ++ drop (entry_at (count_of rows)) rows)
      = drop-drop (entry_size * i) 2 closed_up ∙ drop_at (take (entry_at i) rows) _ (entry_at i) before in
      let begins : take (entry_size * later) (drop (entry_size * i) (drop 2 closed_up)) ≡ take (entry_size * later) behind_it
      = ap (take (entry_size * later)) shifted ∙ take_at (take (entry_size * later) behind_it) _ (entry_size * later) moved_up in
      let there : drop (entry_size * (i + 1)) xs ≡ behind_it = drop-drop (entry_size * (i + 1)) 2 rows in
      let back : chunks entry_in entry_size later (drop (entry_size * i) (drop 2 closed_up)) ≡ drop (i + 1) (entries_in rows)
      = chunks_same entry_in entry_size entry_local later _ behind_it begins ∙ ap (chunks entry_in entry_size later) (sym there)
      ∙ sym (drop_chunks entry_in entry_size (i + 1) later xs) ∙ ap (λ k. drop (i + 1) (chunks entry_in entry_size k xs)) (omega arith) in
      (λ j. chunks entry_in entry_size (fewer j) (rest j)) ∙ chunks_split entry_in entry_size i later (drop 2 closed_up) ∙ (λ j. front j ++ back j)
