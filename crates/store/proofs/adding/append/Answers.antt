use Rattle.std.proofs.Common.{◌≡◌, ℕ, ◌+◌, ◌-◌, List, length, take, drop, set, refl, ◌∙◌, arith}
use borrow.Rule.Slice.PartMut.{put_mid}
use Rattle.std.proofs.lemmas.List.{drop-drop, length-drop, length-take}
use Rattle.std.proofs.lemmas.Bool.{cond-true, eq-eqb}
use Rattle.entry.specs.Entry.{Entry}
use Rattle.entry.specs.Layout.{entry_size}
use Rattle.entry.specs.Rows.{entry_out}
use Rattle.store.specs.Rows.{added, count_of, entry_at}
use Rattle.store.proofs.adding.append.Goals as goal

-- ys is written over the place behind the entries that are kept, and the count is one more
behind : (rows ys : List ℕ) (n k : ℕ) (e : Entry) → n ≡ count_of rows → k ≡ entry_size → ys ≡ entry_out e → set (put_mid (entry_at n) k rows ys) 0 (n + 1) ≡ added rows e
behind rows ys n k e counts size is =
    let next : entry_at n + entry_size ≡ entry_at (n + 1) = omega arith in
    rw (← counts, size, drop-drop, next, is) refl

pub returns : goal.returns
returns c =
    let rows = c.args.rows.now in
    let n = c.entry_count-count.result in
    let k = entry_at n + entry_size - entry_at n in
    let part : length (take k (drop (entry_at n) rows)) ≡ entry_size = simp (length-take, length-drop) (omega (arith, c.requires.long, c.entry_count-count.ensures)) in
    behind rows c.write_entry.new.row n k _ c.entry_count-count.ensures (omega arith) (c.write_entry.ensures.after ∙ cond-true _ _ _ (eq-eqb _ _ part))
