use Rattle.std.proofs.Common.{◌≡◌, ℕ, ◌+◌, ◌-◌, ◌*◌, ◌<◌, ◌≤◌, List, ◌++◌, length, take, drop, set, replicate, refl, ap, ◌∙◌, arith}
use borrow.Rule.Slice.PartMut.{put_mid}
use lib.Seq.{paste}
use Rattle.std.proofs.lemmas.List.Edits.{drop-paste, take-paste}
use Rattle.std.proofs.lemmas.List.{append_assoc, drop-drop, length-drop, length-take}
use Rattle.entry.specs.Layout.{entry_size}
use Rattle.store.specs.Rows.{count_of, entry_at, removed}
use Rattle.store.proofs.removing.close_gap.Goals as goal

module _ (d : List ℕ) (i n : ℕ) (inside : i < n) (counts : n ≡ count_of d) (long : entry_at n ≤ length d) where
  -- so many numbers move up
  left : ℕ
  left = entry_at n - (entry_at i + entry_size)

  -- the later entries have moved up, zs is written over the place that is freed, and the count is one less
  closed : (row zs : List ℕ) (freed k : ℕ) → row ≡ paste d (entry_at i) (drop (entry_at i + entry_size) d) left → freed ≡ entry_at n - entry_size → k ≡ entry_size → zs ≡ replicate entry_size 0 → set (put_mid freed k row zs) 0 (n - 1) ≡ removed d i
  unfolding left
  closed row zs freed k is at size zero =
      let from = drop (entry_at i + entry_size) d in
      let some : left ≤ length from = rw length-drop (omega arith) in
      let here : freed ≡ entry_at i + left = omega arith in
      let front : take freed row ≡ take (entry_at i) d ++ take left from = rw (is, here) (take-paste d (entry_at i) from left (omega arith) some) in
      let later : drop freed row ≡ drop (entry_at i + left) d = rw (is, here) (drop-paste d (entry_at i) from left (omega arith) some) in
      let back : drop k (drop freed row) ≡ drop (entry_at n) d = ap (drop k) later ∙ drop-drop k _ d ∙ ap (λ m. drop m d) (omega arith) in
      let many : left ≡ entry_size * (n - 1 - i) = omega arith in
      let next : entry_at i + entry_size ≡ entry_at (i + 1) = omega arith in
      rw (front, back, zero, append_assoc, many, next, counts) refl

pub returns : goal.returns
unfolding left
returns c =
    let d = c.args.rows.now in
    let n = c.args.count in
    let freed = entry_at n - entry_size in
    let row = c.copy_within.new.self in
    let part : length (take (entry_at n - freed) (drop freed row)) ≡ entry_size = simp (length-take, length-drop) (omega (arith, c.requires.long, c.requires.inside, c.copy_within.ensures.len)) in
    closed d c.args.index n c.requires.inside c.requires.counts c.requires.long row c.fill.new.self freed (entry_at n - freed) c.copy_within.ensures.after refl (omega arith)
    (c.fill.ensures.after (λ y e. e) ∙ ap (λ m. replicate m 0) part)
