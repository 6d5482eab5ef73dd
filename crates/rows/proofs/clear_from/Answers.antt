use Rattle.std.proofs.Common.{◌≡◌, ℕ, ◌-◌, min, List, [], ◌++◌, length, take, drop, replicate, ap, ◌∙◌, arith}
use borrow.Rule.Slice.PartMut.{put_mid}
use Rattle.std.proofs.lemmas.List.{append-nil, drop_all, length-drop, length-take}
use Rattle.rows.proofs.Chunks.{take_min}
use Rattle.rows.proofs.clear_from.Goals as goal

-- zs stands from s on, which is the place held down to the end of xs
cleared : (xs : List ℕ) (at s : ℕ) (zs : List ℕ) → s ≡ min at (length xs) → zs ≡ replicate (length (take (length xs - s) (drop s xs))) 0 → put_mid s (length xs - s) xs zs ≡ take at xs ++ replicate (length xs - at) 0
cleared xs at s zs held is =
    let none : drop (length xs - s) (drop s xs) ≡ [] = drop_all (length xs - s) (drop s xs) (rw length-drop (omega arith)) in
    let front : take s xs ≡ take at xs = ap (λ n. take n xs) held ∙ take_min at xs in
    let long : length (take (length xs - s) (drop s xs)) ≡ length xs - at = simp (length-take, length-drop) (omega arith) in
    rw (none, append-nil, front, is, long)

pub returns : goal.returns
returns c = cleared c.args.row.now c.args.at c.min-start.result c.fill.new.self c.min-start.ensures (c.fill.ensures.after (λ y e. e))
