-- What was told under a test, and a row with its first number set. Assumes nothing.
use Rattle.std.proofs.Common.{◌≡◌, ℕ, ◌+◌, Bool, true, false, cond, List, [], ◌∷◌, length, take, drop, set, Some, None, refl, arith}
use borrow.Rule.Slice.PartMut.{put_mid}
use Rattle.std.proofs.lemmas.List.{append-nil, drop_all, length-drop, length-set, take_more_set}

-- what was told under a test is that, and the test held
pub told : {X : Type 0} (b : Bool) (s t : X) → Some s ≡ cond b (Some t) None → (b ≡ true) × (s ≡ t)
told true s t e = (refl, grind arith)
told false s t e = absurd (grind arith)

-- the first number is set, and the rest of the row is zs
pub headed : (row zs : List ℕ) (n m : ℕ) → length row ≡ m + 1 → put_mid 1 m (set row 0 n) zs ≡ n ∷ zs
headed row zs n m long =
    let first : take 1 (set row 0 n) ≡ n ∷ [] = take_more_set row 0 n (omega arith) in
    let none : drop m (drop 1 (set row 0 n)) ≡ [] = drop_all m (drop 1 (set row 0 n)) (rw (length-drop, length-set) (omega arith)) in
    rw (first, none, append-nil) refl
