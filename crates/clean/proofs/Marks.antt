-- Laws of single marks, and of how many items are unseen. Assumes nothing.
use Rattle.std.proofs.Common.{◌≡◌, ℕ, zero, suc, ◌<◌, ◌≤◌, List, [], ◌∷◌, length, set, replicate, arith}
use Rattle.std.proofs.lemmas.List.{get_or-set_other, get_or-set_same}
use Rattle.script.specs.Rule.{Value}
use Rattle.clean.specs.Marks.{mark_of, one_if_unseen, unseen}
use Rattle.clean.specs.declared.mark.Mark.{Mark}
use Rattle.clean.specs.declared.mark.Mark.TheVariants.{Unseen, Open, Known}

pub mark_here : (ms : List Mark) (k : ℕ) (m : Mark) → k < length ms → mark_of (set ms k m) k ≡ m
mark_here ms k m h = get_or-set_same ms k m Unseen h

pub mark_else : (ms : List Mark) (k j : ℕ) (m : Mark) → (j ≡ k → ⊥) → mark_of (set ms k m) j ≡ mark_of ms j
mark_else ms k j m other = get_or-set_other ms k j m Unseen other

pub open_known : {m : Mark} {v : Value} → m ≡ Open → m ≡ Known v → ⊥
open_known p q = cc

pub unseen_known : {m : Mark} {v : Value} → m ≡ Unseen → m ≡ Known v → ⊥
unseen_known p q = cc

pub unseen_open : {m : Mark} → m ≡ Unseen → m ≡ Open → ⊥
unseen_open p q = cc

pub known_one : {m : Mark} {v w : Value} → m ≡ Known v → m ≡ Known w → v ≡ w
known_one p q = cc

at_most_one : (m : Mark) (n : ℕ) → n ≤ one_if_unseen m n
at_most_one Unseen n = omega arith
at_most_one Open n = omega arith
at_most_one (Known v) n = omega arith

one_more : (m : Mark) (a b : ℕ) → a ≤ b → one_if_unseen m a ≤ one_if_unseen m b
one_more Unseen a b h = omega arith
one_more Open a b h = h
one_more (Known v) a b h = h

one_less : (m : Mark) (a b : ℕ) → suc a ≤ b → suc (one_if_unseen m a) ≤ one_if_unseen m b
one_less Unseen a b h = omega arith
one_less Open a b h = h
one_less (Known v) a b h = h

-- an item that gets a mark is not unseen
pub marked_fewer : (m : Mark) → ((x : ℕ) → one_if_unseen m x ≡ x) → (n : ℕ) (ms : List Mark) (k : ℕ) → unseen n (set ms k m) ≤ unseen n ms
unfolding unseen
marked_fewer m is zero ms k = omega arith
marked_fewer m is (suc n) [] k = omega arith
marked_fewer m is (suc n) (x ∷ ms) zero = omega (arith, is (unseen n ms), at_most_one x (unseen n ms))
marked_fewer m is (suc n) (x ∷ ms) (suc k) = one_more x _ _ (marked_fewer m is n ms k)

pub opened_fewer : (n : ℕ) (ms : List Mark) (k : ℕ) → k < n → k < length ms → mark_of ms k ≡ Unseen → suc (unseen n (set ms k Open)) ≤ unseen n ms
unfolding unseen
opened_fewer zero ms k h there is = absurd (omega arith)
opened_fewer (suc n) [] k h there is = absurd (omega arith)
opened_fewer (suc n) (x ∷ ms) zero h there is = rw is (omega arith)
opened_fewer (suc n) (x ∷ ms) (suc k) h there is = one_less x _ _ (opened_fewer n ms k (omega arith) (omega arith) is)

pub none_seen : (n m : ℕ) → unseen n (replicate m Unseen) ≤ n
unfolding unseen
none_seen zero m = omega arith
none_seen (suc n) zero = omega arith
none_seen (suc n) (suc m) = omega (arith, none_seen n m)
