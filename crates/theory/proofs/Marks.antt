-- Rows of marks, and how many of them are not set. Assumes nothing.
use Rattle.std.proofs.Common.{◌≡◌, ℕ, zero, suc, ◌<◌, ◌≤◌, Bool, true, false, List, [], ◌∷◌, length, get_or, set, replicate, refl, ap, arith}
use Rattle.std.proofs.lemmas.Bool.{both_ways}

-- how many marks are not set
pub free : List Bool → ℕ
free [] = 0
free (true ∷ ms) = free ms
free (false ∷ ms) = suc (free ms)

pub free_all : (n : ℕ) → free (replicate n false) ≡ n
unfolding free
free_all zero = refl
free_all (suc n) = ap suc (free_all n)

pub none_set : (n x : ℕ) → get_or (replicate n false) x false ≡ false
none_set zero x = refl
none_set (suc n) zero = refl
none_set (suc n) (suc x) = none_set n x

pub free_less : (ms : List Bool) (k : ℕ) (past : Bool) → k < length ms → get_or ms k past ≡ false → suc (free (set ms k true)) ≡ free ms
unfolding free
free_less [] k past h e = absurd (omega arith)
free_less (true ∷ ms) zero past h e = absurd (both_ways true e refl)
free_less (false ∷ ms) zero past h e = refl
free_less (true ∷ ms) (suc k) past h e = free_less ms k past (omega arith) e
free_less (false ∷ ms) (suc k) past h e = ap suc (free_less ms k past (omega arith) e)

-- no mark is left to set
pub free_none : (ms : List Bool) (k : ℕ) → free ms ≤ 0 → get_or ms k true ≡ true
unfolding free
free_none [] k h = refl
free_none (true ∷ ms) zero h = refl
free_none (true ∷ ms) (suc k) h = free_none ms k h
free_none (false ∷ ms) k h = absurd (omega arith)
