-- A rising list is known by its members. Assumes nothing.
use Rattle.std.proofs.Common.{◌≡◌, ℕ, ◌<◌, List, [], ◌∷◌, sym, refl, ⊎_elim, arith}
use Rattle.theory.specs.Build.{In, Rising, here, more, none, one, there}
use Rattle.theory.proofs.Members.{in_cases, in_none}

pub rising_tail : {j : ℕ} {js : List ℕ} → Rising (j ∷ js) → Rising js
rising_tail one = none
rising_tail (more h r) = r

-- what stands first is below all the others
pub rising_first : {j k : ℕ} {ks : List ℕ} → Rising (k ∷ ks) → In j ks → k < j
rising_first one i = absurd (in_none i)
rising_first (more h r) here = h
rising_first (more h r) (there i) = omega (arith, rising_first r i)

-- the members of one list but its first are members of the other but its first
tail_in : {j x y : ℕ} {xs ys : List ℕ} → Rising (x ∷ xs) → x ≡ y → (In j (x ∷ xs) → In j (y ∷ ys)) → In j xs → In j ys
tail_in r same into i =
    ⊎_elim
    (λ first. absurd (omega (arith, rising_first r i)))
    (λ later. later)
    (in_cases (into (there i)))

pub rising_unique : (xs ys : List ℕ) → Rising xs → Rising ys → ((j : ℕ) → In j xs → In j ys) → ((j : ℕ) → In j ys → In j xs) → xs ≡ ys
rising_unique [] [] r q into back = refl
rising_unique [] (y ∷ ys) r q into back = absurd (in_none (back y here))
rising_unique (x ∷ xs) [] r q into back = absurd (in_none (into x here))
rising_unique (x ∷ xs) (y ∷ ys) r q into back =
    let same : x ≡ y
    = ⊎_elim
    (λ e. e)
    (λ i. ⊎_elim (λ e. sym e) (λ b. absurd (omega (arith, rising_first q i, rising_first r b))) (in_cases (back y here)))
    (in_cases (into x here)) in
    let rest = rising_unique xs ys (rising_tail r) (rising_tail q) (λ j. tail_in r same (into j)) (λ j. tail_in q (sym same) (back j)) in
    cc (same, rest)
