-- Members of a list of numbers. Assumes nothing.
use Rattle.std.proofs.Common.{◌≡◌, ℕ, ◌⊎◌, List, [], ◌∷◌, ◌++◌, refl, subst, inl, inr, ⊎_elim}
use Rattle.theory.specs.Build.{In, here, there}

pub in_none : {j : ℕ} → In j [] → ⊥
in_none i = elim i [ ]

pub in_cases : {j k : ℕ} {ks : List ℕ} → In j (k ∷ ks) → (j ≡ k) ⊎ In j ks
in_cases here = inl refl
in_cases (there i) = inr i

pub in_left : {j : ℕ} {xs : List ℕ} (ys : List ℕ) → In j xs → In j (xs ++ ys)
in_left ys here = here
in_left ys (there i) = there (in_left ys i)

pub in_right : {j : ℕ} (xs : List ℕ) {ys : List ℕ} → In j ys → In j (xs ++ ys)
in_right [] i = i
in_right (x ∷ xs) i = there (in_right xs i)

pub in_append : {j : ℕ} (xs ys : List ℕ) → In j (xs ++ ys) → In j xs ⊎ In j ys
in_append [] ys i = inr i
in_append {j} (x ∷ xs) ys i =
    ⊎_elim
    (λ e. inl (subst (λ y. In j (y ∷ xs)) e here))
    (λ h. ⊎_elim (λ l. inl (there l)) inr (in_append xs ys h))
    (in_cases i)
