-- Marks that are set and what waits for one: the waiting list without the marked ones in front. Assumes nothing.
use Rattle.std.proofs.Common.{◌≡◌, ℕ, ◌<◌, Bool, true, false, ◌⊎◌, List, [], ◌∷◌, length, set, sym, ◌∙◌, subst, inl, inr, ⊎_elim, arith}
use Rattle.std.proofs.lemmas.List.{get_or_past, get_or-set_other, get_or-set_same}
use Rattle.std.proofs.lemmas.Bool.{both_ways, cases_Bool, cases_eq, cases_lt, cond-false, cond-true}
use Rattle.theory.specs.Build.{In, there}
use Rattle.theory.specs.Looked.{is_marked, unmarked}
use Rattle.theory.proofs.Members.{in_cases, in_none}

module _ (ms : List Bool) where
  unmarked_yes : (x : ℕ) (xs : List ℕ) → is_marked ms x ≡ true → unmarked ms (x ∷ xs) ≡ unmarked ms xs
  unfolding unmarked
  unmarked_yes x xs e = cond-true _ _ _ e

  unmarked_no : (x : ℕ) (xs : List ℕ) → is_marked ms x ≡ false → unmarked ms (x ∷ xs) ≡ x ∷ xs
  unfolding unmarked
  unmarked_no x xs e = cond-false _ _ _ e

  -- what waits is marked, or still waits when the marked ones in front are left out
  pub waits_still : (xs : List ℕ) (j : ℕ) → In j xs → (is_marked ms j ≡ true) ⊎ In j (unmarked ms xs)
  waits_still [] j i = absurd (in_none i)
  waits_still (x ∷ xs) j i =
      ⊎_elim
      (λ yes.
      ⊎_elim
      (λ e. inl (subst (λ y. is_marked ms y ≡ true) (sym e) yes))
      (λ h. subst (λ ys. (is_marked ms j ≡ true) ⊎ In j ys) (sym (unmarked_yes x xs yes)) (waits_still xs j h))
      (in_cases i))
      (λ no. inr (subst (λ ys. In j ys) (sym (unmarked_no x xs no)) i))
      (cases_Bool (is_marked ms x))

  pub waited : (xs : List ℕ) (j : ℕ) → In j (unmarked ms xs) → In j xs
  unfolding unmarked
  waited [] j i = i
  waited (x ∷ xs) j i =
      ⊎_elim
      (λ yes. there (waited xs j (subst (λ ys. In j ys) (unmarked_yes x xs yes) i)))
      (λ no. subst (λ ys. In j ys) (unmarked_no x xs no) i)
      (cases_Bool (is_marked ms x))

  pub first_unmarked : (xs : List ℕ) (y : ℕ) (ys : List ℕ) → unmarked ms xs ≡ y ∷ ys → is_marked ms y ≡ false
  unfolding unmarked
  first_unmarked [] y ys e = let z : ◌≡◌ {A = ℕ} 0 1 = cc in absurd (omega arith)
  first_unmarked (x ∷ xs) y ys e =
      ⊎_elim
      (λ yes. first_unmarked xs y ys (sym (unmarked_yes x xs yes) ∙ e))
      (λ no. let same : x ≡ y = cc (sym (unmarked_no x xs no) ∙ e) in subst (λ z. is_marked ms z ≡ false) same no)
      (cases_Bool (is_marked ms x))

  pub unmarked_there : (y : ℕ) → is_marked ms y ≡ false → y < length ms
  unmarked_there y e = ⊎_elim (λ h. h) (λ past. absurd (both_ways _ e (get_or_past ms y true past))) (cases_lt y (length ms))

  -- a mark that is set stays so
  pub mark_keeps : (y x : ℕ) → y < length ms → is_marked ms x ≡ true → is_marked (set ms y true) x ≡ true
  mark_keeps y x h e =
      ⊎_elim
      (λ same. subst (λ z. is_marked (set ms y true) z ≡ true) (sym same) (get_or-set_same ms y true true h))
      (λ other. get_or-set_other ms y x true true other ∙ e)
      (cases_eq x y)
