-- Marking marks only what is looked at. Assumes nothing.
use Rattle.std.proofs.Common.{◌≡◌, ℕ, zero, suc, ◌<◌, Bool, true, List, [], ◌∷◌, ◌++◌, length, set, sym, refl, ◌∙◌, subst, ⊎_elim}
use Rattle.std.proofs.lemmas.List.{get_or-set_other}
use Rattle.std.proofs.lemmas.Bool.{cases_eq}
use Rattle.theory.specs.Build.{In, here, there}
use Rattle.theory.specs.Clean.{Reached, on}
use Rattle.theory.specs.Items.{Item, item}
use Rattle.theory.specs.Looked.{asked_by, is_marked, mark, unmarked}
use Rattle.theory.proofs.Marking.{asked_by_in, mark_done, mark_none, mark_one}
use Rattle.theory.proofs.Members.{in_append}
use Rattle.theory.proofs.Waiting.{waited}

module _ (d : List Item) (k : ℕ) where
  -- only what is looked at is marked
  pub mark_sound :
      (n : ℕ) (ms : List Bool) (waiting : List ℕ) → ((j : ℕ) → In j waiting → Reached d k j) →
      ((j : ℕ) → j < length d → is_marked ms j ≡ true → Reached d k j) →
      (j : ℕ) → j < length d → is_marked (mark n d ms waiting) j ≡ true → Reached d k j
  mark_sound zero ms waiting ws right j h m = right j h (subst (λ x. is_marked x j ≡ true) (mark_none d ms waiting) m)
  mark_sound (suc n) ms waiting ws right j h m = go (unmarked ms waiting) refl (λ ms' waiting' ws' right'. mark_sound n ms' waiting' ws' right' j h)
    where
      go :
          (us : List ℕ) → unmarked ms waiting ≡ us →
          ((ms' : List Bool) (waiting' : List ℕ) → ((x : ℕ) → In x waiting' → Reached d k x) → ((x : ℕ) → x < length d → is_marked ms' x ≡ true → Reached d k x) → is_marked (mark n d ms' waiting') j ≡ true → Reached d k j) →
          Reached d k j
      go [] e again = right j h (subst (λ x. is_marked x j ≡ true) (mark_done d n ms waiting e) m)
      go (y ∷ ys) e again =
          let back : (x : ℕ) → In x (y ∷ ys) → Reached d k x = λ x i. ws x (waited ms waiting x (subst (λ us. In x us) (sym e) i)) in
          let first = back y here in
          again (set ms y true) (asked_by d (item d y) ++ ys)
          (λ x i.
          ⊎_elim
          (λ a. let (s, is, asked) = asked_by_in d (item d y) x a in on first is asked)
          (λ b. back x (there b))
          (in_append (asked_by d (item d y)) ys i))
          (λ x inside marked.
          ⊎_elim
          (λ at. subst (λ z. Reached d k z) (sym at) first)
          (λ other. right x inside (sym (get_or-set_other ms y x true true other) ∙ marked))
          (cases_eq x y))
          (subst (λ x. is_marked x j ≡ true) (mark_one d n ms waiting y ys e) m)
