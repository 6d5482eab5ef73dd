-- Marking to the end leaves nothing out: what a marked item asks for is marked. Assumes nothing.
use Rattle.std.proofs.Common.{◌≡◌, ℕ, zero, suc, ◌≤◌, Bool, true, ◌⊎◌, List, [], ◌∷◌, ◌++◌, length, set, sym, refl, ◌∙◌, subst, inl, inr, ⊎_elim, arith, length-set}
use Rattle.std.proofs.lemmas.List.{get_or-set_other, get_or-set_same}
use Rattle.std.proofs.lemmas.Bool.{cases_eq}
use Rattle.script.specs.Rule.{Script, task_of}
use Rattle.theory.specs.Build.{In}
use Rattle.theory.specs.Clean.{Asks}
use Rattle.theory.specs.Items.{Item, item, made}
use Rattle.theory.specs.Looked.{asked_by, is_marked, mark, unmarked}
use Rattle.theory.proofs.Marking.{in_asked_by, mark_done, mark_none, mark_one}
use Rattle.theory.proofs.Marks.{free, free_less, free_none}
use Rattle.theory.proofs.Members.{in_cases, in_left, in_none, in_right}
use Rattle.theory.proofs.Waiting.{first_unmarked, mark_keeps, unmarked_there, waits_still}

module _ (d : List Item) where
  -- what a marked item asks for is marked or waits
  pub record Heard (ms : List Bool) (waiting : List ℕ) : Type 0 where
    pub heard : (x j : ℕ) (s : Script) → is_marked ms x ≡ true → item d x ≡ made s → Asks d (task_of s) j → (is_marked ms j ≡ true) ⊎ In j waiting

  -- the marks afterwards: nothing is lost, and nothing waits
  pub record Complete (ms : List Bool) (waiting : List ℕ) (after : List Bool) : Type 0 where
    pub keeps : (j : ℕ) → is_marked ms j ≡ true → is_marked after j ≡ true
    pub serves : (j : ℕ) → In j waiting → is_marked after j ≡ true
    pub closed : Heard after []

  pub mark_complete : (n : ℕ) (ms : List Bool) (waiting : List ℕ) → length ms ≡ length d → free ms ≤ n → Heard ms waiting → Complete ms waiting (mark n d ms waiting)
  mark_complete zero ms waiting same few heard =
      subst (λ x. Complete ms waiting x) (sym (mark_none d ms waiting))
      (record {
        keeps = λ j e. e;
        serves = λ j i. free_none ms j few;
        closed = record { heard = λ x j s e is a. inl (free_none ms j few) };
      })
  mark_complete (suc n) ms waiting same few heard = go (unmarked ms waiting) refl (λ ms' waiting'. mark_complete n ms' waiting')
    where
      go :
          (us : List ℕ) → unmarked ms waiting ≡ us →
          ((ms' : List Bool) (waiting' : List ℕ) → length ms' ≡ length d → free ms' ≤ n → Heard ms' waiting' → Complete ms' waiting' (mark n d ms' waiting')) →
          Complete ms waiting (mark (suc n) d ms waiting)
      go [] e again =
          let served : (j : ℕ) → In j waiting → is_marked ms j ≡ true
          = λ j i. ⊎_elim (λ m. m) (λ h. absurd (in_none (subst (λ us. In j us) e h))) (waits_still ms waiting j i) in
          subst (λ x. Complete ms waiting x) (sym (mark_done d n ms waiting e))
          (record {
            keeps = λ j m. m;
            serves = served;
            closed = record { heard = λ x j s m is a. inl (⊎_elim (λ h. h) (served j) (heard.heard x j s m is a)) };
          })
      go (y ∷ ys) e again =
          let no = first_unmarked ms waiting y ys e in
          let inside = unmarked_there ms y no in
          let grow : (j : ℕ) → is_marked ms j ≡ true → is_marked (set ms y true) j ≡ true = λ j m. mark_keeps ms y j inside m in
          let asked = asked_by d (item d y) in
          let sorted : (j : ℕ) → (is_marked ms j ≡ true) ⊎ In j waiting → (is_marked (set ms y true) j ≡ true) ⊎ In j (asked ++ ys)
          = λ j.
          ⊎_elim
          (λ m. inl (grow j m))
          (λ i.
          ⊎_elim
          (λ m. inl (grow j m))
          (λ u.
          ⊎_elim
          (λ at. inl (subst (λ z. is_marked (set ms y true) z ≡ true) (sym at) (get_or-set_same ms y true true inside)))
          (λ behind. inr (in_right asked behind))
          (in_cases (subst (λ us. In j us) e u)))
          (waits_still ms waiting j i)) in
          let rest = again (set ms y true) (asked ++ ys)
          (length-set ms y true ∙ same)
          (omega (arith, free_less ms y true inside no))
          (record {
            heard = λ x j s m is a.
                ⊎_elim
                (λ at. inr (in_left ys (in_asked_by d (subst (λ z. item d z ≡ made s) at is) a)))
                (λ other. sorted j (heard.heard x j s (sym (get_or-set_other ms y x true true other) ∙ m) is a))
                (cases_eq x y);
          }) in
          let finally : (j : ℕ) → (is_marked ms j ≡ true) ⊎ In j waiting → is_marked (mark n d (set ms y true) (asked ++ ys)) j ≡ true
          = λ j h. ⊎_elim (rest.keeps j) (rest.serves j) (sorted j h) in
          subst (λ x. Complete ms waiting x) (sym (mark_one d n ms waiting y ys e))
          (record { keeps = λ j m. finally j (inl m); serves = λ j i. finally j (inr i); closed = rest.closed })
