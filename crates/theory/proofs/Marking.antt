-- One step of marking, and what an item's script asks for. Assumes nothing.
use Rattle.std.proofs.Common.{◌≡◌, ℕ, suc, Bool, true, List, [], ◌∷◌, ◌++◌, set, sym, refl, ap, subst}
use Rattle.script.specs.Rule.{Script, task_of}
use Rattle.theory.specs.Build.{In}
use Rattle.theory.specs.Clean.{Asks}
use Rattle.theory.specs.Items.{Item, item, made, written}
use Rattle.theory.specs.Looked.{asked_by, by_first, mark, unmarked}
use Rattle.theory.proofs.Members.{in_none}
use Rattle.theory.proofs.Traces.{asked_in, in_asked}

module _ (d : List Item) where
  pub in_asked_by : {i : Item} {s : Script} {j : ℕ} → i ≡ made s → Asks d (task_of s) j → In j (asked_by d i)
  unfolding asked_by
  in_asked_by {j = j} is a = subst (λ x. In j (asked_by d x)) (sym is) (in_asked d a)

  pub asked_by_in : (i : Item) (j : ℕ) → In j (asked_by d i) → (s : Script) × (i ≡ made s) × Asks d (task_of s) j
  unfolding asked_by
  asked_by_in (written v) j i = absurd (in_none i)
  asked_by_in (made s) j i = (s, refl, asked_in d (task_of s) j i)

  pub mark_none : (ms : List Bool) (waiting : List ℕ) → mark 0 d ms waiting ≡ ms
  unfolding mark
  mark_none ms waiting = refl

  pub mark_done : (n : ℕ) (ms : List Bool) (waiting : List ℕ) → unmarked ms waiting ≡ [] → mark (suc n) d ms waiting ≡ ms
  unfolding mark
  mark_done n ms waiting e = ap (λ us. by_first us ms (λ j js. mark n d (set ms j true) (asked_by d (item d j) ++ js))) e

  pub mark_one : (n : ℕ) (ms : List Bool) (waiting : List ℕ) (y : ℕ) (ys : List ℕ) → unmarked ms waiting ≡ y ∷ ys → mark (suc n) d ms waiting ≡ mark n d (set ms y true) (asked_by d (item d y) ++ ys)
  unfolding mark
  mark_one n ms waiting y ys e = ap (λ us. by_first us ms (λ j js. mark n d (set ms j true) (asked_by d (item d j) ++ js))) e
