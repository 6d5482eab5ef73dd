-- The entries of the runs are added one after the other. Assumes nothing.
use Rattle.std.proofs.Common.{◌≡◌, ℕ, ◌+◌, true, false, cond, List, [], ◌∷◌, ◌++◌, is_ok, Ok, Err, Option, Result, sym, refl, ap, ◌∙◌}
use Rattle.std.specs.Result.{result_err}
use Rattle.std.proofs.lemmas.List.{map_push}
use Rattle.script.specs.declared.refusal.Refusal.{Refusal}
use Rattle.entry.specs.Entry.{Entry}
use Rattle.store.specs.Faults.{add_fault}
use Rattle.store.specs.Rows.{added}
use Rattle.theory.specs.Items.{Item}
use Rattle.theory.specs.Reference.{passing}
use Rattle.theory.proofs.Passing.{passing_push, passing_skip}
use Rattle.build.specs.Leaves.{is_run, kept_all, kept_one, left_all, left_of, ran_list, unless_fault}
use Rattle.build.specs.Scratch.{state_of}
use Rattle.build.specs.declared.scratch.Scratch.{Scratch}
use Rattle.build.specs.declared.scratch.State.{State}
use Rattle.build.specs.declared.scratch.State.TheVariants.{Found, Open, Ran, Unseen}

pub not_run : (t : State) → ((v : ℕ) (row : List ℕ) → t ≡ Ran v row → ⊥) → is_run t ≡ false
not_run Unseen other = refl
not_run Open other = refl
not_run (Found v) other = refl
not_run (Ran v row) other = absurd (other v row refl)

pub kept_push : (rows : List ℕ) (es : List Entry) (e : Entry) → kept_all rows (es ++ e ∷ []) ≡ kept_one (kept_all rows es) e
unfolding kept_all
kept_push rows [] e = refl
kept_push rows (x ∷ es) e = kept_push (kept_one rows x) es e

by_result : {A : Type 0} (r : Result A Refusal) (f : Option Refusal) (rows more : List ℕ) → result_err r ≡ f → cond (is_ok r) more rows ≡ unless_fault f rows more
by_result (Ok x) f rows more e = ap (λ g. unless_fault g rows more) e
by_result (Err x) f rows more e = ap (λ g. unless_fault g rows more) e

-- the runs among the first i items have left their entries
abbrev pub Keeping : List Item → Scratch → List ℕ → ℕ → List ℕ → Type 0
Keeping d σ rows i row = row ≡ kept_all rows (left_all d σ (ran_list σ i))

module _ (d : List Item) (σ : Scratch) (rows : List ℕ) where
  pub keeping_none : Keeping d σ rows 0 rows
  unfolding kept_all passing
  keeping_none = refl

  module _ (i : ℕ) (row : List ℕ) (so_far : Keeping d σ rows i row) where
    pub keeping_same : is_run (state_of σ i) ≡ false → Keeping d σ rows (i + 1) row
    keeping_same e = so_far ∙ ap (λ js. kept_all rows (left_all d σ js)) (sym (passing_skip (λ j. is_run (state_of σ j)) i e))

    pub keeping_more : {A : Type 0} (r : Result A Refusal) (e : Entry) (row₁ : List ℕ) → is_run (state_of σ i) ≡ true → e ≡ left_of d σ i → result_err r ≡ add_fault row → row₁ ≡ cond (is_ok r) (added row e) row → Keeping d σ rows (i + 1) row₁
    keeping_more r e row₁ ran is fault after =
        let list = ran_list σ i in
        after ∙ by_result r (add_fault row) row (added row e) fault
        ∙ (λ x. kept_one (so_far x) (is x))
        ∙ sym (kept_push rows (left_all d σ list) (left_of d σ i))
        ∙ ap (kept_all rows) (sym (map_push (left_of d σ) list i))
        ∙ ap (λ js. kept_all rows (left_all d σ js)) (sym (passing_push (λ j. is_run (state_of σ j)) i ran))
