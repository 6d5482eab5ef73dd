-- An item of the scratch that is given another state. Assumes nothing.
use Rattle.std.proofs.Common.{◌≡◌, ℕ, ◌<◌, List, length, sym, ap, ◌∙◌, subst, ⊎_elim, arith}
use Rattle.std.proofs.lemmas.List.{length-set}
use Rattle.std.proofs.lemmas.Bool.{cases_eq}
use Rattle.script.specs.Rule.{Value}
use Rattle.entry.specs.Entry.{Entry}
use Rattle.entry.specs.Rows.{askings_in}
use Rattle.entry.specs.declared.asking.Asking.{Asking}
use Rattle.theory.specs.Build.{Saved}
use Rattle.theory.specs.Items.{Item}
use Rattle.build.specs.Scratch.{marked, state_of}
use Rattle.build.specs.Sound.{Known, Settled, Sound, by_entry, by_hand, by_run}
use Rattle.build.specs.declared.scratch.Scratch.{Scratch}
use Rattle.build.specs.declared.scratch.State.{State}
use Rattle.build.specs.declared.scratch.State.TheVariants.{Found, Ran}
use Rattle.build.proofs.States.{marked_other, marked_same}
use Rattle.build.proofs.Walks.{Keeps, known_keeps}

-- item j has this state now, and the others stay
pub record Marks (σ : Scratch) (j : ℕ) (t : State) (σ₁ : Scratch) : Type 0 where
  pub here : state_of σ₁ j ≡ t
  pub others : (i : ℕ) → (i ≡ j → ⊥) → state_of σ₁ i ≡ state_of σ i
  pub long : length σ₁.states ≡ length σ.states

pub marks : {σ σ₁ : Scratch} {j : ℕ} {t : State} → j < length σ.states → σ₁ ≡ marked σ j t → Marks σ j t σ₁
marks {σ} {σ₁} {j} {t} inside is = record {
  here = ap (λ τ. state_of τ j) is ∙ marked_same σ j t inside;
  others = λ i other. ap (λ τ. state_of τ i) is ∙ marked_other σ j t i other;
  long = ap (λ τ. length τ.states) is ∙ length-set σ.states j t;
}

module _ {d : List Item} {σ σ₁ : Scratch} {j : ℕ} {t : State} (m : Marks σ j t σ₁) where
  -- an item that was not known can be marked, and what is settled stays so
  pub marks_keeps : (Settled d σ j → Settled d σ₁ j) → Keeps d σ σ₁
  marks_keeps own i s =
      ⊎_elim
      (λ e. subst (λ x. Settled d σ₁ x) (sym e) (own (subst (λ x. Settled d σ x) e s)))
      (λ other. elsewhere other s)
      (cases_eq i j)
    where
      elsewhere : {i : ℕ} → (i ≡ j → ⊥) → Settled d σ i → Settled d σ₁ i
      elsewhere {i} other (by_hand e) = by_hand e
      elsewhere {i} other (by_entry e) = by_entry (m.others i other ∙ e)
      elsewhere {i} other (by_run e) = by_run (m.others i other ∙ e)

  -- a sound scratch stays sound if the marked item is right
  pub marks_sound :
      {es : List Entry} →
      Keeps d σ σ₁ → Sound d es σ →
      ((v : Value) → t ≡ Found v → Saved d es j × ((qs : List Asking) × Known d σ₁ j qs v)) →
      ((v : Value) (row : List ℕ) → t ≡ Ran v row → (Saved d es j → ⊥) × Known d σ₁ j (askings_in row) v) →
      Sound d es σ₁
  marks_sound {es} keeps s own_found own_ran = record {
    long = omega (arith, s.long, m.long);
    found = λ i v e.
        ⊎_elim
        (λ same. subst (λ x. Saved d es x × ((qs : List Asking) × Known d σ₁ x qs v)) (sym same) (own_found v (sym m.here ∙ ap (state_of σ₁) (sym same) ∙ e)))
        (λ other. let (saved, run) = s.found i v (sym (m.others i other) ∙ e) in (saved, (run.0, known_keeps keeps run.1)))
        (cases_eq i j);
    ran = λ i v row e.
        ⊎_elim
        (λ same. subst (λ x. (Saved d es x → ⊥) × Known d σ₁ x (askings_in row) v) (sym same) (own_ran v row (sym m.here ∙ ap (state_of σ₁) (sym same) ∙ e)))
        (λ other. let (unsaved, known) = s.ran i v row (sym (m.others i other) ∙ e) in (unsaved, known_keeps keeps known))
        (cases_eq i j);
  }
