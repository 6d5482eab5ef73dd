-- What opening an item makes of the marks. Assumes nothing.
use Rattle.std.proofs.Common.{◌≡◌, ℕ, ◌-◌, ◌<◌, ◌≤◌, ◌⊎◌, List, length, set, sym, refl, ◌∙◌, subst, inl, inr, ⊎_elim, arith}
use Rattle.std.proofs.lemmas.List.{length-set}
use Rattle.std.proofs.lemmas.Bool.{cases_eq}
use Rattle.script.specs.Rule.{Script, Value}
use Rattle.theory.specs.Clean.{Reached}
use Rattle.theory.specs.Items.{Item, item, made}
use Rattle.theory.proofs.Rings.{made_there}
use Rattle.clean.specs.Marks.{IsKnown, IsOpen, Settled, mark_of, unseen}
use Rattle.clean.specs.Outcomes.{Kept}
use Rattle.clean.specs.Sound.{Finished, Ready, Sound}
use Rattle.clean.specs.declared.mark.Mark.{Mark}
use Rattle.clean.specs.declared.mark.Mark.TheVariants.{Unseen, Open}
use Rattle.clean.proofs.Kept.{settled_kept}
use Rattle.clean.proofs.Marks.{mark_else, mark_here, marked_fewer, open_known, opened_fewer, unseen_known, unseen_open}

marked_there : {d : List Item} {ms : List Mark} (k : ℕ) {s : Script} → Sound d ms → item d k ≡ made s → k < length ms
marked_there {d} k sound is = omega (arith, made_there d k is, sound.room)

pub finished_kept : {d : List Item} {ms ms₁ : List Mark} {k : ℕ} {v : Value} → ((j : ℕ) → Settled d ms j → Settled d ms₁ j) → Finished d ms k v → Finished d ms₁ k v
finished_kept stays f = record { script = f.script; is_made = f.is_made; makes = f.makes; heard = λ j a. stays j (f.heard j a) }

-- item k is made by s and has not been seen
pub record Opening (d : List Item) (ms : List Mark) (k : ℕ) (s : Script) : Type 0 where
  pub sound : Sound d ms
  pub is_made : item d k ≡ made s
  pub is_unseen : mark_of ms k ≡ Unseen

module _ {d : List Item} {ms : List Mark} {k : ℕ} {s : Script} (o : Opening d ms k s) where
  there : k < length ms
  there = marked_there k o.sound o.is_made

  -- what is known or open is another item
  known_else : (j : ℕ) (v : Value) → IsKnown ms j v → (j ≡ k → ⊥)
  known_else j v e same = unseen_known (subst (λ x. mark_of ms x ≡ Unseen) (sym same) o.is_unseen) e

  pub open_else : (j : ℕ) → IsOpen ms j → (j ≡ k → ⊥)
  open_else j e same = unseen_open (subst (λ x. mark_of ms x ≡ Unseen) (sym same) o.is_unseen) e

  -- item k is opened
  pub now_open : IsOpen (set ms k Open) k
  now_open = mark_here ms k Open there

  known_before : (j : ℕ) (v : Value) → IsKnown (set ms k Open) j v → IsKnown ms j v
  known_before j v e =
      ⊎_elim
      (λ same. absurd (open_known (subst (λ x. IsOpen (set ms k Open) x) (sym same) now_open) e))
      (λ other. sym (mark_else ms k j Open other) ∙ e)
      (cases_eq j k)

  pub open_before : (j : ℕ) → IsOpen (set ms k Open) j → (j ≡ k) ⊎ IsOpen ms j
  open_before j e = ⊎_elim inl (λ other. inr (sym (mark_else ms k j Open other) ∙ e)) (cases_eq j k)

  pub opened_kept : {P : ℕ → Type 0} → Kept P ms (set ms k Open)
  opened_kept = record {
    known = λ j v e. mark_else ms k j Open (known_else j v e) ∙ e;
    open_still = λ j e. mark_else ms k j Open (open_else j e) ∙ e;
    fewer = λ n. marked_fewer Open (λ x. refl) n ms k;
    new = λ j v e. inl (known_before j v e);
  }

  opened_sound : Sound d (set ms k Open)
  opened_sound = record {
    room = rw length-set o.sound.room;
    finished = λ j v e. finished_kept (settled_kept (opened_kept {P = Reached d k})) (o.sound.finished j v (known_before j v e));
  }

  pub opened_ready : {depth : ℕ} → unseen (length d) ms ≤ depth → (1 ≤ depth) × Ready d (set ms k Open) (depth - 1)
  opened_ready h =
      let fewer = opened_fewer (length d) ms k (made_there d k o.is_made) there o.is_unseen in
      (omega arith, record { sound = opened_sound; deep = omega arith })
