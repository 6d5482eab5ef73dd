-- What running the script of an open item, and marking it as known, makes of the marks. Assumes nothing.
use Rattle.std.proofs.Common.{◌≡◌, ℕ, List, Ok, Err, Result, set, sym, refl, ◌∙◌, subst, inl, inr, ⊎_elim, arith}
use Rattle.std.proofs.lemmas.List.{length-set}
use Rattle.std.proofs.lemmas.Bool.{cases_eq}
use Rattle.script.specs.Rule.{Script, Value, task_of}
use Rattle.items.specs.declared.ring.Ring.{Ring}
use Rattle.theory.specs.Clean.{Reached, by_script, itself, on}
use Rattle.theory.specs.Items.{Item, item, made}
use Rattle.theory.proofs.Needs.{reached_join}
use Rattle.theory.proofs.Rings.{made_there}
use Rattle.clean.specs.Marks.{IsKnown, IsOpen, Settled, by_hand, by_mark}
use Rattle.clean.specs.Outcomes.{Below, Evaluated, Kept, Ran}
use Rattle.clean.specs.Sound.{Finished, Sound}
use Rattle.clean.specs.declared.mark.Mark.{Mark}
use Rattle.clean.specs.declared.mark.Mark.TheVariants.{Open, Known}
use Rattle.clean.proofs.Kept.{kept_join, kept_more}
use Rattle.clean.proofs.Marks.{known_one, mark_else, mark_here, marked_fewer, open_known}
use Rattle.clean.proofs.Opening.{Opening, finished_kept, now_open, open_before, open_else, opened_kept}

module _ {d : List Item} {ms : List Mark} {k : ℕ} {s : Script} (o : Opening d ms k s) where
  -- its script is run
  module _ {ms₂ : List Mark} {r : Result Value Ring} (ran : Ran d (set ms k Open) ms₂ (task_of s) r) where
    looked : (j : ℕ) → Below d (task_of s) j → Reached d k j
    looked j b = reached_join (on itself o.is_made b.asked) b.looked

    kept_so_far : Kept (Reached d k) ms ms₂
    kept_so_far = kept_join (opened_kept o) (kept_more looked ran.kept)

    open_still : IsOpen ms₂ k
    open_still = ran.kept.open_still k (now_open o)

  -- it met a ring
  pub held_evaluated : {ms₂ : List Mark} (r : Ring) → Ran d (set ms k Open) ms₂ (task_of s) (Err r) → Evaluated d ms ms₂ k (Err r)
  held_evaluated r ran = record {
    sound = ran.sound;
    kept = kept_so_far ran;
    outcome = record {
      is_open = open_still ran;
      opened = λ j e.
          ⊎_elim
          (λ before.
          ⊎_elim
          (λ same. inr (record { script = s; is_made = subst (λ x. item d x ≡ made s) (sym same) o.is_made; held = ran.outcome.held }))
          inl
          (open_before o j before))
          inr
          (ran.outcome.opened j e);
    };
  }

  -- it gave v, and the item is marked as known
  module _ {ms₂ : List Mark} {v : Value} (ran : Ran d (set ms k Open) ms₂ (task_of s) (Ok v)) where
    known_now : IsKnown (set ms₂ k (Known v)) k v
    known_now = mark_here ms₂ k (Known v) (omega (arith, made_there d k o.is_made, ran.sound.room))

    stays_known : (j : ℕ) (w : Value) → IsKnown ms₂ j w → IsKnown (set ms₂ k (Known v)) j w
    stays_known j w e = mark_else ms₂ k j (Known v) (λ same. open_known (subst (λ x. IsOpen ms₂ x) (sym same) (open_still ran)) e) ∙ e

    stays_settled : (j : ℕ) → Settled d ms₂ j → Settled d (set ms₂ k (Known v)) j
    stays_settled j (by_hand e) = by_hand e
    stays_settled j (by_mark {v = w} e) = by_mark (stays_known j w e)

    known_sound : Sound d (set ms₂ k (Known v))
    known_sound = record {
      room = rw length-set ran.sound.room;
      finished = λ j w e.
          ⊎_elim
          (λ same.
          let gave = known_one known_now (subst (λ x. IsKnown (set ms₂ k (Known v)) x w) same e) in
          subst (λ x. Finished d (set ms₂ k (Known v)) x w) (sym same)
          (subst (λ x. Finished d (set ms₂ k (Known v)) k x) gave
          (record { script = s; is_made = o.is_made; makes = by_script o.is_made ran.outcome.runs; heard = λ i a. stays_settled i (ran.outcome.heard i a) })))
          (λ other. finished_kept stays_settled (ran.sound.finished j w (sym (mark_else ms₂ k j (Known v) other) ∙ e)))
          (cases_eq j k);
    }

    known_kept : Kept (Reached d k) ms (set ms₂ k (Known v))
    known_kept = record {
      known = λ j w e. stays_known j w ((kept_so_far ran).known j w e);
      open_still = λ j e. mark_else ms₂ k j (Known v) (open_else o j e) ∙ (kept_so_far ran).open_still j e;
      fewer = λ n. omega (arith, marked_fewer (Known v) (λ x. refl) n ms₂ k, (kept_so_far ran).fewer n);
      new = λ j w e.
          ⊎_elim
          (λ same. inr (subst (λ x. Reached d k x) (sym same) itself))
          (λ other. (kept_so_far ran).new j w (sym (mark_else ms₂ k j (Known v) other) ∙ e))
          (cases_eq j k);
    }

    open_else_then : (j : ℕ) → IsOpen (set ms₂ k (Known v)) j → (j ≡ k → ⊥)
    open_else_then j e same = open_known e (subst (λ x. IsKnown (set ms₂ k (Known v)) x v) (sym same) known_now)

    pub known_evaluated : Evaluated d ms (set ms₂ k (Known v)) k (Ok v)
    known_evaluated = record {
      sound = known_sound;
      kept = known_kept;
      outcome = record {
        makes = by_script o.is_made ran.outcome.runs;
        settled = by_mark known_now;
        opened = λ j e.
            let other = open_else_then j e in
            ⊎_elim (λ same. absurd (other same)) (λ before. before) (open_before o j (ran.outcome.opened j (sym (mark_else ms₂ k j (Known v) other) ∙ e)));
      };
    }
