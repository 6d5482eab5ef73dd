-- Marks with which every open item waits for an open one tell all that a build looks at. Assumes nothing.
use Rattle.std.proofs.Common.{◌≡◌, ℕ, true, List, [], length, sym, refl, ap, subst, inl, inr, arith}
use Rattle.std.proofs.lemmas.Bool.{false≢true}
use Rattle.script.specs.Rule.{Script, Value, task_of}
use Rattle.theory.specs.Build.{Built, Due, In}
use Rattle.theory.specs.Clean.{Asks, Makes, Reached, clean, ring}
use Rattle.theory.specs.Items.{Item, item, made}
use Rattle.theory.specs.Reference.{built_of}
use Rattle.theory.specs.Rings.{Stuck}
use Rattle.theory.proofs.Bound.{stuck_ring}
use Rattle.theory.proofs.Needs.{reached_all}
use Rattle.theory.proofs.Passing.{in_passing, passing_in, passing_rising}
use Rattle.theory.proofs.Reference.{reference_fits}
use Rattle.theory.proofs.Rings.{made_there}
use Rattle.theory.proofs.Rising.{rising_unique}
use Rattle.theory.proofs.Stuck.{stuck_none}
use Rattle.theory.proofs.Values.{made_one, written_made}
use Rattle.clean.specs.Builds.{is_known, known_items}
use Rattle.clean.specs.Marks.{IsKnown, IsOpen, Seen, by_hand, by_mark, mark_of}
use Rattle.clean.specs.Outcomes.{Waits}
use Rattle.clean.specs.Sound.{Sound}
use Rattle.clean.specs.declared.mark.Mark.{Mark}
use Rattle.clean.specs.declared.mark.Mark.TheVariants.{Unseen, Open, Known}

-- what is known, as a test
known_mark : (m : Mark) → is_known m ≡ true → (v : Value) × (m ≡ Known v)
known_mark Unseen e = absurd (false≢true e)
known_mark Open e = absurd (false≢true e)
known_mark (Known v) e = (v, refl)

-- with the marks ms every open item waits for an open one, and item k is seen
module _ (d : List Item) (ms : List Mark) (k : ℕ) (sound : Sound d ms) (waits : (j : ℕ) → IsOpen ms j → Waits d ms j) (first : Seen d ms k) where
  stuck : (j : ℕ) → IsOpen ms j → Stuck d (IsOpen ms) j
  stuck j e = let w = waits j e in record { script = w.script; next = w.held.next; is_made = w.is_made; asked = w.held.asked; again = w.held.is_open }

  open_none : (j : ℕ) → IsOpen ms j → (v : Value) → Makes d j v → ⊥
  open_none j e v m = stuck_none (IsOpen ms) stuck m e

  pub open_ring : (j : ℕ) → IsOpen ms j → clean d j ≡ ring
  open_ring j e = stuck_ring (IsOpen ms) stuck j e

  seen_closed : (i m : ℕ) (s : Script) → Seen d ms i → item d i ≡ made s → Asks d (task_of s) m → Seen d ms m
  seen_closed i m s (inl (by_hand w)) is a = absurd (written_made w is)
  seen_closed i m s (inl (by_mark {v = v} e)) is a =
      let f = sound.finished i v e in
      inl (f.heard m (subst (λ x. Asks d (task_of x) m) (made_one is f.is_made) a))
  seen_closed i m s (inr e) is a =
      let w = waits i e in
      w.held.heard (open_none w.held.next w.held.is_open) m (subst (λ x. Asks d (task_of x) m) (made_one is w.is_made) a)

  known_if : (j : ℕ) (s : Script) (v : Value) → item d j ≡ made s → Makes d j v → Seen d ms j → is_known (mark_of ms j) ≡ true
  known_if j s v is m (inl (by_hand w)) = absurd (written_made w is)
  known_if j s v is m (inl (by_mark e)) = ap is_known e
  known_if j s v is m (inr e) = absurd (open_none j e v m)

  due_known : (j : ℕ) → Due d [] k j → In j (known_items ms (length d))
  due_known j due =
      in_passing (λ i. is_known (mark_of ms i)) 0 (length d) j
      (known_if j due.script due.gave due.is_made due.has (reached_all (Seen d ms) seen_closed first due.looked))
      (omega arith)
      (omega (arith, made_there d j due.is_made))

  module _ (looked : (j : ℕ) (v : Value) → IsKnown ms j v → Reached d k j) where
    known_due : (j : ℕ) → In j (known_items ms (length d)) → Due d [] k j
    known_due j i =
        let (v, e) = known_mark (mark_of ms j) (passing_in (λ x. is_known (mark_of ms x)) 0 (length d) j i).0 in
        let f = sound.finished j v e in
        record { looked = looked j v e; script = f.script; is_made = f.is_made; gave = v; has = f.makes; unsaved = λ saved. absurd (omega (arith, saved.kept)) }

    pub known_built : Built d [] 0 k (clean d k) (known_items ms (length d)) []
    unfolding built_of
    known_built =
        let fits = reference_fits d [] k 0 in
        let same = rising_unique (known_items ms (length d)) (built_of d [] 0 k).ran (passing_rising (λ x. is_known (mark_of ms x)) 0 (length d)) fits.rising (λ j i. fits.due_all j (known_due j i)) (λ j i. due_known j (fits.all_due j i)) in
        subst (λ l. Built d [] 0 k (clean d k) l []) (sym same) fits
