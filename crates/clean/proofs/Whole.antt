-- A whole build: an item is evaluated with fresh marks. Assumes nothing.
use Rattle.std.proofs.Common.{◌≡◌, ℕ, ◌≤◌, List, [], Ok, Err, Result, length, replicate, sym, ap, inl, inr, ⊎_elim}
use lib.ListN.{length-replicate}
use Rattle.std.proofs.lemmas.List.{get_or_past, get_or-replicate}
use Rattle.std.proofs.lemmas.Bool.{cases_lt}
use Rattle.script.specs.Rule.{Value}
use Rattle.items.specs.declared.ring.Ring.{Ring}
use Rattle.theory.specs.Build.{Built}
use Rattle.theory.specs.Clean.{clean}
use Rattle.theory.specs.Items.{Item}
use Rattle.theory.proofs.Bound.{makes_clean}
use Rattle.clean.specs.Builds.{answer_of, known_items, says}
use Rattle.clean.specs.Marks.{IsOpen, Seen, mark_of}
use Rattle.clean.specs.Outcomes.{Evaluated, ItemOut, Waits}
use Rattle.clean.specs.Sound.{Sound}
use Rattle.clean.specs.declared.mark.Mark.{Mark}
use Rattle.clean.specs.declared.mark.Mark.TheVariants.{Unseen}
use Rattle.clean.proofs.Complete.{known_built, open_ring}
use Rattle.clean.proofs.Marks.{unseen_known, unseen_open}

pub fresh : (n k : ℕ) → mark_of (replicate n Unseen) k ≡ Unseen
fresh n k =
    ⊎_elim
    (λ inside. get_or-replicate n k Unseen Unseen inside)
    (λ past. get_or_past (replicate n Unseen) k Unseen (rw length-replicate past))
    (cases_lt k n)

pub fresh_sound : (d : List Item) (n : ℕ) → length d ≤ n → Sound d (replicate n Unseen)
fresh_sound d n h = record { room = rw length-replicate h; finished = λ k v e. absurd (unseen_known (fresh n k) e) }

module _ (d : List Item) (n : ℕ) (ms : List Mark) (k : ℕ) where
  now_waits : (r : Result Value Ring) → ItemOut d (replicate n Unseen) ms k r → (j : ℕ) → IsOpen ms j → Waits d ms j
  now_waits (Ok v) out j e = absurd (unseen_open (fresh n j) (out.opened j e))
  now_waits (Err r) out j e = ⊎_elim (λ old. absurd (unseen_open (fresh n j) old)) (λ w. w) (out.opened j e)

  now_seen : (r : Result Value Ring) → ItemOut d (replicate n Unseen) ms k r → Seen d ms k
  now_seen (Ok v) out = inl out.settled
  now_seen (Err r) out = inr out.is_open

  pub whole_built : (r : Result Value Ring) → Evaluated d (replicate n Unseen) ms k r → Built d [] 0 k (clean d k) (known_items ms (length d)) []
  whole_built r done =
      known_built d ms k done.sound (now_waits r done.outcome) (now_seen r done.outcome)
      (λ j v e. ⊎_elim (λ old. absurd (unseen_known (fresh n j) old)) (λ looked. looked) (done.kept.new j v e))

  pub whole_answer : (r : Result Value Ring) → Evaluated d (replicate n Unseen) ms k r → answer_of r ≡ says (clean d k)
  whole_answer (Ok v) done = ap says (sym (makes_clean done.outcome.makes))
  whole_answer (Err r) done =
      let out = done.outcome in
      ap says (sym (open_ring d ms k done.sound (now_waits (Err r) out) (now_seen (Err r) out) k out.is_open))
