-- How one part of a build follows another. Assumes nothing.
use Rattle.std.proofs.Common.{ℕ, List, length, Ok, Err, Result, refl, ◌∙◌, inl, inr, ⊎_elim, arith}
use Rattle.std.specs.Result.{IsErr}
use Rattle.std.proofs.lemmas.Bool.{false≢true}
use Rattle.script.specs.Rule.{Task}
use Rattle.entry.specs.Entry.{Entry}
use Rattle.theory.specs.Clean.{Asks, Reached}
use Rattle.theory.specs.Items.{Item}
use Rattle.build.specs.Sound.{Ended, Grown, Later, Looked, Ready, Sound, Went}
use Rattle.items.specs.declared.ring.Ring.{Ring}
use Rattle.build.specs.declared.scratch.Scratch.{Scratch}
use Rattle.build.proofs.States.{later_unseen, unseen_fewer}

pub later_join : {σ σ₁ σ₂ : Scratch} → Later σ σ₁ → Later σ₁ σ₂ → Later σ σ₂
later_join l m = record { stays = λ j seen. m.stays j (λ un. seen (later_unseen l j un)) ∙ l.stays j seen }

module _ {d : List Item} {es : List Entry} where
  pub ready_grown : {From : ℕ → Type 0} {σ σ₁ : Scratch} {depth : ℕ} → Ready d es σ depth → Grown d es From σ σ₁ → Ready d es σ₁ depth
  ready_grown {σ = σ} {σ₁ = σ₁} r g = record { honest = r.honest; sound = g.sound; deep = omega (arith, unseen_fewer σ σ₁ (later_unseen g.later) (length d), r.deep) }

  pub went_none : {From : ℕ → Type 0} {σ : Scratch} → Sound d es σ → Went d es From σ σ
  went_none s = record { grown = record { later = record { stays = λ j seen. refl }; sound = s; new = λ j un. inl un }; closed = λ j e. e }

  module _ {From Next : ℕ → Type 0} (from : (j : ℕ) → Next j → From j) {σ σ₁ σ₂ : Scratch} where
    pub grown_join : Grown d es From σ σ₁ → Grown d es Next σ₁ σ₂ → Grown d es From σ σ₂
    grown_join g h = record {
      later = later_join g.later h.later;
      sound = h.sound;
      new = λ j un. ⊎_elim (λ un₁. ⊎_elim inl (λ f. inr (from j f)) (h.new j un₁)) (λ f. inr f) (g.new j un);
    }

    pub went_join : Went d es From σ σ₁ → Went d es Next σ₁ σ₂ → Went d es From σ σ₂
    went_join g h = record { grown = grown_join g.grown h.grown; closed = λ j e. g.closed j (h.closed j e) }

    pub ended_join : Went d es From σ σ₁ → Ended d es Next σ₁ σ₂ → Ended d es From σ σ₂
    ended_join g h = record {
      grown = grown_join g.grown h.grown;
      stopped = λ j e. ⊎_elim (λ o. inl (g.closed j o)) inr (h.stopped j e);
    }

-- what an asked item looks at, the task looks at
pub asked_looked : {d : List Item} {t : Task} {m : ℕ} → Asks d t m → (j : ℕ) → Reached d m j → Looked d t j
asked_looked {m = m} a j r = (m, a, r)

-- an error that is passed on is a ring
pub by_ring : {A : Type 0} (P : Result A Ring → Type 0) (r : Result A Ring) → IsErr r → ((x : Ring) → P (Err x)) → P r
by_ring P (Ok x) e h = absurd (false≢true e)
by_ring P (Err x) e h = h x
