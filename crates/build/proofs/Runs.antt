-- A script is run from one asking to the next, each answered with what the item comes to. Assumes nothing.
use Rattle.std.proofs.Common.{◌≡◌, ℕ, List, [], ◌∷◌, ◌++◌, Ok, Result, sym, subst}
use Rattle.std.specs.Result.{IsErr}
use Rattle.machine.specs.Machine.{rest, start}
use Rattle.script.specs.Rule.{Script, Task, Value, asks, task_of}
use Rattle.machine.specs.declared.registers.Registers.{Registers}
use Rattle.machine.proofs.Steps.{rest_start}
use Rattle.entry.specs.Entry.{Entry}
use Rattle.entry.specs.declared.asking.Asking.{Asking}
use Rattle.theory.specs.Clean.{Asks, now}
use Rattle.theory.specs.Items.{Item}
use Rattle.theory.proofs.Along.{along_asks}
use Rattle.build.specs.Made.{EndsOpen, Evaluated, RanSo}
use Rattle.build.specs.Sound.{Looked, Ready, Sound, Walked, Went}
use Rattle.build.specs.declared.making.Gave.{Gave}
use Rattle.items.specs.declared.ring.Ring.{Ring}
use Rattle.build.specs.declared.scratch.Scratch.{Scratch}
use Rattle.build.proofs.Grows.{asked_looked, by_ring, ended_join, ready_grown, went_join, went_none}
use Rattle.build.proofs.Walks.{later_keeps, walked_keeps, walked_none, walked_push}

-- the script made these askings, and its registers stand at g
pub record Running (d : List Item) (es : List Entry) (s : Script) (σ : Scratch) (qs : List Asking) (g : Registers) (σ₁ : Scratch) : Type 0 where
  pub went : Went d es (Looked d (task_of s)) σ σ₁
  pub walked : Walked d σ₁ (task_of s) qs (rest s g)

pub running_none : {d : List Item} {es : List Entry} {s : Script} {σ : Scratch} → Sound d es σ → Running d es s σ [] start σ
running_none {d} {s = s} {σ = σ} sound = record { went = went_none sound; walked = subst (λ t. Walked d σ (task_of s) [] t) (sym (rest_start s)) walked_none }

module _ {d : List Item} {es : List Entry} {s : Script} {σ σ₁ : Scratch} {qs : List Asking} {g : Registers} {depth : ℕ} (ready : Ready d es σ depth) (so_far : Running d es s σ qs g σ₁) where
  module _ (k : ℕ) (c : Value → Task) (stops : rest s g ≡ asks k c) where
    waits : Walked d σ₁ (task_of s) qs (asks k c)
    waits = subst (λ t. Walked d σ₁ (task_of s) qs t) stops so_far.walked

    asked : Asks d (task_of s) k
    asked = along_asks waits.along now

    again : Ready d es σ₁ depth
    again = ready_grown ready so_far.went.grown

    module _ {σ₂ : Scratch} where
      pub running_ring : (Ready d es σ₁ depth → EndsOpen d es σ₁ k σ₂) → (r : Result Gave Ring) → IsErr r → RanSo d es s σ r σ₂
      running_ring found r is_ring =
          let (ended, last) = found again in
          by_ring (λ x. RanSo d es s σ x σ₂) r is_ring (λ _. (ended_join (asked_looked asked) so_far.went ended, record { asked = qs; next = k; then = c; walked = walked_keeps (later_keeps ended.grown.later) waits; still = last }))

      pub running_more : (v : Value) (g₁ : Registers) → (Ready d es σ₁ depth → Evaluated d es σ₁ k (Ok v) σ₂) → rest s g₁ ≡ c v → Running d es s σ (qs ++ record { item = k; answer = v } ∷ []) g₁ σ₂
      running_more v g₁ found on =
          let (went, makes, settled) = found again in
          record {
            went = went_join (asked_looked asked) so_far.went went;
            walked = subst (λ t. Walked d σ₂ (task_of s) (qs ++ record { item = k; answer = v } ∷ []) t) (sym on) (walked_push (walked_keeps (later_keeps went.grown.later) waits) makes settled);
          }
