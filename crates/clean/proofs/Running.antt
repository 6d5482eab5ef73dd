-- A script that is run, asking by asking: what holds of the registers and the marks. Assumes nothing.
use Rattle.std.proofs.Common.{◌≡◌, ℕ, List, [], Ok, Err, Result, sym, subst, inl, inr, ⊎_elim}
use Rattle.script.specs.Rule.{Script, Task, Value, asks, done, task_of}
use Rattle.machine.specs.Machine.{rest, start}
use Rattle.machine.specs.declared.registers.Registers.{Registers}
use Rattle.machine.proofs.Steps.{rest_start}
use Rattle.items.specs.declared.ring.Ring.{Ring}
use Rattle.theory.specs.Clean.{ends, now}
use Rattle.theory.specs.Items.{Item}
use Rattle.clean.specs.Outcomes.{Below, Evaluated, Kept, NoneOpened, Ran}
use Rattle.clean.specs.Sound.{Sound}
use Rattle.clean.specs.declared.mark.Mark.{Mark}
use Rattle.clean.proofs.Came.{Came, came_answer, came_heard, came_held, came_kept, came_start}
use Rattle.clean.proofs.Kept.{kept_join, kept_more, kept_same, settled_kept}

-- the marks were ms as script s began, and are ms₁ now that its registers stand at g
pub record Running (d : List Item) (s : Script) (ms ms₁ : List Mark) (g : Registers) : Type 0 where
  pub sound : Sound d ms₁
  pub kept : Kept (Below d (task_of s)) ms ms₁
  pub opened : NoneOpened ms ms₁
  pub came : Came d ms₁ (task_of s) (rest s g)

pub running_start : {d : List Item} {ms : List Mark} (s : Script) (g : Registers) → g ≡ start → Sound d ms → Running d s ms ms g
running_start {d} {ms} s g is so = record {
  sound = so;
  kept = kept_same;
  opened = λ k e. e;
  came = subst (λ x. Came d ms (task_of s) (rest s x)) (sym is) (subst (Came d ms (task_of s)) (sym (rest_start s)) came_start);
}

module _ {d : List Item} {s : Script} {ms ms₁ : List Mark} {g : Registers} (so_far : Running d s ms ms₁ g) where
  pub running_ends : (v : Value) → rest s g ≡ done v → Ran d ms ms₁ (task_of s) (Ok v)
  running_ends v is =
      let came = subst (Came d ms₁ (task_of s)) is so_far.came in
      let run = came.gives v [] ends in
      record {
        sound = so_far.sound;
        kept = so_far.kept;
        outcome = record { askings = run.0; runs = run.1; heard = came_heard came; opened = so_far.opened };
      }

  -- the script asks for item k, which is then evaluated
  module _ {k : ℕ} {c : Value → Task} (is : rest s g ≡ asks k c) {ms₂ : List Mark} {r : Result Value Ring} (now_is : Evaluated d ms₁ ms₂ k r) where
    asked : Came d ms₂ (task_of s) (asks k c)
    asked = came_kept (settled_kept now_is.kept) (subst (Came d ms₁ (task_of s)) is so_far.came)

    kept_on : Kept (Below d (task_of s)) ms ms₂
    kept_on = kept_join so_far.kept (kept_more (λ j l. record { first = k; asked = asked.on k now; looked = l }) now_is.kept)

  module _ {k : ℕ} {c : Value → Task} (is : rest s g ≡ asks k c) {ms₂ : List Mark} where
    pub running_on : (v : Value) (g₁ : Registers) → Evaluated d ms₁ ms₂ k (Ok v) → rest s g₁ ≡ c v → Running d s ms ms₂ g₁
    running_on v g₁ valued on = record {
      sound = valued.sound;
      kept = kept_on is valued;
      opened = λ j e. so_far.opened j (valued.outcome.opened j e);
      came = subst (Came d ms₂ (task_of s)) (sym on) (came_answer (asked is valued) valued.outcome.makes valued.outcome.settled);
    }

    pub running_held : (r : Ring) → Evaluated d ms₁ ms₂ k (Err r) → Ran d ms ms₂ (task_of s) (Err r)
    running_held r held = record {
      sound = held.sound;
      kept = kept_on is held;
      outcome = record {
        held = came_held (asked is held) held.outcome.is_open;
        opened = λ j e. ⊎_elim (λ before. inl (so_far.opened j before)) inr (held.outcome.opened j e);
      };
    }
