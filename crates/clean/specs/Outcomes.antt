-- What evaluating an item, and running a script, does to the marks. Assumes nothing: these are definitions.
use Rattle.std.specs.Prelude.{◌≡◌, ℕ, ◌≤◌, ◌⊎◌, List, Ok, Err, Result}
use Rattle.script.specs.Rule.{Script, Task, Value, task_of}
use Rattle.entry.specs.declared.asking.Asking.{Asking}
use Rattle.items.specs.declared.ring.Ring.{Ring}
use Rattle.theory.specs.Clean.{Asks, Makes, Reached, Runs}
use Rattle.theory.specs.Items.{Item, item, made}
use Rattle.clean.specs.Marks.{IsKnown, IsOpen, Seen, Settled, unseen}
use Rattle.clean.specs.Sound.{Sound}
use Rattle.clean.specs.declared.mark.Mark.{Mark}

-- item k is looked at from an item that the task asks for
pub record Below (d : List Item) (t : Task) (k : ℕ) : Type 0 where
  pub first : ℕ
  pub asked : Asks d t first
  pub looked : Reached d first k

-- known and open items stay so, and of what is known newly P holds
pub record Kept (P : ℕ → Type 0) (ms ms₁ : List Mark) : Type 0 where
  pub known : (k : ℕ) (v : Value) → IsKnown ms k v → IsKnown ms₁ k v
  pub open_still : (k : ℕ) → IsOpen ms k → IsOpen ms₁ k
  pub fewer : (n : ℕ) → unseen n ms₁ ≤ unseen n ms
  pub new : (k : ℕ) (v : Value) → IsKnown ms₁ k v → IsKnown ms k v ⊎ P k

-- the task asks for an open item, and all that it asks for before is settled, so that nothing else is looked at if that item has no value
pub record Held (d : List Item) (ms : List Mark) (t : Task) : Type 0 where
  pub next : ℕ
  pub asked : Asks d t next
  pub is_open : IsOpen ms next
  pub heard : ((v : Value) → Makes d next v → ⊥) → (j : ℕ) → Asks d t j → Seen d ms j

pub record Waits (d : List Item) (ms : List Mark) (k : ℕ) : Type 0 where
  pub script : Script
  pub is_made : item d k ≡ made script
  pub held : Held d ms (task_of script)

abbrev pub NoneOpened : List Mark → List Mark → Type 0
NoneOpened ms ms₁ = (k : ℕ) → IsOpen ms₁ k → IsOpen ms k

-- every item that is open now and was not before waits for an open item
abbrev pub OpenedWait : List Item → List Mark → List Mark → Type 0
OpenedWait d ms ms₁ = (k : ℕ) → IsOpen ms₁ k → IsOpen ms k ⊎ Waits d ms₁ k

pub record ItemValued (d : List Item) (ms ms₁ : List Mark) (k : ℕ) (v : Value) : Type 0 where
  pub makes : Makes d k v
  pub settled : Settled d ms₁ k
  pub opened : NoneOpened ms ms₁

pub record ItemHeld (d : List Item) (ms ms₁ : List Mark) (k : ℕ) : Type 0 where
  pub is_open : IsOpen ms₁ k
  pub opened : OpenedWait d ms ms₁

abbrev pub ItemOut : List Item → List Mark → List Mark → ℕ → Result Value Ring → Type 0
ItemOut d ms ms₁ k (Ok v) = ItemValued d ms ms₁ k v
ItemOut d ms ms₁ k (Err r) = ItemHeld d ms ms₁ k

pub record RunEnded (d : List Item) (ms ms₁ : List Mark) (t : Task) (v : Value) : Type 0 where
  pub askings : List Asking
  pub runs : Runs d t askings v
  pub heard : (j : ℕ) → Asks d t j → Settled d ms₁ j
  pub opened : NoneOpened ms ms₁

pub record RunHeld (d : List Item) (ms ms₁ : List Mark) (t : Task) : Type 0 where
  pub held : Held d ms₁ t
  pub opened : OpenedWait d ms ms₁

abbrev pub RunOut : List Item → List Mark → List Mark → Task → Result Value Ring → Type 0
RunOut d ms ms₁ t (Ok v) = RunEnded d ms ms₁ t v
RunOut d ms ms₁ t (Err r) = RunHeld d ms ms₁ t

-- item k was evaluated, and r came out
pub record Evaluated (d : List Item) (ms ms₁ : List Mark) (k : ℕ) (r : Result Value Ring) : Type 0 where
  pub sound : Sound d ms₁
  pub kept : Kept (Reached d k) ms ms₁
  pub outcome : ItemOut d ms ms₁ k r

-- task t was run, and r came out
pub record Ran (d : List Item) (ms ms₁ : List Mark) (t : Task) (r : Result Value Ring) : Type 0 where
  pub sound : Sound d ms₁
  pub kept : Kept (Below d t) ms ms₁
  pub outcome : RunOut d ms ms₁ t r
