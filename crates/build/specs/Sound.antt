-- When what the scratch of a build says of the items is right. Assumes nothing: these are definitions.
use Rattle.std.specs.Prelude.{◌≡◌, ℕ, ◌≤◌, ◌⊎◌, List, length, ◌≢◌}
use Rattle.std.specs.List.{AllByRecursion}
use Rattle.script.specs.Rule.{Script, Task, Value, asks, done, task_of}
use Rattle.entry.specs.Entry.{AllHonest, Entry}
use Rattle.entry.specs.Rows.{askings_in}
use Rattle.store.specs.Rows.{entries_in}
use Rattle.entry.specs.declared.asking.Asking.{Asking}
use Rattle.theory.specs.Along.{Along}
use Rattle.theory.specs.Build.{Saved}
use Rattle.theory.specs.Clean.{Asks, Reached}
use Rattle.theory.specs.Items.{Item, item, made, written}
use Rattle.items.specs.Rows.{items_in}
use Rattle.build.specs.Scratch.{state_of, unseen}
use Rattle.build.specs.declared.lent.Lent.{Lent}
use Rattle.build.specs.declared.scratch.Scratch.{Scratch}
use Rattle.build.specs.declared.scratch.State.TheVariants.{Found, Open, Ran, Unseen}

abbrev pub items_of : Lent → List Item
items_of x = items_in x.items.now

abbrev pub entries_of : Lent → List Entry
entries_of x = entries_in x.rows.now

-- an item on which nothing is left to do: written or not there, or known
pub data Settled (d : List Item) (σ : Scratch) (j : ℕ) : Type 0 where
  by_hand : {v : Value} → item d j ≡ written v → Settled d σ j
  by_entry : {v : Value} → state_of σ j ≡ Found v → Settled d σ j
  by_run : {v : Value} {row : List ℕ} → state_of σ j ≡ Ran v row → Settled d σ j

-- a task came along these right answers, all of settled items, to that task
pub record Walked (d : List Item) (σ : Scratch) (t : Task) (qs : List Asking) (u : Task) : Type 0 where
  pub along : Along d t qs u
  pub settled : AllByRecursion (λ q. Settled d σ q.item) qs

-- a task waits for an item that is open
pub record Held (d : List Item) (σ : Scratch) (t : Task) : Type 0 where
  pub asked : List Asking
  pub next : ℕ
  pub then : Value → Task
  pub walked : Walked d σ t asked (asks next then)
  pub still : state_of σ next ≡ Open

pub record Waiting (d : List Item) (σ : Scratch) (j : ℕ) : Type 0 where
  pub script : Script
  pub is_made : item d j ≡ made script
  pub held : Held d σ (task_of script)

-- an item is made, and its run has these askings and this value
pub record Known (d : List Item) (σ : Scratch) (j : ℕ) (qs : List Asking) (v : Value) : Type 0 where
  pub script : Script
  pub is_made : item d j ≡ made script
  pub walked : Walked d σ (task_of script) qs (done v)

pub record Sound (d : List Item) (es : List Entry) (σ : Scratch) : Type 0 where
  pub long : length d ≤ length σ.states
  pub found : (j : ℕ) (v : Value) → state_of σ j ≡ Found v → Saved d es j × ((qs : List Asking) × Known d σ j qs v)
  pub ran : (j : ℕ) (v : Value) (row : List ℕ) → state_of σ j ≡ Ran v row → (Saved d es j → ⊥) × Known d σ j (askings_in row) v

-- the entries are honest, the scratch is right, and there is depth for all items that were not seen
pub record Ready (d : List Item) (es : List Entry) (σ : Scratch) (depth : ℕ) : Type 0 where
  pub honest : AllHonest es
  pub sound : Sound d es σ
  pub deep : unseen (length d) σ ≤ depth

-- where that is so of what is lent
abbrev pub IfReady : Lent → Scratch → ℕ → (List Item → List Entry → Type 0) → Type 0
IfReady x σ depth P = Ready (items_of x) (entries_of x) σ depth → P (items_of x) (entries_of x)

-- an item that was seen stays as it was
pub record Later (σ σ₁ : Scratch) : Type 0 where
  pub stays : (j : ℕ) → (state_of σ j ≢ Unseen) → state_of σ₁ j ≡ state_of σ j

-- a sound scratch became another; what was seen on the way comes from somewhere
pub record Grown (d : List Item) (es : List Entry) (From : ℕ → Type 0) (σ σ₁ : Scratch) : Type 0 where
  pub later : Later σ σ₁
  pub sound : Sound d es σ₁
  pub new : (j : ℕ) → state_of σ j ≡ Unseen → (state_of σ₁ j ≡ Unseen) ⊎ From j

-- items that are looked at where a task runs
abbrev pub Looked : List Item → Task → ℕ → Type 0
Looked d t j = (m : ℕ) × Asks d t m × Reached d m j

-- nothing was opened for good
abbrev pub Closed : Scratch → Scratch → Type 0
Closed σ σ₁ = (j : ℕ) → state_of σ₁ j ≡ Open → state_of σ j ≡ Open

-- what was opened waits
abbrev pub Stopped : List Item → Scratch → Scratch → Type 0
Stopped d σ σ₁ = (j : ℕ) → state_of σ₁ j ≡ Open → (state_of σ j ≡ Open) ⊎ Waiting d σ₁ j

-- a part of the build came to its end over a sound scratch, or a ring ended it
pub record Went (d : List Item) (es : List Entry) (From : ℕ → Type 0) (σ σ₁ : Scratch) : Type 0 where
  pub grown : Grown d es From σ σ₁
  pub closed : Closed σ σ₁

pub record Ended (d : List Item) (es : List Entry) (From : ℕ → Type 0) (σ σ₁ : Scratch) : Type 0 where
  pub grown : Grown d es From σ σ₁
  pub stopped : Stopped d σ σ₁
