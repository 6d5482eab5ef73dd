-- What is remembered of one run of a script, and when it is believed. Assumes nothing: these are definitions.
use Rattle.std.specs.Prelude.{◌≡◌, ℕ, ◌<◌, Bool, true, false, ◌&&◌, List, [], ◌∷◌, length, ◌==◌, slice_index_or}
use Rattle.script.specs.Rule.{Script, Task, Value, asks, done, task_of}
use Rattle.entry.specs.declared.asking.Asking.{Asking}

-- the script, what it asked for and was answered, in order, and what it gave
pub record Entry : Type 0 where
  pub script : Script
  pub asked : List Asking
  pub result : Value

abbrev pub no_asking : Asking
no_asking = record { item = 0; answer = 0 }

abbrev pub no_entry : Entry
no_entry = record { script = []; asked = []; result = 0 }

-- a task that is answered so asks exactly this and gives that
unfoldable pub replays : Task → List Asking → Value → Bool
replays (done v) [] w = v == w
replays (done v) (q ∷ qs) w = false
replays (asks k c) [] w = false
replays (asks k c) (q ∷ qs) w = k == q.item && replays (c q.answer) qs w

-- the script, run again on nothing but these answers, asks for exactly these items and gives this result
unfoldable pub Honest : Entry → Type 0
Honest e = replays (task_of e.script) e.asked e.result ≡ true

unfoldable pub AllHonest : List Entry → Type 0
AllHonest es = (i : ℕ) → i < length es → Honest (slice_index_or es i no_entry)
