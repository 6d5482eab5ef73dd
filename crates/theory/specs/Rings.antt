-- Which items an item needs, and when it waits for another. Assumes nothing: these are definitions.
use Rattle.std.specs.Prelude.{◌≡◌, ℕ, List}
use Rattle.script.specs.Rule.{Script, task_of}
use Rattle.theory.specs.Clean.{Asks}
use Rattle.theory.specs.Items.{Item, item, made}

-- item j is asked for on the way to item i, by at least one asking; the askings before are answered with clean values
pub data Needs (d : List Item) (i : ℕ) : ℕ → Type 0 where
  directly : {j : ℕ} {s : Script} → item d i ≡ made s → Asks d (task_of s) j → Needs d i j
  by_way : {m j : ℕ} {s : Script} → Needs d i m → item d m ≡ made s → Asks d (task_of s) j → Needs d i j

-- some asking of item k, answered so far with clean values, is for an item of which P holds
pub record Stuck (d : List Item) (P : ℕ → Type 0) (k : ℕ) : Type 0 where
  pub script : Script
  pub next : ℕ
  pub is_made : item d k ≡ made script
  pub asked : Asks d (task_of script) next
  pub again : P next
