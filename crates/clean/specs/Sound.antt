-- What holds of the marks all through a build. Assumes nothing: these are definitions.
use Rattle.std.specs.Prelude.{◌≡◌, ℕ, ◌≤◌, List, length}
use Rattle.script.specs.Rule.{Script, Value, task_of}
use Rattle.theory.specs.Clean.{Asks, Makes}
use Rattle.theory.specs.Items.{Item, item, made}
use Rattle.clean.specs.Marks.{IsKnown, Settled, unseen}
use Rattle.clean.specs.declared.mark.Mark.{Mark}

-- item k comes to v by its script, and all that the script asks for is settled
pub record Finished (d : List Item) (ms : List Mark) (k : ℕ) (v : Value) : Type 0 where
  pub script : Script
  pub is_made : item d k ≡ made script
  pub makes : Makes d k v
  pub heard : (j : ℕ) → Asks d (task_of script) j → Settled d ms j

-- there is a mark for each item, and what is known is right
pub record Sound (d : List Item) (ms : List Mark) : Type 0 where
  pub room : length d ≤ length ms
  pub finished : (k : ℕ) (v : Value) → IsKnown ms k v → Finished d ms k v

-- no more items than the depth are unseen, so that it lasts
pub record Ready (d : List Item) (ms : List Mark) (depth : ℕ) : Type 0 where
  pub sound : Sound d ms
  pub deep : unseen (length d) ms ≤ depth
