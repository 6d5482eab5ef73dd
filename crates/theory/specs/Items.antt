-- The items of a desk. Assumes nothing: these are definitions.
use Rattle.std.specs.Prelude.{ℕ, List, slice_index_or}
use Rattle.script.specs.Rule.{Script, Value}

-- an item holds a value that somebody wrote, or is made by a script
pub data Item : Type 0 where
  written : Value → Item
  made : Script → Item

-- an item that is not there counts as written with 0
abbrev pub item : List Item → ℕ → Item
item d k = slice_index_or d k (written 0)
