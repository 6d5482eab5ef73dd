-- The list of what a build ran, as it stands in its row. Assumes nothing: these are definitions.
use Rattle.std.specs.Prelude.{ℕ, ◌+◌, ◌-◌, ◌^◌, List, length, min, take, drop, slice_index}
use Rattle.store.specs.Rows.{count_of}

-- behind its length
abbrev pub list_of : List ℕ → List ℕ
list_of ran = take (slice_index ran 0) (drop 1 ran)

-- how many entries a store has if a build over it keeps all that it lists, as far as 64 bits can say
abbrev pub due_of : (store ran : List ℕ) → ℕ
due_of store ran = min (count_of store + length (list_of ran)) (2 ^ 64 - 1)
