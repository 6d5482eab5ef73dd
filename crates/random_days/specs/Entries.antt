-- The entries of a store as numbers. Assumes nothing: this is a definition.
use Rattle.std.specs.Prelude.{ℕ, ◌*◌, List, take, drop}
use Rattle.entry.specs.Layout.{entry_size}
use Rattle.store.specs.Rows.{entry_at}

-- those of the first so many entries
abbrev pub first_entries : ℕ → List ℕ → List ℕ
first_entries n store = take (entry_size * n) (drop (entry_at 0) store)
