-- How a store stands in its row: the count kept, the room, and then the entries. Assumes nothing: these are definitions.
use Rattle.std.specs.Prelude.{◌≡◌, ℕ, ◌+◌, ◌-◌, ◌*◌, ◌≤◌, List, [], ◌∷◌, ◌++◌, take, drop, replicate, slice_index, slice_set}
use Rattle.rows.specs.Rows.{chunks}
use Rattle.entry.specs.Entry.{Entry}
use Rattle.entry.specs.Layout.{entry_size}
use Rattle.entry.specs.Rows.{entry_in, entry_out}

abbrev pub count_of : List ℕ → ℕ
count_of rows = slice_index rows 0

abbrev pub room_of : List ℕ → ℕ
room_of rows = slice_index rows 1

-- where entry i begins
abbrev pub entry_at : ℕ → ℕ
entry_at i = 2 + entry_size * i

abbrev pub entries_in : List ℕ → List Entry
entries_in rows = chunks entry_in entry_size (count_of rows) (drop 2 rows)

-- the row with a new entry behind those that are kept; every other number stays
abbrev pub added : List ℕ → Entry → List ℕ
added rows e = slice_set (take (entry_at (count_of rows)) rows ++ (entry_out e ++ drop (entry_at (count_of rows + 1)) rows)) 0 (count_of rows + 1)

-- the row without entry i: the later ones move up, and the place that is freed holds 0
abbrev pub removed : List ℕ → ℕ → List ℕ
removed rows i =
    slice_set
    (take (entry_at i) rows
    ++ (take (entry_size * (count_of rows - 1 - i)) (drop (entry_at (i + 1)) rows) ++ (replicate entry_size 0 ++ drop (entry_at (count_of rows)) rows)))
    0 (count_of rows - 1)

abbrev pub without : {X : Type 0} → List X → ℕ → List X
without xs i = take i xs ++ drop (i + 1) xs

-- the store holds one entry more, at its end, and still no more than it has room for
pub record Grown (rows rows₁ : List ℕ) (e : Entry) : Type 0 where
  pub entries : entries_in rows₁ ≡ entries_in rows ++ e ∷ []
  pub room : room_of rows₁ ≡ room_of rows
  pub within : count_of rows₁ ≤ room_of rows₁

-- the store holds all but entry i, and no more than it has room for
pub record Shrunk (rows rows₁ : List ℕ) (i : ℕ) : Type 0 where
  pub entries : entries_in rows₁ ≡ without (entries_in rows) i
  pub room : room_of rows₁ ≡ room_of rows
  pub within : count_of rows₁ ≤ room_of rows₁
