-- What a build of one item promises of its answer and of the rows that are lent. Assumes nothing: these are definitions.
use Rattle.std.specs.Prelude.{◌≡◌, ℕ, ◌+◌, ◌-◌, ◌*◌, ◌<◌, ◌≤◌, min, List, ◌++◌, length, take, drop, Some, None, Option}
use Rattle.script.specs.declared.refusal.Refusal.{Refusal}
use Rattle.entry.specs.Entry.{AllHonest, Entry}
use Rattle.entry.specs.Layout.{entry_size}
use Rattle.store.specs.Rows.{count_of, entries_in, entry_at, room_of}
use Rattle.theory.specs.Build.{Built, In, Rising}
use Rattle.theory.specs.Clean.{Out, ring, value}
use Rattle.items.specs.Rows.{items_in}
use Rattle.build.specs.Faults.{build_fault}
use Rattle.build.specs.Leaves.{added_all, told}
use Rattle.build.specs.declared.building.Answer.{Answer}
use Rattle.build.specs.declared.building.Answer.TheVariants.{Refused, Ring, Value}

abbrev pub says : Out → Answer
says (value v) = Value v
says ring = Ring

-- the room and the numbers of the first n entries
abbrev pub old_part : ℕ → List ℕ → List ℕ
old_part n rows = take (1 + entry_size * n) (drop 1 rows)

-- a store's row with new entries behind its own, as many as there is room for
pub record Stored (rows : List ℕ) (new : List Entry) (rows₁ : List ℕ) : Type 0 where
  pub row : rows₁ ≡ added_all rows (take (room_of rows - count_of rows) new)
  pub entries : entries_in rows₁ ≡ entries_in rows ++ take (room_of rows - count_of rows) new
  pub long : length rows₁ ≡ length rows
  pub room : room_of rows₁ ≡ room_of rows
  pub count : count_of rows₁ ≡ count_of rows + min (room_of rows - count_of rows) (length new)
  pub within : count_of rows₁ ≤ room_of rows₁
  pub old : old_part (count_of rows) rows₁ ≡ old_part (count_of rows) rows
  pub past : drop (entry_at (count_of rows₁)) rows₁ ≡ drop (entry_at (count_of rows₁)) rows

-- a list of some items of a desk with n of them, by rising number
pub record Listed (n : ℕ) (ran list ran₁ : List ℕ) : Type 0 where
  pub row : ran₁ ≡ told ran list
  pub rising : Rising list
  pub below : (j : ℕ) → In j list → j < n

-- a build that is not refused: it tells a value or a ring, and lists and leaves the entries of its runs;
-- over an honest store all three are those of the definition of a build
pub record WentSo (items rows ran : List ℕ) (k : ℕ) (r : Answer) (rows₁ ran₁ : List ℕ) : Type 0 where
  pub out : Out
  pub list : List ℕ
  pub new : List Entry
  pub said : r ≡ says out
  pub listed : Listed (length (items_in items)) ran list ran₁
  pub many : length new ≡ length list
  pub stored : Stored rows new rows₁
  pub built : AllHonest (entries_in rows) → Built (items_in items) (entries_in rows) (room_of rows) k out list (entries_in rows₁)
  pub these : (h : AllHonest (entries_in rows)) → (built h).new ≡ new

abbrev pub ByFault : Option Refusal → (items rows ran : List ℕ) → ℕ → Answer → (rows₁ ran₁ : List ℕ) → Type 0
ByFault (Some f) items rows ran k r rows₁ ran₁ = (r ≡ Refused f) × (rows₁ ≡ rows) × (ran₁ ≡ ran)
ByFault None items rows ran k r rows₁ ran₁ = WentSo items rows ran k r rows₁ ran₁

-- a refusal leaves everything as it was
abbrev pub BuiltSo : (items rows ran : List ℕ) → ℕ → Answer → (rows₁ ran₁ : List ℕ) → Type 0
BuiltSo items rows ran k r rows₁ ran₁ = ByFault (build_fault items rows ran k) items rows ran k r rows₁ ran₁
