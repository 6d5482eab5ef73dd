-- Why a build is refused. Assumes nothing: these are definitions.
use Rattle.std.specs.Prelude.{ℕ, ◌+◌, cond, List, length, Some, None, Option, nat_lt}
use Rattle.script.specs.Allowed.{or_else}
use Rattle.script.specs.declared.refusal.Refusal.{Refusal}
use Rattle.script.specs.declared.refusal.Refusal.TheVariants.{ListTooShort, NoSuchItem}
use Rattle.store.specs.Faults.{store_fault}
use Rattle.items.specs.Rows.{items_in}

abbrev pub item_fault : ℕ → ℕ → Option Refusal
item_fault n k = cond (nat_lt k n) None (Some (NoSuchItem k))

-- a list of all items, with its length in front, has to find room
abbrev pub list_fault : ℕ → List ℕ → Option Refusal
list_fault n ran = cond (nat_lt (length ran) (n + 1)) (Some (ListTooShort (length ran))) None

-- no such item, then the store's own, then the list
abbrev pub build_fault : (items rows ran : List ℕ) → ℕ → Option Refusal
build_fault items rows ran k =
    or_else (item_fault (length (items_in items)) k) (or_else (store_fault rows) (list_fault (length (items_in items)) ran))
