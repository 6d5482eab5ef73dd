-- A house apart from where it lies in memory: its desks, the store, and how much room is lent. Assumes nothing: these are definitions.
use Rattle.std.specs.Prelude.{ℕ, ◌+◌, min, List, [], ◌∷◌, replicate, slice_index_or, slice_set}
use Rattle.entry.specs.Entry.{Entry}
use Rattle.items.specs.Rows.{max_items}
use Rattle.store.specs.Rows.{entry_at}
use Rattle.theory.specs.Items.{Item, written}
use Rattle.house.specs.declared.size.HouseSize.{HouseSize}

pub record House : Type 0 where
  pub desks : List (List Item)
  pub store : List Entry
  -- entries that the store has room for
  pub room : ℕ
  -- how many numbers the row has in which the store is lent
  pub store_row : ℕ
  -- and the row for the list of what ran
  pub list_row : ℕ

-- the items of desk x
abbrev pub desk : House → ℕ → List Item
desk h x = slice_index_or h.desks x []

-- at desk x, item k becomes this one
abbrev pub edited : House → ℕ → ℕ → Item → House
edited h x k i = record { desks = slice_set h.desks x (slice_set (desk h x) k i); store = h.store; room = h.room; store_row = h.store_row; list_row = h.list_row }

abbrev pub with_store : House → List Entry → House
with_store h es = record { desks = h.desks; store = es; room = h.room; store_row = h.store_row; list_row = h.list_row }

-- a house of one desk with these items and an empty store, lent as much room as this one
abbrev pub alone : House → List Item → House
alone h d = record { desks = d ∷ []; store = []; room = h.room; store_row = h.store_row; list_row = h.list_row }

-- how many items a desk of the house has; a count above 256 is read as 256
abbrev pub items_at : HouseSize → ℕ
items_at z = min z.items max_items

-- a house at the start: every item is written with 0, the store is empty, and there is as much room lent as it asks for
abbrev pub new_house : HouseSize → House
new_house z =
    record {
      desks = replicate z.desks (replicate (items_at z) (written 0));
      store = [];
      room = z.room;
      store_row = entry_at z.room;
      list_row = z.items + 1;
    }
