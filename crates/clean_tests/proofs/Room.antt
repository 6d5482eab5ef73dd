-- A list of 257 numbers has room for the items of any desk. Assumes nothing.
use Rattle.std.proofs.Common.{◌≡◌, ℕ, ◌+◌, List, length, nat_lt, None, arith}
use Rattle.std.proofs.lemmas.Bool.{cond-false, le-ltb}
use Rattle.rows.proofs.Counted.{count_in}
use Rattle.items.specs.Rows.{first_item, item_size, items_in, max_items}
use Rattle.clean.specs.Builds.{list_fault}

pub has_room : (xs row : List ℕ) → length row ≡ 257 → list_fault (items_in xs) row ≡ None
has_room xs row long =
    cond-false (nat_lt (length row) (1 + length (items_in xs))) _ _ (le-ltb (length row) (1 + length (items_in xs)) (rw (count_in first_item item_size max_items xs) (omega (arith, long))))
