-- How the items of a desk stand in their row. Assumes nothing: these are definitions.
use Rattle.std.specs.Prelude.{◌≡◌, ℕ, ◌+◌, ◌-◌, ◌*◌, ◌≤◌, Bool, cond, ◌&&◌, List, ◌∷◌, ◌++◌, length, take, drop, replicate, ◌==◌, nat_le, nat_lt, slice_index}
use Rattle.rows.specs.Rows.{counted}
use Rattle.script.specs.Layout.{max_lines, script_size}
use Rattle.script.specs.Rows.{script_in, script_out}
use Rattle.theory.specs.Items as theory
use Rattle.items.specs.declared.Item as code
use Rattle.items.specs.declared.Item.TheVariants.{Made, Written}

abbrev pub item_size : ℕ
item_size = 130

abbrev pub max_items : ℕ
max_items = 256

-- 0 and a value, or another number and a script
abbrev pub first_item : List ℕ → theory.Item
first_item xs = cond (slice_index xs 0 == 0) (theory.written (slice_index xs 1)) (theory.made (script_in (drop 1 xs)))

-- a count of items, of which one above 256 is read as 256, and the items
abbrev pub items_in : List ℕ → List theory.Item
items_in xs = counted first_item item_size max_items xs

-- what is read of an item stands for this one
abbrev pub StandsFor : theory.Item → code.Item → Type 0
StandsFor i (Written v) = i ≡ theory.written v
StandsFor i (Made row) = i ≡ theory.made (script_in row.now)

abbrev pub ReadsFirst : List ℕ → code.Item → Type 0
ReadsFirst xs r = StandsFor (first_item xs) r

abbrev pub ReadsItem : List theory.Item → ℕ → code.Item → Type 0
ReadsItem d k r = StandsFor (theory.item d k) r

-- how an item is written down
abbrev pub item_out : theory.Item → List ℕ
item_out (theory.written v) = 0 ∷ v ∷ replicate (script_size - 1) 0
item_out (theory.made s) = 1 ∷ script_out s

-- a script that is no longer than a script may be
abbrev pub FittingItem : theory.Item → Type 0
FittingItem (theory.written v) = Unit {0}
FittingItem (theory.made s) = length s ≤ max_lines

-- where item k begins
abbrev pub item_at : ℕ → ℕ
item_at k = 1 + item_size * k

-- the row with item k written anew; every other number stays
abbrev pub rewritten : List ℕ → ℕ → theory.Item → List ℕ
rewritten row k i = take (item_at k) row ++ (item_out i ++ drop (item_at (k + 1)) row)

-- an item is rewritten if the row has it, all its numbers too, and nothing changes otherwise
abbrev pub has_item : List ℕ → ℕ → Bool
has_item row k = nat_lt k (length (items_in row)) && nat_le (item_at (k + 1)) (length row)
