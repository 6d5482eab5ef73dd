-- The items of a row in which one is written anew: that one is set, and the others stay. Assumes nothing.
use Rattle.std.proofs.Common.{◌≡◌, ℕ, ◌+◌, ◌*◌, ◌<◌, ◌≤◌, min, cond, eqb, List, [], ◌++◌, length, get_or, take, drop, set, sym, refl, ap, ◌∙◌, arith}
use Rattle.std.proofs.lemmas.List.{append-nil, drop-append-le, drop-drop, drop-take, get_or_append_left, get_or-take, length-append, length-drop, length-take-le}
use Rattle.rows.specs.Rows.{chunks}
use Rattle.rows.proofs.Counted.{count_in}
use Rattle.rows.proofs.Over.{chunks_over}
use Rattle.script.specs.Layout.{script_size}
use Rattle.script.specs.Rows.{script_in, script_out}
use Rattle.script.proofs.Lines.{length_script_out, script_back, script_take}
use Rattle.theory.specs.Items.{Item, made, written}
use Rattle.items.specs.Rows.{FittingItem, first_item, item_at, item_out, item_size, items_in, max_items, rewritten}

first_local : (xs : List ℕ) → first_item xs ≡ first_item (take item_size xs)
first_local xs =
    let kind = sym (get_or-take item_size xs 0 0 (omega arith)) in
    let value = sym (get_or-take item_size xs 1 0 (omega arith)) in
    let script = script_take script_size (drop 1 xs) (omega arith) ∙ ap script_in (sym (drop-take 1 script_size xs)) in
    λ i. cond (eqb (kind i) 0) (written (value i)) (made (script i))

item_back : (i : Item) → FittingItem i → first_item (item_out i) ≡ i
item_back (written v) fits = refl
item_back (made s) fits = ap made (ap script_in (sym (append-nil (script_out s))) ∙ script_back s [] fits)

length_item : (i : Item) → FittingItem i → length (item_out i) ≡ item_size
length_item (written v) fits = refl
length_item (made s) fits = omega (arith, length_script_out s fits)

module _ (row : List ℕ) (k : ℕ) (i : Item) (inside : k < length (items_in row)) (fits : item_at (k + 1) ≤ length row) (small : FittingItem i) where
  -- behind the count the row is as its items are written over one of them
  behind : drop 1 (rewritten row k i) ≡ take (item_size * k) (drop 1 row) ++ (item_out i ++ drop (item_size * (k + 1)) (drop 1 row))
  behind =
      let front : length (take (item_at k) row) ≡ item_at k = length-take-le (item_at k) row (omega arith) in
      drop-append-le 1 (take (item_at k) row) _ (omega arith)
      ∙ (λ j. drop-take 1 (item_size * k) row j ++ (item_out i ++ sym (drop-drop (item_size * (k + 1)) 1 row) j))

  pub counts : get_or (rewritten row k i) 0 0 ≡ get_or row 0 0
  counts =
      let front : length (take (item_at k) row) ≡ item_at k = length-take-le (item_at k) row (omega arith) in
      get_or_append_left (take (item_at k) row) _ 0 0 (omega arith) ∙ get_or-take (item_at k) row 0 0 (omega arith)

  pub length_rewritten : length (rewritten row k i) ≡ length row
  length_rewritten =
      let rest = drop (item_at (k + 1)) row in
      length-append (take (item_at k) row) (item_out i ++ rest)
      ∙ omega (arith, length-take-le (item_at k) row (omega arith), length-append (item_out i) rest, length_item i small, length-drop (item_at (k + 1)) row)

  pub items_rewritten : items_in (rewritten row k i) ≡ set (items_in row) k i
  items_rewritten =
      let few : k < min (get_or row 0 0) max_items = rw (count_in first_item item_size max_items row) at inside in
      let long : item_size * (k + 1) ≤ length (drop 1 row) = rw length-drop (omega arith) in
      (λ j. chunks first_item item_size (min (counts j) max_items) (behind j))
      ∙ chunks_over first_item item_size first_local (min (get_or row 0 0) max_items) k (drop 1 row) (item_out i) few long (length_item i small)
      ∙ ap (set (items_in row) k) (item_back i small)
