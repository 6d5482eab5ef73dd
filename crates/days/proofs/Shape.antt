-- The row of all desks: what is at each desk, and that its shape stays when a desk is written anew. Assumes nothing.
use Rattle.std.proofs.Common.{◌≡◌, ℕ, ◌+◌, ◌*◌, ◌<◌, ◌≤◌, min, true, ltb, List, [], ◌++◌, length, get_or, take, drop, set, replicate, sym, ap, ◌∙◌, ⊎_elim, mul-le-mul_left, mul-suc, add-one, arith}
use Rattle.std.proofs.lemmas.List.{get_or-replicate, get_or-take, length-append, length-drop, length-take-le, set-get_or, take_all, take-take}
use Rattle.std.proofs.lemmas.Bool.{cases_lt}
use Rattle.std.proofs.lemmas.Bool.Decides.{nat_tests}
use Rattle.rows.proofs.Chunks.{chunk_at}
use Rattle.rows.proofs.Counted.{count_in}
use Rattle.rows.proofs.Over.{chunks_over}
use Rattle.items.specs.Rows.{FittingItem, first_item, has_item, item_at, item_size, items_in, max_items, rewritten}
use Rattle.items.proofs.Rewritten.{counts, items_rewritten, length_rewritten}
use Rattle.theory.specs.Items.{Item}
use Rattle.house.specs.Desks.{desk_in, desk_part, desk_size, has_desk, with_desk}
use Rattle.house.specs.declared.size.HouseSize.{HouseSize}
use Rattle.days.specs.Rows.{Shaped, count_at, desk_at, desks_in}

set_replicate : {X : Type 0} (n i : ℕ) (a : X) → i < n → set (replicate n a) i a ≡ replicate n a
set_replicate n i a inside = ap (set (replicate n a) i) (sym (get_or-replicate n i a a inside)) ∙ set-get_or (replicate n a) i a

module _ (z : HouseSize) where
  pub desk_local : (xs : List ℕ) → desk_at z xs ≡ desk_at z (take (desk_size z.items) xs)
  desk_local xs = ap items_in (sym (take-take (desk_size z.items) (desk_size z.items) xs (omega arith)))

  pub count_local : (xs : List ℕ) → count_at xs ≡ count_at (take (desk_size z.items) xs)
  count_local xs = sym (get_or-take (desk_size z.items) xs 0 0 (omega arith))

  module _ (row : List ℕ) (shaped : Shaped z row) (x : ℕ) (there : x < z.desks) where
    -- the row has all the numbers of a desk of the house
    desk_fits : desk_size z.items * (x + 1) ≤ length row
    desk_fits = let less : x + 1 ≤ z.desks = omega arith in omega (arith, shaped.long, mul-le-mul_left (desk_size z.items) less)

    pub desk_here : get_or (desks_in z row) x [] ≡ desk_in z row x
    desk_here = chunk_at (desk_at z) (desk_size z.items) z.desks row x [] there

    next : desk_size z.items * (x + 1) ≡ desk_size z.items * x + desk_size z.items
    next = ap (λ m. desk_size z.items * m) (add-one x) ∙ mul-suc (desk_size z.items) x

    part_long : length (desk_part z row x) ≡ desk_size z.items
    part_long = length-take-le (desk_size z.items) _ (rw length-drop (omega (arith, desk_fits, next)))

    part_count : get_or (desk_part z row x) 0 0 ≡ z.items
    part_count =
        get_or-take (desk_size z.items) _ 0 0 (omega arith)
        ∙ sym (chunk_at count_at (desk_size z.items) z.desks row x 0 there)
        ∙ ap (λ cs. get_or cs x 0) shaped.counts ∙ get_or-replicate z.desks x z.items 0 there

    part_items : length (desk_in z row x) ≡ min z.items max_items
    part_items = count_in first_item item_size max_items (desk_part z row x) ∙ ap (λ n. min n max_items) part_count

    pub desk_there : has_desk z row x ≡ true
    desk_there = let fits = desk_fits in grind (arith, nat_tests)

    pub item_there : (k : ℕ) → has_item (desk_part z row x) k ≡ ltb k (length (desk_in z row x))
    item_there k =
        ⊎_elim
        (λ inside. let long : item_at (k + 1) ≤ length (desk_part z row x) = omega (arith, part_long, part_items) in grind (arith, nat_tests))
        (λ past. grind (arith, nat_tests))
        (cases_lt k (length (desk_in z row x)))

    module _ (part : List ℕ) (long : length part ≡ desk_size z.items) where
      -- the desk is the new one, and the others stay
      pub desks_with : desks_in z (with_desk z row x part) ≡ set (desks_in z row) x (items_in part)
      desks_with =
          chunks_over (desk_at z) (desk_size z.items) desk_local z.desks x row part there desk_fits long
          ∙ ap (λ xs. set (desks_in z row) x (items_in xs)) (take_all (desk_size z.items) part (omega arith))

      pub shape_with : get_or part 0 0 ≡ z.items → Shaped z (with_desk z row x part)
      shape_with same = record {
        long =
            let rest = drop (desk_size z.items * (x + 1)) row in
            length-append (take (desk_size z.items * x) row) (part ++ rest)
            ∙ omega (arith, length-take-le (desk_size z.items * x) row (omega (arith, desk_fits, next)), length-append part rest, long, length-drop (desk_size z.items * (x + 1)) row, next, desk_fits, shaped.long);
        counts =
            chunks_over count_at (desk_size z.items) count_local z.desks x row part there desk_fits long
            ∙ (λ i. set (shaped.counts i) x (same i)) ∙ set_replicate z.desks x z.items there;
      }

    module _ (k : ℕ) (i : Item) (inside : k < length (desk_in z row x)) (small : FittingItem i) where
      item_fits : item_at (k + 1) ≤ length (desk_part z row x)
      item_fits = omega (arith, part_long, part_items)

      -- an item of the desk is written anew: it is set, and everything else stays
      pub desks_rewritten : desks_in z (with_desk z row x (rewritten (desk_part z row x) k i)) ≡ set (desks_in z row) x (set (get_or (desks_in z row) x []) k i)
      desks_rewritten =
          let part = desk_part z row x in
          desks_with (rewritten part k i) (length_rewritten part k i inside item_fits small ∙ part_long)
          ∙ ap (set (desks_in z row) x) (items_rewritten part k i inside item_fits small ∙ ap (λ d. set d k i) (sym desk_here))

      pub shape_rewritten : Shaped z (with_desk z row x (rewritten (desk_part z row x) k i))
      shape_rewritten =
          let part = desk_part z row x in
          shape_with (rewritten part k i) (length_rewritten part k i inside item_fits small ∙ part_long) (counts part k i inside item_fits small ∙ part_count)
