-- The rows of a new house: every item is written with 0, and the store holds nothing. Assumes nothing.
use Rattle.std.proofs.Common.{◌≡◌, ℕ, zero, suc, ◌+◌, ◌-◌, ◌*◌, List, ◌∷◌, ◌++◌, length, take, replicate, sym, refl, ap, ◌∙◌, mul-zero, mul-suc, arith}
use Rattle.std.specs.List.{flat_map}
use Rattle.std.proofs.lemmas.List.{drop_at, drop-replicate, length-append, length-replicate, take_all, take_at}
use Rattle.rows.specs.Rows.{chunks}
use Rattle.rows.proofs.Chunks.{chunks_none}
use Rattle.entry.specs.Layout.{entry_size}
use Rattle.entry.specs.Rows.{entry_in}
use Rattle.store.specs.Rows.{entry_at}
use Rattle.items.specs.Rows.{first_item, item_size, items_in}
use Rattle.theory.specs.Items.{written}
use Rattle.house.specs.Desks.{desk_size, new_desk, new_desks}
use Rattle.house.specs.declared.size.HouseSize.{HouseSize}
use Rattle.days.specs.House.{items_at, new_house}
use Rattle.days.specs.Rows.{Shaped, count_at, desk_at, desks_in, house_of}
use Rattle.days.proofs.Shape.{count_local, desk_local}

length_new : (items : ℕ) → length (new_desk items) ≡ desk_size items
length_new items = ap suc (length-replicate (item_size * items) 0) ∙ omega arith

-- equal pieces one behind the other are read alike
pieces : {X : Type 0} (read : List ℕ → X) (size : ℕ) → ((xs : List ℕ) → read xs ≡ read (take size xs)) → (piece : ℕ → List ℕ) (a : ℕ) → length (piece a) ≡ size → (n : ℕ) → chunks read size n (flat_map piece (replicate n a)) ≡ replicate n (read (piece a))
unfolding chunks
pieces read size local piece a long zero = refl
pieces read size local piece a long (suc n) =
    let rest = flat_map piece (replicate n a) in
    let first : read (piece a ++ rest) ≡ read (piece a) = local (piece a ++ rest) ∙ ap read (take_at (piece a) rest size long) in
    let later = ap (chunks read size n) (drop_at (piece a) rest size long) ∙ pieces read size local piece a long n in
    (λ i. first i ∷ later i)

joined_long : (items n : ℕ) → length (flat_map (λ m. new_desk m) (replicate n items)) ≡ desk_size items * n
joined_long items zero = sym (mul-zero (desk_size items))
joined_long items (suc n) =
    length-append (new_desk items) (flat_map (λ m. new_desk m) (replicate n items)) ∙ omega (arith, length_new items, joined_long items n, mul-suc (desk_size items) n)

-- a row of zeros holds items that are written with 0
zero_item : (m : ℕ) → first_item (replicate m 0) ≡ written 0
zero_item zero = refl
zero_item (suc zero) = refl
zero_item (suc (suc m)) = refl

zero_items : (n m : ℕ) → chunks first_item item_size n (replicate m 0) ≡ replicate n (written 0)
unfolding chunks
zero_items zero m = refl
zero_items (suc n) m =
    let later = ap (chunks first_item item_size n) (drop-replicate item_size m 0) ∙ zero_items n (m - item_size) in
    (λ i. zero_item m i ∷ later i)

module _ (z : HouseSize) where
  pub new_shape : Shaped z (new_desks z)
  new_shape = record {
    long = joined_long z.items z.desks;
    counts = pieces count_at (desk_size z.items) (count_local z) new_desk z.items (length_new z.items) z.desks;
  }

  new_items : desks_in z (new_desks z) ≡ replicate z.desks (replicate (items_at z) (written 0))
  new_items =
      pieces (desk_at z) (desk_size z.items) (desk_local z) new_desk z.items (length_new z.items) z.desks
      ∙ ap (λ d. replicate z.desks (items_in d)) (take_all (desk_size z.items) (new_desk z.items) (omega (arith, length_new z.items)))
      ∙ ap (replicate z.desks) (zero_items (items_at z) (item_size * z.items))

  pub new_rows : house_of z (new_desks z) (0 ∷ (z.room ∷ replicate (entry_size * z.room) 0)) (replicate (z.items + 1) 0) ≡ new_house z
  new_rows =
      let long : suc (suc (entry_size * z.room)) ≡ entry_at z.room = omega arith in
      (λ i. record {
        desks = new_items i;
        store = chunks_none entry_in entry_size (replicate (entry_size * z.room) 0) i;
        room = z.room;
        store_row = (ap (λ n. suc (suc n)) (length-replicate {A = ℕ} (entry_size * z.room) 0) ∙ long) i;
        list_row = length-replicate {A = ℕ} (z.items + 1) 0 i;
      })
