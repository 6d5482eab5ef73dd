-- A house in its rows refuses as the house itself does. Assumes nothing.
use Rattle.std.proofs.Common.{◌≡◌, ℕ, ◌<◌, ◌≤◌, true, false, cond, ltb, List, length, drop, Some, None, sym, ap, ◌∙◌, ⊎_elim, arith}
use Rattle.std.proofs.lemmas.Bool.{cases_lt, cond-false, cond-true, le-ltb, lt-ltb}
use Rattle.std.proofs.lemmas.Bool.Decides.{nat_tests}
use Rattle.rows.proofs.Chunks.{length_chunks}
use Rattle.script.specs.declared.refusal.Refusal.TheVariants.{NoSuchItem, StoreFull, StoreOverfull, StoreTooShort}
use Rattle.entry.specs.Layout.{entry_size}
use Rattle.entry.specs.Rows.{entry_in}
use Rattle.store.specs.Faults as rows
use Rattle.store.specs.Rows.{count_of, entries_in, entry_at, room_of}
use Rattle.house.specs.DeskFaults.{desk_fault}
use Rattle.house.specs.Desks.{desk_size, has_desk}
use Rattle.house.specs.declared.size.HouseSize.{HouseSize}
use Rattle.days.specs.Faults.{full_fault, place_fault, store_fault}
use Rattle.days.specs.Rows.{Shaped, desk_at, desks_in, house_of}
use Rattle.days.proofs.Shape.{desk_here, desk_there, item_there}

pub kept_many : (rows : List ℕ) → length (entries_in rows) ≡ count_of rows
kept_many rows = length_chunks entry_in entry_size (count_of rows) (drop 2 rows)

pub desks_many : (z : HouseSize) (row : List ℕ) → length (desks_in z row) ≡ z.desks
desks_many z row = length_chunks (desk_at z) (desk_size z.items) z.desks row

module _ (z : HouseSize) (desks store ran : List ℕ) where
  pub store_alike : rows.store_fault store ≡ store_fault (house_of z desks store ran)
  store_alike = ap
      (λ n. cond (ltb (length store) (entry_at (room_of store))) (Some (StoreTooShort (length store))) (cond (ltb (room_of store) n) (Some (StoreOverfull n)) None))
      (sym (kept_many store))

  pub full_alike : rows.full_fault store ≡ full_fault (house_of z desks store ran)
  full_alike = ap (λ n. cond (ltb n (room_of store)) None (Some (StoreFull (room_of store)))) (sym (kept_many store))

  module _ (shaped : Shaped z desks) (x : ℕ) where
    there : x < z.desks → ltb x (length (desks_in z desks)) ≡ true
    there inside = lt-ltb x (length (desks_in z desks)) (omega (arith, desks_many z desks))

    not_there : z.desks ≤ x → ltb x (length (desks_in z desks)) ≡ false
    not_there past = le-ltb x (length (desks_in z desks)) (omega (arith, desks_many z desks))

    pub no_desk : z.desks ≤ x → has_desk z desks x ≡ false
    no_desk past = grind (arith, nat_tests)

    pub place_alike : (k : ℕ) → desk_fault z desks x k ≡ place_fault (house_of z desks store ran) x k
    place_alike k =
        ⊎_elim
        (λ inside.
        cond-true _ _ _ (desk_there z desks shaped x inside)
        ∙ ap (λ b. cond b None (Some (NoSuchItem k))) (item_there z desks shaped x inside k ∙ ap (λ d. ltb k (length d)) (sym (desk_here z desks shaped x inside)))
        ∙ sym (cond-true _ _ _ (there inside)))
        (λ past. cond-false _ _ _ (no_desk past) ∙ sym (cond-false _ _ _ (not_there past)))
        (cases_lt x z.desks)
