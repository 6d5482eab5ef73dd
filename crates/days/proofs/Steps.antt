-- A command that is performed in the rows goes as it goes in the house. Assumes nothing.
use Rattle.std.proofs.Common.{◌≡◌, ℕ, ◌<◌, ◌≤◌, cond, ltb, List, map, length, Some, None, Option, sym, refl, ap, ◌∙◌, subst, arith}
use Rattle.std.specs.Option.{option_map}
use Rattle.std.proofs.lemmas.List.{length-map}
use Rattle.std.proofs.lemmas.Bool.Decides.{nat_tests}
use Rattle.script.specs.Allowed.{counted_as, or_else, script_fault}
use Rattle.script.specs.Layout.{max_askings, max_lines}
use Rattle.script.specs.Rule.{Value}
use Rattle.script.specs.declared.refusal.Refusal.{Refusal}
use Rattle.script.specs.declared.refusal.Refusal.TheVariants.{NoSuchEntry, NotHonest}
use Rattle.script.specs.declared.source.SourceLine.{SourceLine}
use Rattle.entry.specs.Entry.{Entry}
use Rattle.entry.specs.Replay.{difference}
use Rattle.entry.specs.Rows.{Fitting, entry_of}
use Rattle.entry.specs.declared.asking.Asking.{Asking}
use Rattle.store.specs.Faults.{add_fault, remove_fault}
use Rattle.store.specs.Rows.{added, entries_in, removed, room_of}
use Rattle.store.proofs.Grows.{grown, grown_long, second_none, shrunk, shrunk_long}
use Rattle.items.specs.Rows.{FittingItem, rewritten}
use Rattle.theory.specs.Items.{Item, made, written}
use Rattle.house.specs.Deeds.{Deed, bring, forget, give, write}
use Rattle.house.specs.DeskFaults.{desk_fault, script_at_fault}
use Rattle.house.specs.Desks.{desk_in, desk_part, with_desk}
use Rattle.house.specs.Faults.{askings_fault, bring_fault}
use Rattle.house.specs.Performed.{DeskChanged, PerformedSo, StoreChanged}
use Rattle.house.specs.declared.perform.Told as perform
use Rattle.house.specs.declared.size.HouseSize.{HouseSize}
use Rattle.days.specs.Faults.{deed_fault, full_fault, place_fault, store_fault}
use Rattle.days.specs.Goes.{Goes, brings, fine, forgets, gives, refuses, writes}
use Rattle.days.specs.House.{desk, edited, with_store}
use Rattle.days.specs.Rows.{Shaped, desks_in, house_of, told_in}
use Rattle.days.proofs.Alike.{desks_many, full_alike, kept_many, place_alike, store_alike}
use Rattle.days.proofs.Kept.{first_none}
use Rattle.days.proofs.Shape.{desk_here, desks_rewritten, shape_rewritten}

-- a command went in the rows as in the house, and the desks keep their shape
pub record Stepped (z : HouseSize) (d : Deed) (desks rows ran : List ℕ) (r : perform.Told) (desks₁ rows₁ ran₁ : List ℕ) : Type 0 where
  pub goes : Goes (house_of z desks rows ran) d (told_in r ran₁) (house_of z desks₁ rows₁ ran₁)
  pub shape : Shaped z desks₁

-- a script without a fault is no longer than a script may be
few_lines : (ls : List SourceLine) → script_fault ls ≡ None → length (map counted_as ls) ≤ max_lines
few_lines ls none = let few : length ls ≤ max_lines = grind (arith, nat_tests) in omega (arith, length-map ls counted_as)

-- an entry that is let in fits its place, and there is room for it
let_in : (rows : List ℕ) (ls : List SourceLine) (qs : List Asking) (v : Value) → bring_fault rows ls qs v ≡ None → Fitting (entry_of ls qs v) × (add_fault rows ≡ None)
let_in rows ls qs v none =
    let past_lines = second_none (script_fault ls) _ none in
    let past_askings = second_none (askings_fault qs) _ past_lines in
    let few : length qs ≤ max_askings = let fine = first_none (askings_fault qs) _ past_lines in grind (arith, nat_tests) in
    ((few_lines ls (first_none (script_fault ls) _ none), few), second_none (option_map NotHonest (difference (entry_of ls qs v))) _ past_askings)

module _ (z : HouseSize) (desks rows ran : List ℕ) (shaped : Shaped z desks) where
  -- an item that is there is written anew
  module _ (x k : ℕ) (i : Item) (place : place_fault (house_of z desks rows ran) x k ≡ None) (small : FittingItem i) where
    inside : (x < z.desks) × (k < length (desk (house_of z desks rows ran) x))
    inside = let many = desks_many z desks in grind (arith, nat_tests)

    item_inside : k < length (desk_in z desks x)
    item_inside = subst (λ d. k < length d) (desk_here z desks shaped x inside.0) inside.1

    after_edit : house_of z (with_desk z desks x (rewritten (desk_part z desks x) k i)) rows ran ≡ edited (house_of z desks rows ran) x k i
    after_edit = ap
        (λ ds. record { desks = ds; store = entries_in rows; room = room_of rows; store_row = length rows; list_row = length ran })
        (desks_rewritten z desks shaped x inside.0 k i item_inside small)

    edit_shape : Shaped z (with_desk z desks x (rewritten (desk_part z desks x) k i))
    edit_shape = shape_rewritten z desks shaped x inside.0 k i item_inside small

  module _ (d : Deed) (x k : ℕ) (i : Item) {r : perform.Told} {desks₁ rows₁ ran₁ : List ℕ} where
    changed : (fault : Option Refusal) → deed_fault (house_of z desks rows ran) d ≡ fault → (fault ≡ None → (place_fault (house_of z desks rows ran) x k ≡ None) × FittingItem i × Goes (house_of z desks rows ran) d fine (edited (house_of z desks rows ran) x k i)) → DeskChanged z x fault (rewritten (desk_part z desks x) k i) desks rows ran r desks₁ rows₁ ran₁ → Stepped z d desks rows ran r desks₁ rows₁ ran₁
    changed None e how c =
        let so = how refl in
        rw (c.tells, c.at_desks, c.at_store, c.at_list) (record {
          goes = subst (Goes (house_of z desks rows ran) d fine) (sym (after_edit x k i so.0 so.1)) so.2;
          shape = edit_shape x k i so.0 so.1;
        })
    changed (Some f) e how c = rw (c.tells, c.at_desks, c.at_store, c.at_list) (record { goes = refuses e; shape = shaped })

  pub write_goes : (x k : ℕ) (v : Value) {r : perform.Told} {desks₁ rows₁ ran₁ : List ℕ} → PerformedSo z (write x k v) desks rows ran r desks₁ rows₁ ran₁ → Stepped z (write x k v) desks rows ran r desks₁ rows₁ ran₁
  write_goes x k v c =
      let alike = place_alike z desks rows ran shaped x k in
      changed (write x k v) x k (written v) (desk_fault z desks x k) (sym alike) (λ none. (sym alike ∙ none, tt, writes (sym alike ∙ none))) c

  pub give_goes : (x k : ℕ) (ls : List SourceLine) {r : perform.Told} {desks₁ rows₁ ran₁ : List ℕ} → PerformedSo z (give x k ls) desks rows ran r desks₁ rows₁ ran₁ → Stepped z (give x k ls) desks rows ran r desks₁ rows₁ ran₁
  give_goes x k ls c =
      let place = place_alike z desks rows ran shaped x k in
      let alike : script_at_fault z desks x k ls ≡ deed_fault (house_of z desks rows ran) (give x k ls) = ap (λ f. or_else f (script_fault ls)) place in
      changed (give x k ls) x k (made (map counted_as ls)) (script_at_fault z desks x k ls) (sym alike)
      (λ none. (sym place ∙ first_none _ (script_fault ls) none, few_lines ls (second_none (desk_fault z desks x k) _ none), gives (sym alike ∙ none))) c

  -- the store changes, and the desks and the list stay
  module _ (d : Deed) (after : List ℕ) {r : perform.Told} {desks₁ rows₁ ran₁ : List ℕ} where
    stored : (fault : Option Refusal) → deed_fault (house_of z desks rows ran) d ≡ fault → (fault ≡ None → Goes (house_of z desks rows ran) d fine (house_of z desks after ran)) → StoreChanged fault after desks rows ran r desks₁ rows₁ ran₁ → Stepped z d desks rows ran r desks₁ rows₁ ran₁
    stored None e how c = rw (c.tells, c.at_desks, c.at_store, c.at_list) (record { goes = how refl; shape = shaped })
    stored (Some f) e how c = rw (c.tells, c.at_desks, c.at_store, c.at_list) (record { goes = refuses e; shape = shaped })

  -- the house of rows in which only the entries and the list changed
  pub restocked : (rows₁ ran₁ : List ℕ) (es : List Entry) → entries_in rows₁ ≡ es → length rows₁ ≡ length rows → room_of rows₁ ≡ room_of rows → length ran₁ ≡ length ran → with_store (house_of z desks rows ran) es ≡ house_of z desks rows₁ ran₁
  restocked rows₁ ran₁ es entries long room list = (λ i. record { desks = desks_in z desks; store = sym entries i; room = sym room i; store_row = sym long i; list_row = sym list i })

  pub forget_goes : (i : ℕ) {r : perform.Told} {desks₁ rows₁ ran₁ : List ℕ} → PerformedSo z (forget i) desks rows ran r desks₁ rows₁ ran₁ → Stepped z (forget i) desks rows ran r desks₁ rows₁ ran₁
  forget_goes i c =
      let alike : remove_fault rows i ≡ deed_fault (house_of z desks rows ran) (forget i) =
      (λ j. cond (ltb i (sym (kept_many rows) j)) (store_alike z desks rows ran j) (Some (NoSuchEntry i))) in
      stored (forget i) (removed rows i) (remove_fault rows i) (sym alike)
      (λ none.
      let s = shrunk rows i none in
      subst (Goes (house_of z desks rows ran) (forget i) fine) (restocked (removed rows i) ran _ s.entries (shrunk_long rows i none) s.room refl) (forgets (sym alike ∙ none))) c

  pub bring_goes : (ls : List SourceLine) (qs : List Asking) (v : Value) {r : perform.Told} {desks₁ rows₁ ran₁ : List ℕ} → PerformedSo z (bring ls qs v) desks rows ran r desks₁ rows₁ ran₁ → Stepped z (bring ls qs v) desks rows ran r desks₁ rows₁ ran₁
  bring_goes ls qs v c =
      let e = entry_of ls qs v in
      let differing = option_map NotHonest (difference e) in
      let room : add_fault rows ≡ or_else (full_fault (house_of z desks rows ran)) (store_fault (house_of z desks rows ran)) =
      (λ j. or_else (full_alike z desks rows ran j) (store_alike z desks rows ran j)) in
      let alike : bring_fault rows ls qs v ≡ deed_fault (house_of z desks rows ran) (bring ls qs v) = ap (λ f. or_else (script_fault ls) (or_else (askings_fault qs) (or_else differing f))) room in
      stored (bring ls qs v) (added rows e) (bring_fault rows ls qs v) (sym alike)
      (λ none.
      let fits = let_in rows ls qs v none in
      let s = grown rows e fits.0 fits.1 in
      subst (Goes (house_of z desks rows ran) (bring ls qs v) fine) (restocked (added rows e) ran _ s.entries (grown_long rows e fits.0 fits.1) s.room refl) (brings (sym alike ∙ none))) c
