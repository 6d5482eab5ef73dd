-- A list of commands in the rows of a new house is a whole day from an empty store. Assumes nothing.
use Rattle.std.proofs.Common.{◌≡◌, ℕ, ◌+◌, ◌*◌, List, [], ◌∷◌, map, replicate, IfOk, Ok, Err, vec_items, Result, Vec, refl, ap, subst}
use Rattle.std.specs.declared.alloc.AllocError.{AllocError}
use Rattle.std.specs.declared.alloc.Global.{Global}
use Rattle.entry.specs.Entry.{AllHonest}
use Rattle.entry.specs.Layout.{entry_size}
use Rattle.store.specs.Rows.{entries_in}
use Rattle.house.specs.Deeds.{Deed}
use Rattle.house.specs.Desks.{new_desks}
use Rattle.house.specs.declared.size.HouseSize.{HouseSize}
use Rattle.days.specs.Goes.{Day, Told}
use Rattle.days.specs.House.{House, new_house}
use Rattle.days.specs.Outcomes.{Listed, PerformedAll, WholeDay, told_as}
use Rattle.days.specs.Rows.{house_of}
use Rattle.days.specs.declared.outcome.Outcome.{Outcome}
use Rattle.days.proofs.Promise.{kept_well, never_stale, none_honest}
use Rattle.days.proofs.Start.{new_rows, new_shape}

from_empty : {start l : House} {ds : List Deed} {ts : List Told} → start.store ≡ [] → Day start ds ts l → WholeDay start ds ts
from_empty {start} {l} {ts = ts} none day =
    record {
      end = l;
      day = day;
      never_stale = λ before after x k is. never_stale none before after x k (subst (λ es. Day start es ts l) is day);
      ever_honest = λ before after is. kept_well none before after (subst (λ es. Day start es ts l) is day);
    }

module _ (z : HouseSize) where
  new_store : List ℕ
  new_store = 0 ∷ (z.room ∷ replicate (entry_size * z.room) 0)

  new_list : List ℕ
  new_list = replicate (z.items + 1) 0

  same_house : house_of z (new_desks z) new_store new_list ≡ new_house z
  unfolding new_store new_list
  same_house = new_rows z

  whole : {ds : List Deed} {ts : List Told} {desks₁ rows₁ ran₁ : List ℕ} → PerformedAll z ds (new_desks z) new_store new_list ts desks₁ rows₁ ran₁ → WholeDay (new_house z) ds ts
  whole {ds} {ts} {desks₁} {rows₁} {ran₁} p =
      let honest : AllHonest (entries_in new_store) = none_honest (house_of z (new_desks z) new_store new_list) (ap (λ h. h.store) same_house) in
      from_empty refl (subst (λ h. Day h ds ts (house_of z desks₁ rows₁ ran₁)) same_house (p.day (new_shape z) honest).0)

  -- the rows are those of a new house
  pub record NewRows (desks rows ran : List ℕ) : Type 0 where
    pub desks_new : desks ≡ new_desks z
    pub store_new : rows ≡ 0 ∷ (z.room ∷ replicate (entry_size * z.room) 0)
    pub list_new : ran ≡ replicate (z.items + 1) 0

  pub whole_if : (ds : List Deed) (r : Result (Vec Outcome Global) AllocError) (desks rows ran desks₁ rows₁ ran₁ : List ℕ) → NewRows desks rows ran → Listed z ds desks rows ran r desks₁ rows₁ ran₁ → IfOk r (λ outcomes. WholeDay (new_house z) ds (map told_as (vec_items outcomes)))
  unfolding new_store new_list
  whole_if ds (Ok outcomes) desks rows ran desks₁ rows₁ ran₁ new p =
      let ts = map told_as (vec_items outcomes) in
      let same : PerformedAll z ds desks rows ran ts desks₁ rows₁ ran₁ ≡ PerformedAll z ds (new_desks z) new_store new_list ts desks₁ rows₁ ran₁ =
      (λ i. PerformedAll z ds (new.desks_new i) (new.store_new i) (new.list_new i) ts desks₁ rows₁ ran₁) in
      whole (subst (λ P. P) same p)
  whole_if ds (Err e) desks rows ran desks₁ rows₁ ran₁ new p = tt
