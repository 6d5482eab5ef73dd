-- What the list function promises: of the outcomes that it hands back, of the rows that are lent, and of a whole day. Assumes nothing: these are definitions.
use Rattle.std.specs.Prelude.{ℕ, List, map, take, Ok, Err, vec_items, Result, Vec}
use Rattle.std.specs.declared.alloc.AllocError.{AllocError}
use Rattle.std.specs.declared.alloc.Global.{Global}
use Rattle.entry.specs.Entry.{AllHonest}
use Rattle.store.specs.Rows.{entries_in}
use Rattle.theory.specs.Clean.{ring, value}
use Rattle.house.specs.Deeds.{Deed}
use Rattle.house.specs.declared.size.HouseSize.{HouseSize}
use Rattle.days.specs.Goes.{Day, Told, built, fine, refused}
use Rattle.days.specs.House.{House}
use Rattle.days.specs.Laws.{EverHonest, NeverStale}
use Rattle.days.specs.Rows.{RowDay, Shaped, house_of}
use Rattle.days.specs.declared.outcome.Outcome.{Outcome}
use Rattle.days.specs.declared.outcome.Outcome.TheVariants.{Done, Refused, Ring, Value}

abbrev pub told_as : Outcome → Told
told_as Done = fine
told_as (Refused f) = refused f
told_as (Value v ran) = built (value v) (vec_items ran)
told_as (Ring ran) = built ring (vec_items ran)

-- these commands were performed one after the other, over whatever rows were lent;
-- if the desks have their shape and the entries are honest, this is a day of the house in the rows, and the desks keep their shape
pub record PerformedAll (z : HouseSize) (ds : List Deed) (desks rows ran : List ℕ) (ts : List Told) (desks₁ rows₁ ran₁ : List ℕ) : Type 0 where
  pub in_rows : RowDay z desks rows ran ds ts desks₁ rows₁ ran₁
  pub day : Shaped z desks → AllHonest (entries_in rows) → Day (house_of z desks rows ran) ds ts (house_of z desks₁ rows₁ ran₁) × Shaped z desks₁

-- all commands, or where memory is short so many of the first
abbrev pub Listed : HouseSize → List Deed → (desks rows ran : List ℕ) → Result (Vec Outcome Global) AllocError → (desks₁ rows₁ ran₁ : List ℕ) → Type 0
Listed z ds desks rows ran (Ok outcomes) desks₁ rows₁ ran₁ = PerformedAll z ds desks rows ran (map told_as (vec_items outcomes)) desks₁ rows₁ ran₁
Listed z ds desks rows ran (Err e) desks₁ rows₁ ran₁ = (n : ℕ) × (ts : List Told) × PerformedAll z (take n ds) desks rows ran ts desks₁ rows₁ ran₁

-- a whole day from an empty store: it goes so, no build of it is stale, and the store is honest at every moment
pub record WholeDay (start : House) (ds : List Deed) (ts : List Told) : Type 0 where
  pub end : House
  pub day : Day start ds ts end
  pub never_stale : NeverStale start ds ts
  pub ever_honest : EverHonest start ds
