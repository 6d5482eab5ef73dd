-- What a command tells, and what it leaves in the rows of the desks, the store and the list. Assumes nothing: these are definitions.
use Rattle.std.specs.Prelude.{◌≡◌, ℕ, cond, List, map, Some, None, Ok, Err, Option, Result}
use Rattle.build.specs.Build.{BuiltSo}
use Rattle.build.specs.declared.building.Answer.{Answer}
use Rattle.build.specs.declared.building.Answer.TheVariants as answer
use Rattle.entry.specs.Rows.{entry_of}
use Rattle.items.specs.Rows.{rewritten}
use Rattle.script.specs.Allowed.{counted_as}
use Rattle.script.specs.declared.refusal.Refusal.{Refusal}
use Rattle.script.specs.declared.refusal.Refusal.TheVariants.{NoSuchDesk}
use Rattle.store.specs.Faults.{remove_fault}
use Rattle.store.specs.Rows.{added, removed}
use Rattle.theory.specs.Items.{made, written}
use Rattle.house.specs.Deeds.{Deed, write, give, build, forget, bring}
use Rattle.house.specs.DeskFaults.{desk_fault, script_at_fault}
use Rattle.house.specs.Desks.{desk_part, has_desk, with_desk}
use Rattle.house.specs.Faults.{bring_fault}
use Rattle.house.specs.declared.perform.Told.{Told}
use Rattle.house.specs.declared.perform.Told.TheVariants.{Done, Refused, Ring, Value}
use Rattle.house.specs.declared.size.HouseSize.{HouseSize}

abbrev pub told_by : {A : Type 0} → Result A Refusal → Told
told_by (Ok x) = Done
told_by (Err f) = Refused f

abbrev pub told_of : Answer → Told
told_of (answer.Value v) = Value v
told_of answer.Ring = Ring
told_of (answer.Refused f) = Refused f

-- done, or the first refusal that applies
abbrev pub verdict : Option Refusal → Told
verdict None = Done
verdict (Some f) = Refused f

-- a row after a command that is refused, or not
abbrev pub kept_or : Option Refusal → List ℕ → List ℕ → List ℕ
kept_or None after before = after
kept_or (Some f) after before = before

-- a build at a desk: the desk is refused first, and then it is a build of its items over the store
abbrev pub BuiltAt : HouseSize → ℕ → ℕ → (desks rows ran : List ℕ) → Answer → (rows₁ ran₁ : List ℕ) → Type 0
BuiltAt z x k desks rows ran r rows₁ ran₁ =
    cond (has_desk z desks x) (BuiltSo (desk_part z desks x) rows ran k r rows₁ ran₁) ((r ≡ answer.Refused (NoSuchDesk x)) × (rows₁ ≡ rows) × (ran₁ ≡ ran))

-- a command that changes a desk
pub record DeskChanged (z : HouseSize) (x : ℕ) (fault : Option Refusal) (part : List ℕ) (desks rows ran : List ℕ) (r : Told) (desks₁ rows₁ ran₁ : List ℕ) : Type 0 where
  pub tells : r ≡ verdict fault
  pub at_desks : desks₁ ≡ kept_or fault (with_desk z desks x part) desks
  pub at_store : rows₁ ≡ rows
  pub at_list : ran₁ ≡ ran

-- a command that changes the store
pub record StoreChanged (fault : Option Refusal) (after : List ℕ) (desks rows ran : List ℕ) (r : Told) (desks₁ rows₁ ran₁ : List ℕ) : Type 0 where
  pub tells : r ≡ verdict fault
  pub at_desks : desks₁ ≡ desks
  pub at_store : rows₁ ≡ kept_or fault after rows
  pub at_list : ran₁ ≡ ran

pub record DeskBuilt (z : HouseSize) (x k : ℕ) (desks rows ran : List ℕ) (r : Told) (desks₁ rows₁ ran₁ : List ℕ) : Type 0 where
  pub answer : Answer
  pub tells : r ≡ told_of answer
  pub at_desks : desks₁ ≡ desks
  pub built : BuiltAt z x k desks rows ran answer rows₁ ran₁

abbrev pub PerformedSo : HouseSize → Deed → (desks rows ran : List ℕ) → Told → (desks₁ rows₁ ran₁ : List ℕ) → Type 0
PerformedSo z (write x k v) desks rows ran = DeskChanged z x (desk_fault z desks x k) (rewritten (desk_part z desks x) k (written v)) desks rows ran
PerformedSo z (give x k ls) desks rows ran = DeskChanged z x (script_at_fault z desks x k ls) (rewritten (desk_part z desks x) k (made (map counted_as ls))) desks rows ran
PerformedSo z (build x k) desks rows ran = DeskBuilt z x k desks rows ran
PerformedSo z (forget i) desks rows ran = StoreChanged (remove_fault rows i) (removed rows i) desks rows ran
PerformedSo z (bring ls qs v) desks rows ran = StoreChanged (bring_fault rows ls qs v) (added rows (entry_of ls qs v)) desks rows ran
