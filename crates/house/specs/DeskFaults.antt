-- Why a command at a desk is refused. Assumes nothing: these are definitions.
use Rattle.std.specs.Prelude.{◌≡◌, ℕ, ◌+◌, ◌*◌, ◌≤◌, true, cond, List, length, IfOk, Some, None, Option, Result}
use Rattle.items.specs.Rows.{has_item}
use Rattle.script.specs.Allowed.{or_else, script_fault}
use Rattle.script.specs.declared.refusal.Refusal.{Refusal}
use Rattle.script.specs.declared.refusal.Refusal.TheVariants.{NoSuchDesk, NoSuchItem}
use Rattle.script.specs.declared.source.SourceLine.{SourceLine}
use Rattle.house.specs.Desks.{desk_part, desk_size, has_desk}
use Rattle.std.specs.declared.ops.Range.{Range}
use Rattle.house.specs.declared.size.HouseSize.{HouseSize}

-- the desk, and then the item at it
abbrev pub desk_fault : HouseSize → List ℕ → ℕ → ℕ → Option Refusal
desk_fault z row x k = cond (has_desk z row x) (cond (has_item (desk_part z row x) k) None (Some (NoSuchItem k))) (Some (NoSuchDesk x))

abbrev pub script_at_fault : HouseSize → List ℕ → ℕ → ℕ → List SourceLine → Option Refusal
script_at_fault z row x k ls = or_else (desk_fault z row x k) (script_fault ls)

-- where a desk stands that is there, with an item that it has
pub record Stands (z : HouseSize) (row : List ℕ) (x k : ℕ) (s : Range ℕ) : Type 0 where
  pub start : s.start ≡ desk_size z.items * x
  pub end : s.end ≡ desk_size z.items * (x + 1)
  pub inside : s.end ≤ length row
  pub has : has_item (desk_part z row x) k ≡ true

abbrev pub Found : HouseSize → List ℕ → ℕ → ℕ → Result (Range ℕ) Refusal → Type 0
Found z row x k r = IfOk r (λ s. Stands z row x k s)
