-- Scripts, and what a script asks and gives. Assumes nothing: these are definitions.
use Rattle.std.specs.Prelude.{ℕ, zero, suc, ◌+◌, ◌%◌, ◌^◌, cond, List, [], ◌∷◌, replicate, ◌==◌, slice_index, slice_set}
use Rattle.script.specs.Layout.{register_count}
use Rattle.script.specs.declared.line.Line.{Line}
use Rattle.script.specs.declared.line.Line.TheVariants.{Ask, AskAt, Number, Sum, Unless, Give}

-- what an item may come to; an item's own number is another thing
abbrev pub Value : Type 0
Value = ℕ

abbrev pub Script : Type 0
Script = List Line

-- what a script does, seen from outside: it gives a result, or it asks for an item and goes on with the answer
pub data Task : Type 0 where
  done : Value → Task
  asks : ℕ → (Value → Task) → Task

-- a register that is not there holds 0 and takes no value
abbrev pub in_register : List Value → ℕ → Value
in_register regs r = slice_index regs r

abbrev pub sum : Value → Value → Value
sum v w = (v + w) % 2 ^ 64

-- the lines to come, the registers, and how many of the lines are still to be left out
unfoldable pub task : Script → List Value → ℕ → Task
task [] regs skip = done 0
task (l ∷ ls) regs (suc skip) = task ls regs skip
task (Ask r k ∷ ls) regs zero = asks k (λ v. task ls (slice_set regs r v) 0)
task (AskAt r a ∷ ls) regs zero = asks (in_register regs a) (λ v. task ls (slice_set regs r v) 0)
task (Number r n ∷ ls) regs zero = task ls (slice_set regs r n) 0
task (Sum r a b ∷ ls) regs zero = task ls (slice_set regs r (sum (in_register regs a) (in_register regs b))) 0
task (Unless a b n ∷ ls) regs zero = task ls regs (cond (in_register regs a == in_register regs b) n 0)
task (Give r ∷ ls) regs zero = done (in_register regs r)

unfoldable pub task_of : Script → Task
task_of s = task s (replicate register_count 0) 0
