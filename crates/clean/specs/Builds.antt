-- What a clean build answers and lists. Assumes nothing: these are definitions.
use Rattle.std.specs.Prelude.{◌≡◌, ℕ, ◌+◌, Bool, true, false, cond, List, [], length, Some, None, Option, Ok, Err, Result, nat_lt}
use Rattle.script.specs.declared.refusal.Refusal.{Refusal}
use Rattle.script.specs.declared.refusal.Refusal.TheVariants.{ListTooShort}
use Rattle.items.specs.Listing.{listed}
use Rattle.items.specs.declared.ring.Ring.{Ring as NeedsItself}
use Rattle.theory.specs.Build.{Built}
use Rattle.theory.specs.Clean.{Out, clean, ring, value}
use Rattle.theory.specs.Items.{Item}
use Rattle.theory.specs.Reference.{passing}
use Rattle.clean.specs.Marks.{mark_of}
use Rattle.clean.specs.declared.answer.CleanAnswer.{CleanAnswer}
use Rattle.clean.specs.declared.answer.CleanAnswer.TheVariants.{Value, Ring}
use Rattle.clean.specs.declared.mark.Mark.{Mark}
use Rattle.clean.specs.declared.mark.Mark.TheVariants.{Unseen, Open, Known}

abbrev pub says : Out → CleanAnswer
says (value v) = Value v
says ring = Ring

-- what an evaluation came to, as an answer
abbrev pub answer_of : Result ℕ NeedsItself → CleanAnswer
answer_of (Ok v) = Value v
answer_of (Err r) = Ring

-- the list has to have room for every item, behind a count
abbrev pub list_fault : List Item → List ℕ → Option Refusal
list_fault d row = cond (nat_lt (length row) (1 + length d)) (Some (ListTooShort (length row))) None

-- the list that is told is that of a build with no store
pub record Listed (d : List Item) (k : ℕ) (before after : List ℕ) : Type 0 where
  pub ran : List ℕ
  pub built : Built d [] 0 k (clean d k) ran []
  pub row : after ≡ listed ran before

abbrev pub is_known : Mark → Bool
is_known Unseen = false
is_known Open = false
is_known (Known v) = true

-- of the first n items those that are known
abbrev pub known_items : List Mark → ℕ → List ℕ
known_items ms n = passing (λ k. is_known (mark_of ms k)) 0 n
