-- A day that begins in a new house. Assumes nothing.
use Rattle.std.specs.Prelude.{List, ℕ, MatchOption, None, Option, Some}
use Rattle.house.specs.New.{NewHouse}
use Rattle.house.specs.declared.owned.House.{House}
use Rattle.house.specs.declared.size.HouseSize.{HouseSize}
use Rattle.test_rows.specs.Spent.{Spent, StopsAt}
use Rattle.house_tests.specs.Stepped.{Otherwise, SpentAnew, Stepped, StoppedAnew}
use Rattle.house_tests.specs.declared.step.Step.{Step}

module _ (z : HouseSize) (ss : List Step) (first last : House) (begins : NewHouse z first) where
  pub anew :
      (wrong : Option ℕ) → MatchOption wrong (Spent Stepped ss first last) (λ i. StopsAt Stepped Otherwise ss i first last)
      → MatchOption wrong (SpentAnew z ss) (λ i. StoppedAnew z ss i)
  anew None spent = record { first = first; last = last; begins = begins; spent = spent }
  anew (Some i) stops = record { first = first; last = last; begins = begins; stops = stops }
