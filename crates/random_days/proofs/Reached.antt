-- One command further in a day, and its end. Assumes nothing.
use Rattle.std.proofs.Common.{◌≡◌, ℕ, ◌+◌, suc, subst, arith}
use Rattle.std.specs.Prelude.{Err, IfErr, MatchOption, Ok, OnOk, Result}
use Rattle.std.specs.Option.{option_map}
use Rattle.std.specs.Result.{result_err}
use Rattle.house.specs.declared.owned.House.{House}
use Rattle.random_days.specs.Counted.{More}
use Rattle.random_days.specs.Days.{AfterCommands, FaultAt, FaultlessDay, HonestStore, IsDayCount, RightStep}
use Rattle.random_days.specs.declared.counter.Counter.{Counter}
use Rattle.random_days.specs.declared.fault.Fault.{Fault}
use Rattle.random_days.specs.declared.fault.Fault.TheVariants.{NotHonest}

-- the same count, said otherwise
pub as_many : (n m : ℕ) (house : House) → n ≡ m → AfterCommands n house → AfterCommands m house
as_many n m house same reached = subst (λ k. AfterCommands k house) same reached

-- the house after the next command
pub next : (n : ℕ) (before after : House) → AfterCommands n before → RightStep before after → AfterCommands (n + 1) after
next n before after reached step = as_many (suc n) (n + 1) after (omega arith) (before, reached, step)

-- what a day comes to that has performed all its commands, by what is found at its end
pub at_the_end : (commands commands₁ : Counter) (n : ℕ) (house : House) → IsDayCount n → AfterCommands n house → More n commands commands₁ → (found : Result (Unit {0}) Fault) → OnOk found (HonestStore house) → IfErr found (λ _. ¬ HonestStore house) → IfErr found (λ fault. fault ≡ NotHonest) → MatchOption (option_map (λ fault. record { deed = n; fault = fault }) (result_err found)) (FaultlessDay commands commands₁) (λ wrong. FaultAt commands commands₁ wrong)
at_the_end commands commands₁ n house in_day reached counted (Ok u) honest dishonest fault = record { count = n; house = house; in_day = in_day; reached = reached; honest = honest; counted = counted }
at_the_end commands commands₁ n house in_day reached counted (Err fault) honest dishonest not_honest =
    record { house = house; reached = reached; at_end = λ _. (in_day, counted, dishonest); at_command = λ other. absurd (other not_honest); said = λ other. absurd (other not_honest) }
