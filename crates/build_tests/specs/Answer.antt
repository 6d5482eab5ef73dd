-- An answer as three numbers. Assumes nothing: this is a definition.
use Rattle.std.specs.Prelude.{ℕ}
use Rattle.script.specs.Refusals.{number_of, place_of}
use Rattle.build.specs.declared.building.Answer.{Answer}
use Rattle.build.specs.declared.building.Answer.TheVariants.{Refused, Ring, Value}

-- which it is, and a value, or a refusal's number and place
abbrev pub answer_as_numbers : Answer → ℕ × ℕ × ℕ
answer_as_numbers (Value v) = (0, v, 0)
answer_as_numbers Ring = (1, 0, 0)
answer_as_numbers (Refused f) = (2, number_of f, place_of f)
