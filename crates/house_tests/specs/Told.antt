-- What is told, as numbers that a table of cases can hold. Assumes nothing: these are definitions.
use Rattle.std.specs.Prelude.{ℕ}
use Rattle.script.specs.Refusals.{number_of, place_of}
use Rattle.house.specs.declared.perform.Told.{Told}
use Rattle.house.specs.declared.perform.Told.TheVariants.{Done, Refused, Ring, Value}

-- which it is, and a value, or a refusal's number and place
abbrev pub told_as_numbers : Told → ℕ × ℕ × ℕ
told_as_numbers Done = (0, 0, 0)
told_as_numbers (Value v) = (1, v, 0)
told_as_numbers Ring = (2, 0, 0)
told_as_numbers (Refused f) = (3, number_of f, place_of f)
