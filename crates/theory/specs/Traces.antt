-- What a task asks for over given answers, computed. Assumes nothing: these are definitions.
use Rattle.std.specs.Prelude.{ℕ, List, [], ◌∷◌}
use Rattle.script.specs.Rule.{Task, Value, asks, done}
use Rattle.entry.specs.declared.asking.Asking.{Asking}
use Rattle.theory.specs.Clean.{Out, ring, value}

-- what is made of an answer that is a value, or else of none
abbrev pub with_value : {A : Type 0} → Out → A → (Value → A) → A
with_value (value v) none f = f v
with_value ring none f = none

-- the items that a task asks for, up to the first that has no value
unfoldable pub asked_for : (ℕ → Out) → Task → List ℕ
asked_for f (done v) = []
asked_for f (asks k c) = k ∷ with_value (f k) [] (λ v. asked_for f (c v))

-- its askings with their answers, up to there
unfoldable pub trace : (ℕ → Out) → Task → List Asking
trace f (done v) = []
trace f (asks k c) = with_value (f k) [] (λ v. record { item = k; answer = v } ∷ trace f (c v))
