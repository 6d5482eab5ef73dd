-- How far a run has come. Assumes nothing: these are definitions.
use Rattle.std.specs.Prelude.{ℕ, List, [], ◌∷◌}
use Rattle.script.specs.Rule.{Task, Value, asks}
use Rattle.entry.specs.declared.asking.Asking.{Asking}
use Rattle.theory.specs.Clean.{Makes}
use Rattle.theory.specs.Items.{Item}

-- a task that was given these right answers to its askings is now worth that task
pub data Along (d : List Item) : Task → List Asking → Task → Type 0 where
  at_start : {t : Task} → Along d t [] t
  then_on : {k : ℕ} {a : Value} {c : Value → Task} {qs : List Asking} {t : Task} → Makes d k a → Along d (c a) qs t → Along d (asks k c) (record { item = k; answer = a } ∷ qs) t
