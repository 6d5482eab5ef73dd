-- Where an entry first differs from its replay. Assumes nothing: these are definitions.
use Rattle.std.specs.Prelude.{ℕ, suc, cond, List, [], ◌∷◌, Some, None, Option, ◌==◌}
use Rattle.script.specs.Rule.{Task, Value, asks, done, task_of}
use Rattle.entry.specs.Entry.{Entry}
use Rattle.entry.specs.declared.asking.Asking.{Asking}

-- the number of the first recorded asking, of which the next has number i, that the task does not make when it is answered so;
-- or how many there are, if the task asks for more or gives another result
unfoldable pub differs : ℕ → Task → List Asking → Value → Option ℕ
differs i (done v) [] w = cond (v == w) None (Some i)
differs i (done v) (q ∷ qs) w = Some i
differs i (asks k c) [] w = Some i
differs i (asks k c) (q ∷ qs) w = cond (k == q.item) (differs (suc i) (c q.answer) qs w) (Some i)

abbrev pub difference : Entry → Option ℕ
difference e = differs 0 (task_of e.script) e.asked e.result
