-- Laws of a run that has come some way. Assumes nothing.
use Rattle.std.proofs.Common.{◌≡◌, ℕ, List, [], ◌∷◌, ◌++◌, sym, refl, ◌∙◌, subst}
use Rattle.script.specs.Rule.{Task, Value, asks, done}
use Rattle.entry.specs.declared.asking.Asking.{Asking}
use Rattle.theory.specs.Along.{Along, at_start, then_on}
use Rattle.theory.specs.Clean.{Asks, Makes, Runs, clean, ends, goes, later, now, run, value}
use Rattle.theory.specs.Items.{Item}
use Rattle.theory.proofs.Bound.{makes_clean}
use Rattle.theory.proofs.Outs.{run_asks_value, run_done}
use Rattle.theory.proofs.Values.{makes_unique}

pub along_join : {d : List Item} {t u z : Task} {ps qs : List Asking} → Along d t ps u → Along d u qs z → Along d t (ps ++ qs) z
along_join at_start b = b
along_join (then_on m a) b = then_on m (along_join a b)

-- one more right answer
pub along_push : {d : List Item} {t : Task} {ps : List Asking} {k : ℕ} {a : Value} {c : Value → Task} → Along d t ps (asks k c) → Makes d k a → Along d t (ps ++ record { item = k; answer = a } ∷ []) (c a)
along_push b m = along_join b (then_on m at_start)

pub along_runs : {d : List Item} {t u : Task} {ps qs : List Asking} {v : Value} → Along d t ps u → Runs d u qs v → Runs d t (ps ++ qs) v
along_runs at_start r = r
along_runs (then_on m a) r = goes m (along_runs a r)

pub runs_along : {d : List Item} {t : Task} {qs : List Asking} {v : Value} → Runs d t qs v → Along d t qs (done v)
runs_along ends = at_start
runs_along (goes m r) = then_on m (runs_along r)

pub along_done : {d : List Item} {t : Task} {qs : List Asking} {v : Value} → Along d t qs (done v) → Runs d t qs v
along_done at_start = ends
along_done (then_on m a) = goes m (along_done a)

pub along_asks : {d : List Item} {t u : Task} {ps : List Asking} {j : ℕ} → Along d t ps u → Asks d u j → Asks d t j
along_asks at_start b = b
along_asks (then_on m a) b = later m (along_asks a b)

pub asks_along : {d : List Item} {t : Task} {j : ℕ} → Asks d t j → (ps : List Asking) × (c : Value → Task) × Along d t ps (asks j c)
asks_along (now {c = c}) = ([], c, at_start)
asks_along (later {k = k} {a = a} m b) = let rest = asks_along b in (record { item = k; answer = a } ∷ rest.0, rest.1, then_on m rest.2)

-- the run goes on from there: its askings begin with those
pub along_rest : {d : List Item} {t u : Task} {ps qs : List Asking} {v : Value} → Along d t ps u → Runs d t qs v → (rs : List Asking) × (qs ≡ ps ++ rs) × Runs d u rs v
along_rest {qs = qs} at_start r = (qs, refl, r)
along_rest {d} {v = v} (then_on {c = c} m a) (goes {qs = qs} n r) =
    let same = makes_unique m n in
    let rest = along_rest a (subst (λ x. Runs d (c x) qs v) (sym same) r) in
    (rest.0, cc (same, rest.1), rest.2)

-- what the task comes to over the clean answers stays the same on the way
pub along_run : {d : List Item} {t u : Task} {ps : List Asking} → Along d t ps u → run (λ j. clean d j) t ≡ run (λ j. clean d j) u
along_run at_start = refl
along_run {d} (then_on {k = k} {c = c} m a) = run_asks_value (λ j. clean d j) k c (makes_clean m) ∙ along_run a

pub runs_run : {d : List Item} {t : Task} {qs : List Asking} {v : Value} → Runs d t qs v → run (λ j. clean d j) t ≡ value v
runs_run {d} {v = v} r = along_run (runs_along r) ∙ run_done (λ j. clean d j) v
