-- Items that each ask for another of them have no value. Assumes nothing.
use Rattle.std.proofs.Common.{ℕ, List, subst}
use Rattle.script.specs.Rule.{Task, Value, task_of}
use Rattle.entry.specs.declared.asking.Asking.{Asking}
use Rattle.theory.specs.Clean.{Asks, Makes, Runs, as_written, by_script, ends, goes, later, now}
use Rattle.theory.specs.Items.{Item}
use Rattle.theory.specs.Rings.{Stuck}
use Rattle.theory.proofs.Values.{done_asks_none, made_one, makes_unique, written_made}

module _ {d : List Item} (P : ℕ → Type 0) (stuck : (k : ℕ) → P k → Stuck d P k) where
  mutual
    pub stuck_none : {k : ℕ} {v : Value} → Makes d k v → P k → ⊥
    stuck_none {k} (as_written e) p = written_made e (stuck k p).is_made
    stuck_none {k} (by_script e r) p =
        let s = stuck k p in
        run_not_stuck r (subst (λ x. Asks d (task_of x) s.next) (made_one s.is_made e) s.asked) s.again

    run_not_stuck : {t : Task} {qs : List Asking} {v : Value} {j : ℕ} → Runs d t qs v → Asks d t j → P j → ⊥
    run_not_stuck ends a p = done_asks_none a
    run_not_stuck (goes m r) now p = stuck_none m p
    run_not_stuck {j = j} (goes {c = c} m r) (later n b) p = run_not_stuck r (subst (λ a. Asks d (c a) j) (makes_unique n m) b) p
