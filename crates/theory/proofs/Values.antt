-- An item has one value and a task one run, and what is asked for on the way to a value has a value. Assumes nothing.
use Rattle.std.proofs.Common.{◌≡◌, ℕ, List, sym, refl, subst, arith}
use Rattle.script.specs.Rule.{Script, Task, Value, done, task_of}
use Rattle.entry.specs.declared.asking.Asking.{Asking}
use Rattle.theory.specs.Clean.{Asks, Makes, Reached, Runs, as_written, by_script, ends, goes, itself, later, now, on}
use Rattle.theory.specs.Items.{Item, item, made, written}

pub written_made : {i : Item} {v : Value} {s : Script} → i ≡ written v → i ≡ made s → ⊥
written_made w m = let z : ◌≡◌ {A = ℕ} 0 1 = cc in omega arith

pub made_one : {i : Item} {s r : Script} → i ≡ made s → i ≡ made r → s ≡ r
made_one p q = cc

written_one : {i : Item} {v w : Value} → i ≡ written v → i ≡ written w → v ≡ w
written_one p q = cc

mutual
  pub makes_unique : {d : List Item} {k : ℕ} {v w : Value} → Makes d k v → Makes d k w → v ≡ w
  makes_unique (as_written p) (as_written q) = written_one p q
  makes_unique (as_written p) (by_script q r) = absurd (written_made p q)
  makes_unique (by_script p r) (as_written q) = absurd (written_made q p)
  makes_unique {d} {w = w} (by_script p r) (by_script {qs = qs} q u) = (runs_unique r (subst (λ s. Runs d (task_of s) qs w) (made_one q p) u)).1

  pub runs_unique : {d : List Item} {t : Task} {ps qs : List Asking} {v w : Value} → Runs d t ps v → Runs d t qs w → (ps ≡ qs) × (v ≡ w)
  runs_unique ends ends = (refl, refl)
  runs_unique {d} {w = w} (goes {c = c} m r) (goes {qs = qs} n u) =
      let same = makes_unique m n in
      let rest = runs_unique r (subst (λ a. Runs d (c a) qs w) (sym same) u) in
      (cc (same, rest.0), rest.1)

-- the run behind a value
pub makes_runs : {d : List Item} {k : ℕ} {v : Value} {s : Script} → item d k ≡ made s → Makes d k v → (qs : List Asking) × Runs d (task_of s) qs v
makes_runs p (as_written q) = absurd (written_made q p)
makes_runs {d} {v = v} p (by_script {qs = qs} q r) = (qs, subst (λ s. Runs d (task_of s) qs v) (made_one q p) r)

pub makes_written : {d : List Item} {k : ℕ} {v w : Value} → item d k ≡ written w → Makes d k v → v ≡ w
makes_written p m = makes_unique m (as_written p)

pub done_asks_none : {d : List Item} {v : Value} {j : ℕ} → Asks d (done v) j → ⊥
done_asks_none a = elim a [ ]

pub asked_value : {d : List Item} {t : Task} {qs : List Asking} {v : Value} {j : ℕ} → Runs d t qs v → Asks d t j → (w : Value) × Makes d j w
asked_value ends a = absurd (done_asks_none a)
asked_value (goes {a = a} m r) now = (a, m)
asked_value {d} {j = j} (goes {c = c} m r) (later n b) = asked_value r (subst (λ a. Asks d (c a) j) (makes_unique n m) b)

pub reached_value : {d : List Item} {k j : ℕ} {v : Value} → Makes d k v → Reached d k j → (w : Value) × Makes d j w
reached_value {v = v} m itself = (v, m)
reached_value m (on r p a) = asked_value (makes_runs p (reached_value m r).1).1 a
