-- Honest entries and runs: as far as an honest entry's answers are right, its askings are those of the real run. Assumes nothing.
use Rattle.std.proofs.Common.{◌≡◌, ℕ, zero, suc, ◌<◌, ◌≤◌, true, eqb, List, [], ◌∷◌, length, get_or, take, drop, sym, refl, ap, subst, arith}
use Rattle.std.proofs.lemmas.List.{drop_all, take_all}
use Rattle.std.proofs.lemmas.Bool.{and_from, and_parts, eq-eqb, eqb-true, false≢true}
use Rattle.script.specs.Rule.{Task, Value, asks, done, task_of}
use Rattle.entry.specs.Entry.{Entry, Honest, no_asking, replays}
use Rattle.entry.specs.declared.asking.Asking.{Asking}
use Rattle.theory.specs.Along.{Along, at_start, then_on}
use Rattle.theory.specs.Build.{RightAt, Usable}
use Rattle.theory.specs.Clean.{Makes, Reached, Runs, by_script, ends, goes, itself, now, on}
use Rattle.theory.specs.Items.{Item, item, made}
use Rattle.theory.proofs.Along.{along_asks, along_done}

-- a run that was recorded replays, and its answers are right
pub runs_replays : {d : List Item} {t : Task} {qs : List Asking} {v : Value} → Runs d t qs v → replays t qs v ≡ true
unfolding replays
runs_replays (ends {v = v}) = eq-eqb v v refl
runs_replays (goes {k = k} m r) = and_from _ _ (eq-eqb k k refl) (runs_replays r)

pub runs_right : {d : List Item} {t : Task} {qs : List Asking} {v : Value} → Runs d t qs v → (i : ℕ) → i < length qs → Makes d (get_or qs i no_asking).item (get_or qs i no_asking).answer
runs_right ends i h = absurd (omega arith)
runs_right (goes m r) zero h = m
runs_right (goes m r) (suc i) h = runs_right r i (omega arith)

module _ (d : List Item) where
  -- the task comes along the answers that are right, and what is left of it replays what is left
  pub replays_along :
      (i : ℕ) (t : Task) (qs : List Asking) (w : Value) → i ≤ length qs → replays t qs w ≡ true →
      ((j : ℕ) → j < i → Makes d (get_or qs j no_asking).item (get_or qs j no_asking).answer) →
      (u : Task) × Along d t (take i qs) u × (replays u (drop i qs) w ≡ true)
  unfolding replays
  replays_along zero t qs w few e right = (t, at_start, e)
  replays_along (suc i) (done v) [] w few e right = absurd (omega arith)
  replays_along (suc i) (done v) (q ∷ qs) w few e right = absurd (false≢true e)
  replays_along (suc i) (asks k c) [] w few e right = absurd (false≢true e)
  replays_along (suc i) (asks k c) (q ∷ qs) w few e right =
      let both = and_parts (eqb k q.item) (replays (c q.answer) qs w) e in
      let rest = replays_along i (c q.answer) qs w (omega arith) both.1 (λ j h. right (suc j) (omega arith)) in
      (rest.0, subst (λ x. Along d (asks x c) (q ∷ take i qs) rest.0) (sym (eqb-true _ _ both.0)) (then_on (right 0 (omega arith)) rest.1), rest.2)

  replays_next : (t : Task) (qs : List Asking) (w : Value) (i : ℕ) → i < length qs → replays t (drop i qs) w ≡ true → (c : Value → Task) × (t ≡ asks (get_or qs i no_asking).item c)
  unfolding replays
  replays_next t [] w i h e = absurd (omega arith)
  replays_next t (q ∷ qs) w (suc i) h e = replays_next t qs w i (omega arith) e
  replays_next (done v) (q ∷ qs) w zero h e = absurd (false≢true e)
  replays_next (asks k c) (q ∷ qs) w zero h e = (c, ap (λ x. asks x c) (eqb-true _ _ (and_parts _ _ e).0))

  replays_end : (t : Task) (w : Value) → replays t [] w ≡ true → t ≡ done w
  unfolding replays
  replays_end (done v) w e = ap done (eqb-true v w e)
  replays_end (asks k c) w e = absurd (false≢true e)

  module _ (e : Entry) (honest : Honest e) where
    -- with the first i answers right the script asks next for what the entry names next
    pub honest_asks : (i : ℕ) → i < length e.asked → ((j : ℕ) → j < i → RightAt d e j) → (c : Value → Task) × Along d (task_of e.script) (take i e.asked) (asks (get_or e.asked i no_asking).item c)
    unfolding Honest
    honest_asks i h right =
        let (u, a, rest) = replays_along i (task_of e.script) e.asked e.result (omega arith) honest right in
        let (c, is) = replays_next u e.asked e.result i h rest in
        (c, subst (λ x. Along d (task_of e.script) (take i e.asked) x) is a)

    -- with all answers right it is the run
    pub honest_runs : Usable d e → Runs d (task_of e.script) e.asked e.result
    unfolding Honest
    honest_runs right =
        let n = length e.asked in
        let (u, a, rest) = replays_along n (task_of e.script) e.asked e.result (omega arith) honest right in
        let is = replays_end u e.result (rw (drop_all n e.asked (omega arith)) at rest) in
        along_done (rw (take_all n e.asked (omega arith), is) at a)

    module _ (k : ℕ) (its : item d k ≡ made e.script) where
      pub honest_makes : Usable d e → Makes d k e.result
      honest_makes right = by_script its (honest_runs right)

      pub honest_reached : (i : ℕ) → i < length e.asked → ((j : ℕ) → j < i → RightAt d e j) → Reached d k (get_or e.asked i no_asking).item
      honest_reached i h right = on itself its (along_asks (honest_asks i h right).1 now)
