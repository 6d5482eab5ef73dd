-- How far a script has come, with right answers from settled items. Assumes nothing.
use Rattle.std.proofs.Common.{◌≡◌, ℕ, ◌⊎◌, List, ◌∷◌, sym, refl, subst, inl, inr, ⊎_elim}
use Rattle.script.specs.Rule.{Task, Value, asks, done}
use Rattle.entry.specs.declared.asking.Asking.{Asking}
use Rattle.theory.specs.Clean.{Asks, Makes, Runs, goes, later, now}
use Rattle.theory.specs.Items.{Item}
use Rattle.theory.proofs.Values.{done_asks_none, makes_unique}
use Rattle.clean.specs.Marks.{IsOpen, Settled}
use Rattle.clean.specs.Outcomes.{Held}
use Rattle.clean.specs.declared.mark.Mark.{Mark}

-- task t is now worth u
pub record Came (d : List Item) (ms : List Mark) (t u : Task) : Type 0 where
  pub on : (j : ℕ) → Asks d u j → Asks d t j
  pub back : (j : ℕ) → Asks d t j → Settled d ms j ⊎ Asks d u j
  pub gives : (v : Value) (qs : List Asking) → Runs d u qs v → (ps : List Asking) × Runs d t ps v

pub came_start : {d : List Item} {ms : List Mark} {t : Task} → Came d ms t t
came_start = record { on = λ j a. a; back = λ j a. inr a; gives = λ v qs r. (qs, r) }

pub came_kept : {d : List Item} {ms ms₁ : List Mark} {t u : Task} → ((j : ℕ) → Settled d ms j → Settled d ms₁ j) → Came d ms t u → Came d ms₁ t u
came_kept stays b = record { on = b.on; back = λ j a. ⊎_elim (λ s. inl (stays j s)) inr (b.back j a); gives = b.gives }

asks_next : {d : List Item} {k j : ℕ} {a : Value} {c : Value → Task} → Makes d k a → Asks d (asks k c) j → (j ≡ k) ⊎ Asks d (c a) j
asks_next m now = inl refl
asks_next {d} {j = j} {c = c} m (later n b) = inr (subst (λ x. Asks d (c x) j) (makes_unique n m) b)

-- one more right answer
pub came_answer : {d : List Item} {ms : List Mark} {t : Task} {k : ℕ} {a : Value} {c : Value → Task} → Came d ms t (asks k c) → Makes d k a → Settled d ms k → Came d ms t (c a)
came_answer {d} {ms} {k = k} {a = a} b m s = record {
  on = λ j x. b.on j (later m x);
  back = λ j x. ⊎_elim inl (λ y. ⊎_elim (λ e. inl (subst (Settled d ms) (sym e) s)) inr (asks_next m y)) (b.back j x);
  gives = λ v qs r. b.gives v (record { item = k; answer = a } ∷ qs) (goes m r);
}

-- at its end all that it asked for is settled
pub came_heard : {d : List Item} {ms : List Mark} {t : Task} {v : Value} → Came d ms t (done v) → (j : ℕ) → Asks d t j → Settled d ms j
came_heard b j a = ⊎_elim (λ s. s) (λ n. absurd (done_asks_none n)) (b.back j a)

asks_first : {d : List Item} {k j : ℕ} {c : Value → Task} → ((v : Value) → Makes d k v → ⊥) → Asks d (asks k c) j → j ≡ k
asks_first none now = refl
asks_first none (later {a = a} m b) = absurd (none a m)

-- it asks for an item that is open
pub came_held : {d : List Item} {ms : List Mark} {t : Task} {k : ℕ} {c : Value → Task} → Came d ms t (asks k c) → IsOpen ms k → Held d ms t
came_held {ms = ms} {k = k} b is = record {
  next = k;
  asked = b.on k now;
  is_open = is;
  heard = λ none j a. ⊎_elim inl (λ x. inr (subst (IsOpen ms) (sym (asks_first none x)) is)) (b.back j a);
}
