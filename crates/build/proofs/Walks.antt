-- Laws of settled items, and of tasks that came along their answers. Assumes nothing.
use Rattle.std.proofs.Common.{ℕ, ◌⊎◌, List, [], ◌∷◌, ◌++◌, ◌∙◌, subst, inl, inr, ⊎_elim}
use Rattle.std.specs.List.{AllByRecursion}
use Rattle.std.proofs.ByRecursion.{All-push}
use Rattle.script.specs.Rule.{Task, Value, asks, done}
use Rattle.entry.specs.declared.asking.Asking.{Asking}
use Rattle.theory.specs.Along.{Along, at_start, then_on}
use Rattle.theory.specs.Clean.{Asks, Makes, Runs, later, now}
use Rattle.theory.specs.Items.{Item}
use Rattle.theory.proofs.Along.{along_asks, along_done, along_push}
use Rattle.theory.proofs.Values.{done_asks_none, makes_unique}
use Rattle.build.specs.Sound.{Held, Known, Later, Settled, Walked, by_entry, by_hand, by_run}
use Rattle.build.specs.declared.scratch.Scratch.{Scratch}
use Rattle.build.proofs.States.{found_seen, ran_seen}

-- what is settled stays settled
abbrev pub Keeps : List Item → Scratch → Scratch → Type 0
Keeps d σ σ₁ = (j : ℕ) → Settled d σ j → Settled d σ₁ j

pub later_keeps : {d : List Item} {σ σ₁ : Scratch} → Later σ σ₁ → Keeps d σ σ₁
later_keeps l j (by_hand e) = by_hand e
later_keeps l j (by_entry e) = by_entry (l.stays j (found_seen e) ∙ e)
later_keeps l j (by_run e) = by_run (l.stays j (ran_seen e) ∙ e)

pub all_keeps : {d : List Item} {σ σ₁ : Scratch} → Keeps d σ σ₁ → (qs : List Asking) → AllByRecursion (λ q. Settled d σ q.item) qs → AllByRecursion (λ q. Settled d σ₁ q.item) qs
all_keeps keeps [] a = tt
all_keeps keeps (q ∷ qs) a = (keeps q.item a.0, all_keeps keeps qs a.1)

pub walked_keeps : {d : List Item} {σ σ₁ : Scratch} {t u : Task} {qs : List Asking} → Keeps d σ σ₁ → Walked d σ t qs u → Walked d σ₁ t qs u
walked_keeps {qs = qs} keeps w = record { along = w.along; settled = all_keeps keeps qs w.settled }

pub walked_none : {d : List Item} {σ : Scratch} {t : Task} → Walked d σ t [] t
walked_none = record { along = at_start; settled = tt }

pub walked_push : {d : List Item} {σ : Scratch} {t : Task} {qs : List Asking} {k : ℕ} {a : Value} {c : Value → Task} → Walked d σ t qs (asks k c) → Makes d k a → Settled d σ k → Walked d σ t (qs ++ record { item = k; answer = a } ∷ []) (c a)
walked_push {d} {σ} {qs = qs} {k = k} {a = a} w m s =
    record { along = along_push w.along m; settled = All-push (λ q. Settled d σ q.item) qs (record { item = k; answer = a }) w.settled s }

pub walked_runs : {d : List Item} {σ : Scratch} {t : Task} {qs : List Asking} {v : Value} → Walked d σ t qs (done v) → Runs d t qs v
walked_runs w = along_done w.along

-- what a task asks for was settled on the way, or is asked for later
asked_cases : {d : List Item} {t u : Task} {qs : List Asking} {j : ℕ} (σ : Scratch) → Along d t qs u → AllByRecursion (λ q. Settled d σ q.item) qs → Asks d t j → Settled d σ j ⊎ Asks d u j
asked_cases σ at_start a b = inr b
asked_cases σ (then_on m w) a now = inl a.0
asked_cases {d} {u = u} {j = j} σ (then_on {c = c} m w) a (later n b) = asked_cases σ w a.1 (subst (λ x. Asks d (c x) j) (makes_unique n m) b)

pub walked_asks : {d : List Item} {σ : Scratch} {t u : Task} {qs : List Asking} {j : ℕ} → Walked d σ t qs u → Asks d t j → Settled d σ j ⊎ Asks d u j
walked_asks {σ = σ} w b = asked_cases σ w.along w.settled b

-- a task that has ended asked for nothing else
pub ended_asks : {d : List Item} {σ : Scratch} {t : Task} {qs : List Asking} {v : Value} {j : ℕ} → Walked d σ t qs (done v) → Asks d t j → Settled d σ j
ended_asks w b = ⊎_elim (λ s. s) (λ no_way. absurd (done_asks_none no_way)) (walked_asks w b)

-- a task that waits asks for what it waits for
pub held_asks : {d : List Item} {σ : Scratch} {t : Task} (h : Held d σ t) → Asks d t h.next
held_asks h = along_asks h.walked.along now

pub known_keeps : {d : List Item} {σ σ₁ : Scratch} {j : ℕ} {qs : List Asking} {v : Value} → Keeps d σ σ₁ → Known d σ j qs v → Known d σ₁ j qs v
known_keeps keeps k = record { script = k.script; is_made = k.is_made; walked = walked_keeps keeps k.walked }
