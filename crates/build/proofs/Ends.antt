-- Why the answer, the list and the entries are right once the item is evaluated. Assumes nothing.
use Rattle.std.proofs.Common.{◌≡◌, ℕ, ◌+◌, ◌-◌, ◌≤◌, true, ◌⊎◌, List, [], ◌∷◌, ◌++◌, map, length, take, sym, refl, ap, subst, inl, inr, ⊎_elim, arith}
use Rattle.std.proofs.lemmas.Bool.{false≢true}
use Rattle.script.specs.Rule.{Script, Task, Value, asks, task_of}
use Rattle.entry.specs.Entry.{AllHonest, Entry}
use Rattle.entry.specs.Rows.{askings_in}
use Rattle.entry.specs.declared.asking.Asking.{Asking}
use Rattle.theory.specs.Build.{Built, Due, EachLeft, In, Left, Saved, and_one, here, no_more, there}
use Rattle.theory.specs.Clean.{Asks, Makes, Out, Reached, clean, later, now, ring}
use Rattle.theory.specs.Items.{Item, item, made}
use Rattle.theory.specs.Rings.{Stuck}
use Rattle.theory.proofs.Bound.{stuck_ring}
use Rattle.theory.proofs.Needs.{reached_all}
use Rattle.theory.proofs.Passing.{in_passing, passing_in, passing_rising}
use Rattle.theory.proofs.Rings.{made_there}
use Rattle.theory.proofs.Stuck.{stuck_none}
use Rattle.theory.proofs.Values.{made_one, written_made}
use Rattle.items.specs.Rows.{max_items}
use Rattle.build.specs.Leaves.{is_run, left_all, left_from, left_of, ran_list, script_of}
use Rattle.build.specs.Scratch.{fresh, state_of}
use Rattle.build.specs.Sound.{Grown, Known, Ready, Settled, Waiting, by_entry, by_hand, by_run}
use Rattle.build.specs.declared.scratch.Scratch.{Scratch}
use Rattle.build.specs.declared.scratch.State.{State}
use Rattle.build.specs.declared.scratch.State.TheVariants.{Found, Open, Ran, Unseen}
use Rattle.build.proofs.Evaluates.{known_makes}
use Rattle.build.proofs.States.{found_seen, fresh_unseen, ran_seen, unseen_most}
use Rattle.build.proofs.Walks.{ended_asks, held_asks, walked_asks, walked_runs}

pub fresh_ready : {d : List Item} {es : List Entry} → AllHonest es → length d ≤ max_items → Ready d es fresh (length d + 1)
fresh_ready {d} honest few = record {
  honest = honest;
  sound = record {
    long = few;
    found = λ j v e. absurd (found_seen e (fresh_unseen j));
    ran = λ j v row e. absurd (ran_seen e (fresh_unseen j));
  };
  deep = omega (arith, unseen_most fresh (length d));
}

run_state : (t : State) → is_run t ≡ true → (v : Value) × (row : List ℕ) × (t ≡ Ran v row)
run_state Unseen e = absurd (false≢true e)
run_state Open e = absurd (false≢true e)
run_state (Found v) e = absurd (false≢true e)
run_state (Ran v row) e = (v, row, refl)

each_left : {d : List Item} (f : ℕ → Entry) (js : List ℕ) → ((j : ℕ) → In j js → Left d j (f j)) → EachLeft d js (map f js)
each_left f [] left = no_more
each_left f (j ∷ js) left = and_one (left j here) (each_left f js (λ i h. left i (there h)))

-- at the end every item that is open waits for an item that is open
module _ {d : List Item} {es : List Entry} {k : ℕ} {σ : Scratch} (grown : Grown d es (Reached d k) fresh σ) (wait : (j : ℕ) → state_of σ j ≡ Open → Waiting d σ j) where
  stuck : (j : ℕ) → state_of σ j ≡ Open → Stuck d (λ i. state_of σ i ≡ Open) j
  stuck j e = let w = wait j e in record { script = w.script; next = w.held.next; is_made = w.is_made; asked = held_asks w.held; again = w.held.still }

  -- so it has no value
  open_none : {j : ℕ} {v : Value} → state_of σ j ≡ Open → Makes d j v → ⊥
  open_none e m = stuck_none (λ i. state_of σ i ≡ Open) stuck m e

  pub open_ring : (j : ℕ) → state_of σ j ≡ Open → clean d j ≡ ring
  open_ring j e = stuck_ring (λ i. state_of σ i ≡ Open) stuck j e

  -- settled and open items ask for nothing else
  known_asks : {i m : ℕ} {s : Script} {qs : List Asking} {v : Value} → Known d σ i qs v → item d i ≡ made s → Asks d (task_of s) m → Settled d σ m
  known_asks {m = m} known is asked = ended_asks known.walked (subst (λ x. Asks d (task_of x) m) (made_one is known.is_made) asked)

  settled_asks : {i m : ℕ} {s : Script} → Settled d σ i → item d i ≡ made s → Asks d (task_of s) m → Settled d σ m
  settled_asks (by_hand w) is asked = absurd (written_made w is)
  settled_asks {i} (by_entry {v = v} e) is asked = known_asks (grown.sound.found i v e).1.1 is asked
  settled_asks {i} (by_run {v = v} {row = row} e) is asked = known_asks (grown.sound.ran i v row e).1 is asked

  next_only : {n m : ℕ} {c : Value → Task} → state_of σ n ≡ Open → Asks d (asks n c) m → state_of σ m ≡ Open
  next_only e now = e
  next_only e (later makes asked) = absurd (open_none e makes)

  open_asks : (i : ℕ) {m : ℕ} {s : Script} → state_of σ i ≡ Open → item d i ≡ made s → Asks d (task_of s) m → Settled d σ m ⊎ (state_of σ m ≡ Open)
  open_asks i {m} e is asked =
      let w = wait i e in
      ⊎_elim inl (λ a. inr (next_only w.held.still a)) (walked_asks w.held.walked (subst (λ x. Asks d (task_of x) m) (made_one is w.is_made) asked))

  -- and they are all that a clean build looks at
  pub all_seen : Settled d σ k ⊎ (state_of σ k ≡ Open) → {j : ℕ} → Reached d k j → Settled d σ j ⊎ (state_of σ j ≡ Open)
  all_seen at_k =
      reached_all (λ j. Settled d σ j ⊎ (state_of σ j ≡ Open))
      (λ i m s seen is asked. ⊎_elim (λ settled. inl (settled_asks settled is asked)) (λ e. open_asks i e is asked) seen) at_k

  module _ (at_k : Settled d σ k ⊎ (state_of σ k ≡ Open)) where
    listed_state : (j : ℕ) → In j (ran_list σ (length d)) → (v : Value) × (row : List ℕ) × (state_of σ j ≡ Ran v row)
    listed_state j i = run_state (state_of σ j) (passing_in (λ x. is_run (state_of σ x)) 0 (length d) j i).0

    all_due : (j : ℕ) → In j (ran_list σ (length d)) → Due d es k j
    all_due j i =
        let (v, row, e) = listed_state j i in
        let (unsaved, known) = grown.sound.ran j v row e in
        record {
          looked = ⊎_elim (λ un. absurd (ran_seen e un)) (λ r. r) (grown.new j (fresh_unseen j));
          script = known.script;
          is_made = known.is_made;
          gave = v;
          has = known_makes known;
          unsaved = unsaved;
        }

    in_list : {j : ℕ} {s : Script} → item d j ≡ made s → (Saved d es j → ⊥) → Settled d σ j → In j (ran_list σ (length d))
    in_list is unsaved (by_hand w) = absurd (written_made w is)
    in_list {j} is unsaved (by_entry {v = v} e) = absurd (unsaved (grown.sound.found j v e).0)
    in_list {j} is unsaved (by_run e) = in_passing (λ x. is_run (state_of σ x)) 0 (length d) j (ap is_run e) (omega arith) (omega (arith, made_there d j is))

    due_all : (j : ℕ) → Due d es k j → In j (ran_list σ (length d))
    due_all j due =
        ⊎_elim
        (in_list due.is_made due.unsaved)
        (λ e. absurd (open_none e due.has))
        (all_seen at_k due.looked)

    left : (j : ℕ) → In j (ran_list σ (length d)) → Left d j (left_of d σ j)
    left j i =
        let (v, row, e) = listed_state j i in
        let known = (grown.sound.ran j v row e).1 in
        let s = known.script in
        let same : left_of d σ j ≡ record { script = s; asked = askings_in row; result = v } = (λ x. left_from (script_of (known.is_made x)) (e x)) in
        subst (λ f. Left d j f) (sym same) (record { its = known.is_made; ran = walked_runs known.walked })

    pub ends : (room : ℕ) (o : Out) (fs : List Entry) → o ≡ clean d k → fs ≡ es ++ take (room - length es) (left_all d σ (ran_list σ (length d))) → (b : Built d es room k o (ran_list σ (length d)) fs) × (b.new ≡ left_all d σ (ran_list σ (length d)))
    ends room o fs answer store = (
      record {
        answer = answer;
        rising = passing_rising (λ x. is_run (state_of σ x)) 0 (length d);
        all_due = all_due;
        due_all = due_all;
        new = left_all d σ (ran_list σ (length d));
        left = each_left (left_of d σ) (ran_list σ (length d)) left;
        store = store;
      },
      refl,
    )
