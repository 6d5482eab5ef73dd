-- Laws of replaying: how the first difference is found asking by asking, and that there is none exactly in an honest entry. Assumes nothing.
use Rattle.std.proofs.Common.{◌≡◌, ℕ, suc, ◌+◌, ◌<◌, ◌≤◌, true, cond, eqb, List, [], ◌∷◌, length, get_or, drop, is_ok, Some, None, Ok, Err, Decides, Result, sym, refl, ap, ◌∙◌, add-one, arith}
use Rattle.std.specs.Result.{result_err}
use Rattle.std.proofs.lemmas.List.{drop_all, drop_more}
use Rattle.std.proofs.lemmas.Bool.{and_parts, cond-false, cond-true, eq-eqb, ne_eqb}
use Rattle.std.proofs.lemmas.Bool.Decides.{nat_tests}
use Rattle.script.specs.Rule.{Script, Task, Value, asks, done, task_of}
use Rattle.machine.specs.Machine.{rest, start}
use Rattle.machine.specs.declared.registers.Registers.{Registers}
use Rattle.machine.proofs.Steps.{rest_start}
use Rattle.entry.specs.Entry.{Entry, Honest, no_asking, replays}
use Rattle.entry.specs.Replay.{difference, differs}
use Rattle.entry.specs.declared.asking.Asking.{Asking}

none_replays : (i : ℕ) (t : Task) (qs : List Asking) (w : Value) → differs i t qs w ≡ None → replays t qs w ≡ true
unfolding differs replays
none_replays i (done v) [] w e = grind (arith, nat_tests)
none_replays i (done v) (q ∷ qs) w e = absurd (grind arith)
none_replays i (asks k c) [] w e = absurd (grind arith)
none_replays i (asks k c) (q ∷ qs) w e =
    let both : (eqb k q.item ≡ true) × (differs (suc i) (c q.answer) qs w ≡ None) = grind (arith, nat_tests) in
    rw both.0 (none_replays (suc i) (c q.answer) qs w both.1)

replays_none : (i : ℕ) (t : Task) (qs : List Asking) (w : Value) → replays t qs w ≡ true → differs i t qs w ≡ None
unfolding differs replays
replays_none i (done v) [] w e = grind (arith, nat_tests)
replays_none i (done v) (q ∷ qs) w e = absurd (grind arith)
replays_none i (asks k c) [] w e = absurd (grind arith)
replays_none i (asks k c) (q ∷ qs) w e =
    let both = and_parts (eqb k q.item) _ e in
    rw both.0 (replays_none (suc i) (c q.answer) qs w both.1)

-- a verdict that tells the first difference is Ok exactly if the entry is honest
pub decided : {A : Type 0} (e : Entry) (r : Result A ℕ) → result_err r ≡ difference e → Decides (is_ok r) (Honest e)
unfolding Honest
decided e (Ok x) none = (λ _. none_replays 0 _ _ _ (sym none), λ _. refl)
decided e (Err i) some = (λ no_way. absurd (grind arith), λ h. absurd (let none = some ∙ replays_none 0 _ _ _ h in grind arith))

-- the script has made the first i askings, and its registers stand at g
pub record Replayed (s : Script) (qs : List Asking) (w : Value) (i : ℕ) (g : Registers) : Type 0 where
  pub same : differs i (rest s g) (drop i qs) w ≡ differs 0 (task_of s) qs w

pub replayed_none : (s : Script) (qs : List Asking) (w : Value) → Replayed s qs w 0 start
replayed_none s qs w = record { same = ap (λ t. differs 0 t qs w) (rest_start s) }

module _ {s : Script} {qs : List Asking} {w : Value} {i : ℕ} {g : Registers} (so_far : Replayed s qs w i g) where
  -- there is an asking to come
  next : (q : Asking) (t : Task) → drop i qs ≡ q ∷ drop (i + 1) qs → rest s g ≡ t → differs i t (q ∷ drop (i + 1) qs) w ≡ differs 0 (task_of s) qs w
  next q t there is = (λ j. differs i (sym is j) (sym there j) w) ∙ so_far.same

  pub gives_early : (v : Value) → i < length qs → rest s g ≡ done v → Some i ≡ differs 0 (task_of s) qs w
  unfolding differs
  gives_early v inside is = next (get_or qs i no_asking) (done v) (drop_more qs i no_asking inside) is

  module _ (q : Asking) (inside : i < length qs) (here : get_or qs i q ≡ q) where
    there : drop i qs ≡ q ∷ drop (i + 1) qs
    there = drop_more qs i q inside ∙ ap (λ x. x ∷ drop (i + 1) qs) here

    pub asks_other : (k : ℕ) (c : Value → Task) → rest s g ≡ asks k c → (q.item ≡ k → ⊥) → Some i ≡ differs 0 (task_of s) qs w
    unfolding differs
    asks_other k c is other = sym (cond-false _ _ _ (ne_eqb k q.item (λ e. other (sym e)))) ∙ next q (asks k c) there is

    pub asks_same : (k : ℕ) (c : Value → Task) (g₁ : Registers) → rest s g ≡ asks k c → q.item ≡ k → rest s g₁ ≡ c q.answer → Replayed s qs w (i + 1) g₁
    unfolding differs
    asks_same k c g₁ is same on = record {
      same =
          ap (λ n. differs n (rest s g₁) (drop (i + 1) qs) w) (add-one i)
          ∙ ap (λ t. differs (suc i) t (drop (i + 1) qs) w) on
          ∙ sym (cond-true _ _ _ (eq-eqb k q.item (sym same)))
          ∙ next q (asks k c) there is;
    }

  -- there is none
  module _ (past : length qs ≤ i) where
    last : (t : Task) → rest s g ≡ t → differs i t [] w ≡ differs 0 (task_of s) qs w
    last t is = (λ j. differs i (sym is j) (sym (drop_all i qs past) j) w) ∙ so_far.same

    pub gives : (v : Value) → rest s g ≡ done v → cond (eqb v w) None (Some i) ≡ differs 0 (task_of s) qs w
    unfolding differs
    gives v is = last (done v) is

    pub asks_more : (k : ℕ) (c : Value → Task) → rest s g ≡ asks k c → Some i ≡ differs 0 (task_of s) qs w
    unfolding differs
    asks_more k c is = last (asks k c) is
