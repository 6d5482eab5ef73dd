-- What is computed of a run over the clean answers is what the run asks for. Assumes nothing.
use Rattle.std.proofs.Common.{◌≡◌, ℕ, List, [], ◌∷◌, sym, refl, ap, ◌∙◌, subst, ⊎_elim}
use Rattle.script.specs.Rule.{Task, Value, asks, done}
use Rattle.entry.specs.declared.asking.Asking.{Asking}
use Rattle.theory.specs.Build.{In, here, there}
use Rattle.theory.specs.Clean.{Asks, Out, Runs, clean, ends, goes, later, now, ring, run, value}
use Rattle.theory.specs.Items.{Item}
use Rattle.theory.specs.Traces.{asked_for, trace, with_value}
use Rattle.theory.proofs.Bound.{clean_makes, clean_runs, makes_clean}
use Rattle.theory.proofs.Outs.{cases_out}
use Rattle.theory.proofs.Members.{in_cases, in_none}

module _ (f : ℕ → Out) where
  asked_value : (k : ℕ) (c : Value → Task) {v : Value} → f k ≡ value v → asked_for f (asks k c) ≡ k ∷ asked_for f (c v)
  unfolding asked_for
  asked_value k c e = ap (λ o. k ∷ with_value o [] (λ v. asked_for f (c v))) e

  asked_ring : (k : ℕ) (c : Value → Task) → f k ≡ ring → asked_for f (asks k c) ≡ k ∷ []
  unfolding asked_for
  asked_ring k c e = ap (λ o. k ∷ with_value o [] (λ v. asked_for f (c v))) e

  asked_none : (v : Value) → asked_for f (done v) ≡ []
  unfolding asked_for
  asked_none v = refl

  trace_none : (v : Value) → trace f (done v) ≡ []
  unfolding trace
  trace_none v = refl

  trace_value : (k : ℕ) (c : Value → Task) {v : Value} → f k ≡ value v → trace f (asks k c) ≡ record { item = k; answer = v } ∷ trace f (c v)
  unfolding trace
  trace_value k c e = ap (λ o. with_value o [] (λ v. record { item = k; answer = v } ∷ trace f (c v))) e

module _ (d : List Item) where
  pub in_asked : {t : Task} {j : ℕ} → Asks d t j → In j (asked_for (λ i. clean d i) t)
  unfolding asked_for
  in_asked now = here
  in_asked {j = j} (later {k = k} {c = c} m a) = subst (λ xs. In j xs) (sym (asked_value (λ i. clean d i) k c (makes_clean m))) (there (in_asked a))

  pub asked_in : (t : Task) (j : ℕ) → In j (asked_for (λ i. clean d i) t) → Asks d t j
  asked_in (done v) j i = absurd (in_none (subst (λ xs. In j xs) (asked_none (λ i. clean d i) v) i))
  asked_in (asks k c) j i =
      let first : j ≡ k → Asks d (asks k c) j = λ e. subst (λ x. Asks d (asks k c) x) (sym e) now in
      ⊎_elim
      (λ h.
      ⊎_elim
      first
      (λ rest. later (clean_makes d k h.0 h.1) (asked_in (c h.0) j rest))
      (in_cases (subst (λ xs. In j xs) (asked_value (λ i. clean d i) k c h.1) i)))
      (λ h. ⊎_elim first (λ rest. absurd (in_none rest)) (in_cases (subst (λ xs. In j xs) (asked_ring (λ i. clean d i) k c h) i)))
      (cases_out (clean d k))

  -- the trace of a run is what was computed
  pub runs_trace : {t : Task} {qs : List Asking} {v : Value} → Runs d t qs v → qs ≡ trace (λ i. clean d i) t
  runs_trace (ends {v = v}) = sym (trace_none (λ i. clean d i) v)
  runs_trace (goes {k = k} {a = a} {c = c} m r) = ap (λ qs. record { item = k; answer = a } ∷ qs) (runs_trace r) ∙ sym (trace_value (λ i. clean d i) k c (makes_clean m))

  pub trace_runs : (t : Task) (v : Value) → run (λ i. clean d i) t ≡ value v → Runs d t (trace (λ i. clean d i) t) v
  trace_runs t v e = let (qs, r) = clean_runs d t v e in subst (λ x. Runs d t x v) (runs_trace r) r
