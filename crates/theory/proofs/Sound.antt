-- What a run over sound answers comes to: a value only with its run, a ring only at an asking that has none. Assumes nothing.
use Rattle.std.proofs.Common.{◌≡◌, ℕ, zero, suc, List, [], ◌∷◌, sym, refl, ap, ◌∙◌, subst, ⊎_elim}
use Rattle.script.specs.Rule.{Script, Task, Value, asks, done, task_of}
use Rattle.entry.specs.declared.asking.Asking.{Asking}
use Rattle.theory.specs.Clean.{Asks, Makes, Out, Runs, as_written, by_script, deep, ends, goes, later, now, out_of, ring, run, value}
use Rattle.theory.specs.Items.{Item, item, made, written}
use Rattle.theory.proofs.Outs.{cases_out, deep_suc, deep_zero, not_both, run_asks_ring, run_asks_value, run_done, value_one}

-- the answers are values only where they are the items' values
module _ (d : List Item) (f : ℕ → Out) (sound : (j : ℕ) (v : Value) → f j ≡ value v → Makes d j v) where
  pub run_runs : (t : Task) (v : Value) → run f t ≡ value v → (qs : List Asking) × Runs d t qs v
  run_runs (done w) v e = ([], subst (λ x. Runs d (done w) [] x) (value_one (sym (run_done f w) ∙ e)) ends)
  run_runs (asks k c) v e =
      ⊎_elim
      (λ h.
      let rest = run_runs (c h.0) v (sym (run_asks_value f k c h.1) ∙ e) in
      (record { item = k; answer = h.0 } ∷ rest.0, goes (sound k h.0 h.1) rest.1))
      (λ h. absurd (not_both e (run_asks_ring f k c h)))
      (cases_out (f k))

  pub run_stuck : (t : Task) → run f t ≡ ring → (j : ℕ) × Asks d t j × (f j ≡ ring)
  run_stuck (done w) e = absurd (not_both (run_done f w) e)
  run_stuck (asks k c) e =
      ⊎_elim
      (λ h.
      let rest = run_stuck (c h.0) (sym (run_asks_value f k c h.1) ∙ e) in
      (rest.0, later (sound k h.0 h.1) rest.1, rest.2))
      (λ h. (k, now, h))
      (cases_out (f k))

  pub out_makes : (k : ℕ) (i : Item) (v : Value) → item d k ≡ i → out_of f i ≡ value v → Makes d k v
  out_makes k (written w) v is e = as_written (is ∙ ap written (value_one e))
  out_makes k (made s) v is e = by_script is (run_runs (task_of s) v e).1

  pub out_stuck : (k : ℕ) (i : Item) → item d k ≡ i → out_of f i ≡ ring → (s : Script) × (j : ℕ) × (item d k ≡ made s) × Asks d (task_of s) j × (f j ≡ ring)
  out_stuck k (written w) is e = absurd (not_both refl e)
  out_stuck k (made s) is e = let stuck = run_stuck (task_of s) e in (s, stuck.0, is, stuck.1, stuck.2)

-- what is found at any depth is the value
pub deep_makes : (d : List Item) (n k : ℕ) (v : Value) → deep n d k ≡ value v → Makes d k v
deep_makes d zero k v e = absurd (not_both e (deep_zero d k))
deep_makes d (suc n) k v e = out_makes d (λ j. deep n d j) (deep_makes d n) k (item d k) v refl (sym (deep_suc n d k) ∙ e)

-- an item without a value at one depth asks for an item without a value at the depth below
pub deep_stuck : (d : List Item) (n k : ℕ) → deep (suc n) d k ≡ ring → (s : Script) × (j : ℕ) × (item d k ≡ made s) × Asks d (task_of s) j × (deep n d j ≡ ring)
deep_stuck d n k e = out_stuck d (λ j. deep n d j) (deep_makes d n) k (item d k) refl (sym (deep_suc n d k) ∙ e)
