-- Laws of what comes out of a run over given answers, and of the build with a bound. Assumes nothing.
use Rattle.std.proofs.Common.{◌≡◌, ℕ, zero, suc, ◌≤◌, ◌⊎◌, List, sym, refl, ap, ◌∙◌, inl, inr, ⊎_elim, arith}
use Rattle.script.specs.Rule.{Task, Value, asks, done, task_of}
use Rattle.theory.specs.Clean.{Out, deep, out_of, ring, run, then, value}
use Rattle.theory.specs.Items.{Item, item, made, written}

pub value_one : {v w : Value} → value v ≡ value w → v ≡ w
value_one e = cc

pub not_both : {o : Out} {v : Value} → o ≡ value v → o ≡ ring → ⊥
not_both e r = let z : ◌≡◌ {A = ℕ} 0 1 = cc in omega arith

pub cases_out : (o : Out) → ((v : Value) × (o ≡ value v)) ⊎ (o ≡ ring)
cases_out (value v) = inl (v, refl)
cases_out ring = inr refl

module _ (f : ℕ → Out) where
  pub run_done : (v : Value) → run f (done v) ≡ value v
  unfolding run
  run_done v = refl

  module _ (k : ℕ) (c : Value → Task) where
    pub run_asks : run f (asks k c) ≡ then (f k) (λ v. run f (c v))
    unfolding run
    run_asks = refl

    pub run_asks_value : {v : Value} → f k ≡ value v → run f (asks k c) ≡ run f (c v)
    run_asks_value e = run_asks ∙ ap (λ o. then o (λ v. run f (c v))) e

    pub run_asks_ring : f k ≡ ring → run f (asks k c) ≡ ring
    run_asks_ring e = run_asks ∙ ap (λ o. then o (λ v. run f (c v))) e

-- values stay values where the answers that are values stay
module _ (f g : ℕ → Out) (keeps : (j : ℕ) (v : Value) → f j ≡ value v → g j ≡ value v) where
  pub run_keeps : (t : Task) (v : Value) → run f t ≡ value v → run g t ≡ value v
  run_keeps (done w) v e = run_done g w ∙ sym (run_done f w) ∙ e
  run_keeps (asks k c) v e =
      ⊎_elim
      (λ h. run_asks_value g k c (keeps k h.0 h.1) ∙ run_keeps (c h.0) v (sym (run_asks_value f k c h.1) ∙ e))
      (λ h. absurd (not_both e (run_asks_ring f k c h)))
      (cases_out (f k))

  pub out_keeps : (i : Item) (v : Value) → out_of f i ≡ value v → out_of g i ≡ value v
  out_keeps (written w) v e = e
  out_keeps (made s) v e = run_keeps (task_of s) v e

pub deep_zero : (d : List Item) (k : ℕ) → deep 0 d k ≡ ring
unfolding deep
deep_zero d k = refl

pub deep_suc : (n : ℕ) (d : List Item) (k : ℕ) → deep (suc n) d k ≡ out_of (λ j. deep n d j) (item d k)
unfolding deep
deep_suc n d k = refl

-- a value found at one depth is found at every greater depth
pub deep_keeps : (d : List Item) (n m : ℕ) → n ≤ m → (k : ℕ) (v : Value) → deep n d k ≡ value v → deep m d k ≡ value v
deep_keeps d zero m h k v e = absurd (not_both e (deep_zero d k))
deep_keeps d (suc n) zero h k v e = absurd (omega arith)
deep_keeps d (suc n) (suc m) h k v e =
    deep_suc m d k ∙ out_keeps (λ j. deep n d j) (λ j. deep m d j) (deep_keeps d n m (omega arith)) (item d k) v (sym (deep_suc n d k) ∙ e)
