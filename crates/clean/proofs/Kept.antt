-- Laws of what stays of the marks. Assumes nothing.
use Rattle.std.proofs.Common.{ℕ, List, inl, inr, ⊎_elim, arith}
use Rattle.theory.specs.Items.{Item}
use Rattle.clean.specs.Marks.{Settled, by_hand, by_mark}
use Rattle.clean.specs.Outcomes.{Kept}
use Rattle.clean.specs.declared.mark.Mark.{Mark}

pub kept_same : {P : ℕ → Type 0} {ms : List Mark} → Kept P ms ms
kept_same = record { known = λ k v e. e; open_still = λ k e. e; fewer = λ n. omega arith; new = λ k v e. inl e }

pub kept_join : {P : ℕ → Type 0} {ms ms₁ ms₂ : List Mark} → Kept P ms ms₁ → Kept P ms₁ ms₂ → Kept P ms ms₂
kept_join a b = record {
  known = λ k v e. b.known k v (a.known k v e);
  open_still = λ k e. b.open_still k (a.open_still k e);
  fewer = λ n. omega (arith, a.fewer n, b.fewer n);
  new = λ k v e. ⊎_elim (a.new k v) inr (b.new k v e);
}

pub kept_more : {P Q : ℕ → Type 0} {ms ms₁ : List Mark} → ((k : ℕ) → P k → Q k) → Kept P ms ms₁ → Kept Q ms ms₁
kept_more more a = record {
  known = a.known;
  open_still = a.open_still;
  fewer = a.fewer;
  new = λ k v e. ⊎_elim inl (λ p. inr (more k p)) (a.new k v e);
}

pub settled_kept : {P : ℕ → Type 0} {d : List Item} {ms ms₁ : List Mark} → Kept P ms ms₁ → (j : ℕ) → Settled d ms j → Settled d ms₁ j
settled_kept a j (by_hand e) = by_hand e
settled_kept a j (by_mark {v = v} e) = by_mark (a.known j v e)
