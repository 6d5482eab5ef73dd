-- The test of scripts tells exactly whether they are the same. Assumes nothing.
use Rattle.std.proofs.Common.{◌≡◌, ℕ, Bool, false, eqb, List, [], ◌∷◌, Decides, sym, refl, ap, ◌∙◌, arith}
use Rattle.std.proofs.lemmas.Bool.{false≢true}
use Rattle.std.proofs.lemmas.Bool.Decides.{Decides-and, Decides-eqb, Decides-like}
use Rattle.script.specs.Rows.{line_at, line_out}
use Rattle.script.specs.Rule.{Script}
use Rattle.script.specs.declared.line.Line.{Line}
use Rattle.script.proofs.Lines.{line_back}
use Rattle.theory.specs.Same.{same_by, same_line, same_script}

pub decides_none : {P : Type 0} (r : Bool) → r ≡ false → (P → ⊥) → Decides r P
decides_none r e none = (λ t. absurd (false≢true (sym e ∙ t)), λ p. absurd (none p))

not_empty : {A : Type 0} {x : A} {xs : List A} → [] ≡ x ∷ xs → ⊥
not_empty e = let z : ◌≡◌ {A = ℕ} 0 1 = cc in omega arith

module _ {A : Type 0} (same : A → A → Bool) (each : (x y : A) → Decides (same x y) (x ≡ y)) where
  pub decides_same_by : (xs ys : List A) → Decides (same_by same xs ys) (xs ≡ ys)
  unfolding same_by
  decides_same_by [] [] = (λ _. refl, λ _. refl)
  decides_same_by [] (y ∷ ys) = decides_none _ refl not_empty
  decides_same_by (x ∷ xs) [] = decides_none _ refl (λ e. not_empty (sym e))
  decides_same_by (x ∷ xs) (y ∷ ys) = Decides-like _ (λ p. cc (p.0, p.1)) (λ e. (cc, cc)) (Decides-and (same x y) (same_by same xs ys) (each x y) (decides_same_by xs ys))

pub decides_same_line : (l m : Line) → Decides (same_line l m) (l ≡ m)
decides_same_line l m =
    Decides-like _
    (λ e. sym (line_back l) ∙ ap (λ xs. line_at xs 0) e ∙ line_back m)
    (ap line_out)
    (decides_same_by eqb Decides-eqb (line_out l) (line_out m))

pub decides_same_script : (s r : Script) → Decides (same_script s r) (s ≡ r)
decides_same_script s r = decides_same_by same_line decides_same_line s r
