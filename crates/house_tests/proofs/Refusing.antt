-- A command that tells the numbers of a refusal is refused, and one that does not is not refused so. Assumes nothing.
use Rattle.std.proofs.Common.{◌≡◌, ℕ, Bool, Decides, MatchBool, List, false, true, ap, refl, sym, subst, arith}
use Rattle.std.proofs.lemmas.Bool.{false≢true}
use Rattle.house.specs.Deeds.{Deed}
use Rattle.house.specs.Performed.{PerformedSo}
use Rattle.house.specs.declared.perform.Told.{Told}
use Rattle.house.specs.declared.perform.Told.TheVariants.{Done, Refused, Ring, Value}
use Rattle.house.specs.declared.size.HouseSize.{HouseSize}
use Rattle.house_tests.specs.Refused.{LentSo, NotRefusedThere, RefusedThere}
use Rattle.house_tests.specs.declared.lent.Lent.{Lent}
use Rattle.house_tests.specs.Told.{told_as_numbers}

module _ {z z' : HouseSize} (lent : Lent) (d : Deed) (desks rows ran desks₁ rows₁ ran₁ : List ℕ) (n p : ℕ) (same : z ≡ z') (so : LentSo z' lent rows ran) where
  pub refused_there :
      (t : Told) → told_as_numbers t ≡ (3, n, p) → PerformedSo z d desks rows ran t desks₁ rows₁ ran₁ → (desks₁ ≡ desks) × (rows₁ ≡ rows) × (ran₁ ≡ ran)
      → RefusedThere z' lent d (n, p)
  refused_there (Refused f) told performed stay =
      record {
        desks = desks;
        rows = rows;
        ran = ran;
        lent_so = so;
        desks₁ = desks₁;
        rows₁ = rows₁;
        ran₁ = ran₁;
        f = f;
        performed = subst (λ z. PerformedSo z d desks rows ran (Refused f) desks₁ rows₁ ran₁) same performed;
        number = sym (ap (λ numbers. numbers.1) told);
        place = sym (ap (λ numbers. numbers.2) told);
        desks_stay = stay.0;
        rows_stay = stay.1;
        ran_stays = stay.2;
      }
  refused_there Done told performed stay = absurd (let kind = ap (λ numbers. numbers.0) told in omega arith)
  refused_there (Value v) told performed stay = absurd (let kind = ap (λ numbers. numbers.0) told in omega arith)
  refused_there Ring told performed stay = absurd (let kind = ap (λ numbers. numbers.0) told in omega arith)

  -- whether it is refused so, by a test of what is told and of the rows
  pub refused_or_not :
      (t : Told) (r : Bool) → Decides r ((told_as_numbers t ≡ (3, n, p)) × ((desks₁ ≡ desks) × (rows₁ ≡ rows) × (ran₁ ≡ ran)))
      → PerformedSo z d desks rows ran t desks₁ rows₁ ran₁ → MatchBool r (RefusedThere z' lent d (n, p)) (NotRefusedThere z' lent d (n, p))
  refused_or_not t true test performed = let right = test.0 refl in refused_there t right.0 performed right.1
  refused_or_not t false test performed =
      record {
        desks = desks;
        rows = rows;
        ran = ran;
        lent_so = so;
        desks₁ = desks₁;
        rows₁ = rows₁;
        ran₁ = ran₁;
        told = t;
        performed = subst (λ z. PerformedSo z d desks rows ran t desks₁ rows₁ ran₁) same performed;
        other = λ right. false≢true (test.1 (right.0, (right.1, right.2, right.3)));
      }
