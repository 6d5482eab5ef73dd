-- A command that answers by its faults tells and leaves what the faults say. Assumes nothing.
use Rattle.std.proofs.Common.{◌≡◌, ℕ, cond, List, is_ok, Ok, Err, Option, Result, refl, subst}
use Rattle.std.specs.Result.{result_err}
use Rattle.script.specs.declared.refusal.Refusal.{Refusal}
use Rattle.house.specs.Performed.{kept_or, told_by, verdict}

pub tells_fault : {A : Type 0} (r : Result A Refusal) (fault : Option Refusal) → result_err r ≡ fault → told_by r ≡ verdict fault
tells_fault (Ok x) fault e = subst (λ f. told_by (Ok x) ≡ verdict f) e refl
tells_fault (Err f) fault e = subst (λ g. told_by {A = ℕ} (Err f) ≡ verdict g) e refl

pub leaves_fault : {A : Type 0} (r : Result A Refusal) (fault : Option Refusal) (after before : List ℕ) {row : List ℕ} → result_err r ≡ fault → row ≡ cond (is_ok r) after before → row ≡ kept_or fault after before
leaves_fault (Ok x) fault after before {row} e is = subst (λ f. row ≡ kept_or f after before) e is
leaves_fault (Err f) fault after before {row} e is = subst (λ g. row ≡ kept_or g after before) e is
