-- How the entries of a row are honest, one after the other. Assumes nothing.
use Rattle.std.proofs.Common.{◌≡◌, ℕ, ◌+◌, ◌*◌, ◌≤◌, List, ◌++◌, length, length-append, take, drop, arith, subst, ap, sym, ◌∙◌, zero, suc}
use Rattle.std.specs.Prelude.{Err, Ok, OnOk, Result}
use Rattle.std.proofs.Math.Seq.{drop-append-add, take-append_seam}
use Rattle.entry.specs.Layout.{entry_size}
use Rattle.random_days.specs.Faultless.{AllFaultless, Faultless}
use Rattle.random_days.specs.declared.fault.Fault.{Fault}

-- one more in front
pub one_more_honest : (entry row : List ℕ) → length entry ≡ entry_size → Faultless entry → AllFaultless row → AllFaultless (entry ++ row)
one_more_honest entry row size honest all zero whole =
    subst Faultless (subst (λ n. entry ≡ take n (entry ++ row)) size (sym (take-append_seam entry row))) honest
one_more_honest entry row size honest all (suc k) whole =
    let same : drop (entry_size * k) row ≡ drop (entry_size * suc k) (entry ++ row) = sym (drop-append-add entry row (entry_size * k)) ∙ ap (λ m. drop m (entry ++ row)) (omega (arith, size)) in
    subst (λ part. Faultless (take entry_size part)) same (all k (omega (arith, whole, size, length-append entry row)))

-- the first entry of a row is honest where all are
pub first_honest : (entry row rest : List ℕ) → length entry ≡ entry_size → row ≡ entry ++ rest → AllFaultless row → Faultless entry
first_honest entry row rest size same all =
    let whole : entry_size * (0 + 1) ≤ length row = omega (arith, size, ap length same, length-append entry rest) in
    let front : take entry_size row ≡ entry = ap (take entry_size) same ∙ ap (λ n. take n (entry ++ rest)) (sym size) ∙ take-append_seam entry rest in
    subst Faultless front (all 0 whole)

-- and so are those behind it
pub later_honest : (entry row rest : List ℕ) → length entry ≡ entry_size → row ≡ entry ++ rest → AllFaultless row → AllFaultless rest
later_honest entry row rest size same all k whole =
    let behind : drop (entry_size * suc k) row ≡ drop (entry_size * k) rest = ap (drop (entry_size * suc k)) same ∙ ap (λ m. drop m (entry ++ rest)) (omega (arith, size)) ∙ drop-append-add entry rest (entry_size * k) in
    let there : entry_size * (suc k + 1) ≤ length row = omega (arith, whole, size, ap length same, length-append entry rest) in
    subst (λ part. Faultless (take entry_size part)) behind (all (suc k) there)

-- where one more is honest, it is enough that those behind it are
pub one_fewer : (judged : Result (Unit {0}) Fault) (entry rest rest₁ whole : List ℕ) → length entry ≡ entry_size → Faultless entry → rest ≡ entry ++ rest₁ → OnOk judged (AllFaultless rest → AllFaultless whole) → OnOk judged (AllFaultless rest₁ → AllFaultless whole)
one_fewer (Ok u) entry rest rest₁ whole size honest same before = λ behind. before (subst AllFaultless (sym same) (one_more_honest entry rest₁ size honest behind))
one_fewer (Err fault) entry rest rest₁ whole size honest same before = before
