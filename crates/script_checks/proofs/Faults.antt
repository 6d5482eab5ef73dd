-- Laws of the faults of lines: a script has none exactly if it is allowed. Assumes nothing.
use Rattle.std.proofs.Common.{◌≡◌, ℕ, suc, ◌+◌, ◌<◌, ◌≤◌, true, false, List, [], ◌∷◌, length, get_or, drop, Some, None, Decides, Option, sym, refl, ◌∙◌, add-one, arith}
use Rattle.std.specs.List.{AllByRecursion}
use Rattle.std.proofs.lemmas.List.{at_drop_all, at_drop_more}
use Rattle.std.proofs.lemmas.Bool.Decides.{nat_tests}
use Rattle.script.specs.Allowed.{LineAllowed, ScriptAllowed, first_fault, line_fault, or_else, script_fault}
use Rattle.script.specs.Layout.{max_lines}
use Rattle.script.specs.declared.refusal.Refusal.{Refusal}
use Rattle.script.specs.declared.refusal.Refusal.TheVariants.{TooManyLines}
use Rattle.script.specs.declared.source.SourceLine.{SourceLine}
use Rattle.script.specs.declared.source.SourceLine.TheVariants.{Known, Unknown}

fault_none : (i : ℕ) (l : SourceLine) → line_fault i l ≡ None → LineAllowed l
fault_none i (Unknown kind r) e = absurd (grind arith)
fault_none i (Known l) e = grind (arith, nat_tests)

none_fault : (i : ℕ) (l : SourceLine) → LineAllowed l → line_fault i l ≡ None
none_fault i (Unknown kind r) a = absurd a
none_fault i (Known l) a = grind (arith, nat_tests)

first_cons : (i : ℕ) (l : SourceLine) (ls : List SourceLine) → first_fault i (l ∷ ls) ≡ or_else (line_fault i l) (first_fault (suc i) ls)
unfolding first_fault
first_cons i l ls = refl

first_nil : (i : ℕ) → first_fault i [] ≡ None
unfolding first_fault
first_nil i = refl

or_none : (x y : Option Refusal) → or_else x y ≡ None → (x ≡ None) × (y ≡ None)
or_none None y e = (refl, e)
or_none (Some r) y e = absurd (grind arith)

first_none : (i : ℕ) (ls : List SourceLine) → first_fault i ls ≡ None → AllByRecursion LineAllowed ls
first_none i [] e = tt
first_none i (l ∷ ls) e =
    let both = or_none (line_fault i l) (first_fault (suc i) ls) (sym (first_cons i l ls) ∙ e) in
    (fault_none i l both.0, first_none (suc i) ls both.1)

none_first : (i : ℕ) (ls : List SourceLine) → AllByRecursion LineAllowed ls → first_fault i ls ≡ None
none_first i [] a = first_nil i
none_first i (l ∷ ls) a = first_cons i l ls ∙ rw (none_fault i l a.0) (none_first (suc i) ls a.1)

script_none : (ls : List SourceLine) → script_fault ls ≡ None → ScriptAllowed ls
script_none ls e =
    let few : (length ls ≤ max_lines) × (first_fault 0 ls ≡ None) = grind (arith, nat_tests) in
    (few.0, first_none 0 ls few.1)

none_script : (ls : List SourceLine) → ScriptAllowed ls → script_fault ls ≡ None
none_script ls a = let none = none_first 0 ls a.1 in grind (arith, nat_tests)

-- a script without a fault is allowed, and one with a fault is not
pub allowed : (ls : List SourceLine) → None ≡ script_fault ls → Decides true (ScriptAllowed ls)
allowed ls none = (λ _. script_none ls (sym none), λ _. refl)

pub refused : (ls : List SourceLine) (e : Refusal) → Some e ≡ script_fault ls → Decides false (ScriptAllowed ls)
refused ls e some = (λ ok. absurd (grind arith), λ a. absurd (let none = some ∙ none_script ls a in grind arith))

-- the checks have passed the first i lines of ls, of which there are not too many
pub record Passed (ls : List SourceLine) (i : ℕ) : Type 0 where
  pub few : length ls ≤ max_lines
  pub same : first_fault i (drop i ls) ≡ first_fault 0 ls

module _ (ls : List SourceLine) (i : ℕ) (so_far : Passed ls i) where
  whole : first_fault 0 ls ≡ script_fault ls
  whole = let few = so_far.few in grind (arith, nat_tests)

  next : (d : SourceLine) → i < length ls → first_fault 0 ls ≡ or_else (line_fault i (get_or ls i d)) (first_fault (i + 1) (drop (i + 1) ls))
  next d h = sym so_far.same ∙ at_drop_more (first_fault i) ls i d h ∙ first_cons i _ _ ∙ rw add-one refl

  pub pass : (d : SourceLine) → i < length ls → None ≡ line_fault i (get_or ls i d) → Passed ls (i + 1)
  pass d h none = record { few = so_far.few; same = sym (next d h ∙ rw (← none) refl) }

  pub stop : (d : SourceLine) (e : Refusal) → i < length ls → Some e ≡ line_fault i (get_or ls i d) → Some e ≡ script_fault ls
  stop d e h some = sym (next d h ∙ rw (← some) refl) ∙ whole

  pub over : length ls ≤ i → None ≡ script_fault ls
  over h = sym (first_nil i) ∙ sym (at_drop_all (first_fault i) ls i h) ∙ so_far.same ∙ whole

pub too_many : (ls : List SourceLine) → max_lines < length ls → Some TooManyLines ≡ script_fault ls
too_many ls h = grind (arith, nat_tests)
