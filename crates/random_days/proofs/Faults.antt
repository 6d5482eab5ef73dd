-- Laws of the first fault of a script in a row. Assumes nothing.
use Rattle.std.proofs.Common.{◌≡◌, ℕ, zero, suc, ◌+◌, ◌*◌, ◌<◌, ◌≤◌, max, List, [], ◌∷◌, length, get_or, take, drop, Some, None, sym, refl, ap, subst, ◌∙◌, arith, mul-suc, add-zero}
use Rattle.std.specs.List.{AllByRecursion}
use Rattle.std.proofs.lemmas.Bool.Decides.{nat_tests}
use Rattle.std.proofs.lemmas.List.{drop-drop, get_or-take}
use Rattle.rows.specs.Rows.{chunks}
use Rattle.rows.proofs.Chunks.{length_chunks}
use Rattle.script.proofs.Lines.{source_drop}
use Rattle.script.specs.Allowed.{LineAllowed, ScriptAllowed, first_fault, first_source, line_fault, or_else, script_fault, sources_in}
use Rattle.script.specs.Layout.{line_size, max_lines}
use Rattle.script.specs.declared.refusal.Refusal.{Refusal}
use Rattle.script.specs.declared.refusal.Refusal.TheVariants.{TooManyLines}
use Rattle.script.specs.declared.source.SourceLine.{SourceLine}
use Rattle.script.specs.declared.source.SourceLine.TheVariants.{Known, Unknown}
use Rattle.random_days.specs.Spoiled.{FaultyLine, ManyLines}

none_fault : (i : ℕ) (l : SourceLine) → LineAllowed l → line_fault i l ≡ None
none_fault i (Unknown kind r) a = absurd a
none_fault i (Known l) a = grind (arith, nat_tests)

-- each of the lines is let in
each_allowed : (n : ℕ) (xs : List ℕ) → AllByRecursion LineAllowed (chunks first_source line_size n xs) → (k : ℕ) → k < n → LineAllowed (first_source (drop (line_size * k) xs))
unfolding chunks
each_allowed zero xs a k h = absurd (omega arith)
each_allowed (suc n) xs a zero h = a.0
each_allowed (suc n) xs a (suc k) h =
    subst (λ ys. LineAllowed (first_source ys)) (drop-drop (line_size * k) line_size xs ∙ ap (λ m. drop m xs) (omega (arith, mul-suc line_size k)))
    (each_allowed n (drop line_size xs) a.1 k (omega arith))

-- the first line that is not let in tells its fault
first_faulty : (i n : ℕ) (xs : List ℕ) (line : ℕ) (refusal : Refusal) → line < n → ((k : ℕ) → k < line → LineAllowed (first_source (drop (line_size * k) xs))) → line_fault (i + line) (first_source (drop (line_size * line) xs)) ≡ Some refusal → first_fault i (chunks first_source line_size n xs) ≡ Some refusal
unfolding chunks first_fault
first_faulty i zero xs line refusal h before fault = absurd (omega arith)
first_faulty i (suc n) xs zero refusal h before fault =
    let here : line_fault i (first_source xs) ≡ Some refusal = ap (λ k. line_fault k (first_source xs)) (sym (add-zero i)) ∙ fault in
    ap (λ f. or_else f (first_fault (suc i) (chunks first_source line_size n (drop line_size xs)))) here
first_faulty i (suc n) xs (suc line) refusal h before fault =
    let next : (k : ℕ) → drop (line_size * k) (drop line_size xs) ≡ drop (line_size * suc k) xs = λ k. drop-drop (line_size * k) line_size xs ∙ ap (λ m. drop m xs) (omega (arith, mul-suc line_size k)) in
    let place : suc i + line ≡ i + suc line = omega arith in
    let none : line_fault i (first_source xs) ≡ None = none_fault i (first_source xs) (before 0 (omega arith)) in
    ap (λ f. or_else f (first_fault (suc i) (chunks first_source line_size n (drop line_size xs)))) none
    ∙ first_faulty (suc i) n (drop line_size xs) line refusal (omega arith)
    (λ k lt. subst (λ ys. LineAllowed (first_source ys)) (sym (next k)) (before (suc k) (omega arith)))
    (ap (λ ys. line_fault (suc i + line) (first_source ys)) (next line) ∙ ap (λ k. line_fault k (first_source (drop (line_size * suc line) xs))) place ∙ fault)

-- rows that begin alike have the same lines there
same_source : (xs ys : List ℕ) (n k : ℕ) → take (line_size * n) xs ≡ take (line_size * n) ys → k < n → first_source (drop (line_size * k) xs) ≡ first_source (drop (line_size * k) ys)
same_source xs ys n k e h =
    let at = line_size * k in
    let same : (j : ℕ) → j < 4 → get_or xs (at + j) 0 ≡ get_or ys (at + j) 0
    = λ j lt. sym (get_or-take (line_size * n) xs (at + j) 0 (omega arith)) ∙ ap (λ zs. get_or zs (at + j) 0) e ∙ get_or-take (line_size * n) ys (at + j) 0 (omega arith) in
    source_drop xs at ∙ rw (same 0 (omega arith), same 1 (omega arith), same 2 (omega arith), same 3 (omega arith)) refl ∙ sym (source_drop ys at)

-- of a script that was let in, the line that was made faulty is the first
pub faulty_told : (old new : List ℕ) (refusal : Refusal) (line : ℕ) → ScriptAllowed (sources_in old) → FaultyLine refusal line old new → script_fault (sources_in new) ≡ Some refusal
faulty_told old new refusal line ok faulty =
    let count = get_or old 0 0 in
    let few : count ≤ max_lines = omega (arith, ok.0, length_chunks first_source line_size count (drop 1 old)) in
    let many : get_or new 0 0 ≡ max count 1 = faulty.0 in
    let long : length (sources_in new) ≤ max_lines = omega (arith, length_chunks first_source line_size (get_or new 0 0) (drop 1 new), many) in
    let told : first_fault 0 (sources_in new) ≡ Some refusal =
    first_faulty 0 (get_or new 0 0) (drop 1 new) line refusal (omega (arith, faulty.1))
    (λ k lt.
    subst LineAllowed (sym (same_source (drop 1 new) (drop 1 old) line k faulty.3 lt))
    (each_allowed count (drop 1 old) ok.1 k (omega (arith, faulty.1))))
    (ap (λ k. line_fault k (first_source (drop (line_size * line) (drop 1 new)))) (omega arith) ∙ ap (λ ys. line_fault line (first_source ys)) (drop-drop (line_size * line) 1 new) ∙ faulty.2) in
    let short = long in
    grind (arith, nat_tests)

pub many_told : (old new : List ℕ) → ManyLines old new → script_fault (sources_in new) ≡ Some TooManyLines
many_told old new many =
    let long : max_lines < length (sources_in new) = omega (arith, many.0, length_chunks first_source line_size (get_or new 0 0) (drop 1 new)) in
    grind (arith, nat_tests)

pub few_lines : (xs : List ℕ) → ScriptAllowed (sources_in xs) → get_or xs 0 0 ≤ max_lines
few_lines xs ok = omega (arith, ok.0, length_chunks first_source line_size (get_or xs 0 0) (drop 1 xs))

none_first : (i : ℕ) (ls : List SourceLine) → AllByRecursion LineAllowed ls → first_fault i ls ≡ None
unfolding first_fault
none_first i [] a = refl
none_first i (l ∷ ls) a = ap (λ f. or_else f (first_fault (suc i) ls)) (none_fault i l a.0) ∙ none_first (suc i) ls a.1

pub none_script : (ls : List SourceLine) → ScriptAllowed ls → script_fault ls ≡ None
none_script ls a = let none = none_first 0 ls a.1 in grind (arith, nat_tests)
