-- Laws of scripts that are written line by line. Assumes nothing.
use Rattle.std.proofs.Common.{◌≡◌, ℕ, zero, suc, ◌+◌, ◌*◌, ◌<◌, ◌≤◌, List, [], ◌∷◌, length, get_or, slice_index, drop, sym, refl, ap, subst, ◌∙◌, ⊎_elim, arith, mul-suc}
use Rattle.std.specs.List.{AllByRecursion}
use Rattle.std.proofs.lemmas.Bool.{cases_lt}
use Rattle.std.proofs.lemmas.Bool.Decides.{nat_tests}
use Rattle.std.proofs.lemmas.List.{drop-drop, get_or-set_same, get_or-take}
use Rattle.rows.specs.Rows.{chunks, written_at}
use Rattle.rows.proofs.Chunks.{length_chunks}
use Rattle.rows.proofs.Written.{drop_written, length_written}
use Rattle.script.proofs.Lines.{length_line, source_drop}
use Rattle.script.specs.Allowed.{LineAllowed, ScriptAllowed, first_source, sources_in}
use Rattle.script.specs.Layout.{line_size, max_lines, script_size}
use Rattle.script.specs.Rows.{line_out}
use Rattle.script.specs.declared.line.Line.{Line}
use Rattle.script.specs.declared.line.Line.TheVariants.{Ask, AskAt, Give, Number, Sum, Unless}
use Rattle.script.specs.declared.source.SourceLine.{SourceLine}
use Rattle.script.specs.declared.source.SourceLine.TheVariants.{Known, Unknown}
use Rattle.random_days.specs.Pooled.{DrawnLine, DrawnLines, DrawnSource, IsGive}
use Rattle.random_days.proofs.Fronts.{first_kept, first_written}
use Rattle.random_days.proofs.Fronts.{take_less}
use Rattle.random_days.proofs.Spoils.{source_written, written_one}

-- a line that is written is read back as one from outside
source_back : (row : List ℕ) (at : ℕ) (l : Line) → at + 4 ≤ length row → first_source (drop at (written_at row at (line_out l))) ≡ Known l
source_back row at (Ask r k) fits = source_written row at 0 r k 0 fits
source_back row at (AskAt r a) fits = source_written row at 1 r a 0 fits
source_back row at (Number r n) fits = source_written row at 2 r n 0 fits
source_back row at (Sum r a b) fits = source_written row at 3 r a b fits
source_back row at (Unless a b n) fits = source_written row at 4 a b n fits
source_back row at (Give r) fits = source_written row at 5 r 0 0 fits

-- a number before those that are written stays
pub before_stays : (row : List ℕ) (at i : ℕ) (ns : List ℕ) → at + length ns ≤ length row → i < at → get_or (written_at row at ns) i 0 ≡ get_or row i 0
before_stays row at i ns fits h =
    sym (get_or-take at (written_at row at ns) i 0 h) ∙ ap (λ xs. get_or xs i 0) (take_less row at at ns fits (omega arith)) ∙ get_or-take at row i 0 h

-- and so does a line
source_stays : (row : List ℕ) (at i : ℕ) (ns : List ℕ) → at + length ns ≤ length row → i + 4 ≤ at → first_source (drop i (written_at row at ns)) ≡ first_source (drop i row)
source_stays row at i ns fits h =
    let stays : (j : ℕ) → j < 4 → get_or (written_at row at ns) (i + j) 0 ≡ get_or row (i + j) 0 = λ j lt. before_stays row at (i + j) ns fits (omega arith) in
    source_drop (written_at row at ns) i
    ∙ rw (stays 0 (omega arith), stays 1 (omega arith), stays 2 (omega arith), stays 3 (omega arith)) refl
    ∙ sym (source_drop row i)

-- the first lines of a script are written, and nothing behind its place
pub record Begun (old : List ℕ) (count last i : ℕ) (row : List ℕ) : Type 0 where
  pub long : length row ≡ length old
  pub few : slice_index row 0 ≤ max_lines
  pub behind : drop script_size row ≡ drop script_size old
  pub first : script_size ≤ length old → get_or row 0 0 ≡ count
  pub lines : script_size ≤ length old → (k : ℕ) → k < i → DrawnSource count last k (first_source (drop (1 + line_size * k) row))

pub begun_none : (old : List ℕ) (count last : ℕ) {row : List ℕ} → count ≤ max_lines → row ≡ written_at old 0 (count ∷ []) → Begun old count last 0 row
begun_none old count last {row} few is =
    let ns = count ∷ [] in
    record {
      long = ap length is ∙ length_written old 0 ns;
      few = subst (λ xs. slice_index xs 0 ≤ max_lines) (sym is) (first_written old count max_lines few);
      behind = ap (drop script_size) is ∙ drop_written old 0 ns script_size (omega arith);
      first = λ room. ap (λ xs. get_or xs 0 0) (is ∙ written_one old 0 count) ∙ get_or-set_same old 0 count 0 (omega arith);
      lines = λ room k h. absurd (omega arith);
    }

pub begun_more : (old : List ℕ) (count last i at : ℕ) (l : Line) {row new : List ℕ} → i < count → count ≤ max_lines → DrawnLine last l → (i + 1 ≡ count → IsGive l) → at ≡ 1 + line_size * i → new ≡ written_at row at (line_out l) → Begun old count last i row → Begun old count last (i + 1) new
begun_more old count last i at l {row} {new} inside few drawn gives place is so_far =
    let four = length_line l in
    let here = 1 + line_size * i in
    let same : new ≡ written_at row here (line_out l) = is ∙ ap (λ k. written_at row k (line_out l)) place in
    let fits : script_size ≤ length old → here + length (line_out l) ≤ length row = λ room. omega (arith, so_far.long) in
    record {
      long = ap length same ∙ length_written row here (line_out l) ∙ so_far.long;
      few = subst (λ n. n ≤ max_lines) (sym (ap (λ xs. slice_index xs 0) same ∙ first_kept row here (line_out l) (omega arith))) so_far.few;
      behind = ap (drop script_size) same ∙ drop_written row here (line_out l) script_size (omega arith) ∙ so_far.behind;
      first = λ room. ap (λ xs. get_or xs 0 0) same ∙ before_stays row here 0 (line_out l) (fits room) (omega arith) ∙ so_far.first room;
      lines = λ room k h.
          let P : SourceLine → Type 0 = DrawnSource count last k in
          ⊎_elim
          (λ below. subst P (sym (ap (λ xs. first_source (drop (1 + line_size * k) xs)) same ∙ source_stays row here (1 + line_size * k) (line_out l) (fits room) (omega arith))) (so_far.lines room k below))
          (λ above.
          let now : k ≡ i = omega arith in
          let read : first_source (drop (1 + line_size * k) new) ≡ Known l = (λ j. first_source (drop (1 + line_size * now j) (same j))) ∙ source_back row here l (omega (arith, fits room)) in
          subst P (sym read) (drawn, λ e. gives (omega arith)))
          (cases_lt k i);
    }

pub begun_end : (old : List ℕ) (count last i : ℕ) {row : List ℕ} → count ≤ i → Begun old count last i row → script_size ≤ length old → DrawnLines last row
begun_end old count last i {row} all so_far room =
    let first = so_far.first room in
    λ k h. subst (λ n. DrawnSource n last k (first_source (drop (1 + line_size * k) row))) (sym first) (so_far.lines room k (omega arith))

line_allowed : (last : ℕ) (l : Line) → DrawnLine last l → LineAllowed (Known l)
line_allowed last (Ask r k) d = grind (arith, nat_tests)
line_allowed last (AskAt r a) d = grind (arith, nat_tests)
line_allowed last (Number r n) d = grind (arith, nat_tests)
line_allowed last (Sum r a b) d = grind (arith, nat_tests)
line_allowed last (Unless a b n) d = grind (arith, nat_tests)
line_allowed last (Give r) d = grind (arith, nat_tests)

drawn_allowed : (count last k : ℕ) (s : SourceLine) → DrawnSource count last k s → LineAllowed s
drawn_allowed count last k (Unknown kind r) d = absurd d
drawn_allowed count last k (Known l) d = line_allowed last l d.0

all_chunks : (P : SourceLine → Type 0) (n : ℕ) (xs : List ℕ) → ((k : ℕ) → k < n → P (first_source (drop (line_size * k) xs))) → AllByRecursion P (chunks first_source line_size n xs)
unfolding chunks
all_chunks P zero xs each = tt
all_chunks P (suc n) xs each = (
  each 0 (omega arith),
  all_chunks P n (drop line_size xs)
      (λ k h. subst (λ ys. P (first_source ys)) (ap (λ m. drop m xs) (omega (arith, mul-suc line_size k)) ∙ sym (drop-drop (line_size * k) line_size xs)) (each (suc k) (omega arith))),
)

-- a script of lines that were drawn is let in
pub script_allowed : (last : ℕ) (row : List ℕ) → get_or row 0 0 ≤ max_lines → DrawnLines last row → ScriptAllowed (sources_in row)
script_allowed last row few lines =
    let count = get_or row 0 0 in (
      rw length_chunks few,
      all_chunks LineAllowed count (drop 1 row)
          (λ k h. subst (λ ys. LineAllowed (first_source ys)) (sym (drop-drop (line_size * k) 1 row)) (drawn_allowed count last k _ (lines k h))),
    )

pub drawn_more : (last more : ℕ) (l : Line) → last ≤ more → DrawnLine last l → DrawnLine more l
drawn_more last more (Ask r k) h d = (d.0, omega (arith, d.1))
drawn_more last more (AskAt r a) h d = d
drawn_more last more (Number r n) h d = d
drawn_more last more (Sum r a b) h d = d
drawn_more last more (Unless a b n) h d = d
drawn_more last more (Give r) h d = d
