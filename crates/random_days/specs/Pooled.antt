-- The lines of a day's scripts. Assumes nothing: these are definitions.
use Rattle.std.specs.Prelude.{◌≡◌, ℕ, ◌+◌, ◌*◌, ◌<◌, ◌≤◌, List, drop, slice_index}
use Rattle.script.specs.Allowed.{first_source}
use Rattle.script.specs.Layout.{line_size, max_skip}
use Rattle.script.specs.declared.line.Line.{Line}
use Rattle.script.specs.declared.line.Line.TheVariants.{Ask, AskAt, Give, Number, Sum, Unless}
use Rattle.script.specs.declared.source.SourceLine.{SourceLine}
use Rattle.script.specs.declared.source.SourceLine.TheVariants.{Known, Unknown}

-- the few registers that scripts of a day use
abbrev pub Used : ℕ → Type 0
Used register = register < 3

-- it uses few registers, asks by number for no item above the last, and leaves out no more than it may
abbrev pub DrawnLine : ℕ → Line → Type 0
DrawnLine last (Ask r k) = Used r × (k ≤ last)
DrawnLine last (AskAt r a) = Used r × Used a
DrawnLine last (Number r n) = Used r
DrawnLine last (Sum r a b) = Used r × Used a × Used b
DrawnLine last (Unless a b n) = Used a × Used b × (n ≤ max_skip)
DrawnLine last (Give r) = Used r

abbrev pub IsGive : Line → Type 0
IsGive (Ask r k) = ⊥
IsGive (AskAt r a) = ⊥
IsGive (Number r n) = ⊥
IsGive (Sum r a b) = ⊥
IsGive (Unless a b n) = ⊥
IsGive (Give r) = Unit {0}

-- the line with this number of so many; the last one gives
abbrev pub DrawnSource : ℕ → ℕ → ℕ → SourceLine → Type 0
DrawnSource count last index (Unknown kind r) = ⊥
DrawnSource count last index (Known l) = DrawnLine last l × (index + 1 ≡ count → IsGive l)

-- each line is read from the row as one that was drawn
abbrev pub DrawnLines : ℕ → List ℕ → Type 0
DrawnLines last row = (k : ℕ) → k < slice_index row 0 → DrawnSource (slice_index row 0) last k (first_source (drop (1 + line_size * k) row))
