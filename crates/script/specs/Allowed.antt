-- Which lines and which scripts are let in, and what is told of the others. Assumes nothing: these are definitions.
use Rattle.std.specs.Prelude.{◌≡◌, ℕ, suc, ◌≤◌, Bool, true, cond, ◌&&◌, List, [], ◌∷◌, length, drop, Some, None, Option, nat_lt, slice_index}
use Rattle.std.specs.List.{AllByRecursion}
use Rattle.rows.specs.Rows.{chunks}
use Rattle.script.specs.Layout.{line_size, max_lines, max_skip, register_count}
use Rattle.script.specs.Rows.{line_in}
use Rattle.script.specs.declared.line.Line.{Line}
use Rattle.script.specs.declared.line.Line.TheVariants.{Ask, AskAt, Number, Sum, Unless, Give}
use Rattle.script.specs.declared.refusal.Refusal.{Refusal}
use Rattle.script.specs.declared.refusal.Refusal.TheVariants.{TooManyLines, UnknownKind, NoSuchRegister, SkipsTooMany}
use Rattle.script.specs.declared.source.SourceLine.{SourceLine}
use Rattle.script.specs.declared.source.SourceLine.TheVariants.{Known, Unknown}

-- four numbers from outside: a line, or a kind that no line has
abbrev pub source_line : ℕ → ℕ → ℕ → ℕ → SourceLine
source_line kind r a b = cond (nat_lt 5 kind) (Unknown kind r) (Known (line_in kind r a b))

-- a line of an unknown kind counts as kind 5
abbrev pub counted_as : SourceLine → Line
counted_as (Known l) = l
counted_as (Unknown kind r) = Give r

abbrev pub first_source : List ℕ → SourceLine
first_source xs = source_line (slice_index xs 0) (slice_index xs 1) (slice_index xs 2) (slice_index xs 3)

-- the lines of a row from elsewhere, as many as it says that there are
abbrev pub sources_in : List ℕ → List SourceLine
sources_in xs = chunks first_source line_size (slice_index xs 0) (drop 1 xs)

abbrev pub known_register : ℕ → Bool
known_register r = nat_lt r register_count

-- every register that the line names is there
abbrev pub registers_known : Line → Bool
registers_known (Ask r k) = known_register r
registers_known (AskAt r a) = known_register r && known_register a
registers_known (Number r n) = known_register r
registers_known (Sum r a b) = known_register r && (known_register a && known_register b)
registers_known (Unless a b n) = known_register a && known_register b
registers_known (Give r) = known_register r

-- how many lines the line may leave out
abbrev pub skip_of : Line → ℕ
skip_of (Ask r k) = 0
skip_of (AskAt r a) = 0
skip_of (Number r n) = 0
skip_of (Sum r a b) = 0
skip_of (Unless a b n) = n
skip_of (Give r) = 0

-- why line i of a script is refused: its kind, then its registers, then how many lines it leaves out
abbrev pub line_fault : ℕ → SourceLine → Option Refusal
line_fault i (Unknown kind r) = Some (UnknownKind i)
line_fault i (Known l) = cond (registers_known l) (cond (nat_lt max_skip (skip_of l)) (Some (SkipsTooMany i)) None) (Some (NoSuchRegister i))

abbrev pub or_else : Option Refusal → Option Refusal → Option Refusal
or_else None later = later
or_else (Some refusal) later = Some refusal

-- the first fault of the lines, of which the first has number i
unfoldable pub first_fault : ℕ → List SourceLine → Option Refusal
first_fault i [] = None
first_fault i (l ∷ ls) = or_else (line_fault i l) (first_fault (suc i) ls)

-- too many lines are told before any line is looked at
abbrev pub script_fault : List SourceLine → Option Refusal
script_fault ls = cond (nat_lt max_lines (length ls)) (Some TooManyLines) (first_fault 0 ls)

-- the same in other words: the line is one of the six kinds, names registers that are there, and leaves out no more than it may
abbrev pub LineAllowed : SourceLine → Type 0
LineAllowed (Unknown kind r) = ⊥
LineAllowed (Known l) = (registers_known l ≡ true) × (skip_of l ≤ max_skip)

abbrev pub ScriptAllowed : List SourceLine → Type 0
ScriptAllowed ls = (length ls ≤ max_lines) × AllByRecursion LineAllowed ls
