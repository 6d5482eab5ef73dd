-- What the command of a draft says, and which drafts need memory. Assumes nothing: these are definitions.
use Rattle.std.specs.Prelude.{Bool, true, false, ℕ, List, drop, slice_index}
use Rattle.entry.specs.Layout.{asking_size, result_at}
use Rattle.entry.specs.Rows.{first_asking}
use Rattle.house.specs.Deeds.{Deed, write, give, build, forget, bring}
use Rattle.random_days.specs.declared.drafts.Kind.{Kind}
use Rattle.random_days.specs.declared.drafts.Kind.TheVariants.{Write, Script, Build, Remove, Import}
use Rattle.rows.specs.Rows.{chunks}
use Rattle.script.specs.Allowed.{sources_in}
use Rattle.script.specs.Layout.{script_size}

-- the pieces behind a count, as many as it says that there are
abbrev pub pieces_said : {X : Type 0} → (List ℕ → X) → ℕ → List ℕ → List X
pieces_said read size xs = chunks read size (slice_index xs 0) (drop 1 xs)

-- lines, askings and a result are read from the row
abbrev pub drafted : Kind → List ℕ → Deed
drafted (Write p v) row = write p.desk p.item v
drafted (Script p) row = give p.desk p.item (sources_in row)
drafted (Build p) row = build p.desk p.item
drafted (Remove i) row = forget i
drafted Import row = bring (sources_in row) (pieces_said first_asking asking_size (drop script_size row)) (slice_index row result_at)

-- whether the command has lists, which are made on the heap
abbrev pub carries_lines : Kind → Bool
carries_lines (Write p v) = false
carries_lines (Script p) = true
carries_lines (Build p) = false
carries_lines (Remove i) = false
carries_lines Import = true
