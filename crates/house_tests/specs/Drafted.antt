-- What the command of a draft says, and which drafts need memory. Assumes nothing: these are definitions.
use Rattle.std.specs.Prelude.{Bool, true, false, map}
use Rattle.script.specs.Allowed.{first_source}
use Rattle.entry.specs.Rows.{first_asking}
use Rattle.house.specs.Deeds.{Deed, write, give, build, forget, bring}
use Rattle.house_tests.specs.declared.draft.Draft.{Draft}
use Rattle.house_tests.specs.declared.draft.Draft.TheVariants.{Write, Script, Build, Remove, Import}

-- a line is four numbers, an asking two
abbrev pub drafted : Draft → Deed
drafted (Write x k v) = write x k v
drafted (Script x k ls) = give x k (map first_source ls.now)
drafted (Build x k) = build x k
drafted (Remove i) = forget i
drafted (Import ls qs v) = bring (map first_source ls.now) (map first_asking qs.now) v

-- whether the command has lists, which are made on the heap
abbrev pub carries_lines : Draft → Bool
carries_lines (Write x k v) = false
carries_lines (Script x k ls) = true
carries_lines (Build x k) = false
carries_lines (Remove i) = false
carries_lines (Import ls qs v) = true
