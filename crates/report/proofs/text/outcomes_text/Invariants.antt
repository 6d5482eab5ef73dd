use Rattle.std.proofs.Common.{◌≡◌, ◌++◌, map, string_bytes}
use Rattle.std.specs.Iterator.Adapters.{enumerate_count, enumerate_source, zip_first, zip_second}
use Rattle.std.specs.Slice.Iter.{iter_rest}
use Rattle.house.specs.Deeds.{deed_of}
use Rattle.days.specs.Outcomes.{told_as}
use Rattle.report.specs.Text.{tolds_text}
use Rattle.report.proofs.Tellings.{still}
use Rattle.report.proofs.text.outcomes_text.Given as goal

-- the text so far, and what is still to be told
abbrev pub invariant-loop-deed : goal.invariant-loop-deed
invariant-loop-deed l =
    let pairs = enumerate_source l.deed-iterator in
    string_bytes l.text ++ still (enumerate_count l.deed-iterator) (iter_rest (zip_first pairs)) (iter_rest (zip_second pairs)) ≡ tolds_text 0 (map deed_of l.commands) (map told_as l.outcomes)
