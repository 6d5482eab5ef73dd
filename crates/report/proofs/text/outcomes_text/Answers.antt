use Rattle.std.proofs.Common.{◌++◌, map, string_bytes, inl, inr, ap, ◌∙◌}
use Rattle.std.specs.Iterator.Adapters.{enumerate_count, enumerate_source, zip_first, zip_second}
use Rattle.std.specs.Slice.Iter.{iter_rest}
use Rattle.house.specs.Deeds.{deed_of}
use Rattle.days.specs.Outcomes.{told_as}
use Rattle.report.specs.Text.{told_text, tolds_text}
use Rattle.report.proofs.Tellings.{all_told, none_left, none_told, one_more, one_told, still}
use Rattle.report.proofs.text.outcomes_text.Goals as goal

pub loop-deed-preserved : goal.loop-deed-preserved
loop-deed-preserved c =
    let cs = c.args.commands.now in
    let os = c.args.outcomes.now in
    let n = enumerate_count c.loop-deed.deed-iterator in
    let x = c.in-Some.command.now in
    let o = c.in-Some.outcome.now in
    let left = enumerate_source c.next.new.self in
    let steps = c.in-Some.ensures.steps in
    one_more (string_bytes c.loop-deed.text) (told_text n (deed_of x) (told_as o)) (still (enumerate_count c.next.new.self) (iter_rest (zip_first left)) (iter_rest (zip_second left))) (tolds_text 0 (map deed_of cs) (map told_as os))
    (c.in_ok-push_str.ensures.bytes ∙ ap (λ line. string_bytes c.loop-deed.text ++ line) (c.as_str.ensures.value ∙ c.in_ok-line.ensures ∙ ap (λ m. told_text m (deed_of x) (told_as o)) steps.1))
    (one_told n x o steps.0.0 steps.0.1 steps.2)
    c.loop-deed.invariant

pub returns : goal.returns
returns c =
    let n = enumerate_count c.loop-deed.deed-iterator in
    let left = enumerate_source c.loop-deed.deed-iterator in
    let cs = iter_rest (zip_first left) in
    let os = iter_rest (zip_second left) in
    all_told (string_bytes c.loop-deed.text) (tolds_text 0 (map deed_of c.args.commands.now) (map told_as c.args.outcomes.now)) {rest = still n cs os}
    (elim c.in-None.ensures.steps.0 [ inl a ↦ none_left n cs os a.1.0 | inr b ↦ none_told n cs os b.1.0 ])
    c.loop-deed.invariant
