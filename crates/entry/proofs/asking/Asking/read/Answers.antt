use Rattle.std.proofs.Common.{sym, ◌∙◌}
use Rattle.std.proofs.lemmas.List.{get_or-drop}
use Rattle.entry.proofs.asking.Asking.read.Goals as goal

pub returns : goal.returns
returns c =
    let there = get_or-drop c.args.at c.args.row.now in
    λ i. record { item = (c.number_after.ensures ∙ sym (there 0 0)) i; answer = (c.number_after-2.ensures ∙ sym (there 1 0)) i }
