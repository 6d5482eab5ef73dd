use Rattle.std.proofs.Common.{◌≡◌, slice_index, drop, rules}
use Rattle.std.proofs.lemmas.Iterator.{YieldsList-from_map, items_from_collect}
use Rattle.std.proofs.lemmas.Iterator.Consumers.{YieldsList-at}
use Rattle.rows.specs.Parts.{parts_left}
use Rattle.rows.specs.Rows.{chunks}
use Rattle.rows.proofs.PartChains.{YieldsList-from_parts, YieldsList-to_chunks}
use Rattle.random_days.proofs.drafts.read_counted.Goals as goal

pub returns : goal.returns
returns g c = λ reads same.
    let said : parts_left c.parts.result ≡ chunks (λ xs. xs) c.args.size (slice_index c.args.row.now 0) (drop 1 c.args.row.now) = search rules in
    let source = YieldsList-at c.map.ensures.source (YieldsList-from_parts _ said) in
    items_from_collect _ c.collect.ensures.ran (YieldsList-to_chunks reads _ _ _ (YieldsList-from_map _ reads source c.map.ensures.closure (λ f part piece k. same _ _ _ _ k)))
