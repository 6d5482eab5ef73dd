use Rattle.std.proofs.Common.{◌≡◌, rules}
use Rattle.std.proofs.lemmas.Iterator.Adapters.{YieldsList-from_repeat_n, items_from_extend}
use Rattle.rows.proofs.push_zeros.Goals as goal

pub returns : goal.returns
returns c =
    let zeros = YieldsList-from_repeat_n (λ x y. y ≡ x) c.args.count 0 c.repeat_n.ensures.count c.repeat_n.ensures.item (λ y e. e) in
    let put = items_from_extend c.extend.result c.extend.ensures.ran zeros in
    search rules
