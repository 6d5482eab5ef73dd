use Rattle.std.proofs.Common.{rules, vec_items}
use Rattle.house_tests.specs.Drafted.{drafted}
use Rattle.house_tests.proofs.Refusing.{refused_or_not}
use Rattle.house_tests.proofs.lent.is_refused.Goals as goal

pub returns : goal.returns
returns c =
    let old = c.in_ok-tested.tested.house in
    let new = c.perform.new.self.house in
    refused_or_not
    c.args.lent (drafted c.args.draft) (vec_items old.desks) (vec_items old.rows) (vec_items old.ran) (vec_items new.desks) (vec_items new.rows) (vec_items new.ran)
    c.args.refusal.0 c.args.refusal.1 c.in_ok-tested.ensures.0 c.in_ok-tested.ensures.1 c.in_ok-told.told _ (search rules) c.in_ok-told.ensures.performed
