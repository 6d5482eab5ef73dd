use Rattle.std.proofs.Common.{rules, sym, ◌∙◌}
use Rattle.random_days.proofs.Again.{once}
use Rattle.random_days.proofs.judging.perform_judged.Goals as goal

pub returns-in_default-told-clause-right : goal.returns-in_default-told-clause-right
returns-in_default-told-clause-right c =
    let house = c.perform-told.new.self.house in
    let due = rw c.perform-told.ensures.store at c.due.ensures in
    record {
      told = c.perform-told.result;
      desks₁ = house.desks.items;
      rows₁ = house.rows.items;
      ran₁ = house.ran.items;
      performed = search rules;
      meets = search rules;
      room = search rules;
      in_room = search rules;
      left = search rules;
      answered = search rules;
      after = once _ _ _ _ _ _ _ (λ all. c.if-count-due.false (c.count.ensures ∙ all ∙ sym due));
    }
