use Rattle.std.proofs.Common.{Err, Ok, Result, refl, rules}
use Rattle.std.specs.Prelude.{OnErr}
use Rattle.std.proofs.lemmas.Bool.Decides.{when_false, when_true}
use Rattle.test_rows.specs.Spent.{none}
use Rattle.test_rows.proofs.Spending.{spent_more}
use Rattle.house_tests.specs.Stepped.{Stepped}
use Rattle.house_tests.proofs.lent_house.TestedHouse.spend.Goals as goal

-- what holds anyway holds where there is an error
where_it_fails : {T E P : Type 0} (r : Result T E) → P → OnErr r P
where_it_fails (Ok x) h = tt
where_it_fails (Err e) h = h

pub loop-index-init : goal.loop-index-init
loop-index-init c = none

pub returns-then-not-branch-clause-went : goal.returns-then-not-branch-clause-went
returns-then-not-branch-clause-went c = record {
  x = _;
  t = c.loop-index.self.house;
  before = c.loop-index.invariant;
  inside = c.loop-index-test.true;
  here = search rules;
  other = when_false _ _ c.if-not-branch.true c.in_ok-take_step.ensures.went;
}

pub loop-index-preserved : goal.loop-index-preserved
loop-index-preserved c =
    spent_more Stepped c.args.day.now c.loop-index.index _ c.loop-index-test.true refl c.loop-index.invariant
    (when_true _ _ c.if-not-branch.false c.in_ok-take_step.ensures.went)

pub returns-in_err-take_step-clause-unmade : goal.returns-in_err-take_step-clause-unmade
returns-in_err-take_step-clause-unmade c =
    where_it_fails c.from_residual.result (
      c.loop-index.index,
      record {
        x = _;
        t = c.loop-index.self.house;
        before = c.loop-index.invariant;
        inside = c.loop-index-test.true;
        here = search rules;
        other = c.in_err-take_step.ensures.unmade;
      },
    )
