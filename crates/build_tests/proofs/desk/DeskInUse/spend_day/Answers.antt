use Rattle.std.proofs.Common.{refl}
use Rattle.test_rows.specs.Spent.{none}
use Rattle.test_rows.proofs.Spending.{spent_more, stops_at}
use Rattle.build_tests.specs.Did.{Did, Otherwise}
use Rattle.build_tests.proofs.desk.DeskInUse.spend_day.Goals as goal

pub loop-number-init : goal.loop-number-init
loop-number-init c = none

pub loop-number-preserved : goal.loop-number-preserved
loop-number-preserved c =
    spent_more Did c.args.deeds.now c.loop-number.number _ c.loop-number-test.true refl c.loop-number.invariant c.if-not-goes_so.ensures

pub returns-then-not-goes_so : goal.returns-then-not-goes_so
returns-then-not-goes_so c =
    stops_at Did Otherwise c.args.deeds.now c.loop-number.number _ c.loop-number-test.true c.loop-number.invariant c.if-not-goes_so.ensures
