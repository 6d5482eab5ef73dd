use Rattle.std.proofs.Common.{take}
use Rattle.test_rows.specs.Spent.{Spent}
use Rattle.build_tests.specs.Did.{Did}
use Rattle.build_tests.proofs.desk.DeskInUse.spend_day.Given as goal

abbrev pub invariant-loop-number : goal.invariant-loop-number
invariant-loop-number l = Spent Did (take l.number l.fn.deeds) l.initial.self l.self
