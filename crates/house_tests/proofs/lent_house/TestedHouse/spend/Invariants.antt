use Rattle.std.proofs.Common.{take}
use Rattle.test_rows.specs.Spent.{Spent}
use Rattle.house_tests.specs.Stepped.{Stepped}
use Rattle.house_tests.proofs.lent_house.TestedHouse.spend.Given as goal

abbrev pub invariant-loop-index : goal.invariant-loop-index
invariant-loop-index l = Spent Stepped (take l.index l.fn.day) l.initial.self.house l.self.house
