use Rattle.std.proofs.Common.{◌≡◌, ◌<◌}
use Rattle.random_days.specs.Counted.{More}
use Rattle.random_days.specs.Days.{AfterCommands}
use Rattle.random_days.proofs.days.run_day.Given as goal

abbrev pub invariant-loop-deed : goal.invariant-loop-deed
invariant-loop-deed l = AfterCommands l.deed l.day.watched.house × (l.deed ≡ 0 → l.tally.commands ≡ l.fn.tally.commands) × (0 < l.deed → More l.deed l.fn.tally.commands l.tally.commands)
