use Rattle.std.proofs.Common.{◌≤◌}
use Rattle.check_store.proofs.print_store.Given as goal

-- the honest entries so far are some of those that were looked at
abbrev pub invariant-loop-index : goal.invariant-loop-index
invariant-loop-index l = l.honest ≤ l.index-counter
