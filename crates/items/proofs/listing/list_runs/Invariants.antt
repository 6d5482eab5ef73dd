use Rattle.std.proofs.Common.{◌≡◌}
use Rattle.items.specs.Listing.{listed}
use Rattle.theory.specs.Reference.{passing}
use Rattle.items.proofs.listing.list_runs.Given as goal

abbrev pub invariant-loop-item : goal.invariant-loop-item
invariant-loop-item g l = l.row ≡ listed (passing (g.S.HasRun.has_run l.states) 0 l.item) l.fn.row
