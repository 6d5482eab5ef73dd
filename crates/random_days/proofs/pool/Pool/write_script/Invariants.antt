use Rattle.std.proofs.Common.{◌*◌}
use Rattle.random_days.proofs.Pools.{Begun}
use Rattle.random_days.proofs.pool.Pool.write_script.Given as goal

-- the lines so far are written
abbrev pub invariant-loop-index : goal.invariant-loop-index
invariant-loop-index l = Begun l.fn.row l.count (2 * l.number) l.index l.row
