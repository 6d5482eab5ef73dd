use Rattle.std.proofs.Common.{length, vec_items}
use Rattle.dayfile.proofs.Sofar.{Sofar}
use Rattle.dayfile.proofs.day.read_commands.Given as goal

abbrev pub invariant-loop-rest : goal.invariant-loop-rest
invariant-loop-rest l = Sofar l.bytes (vec_items l.commands) l.rest

abbrev pub decreases-loop-rest : goal.decreases-loop-rest
decreases-loop-rest l = length l.rest
