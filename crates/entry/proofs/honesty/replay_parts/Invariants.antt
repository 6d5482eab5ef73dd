use Rattle.script.specs.Rows.{script_in}
use Rattle.entry.specs.Rows.{askings_in}
use Rattle.entry.proofs.Replays.{Replayed}
use Rattle.entry.proofs.honesty.replay_parts.Given as goal

abbrev pub invariant-loop-index : goal.invariant-loop-index
invariant-loop-index l = Replayed (script_in l.script) (askings_in l.askings) l.given l.index l.registers
