use Rattle.std.proofs.Common.{arith}
use Rattle.std.proofs.lemmas.List.{set_past}
use Rattle.machine.proofs.registers.Registers.set.Goals as goal

pub returns-else-register : goal.returns-else-register
returns-else-register c =
    rw (set_past c.args.self.values c.args.register c.args.value (omega arith))
