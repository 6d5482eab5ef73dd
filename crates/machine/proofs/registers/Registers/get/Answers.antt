use Rattle.std.proofs.Common.{sym, arith}
use Rattle.std.proofs.lemmas.List.{get_or_past}
use Rattle.machine.proofs.registers.Registers.get.Goals as goal

pub returns-else-register : goal.returns-else-register
returns-else-register c = sym (get_or_past c.args.self.values c.args.register 0 (omega arith))
