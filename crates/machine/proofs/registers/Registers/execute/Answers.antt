use Rattle.std.proofs.Common.{sym, ap, ◌∙◌}
use Rattle.machine.specs.Machine.{resumed}
use Rattle.machine.proofs.Steps.{step}
use Rattle.machine.proofs.registers.Registers.execute.Goals as goal

pub returns : goal.returns
returns c = record {
  value = c.effect_of.ensures;
  step = λ s short h here. step s c.args.self short c.args.line h here ∙ ap (resumed s) (sym c.effect_of.ensures);
}
