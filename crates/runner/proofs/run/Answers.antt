use mathlib.Core.Path.{refl, ◌∙◌}
use native.Mathlib.Omega.{arith}
use Rattle.script.proofs.Lines.{script_short}
use Rattle.machine.proofs.Steps.{rest_end}
use Rattle.runner.proofs.run.Goals as goal

pub loop-line-init : goal.loop-line-init
loop-line-init c = record { short = script_short c.args.script.now; same = refl; on = omega arith }

pub returns : goal.returns
returns c =
    let past = rw c.next_line.ensures at c.in_default.ensures in
    record { step = c.loop-line.invariant.same ∙ rest_end _ c.loop-line.state past; progress = tt }
