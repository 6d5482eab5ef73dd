-- What a script is worth at the point where a run of it stopped. Assumes nothing: these are definitions.
use Rattle.std.specs.Prelude.{◌<◌, ◌≤◌, length}
use Rattle.script.specs.Rule.{Script, Task, asks, done}
use Rattle.machine.specs.Machine.{answered, rest}
use Rattle.machine.specs.declared.registers.Registers.{Registers}
use Rattle.runner.specs.declared.Step.{Step}
use Rattle.runner.specs.declared.Step.TheVariants.{Asks, Gives}

-- the task that a step stands for: it asks and goes on with the answer, or it is done
abbrev pub stepped : Script → Step → Task
stepped s (Asks k w) = asks k (λ v. rest s (answered w v))
stepped s (Gives v) = done v

-- a script that waits stands past the line where it set out, and at most at its end
abbrev pub Progress : Script → Registers → Step → Type 0
Progress s g (Asks k w) = (g.next < w.registers.next) × (w.registers.next ≤ length s)
Progress s g (Gives v) = Unit {0}
