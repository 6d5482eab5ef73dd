-- What one line does to the registers, and what the rest of a script is worth after it. Assumes nothing: these are definitions.
use Rattle.std.specs.Prelude.{ℕ, ◌+◌, ◌-◌, ◌^◌, min, cond, drop, replicate, ◌==◌, slice_set}
use Rattle.script.specs.Layout.{register_count}
use Rattle.script.specs.Rule.{Script, Task, Value, asks, done, in_register, sum, task}
use Rattle.machine.specs.declared.effect.Effect.{Effect}
use Rattle.machine.specs.declared.effect.Effect.TheVariants.{Goes, Asks, Gives}
use Rattle.machine.specs.declared.effect.Waiting.{Waiting}
use Rattle.script.specs.declared.line.Line.{Line}
use Rattle.script.specs.declared.line.Line.TheVariants.{Ask, AskAt, Number, Sum, Unless, Give}
use Rattle.machine.specs.declared.registers.Registers.{Registers}

abbrev pub start : Registers
start = record { values = replicate register_count 0; next = 0 }

-- the registers with another value in one of them, and so many lines further; a line's number goes no higher than 2 ^ 64 - 1
abbrev pub put : Registers → ℕ → Value → Registers
put g r v = record { values = slice_set g.values r v; next = g.next }

abbrev pub further : Registers → ℕ → Registers
further g n = record { values = g.values; next = min (g.next + n) (2 ^ 64 - 1) }

abbrev pub value_in : Registers → ℕ → Value
value_in g r = in_register g.values r

-- the registers of a script that waited, with the answer
abbrev pub answered : Waiting → Value → Registers
answered w v = put w.registers w.register v

abbrev pub asking : ℕ → ℕ → Registers → Effect
asking k r g = Asks k (record { register = r; registers = g })

-- one line's work
abbrev pub work : Registers → Line → Effect
work g (Ask r k) = asking k r (further g 1)
work g (AskAt r a) = asking (value_in g a) r (further g 1)
work g (Number r n) = Goes (put (further g 1) r n)
work g (Sum r a b) = Goes (put (further g 1) r (sum (value_in g a) (value_in g b)))
work g (Unless a b n) = Goes (further (further g 1) (cond (value_in g a == value_in g b) n 0))
work g (Give r) = Gives (value_in g r)

-- the rest of a script, from the registers' next line on, as a task
abbrev pub rest : Script → Registers → Task
rest s g = task (drop g.next s) g.values 0

-- what is left of a script after one line's work
abbrev pub resumed : Script → Effect → Task
resumed s (Goes g) = rest s g
resumed s (Asks k w) = asks k (λ v. rest s (answered w v))
resumed s (Gives v) = done v
