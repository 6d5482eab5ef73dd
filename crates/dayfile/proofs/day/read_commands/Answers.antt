use Rattle.std.proofs.Common.{rules}
use Rattle.dayfile.proofs.Sofar.{all, cut, more, none}
use Rattle.dayfile.proofs.day.read_commands.Goals as goal

pub loop-rest-init : goal.loop-rest-init
loop-rest-init c = none c.args.bytes.now c.new-commands.ensures.items c.tail-rest.ensures

pub returns-in_default : goal.returns-in_default
returns-in_default c = cut c.loop-rest.invariant (search rules) c.in_default.ensures.value

pub loop-rest-preserved : goal.loop-rest-preserved
loop-rest-preserved c = more c.loop-rest.invariant c.in_ok-read_command.field-0 c.in-Some.ensures.value c.in_ok-read_command.ensures c.in_ok-push.ensures.items c.tail-rest-in-loop-rest.ensures

pub returns : goal.returns
returns c = all c.loop-rest.invariant (search rules)
