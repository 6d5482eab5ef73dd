use Rattle.std.proofs.Common.{rules, vec_items}
use Rattle.storefile.proofs.Numbers.{collected}
use Rattle.storefile.proofs.read_numbers.Goals as goal

pub returns : goal.returns
returns c = collected vec_items c.collect.result c.args.bytes.now (search rules) (search rules)
