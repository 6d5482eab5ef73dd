use Rattle.std.proofs.Common.{rules, vec_items}
use Rattle.entry.specs.Layout.{asking_size}
use Rattle.entry.specs.Rows.{first_asking}
use Rattle.entry.proofs.Askings.{first_local}
use Rattle.capi.proofs.Chains.{collected}
use Rattle.capi.proofs.pieces.read_askings.Goals as goal

pub returns : goal.returns
returns c = collected first_asking asking_size first_local vec_items c.collect.result c.args.numbers.now (search rules) (search rules)
