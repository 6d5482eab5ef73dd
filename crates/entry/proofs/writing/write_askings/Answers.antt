use Rattle.std.proofs.Common.{arith}
use Rattle.rows.proofs.Counted.{ended}
use Rattle.script.specs.Layout.{max_askings}
use Rattle.entry.specs.Layout.{asking_size}
use Rattle.entry.specs.Rows.{asking_out, askings_in}
use Rattle.entry.proofs.Askings.{askings_few, length_asking}
use Rattle.entry.proofs.writing.write_askings.Goals as goal

pub returns : goal.returns
returns c =
    ended asking_out asking_size length_asking (askings_in c.args.askings.now) max_askings _ c.args.row.now _ c.write_each.new.row
    c.asking_count-count.ensures.value (askings_few c.args.askings.now) c.requires c.put_all.ensures (omega arith) c.write_each.ensures c.clear_from.ensures
