use Rattle.std.proofs.Common.{refl, arith}
use Rattle.rows.proofs.Counted.{ended}
use Rattle.script.specs.Layout.{max_askings}
use Rattle.entry.specs.Layout.{asking_size}
use Rattle.entry.specs.Rows.{asking_out}
use Rattle.entry.proofs.Askings.{length_asking}
use Rattle.entry.proofs.parts.write_asked.Goals as goal

pub returns : goal.returns
returns c =
    ended asking_out asking_size length_asking c.args.askings.now max_askings _ c.args.row.now _ c.write_each_asked.new.row refl c.requires.few c.requires.long c.put_all.ensures (omega arith)
    c.write_each_asked.ensures c.clear_from.ensures
