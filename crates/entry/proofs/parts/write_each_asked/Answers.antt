use Rattle.std.proofs.Common.{◌+◌, ◌*◌, ◌≤◌, length, arith}
use Rattle.std.proofs.lemmas.List.{get_or_default}
use Rattle.rows.proofs.Counted.{begun_end, begun_more}
use Rattle.entry.specs.Layout.{asking_size}
use Rattle.entry.specs.Rows.{asking_out}
use Rattle.entry.proofs.Askings.{length_asking}
use Rattle.entry.proofs.parts.write_each_asked.Goals as goal

pub loop-index-preserved : goal.loop-index-preserved
loop-index-preserved c =
    let askings = c.args.askings.now in
    let inside = c.loop-index-test.true in
    let room : 1 + asking_size * length askings ≤ length c.args.row.now = omega (arith, c.requires.long, c.requires.few) in
    begun_more asking_out asking_size length_asking _ _ _ _ inside room (get_or_default askings c.loop-index.index _ _ inside) c.write.ensures c.loop-index.invariant

pub returns : goal.returns
returns c =
    begun_end asking_out asking_size length_asking _ _ _ (omega (arith, c.loop-index-test.false, c.loop-index.auto.index-end)) c.loop-index.invariant
