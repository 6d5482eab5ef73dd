use Rattle.std.proofs.Common.{◌+◌, ◌*◌, ◌<◌, ◌≤◌, length, arith}
use Rattle.rows.proofs.Counted.{begun_end, begun_more}
use Rattle.entry.specs.Layout.{asking_size}
use Rattle.entry.specs.Rows.{asking_out, askings_in}
use Rattle.entry.proofs.Askings.{askings_few, length_asking, read_there}
use Rattle.entry.proofs.writing.write_each.Goals as goal

pub loop-index-preserved : goal.loop-index-preserved
loop-index-preserved c =
    let row = c.args.askings.now in
    let inside : c.loop-index.index < length (askings_in row) = omega (arith, c.asking_count-index-end.ensures.value) in
    let room : 1 + asking_size * length (askings_in row) ≤ length c.args.row.now = omega (arith, askings_few row) in
    begun_more asking_out asking_size length_asking _ _ _ c.read.result inside room (read_there row _ _ inside c.read.ensures) c.write.ensures c.loop-index.invariant

pub returns : goal.returns
returns c =
    begun_end asking_out asking_size length_asking _ _ _ (omega (arith, c.asking_count-index-end.ensures.value, c.loop-index.auto.index-end)) c.loop-index.invariant
