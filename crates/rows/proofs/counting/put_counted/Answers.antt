use Rattle.std.proofs.Common.{◌≡◌, ◌+◌, ◌*◌, length, sym, ap, ◌∙◌, arith}
use Rattle.rows.specs.Rows.{written_at}
use Rattle.rows.proofs.Pieces.{begun_end, begun_more, begun_none}
use Rattle.rows.proofs.Written.{length_written}
use Rattle.rows.proofs.counting.put_counted.Goals as goal

pub loop-index-init : goal.loop-index-init
loop-index-init g c = λ room pieces gives. begun_none _ _ _ pieces

pub loop-index-preserved : goal.loop-index-preserved
loop-index-preserved g c = λ room pieces gives.
    let at = 1 + c.args.size * c.loop-index.index in
    let here = gives.1 c.loop-index.index c.numbers.result c.loop-index-test.true c.numbers.ensures in
    let put : c.put_all-in-loop-index.new.row ≡ written_at c.loop-index.row at (g.P.AsSlice.items c.numbers.result) = rw (sym c.as_slice.ensures) c.put_all-in-loop-index.ensures in
    begun_more _ _ _ _ pieces _ c.numbers.result c.loop-index-test.true gives.0 room here put (c.loop-index.invariant room pieces gives)

pub returns-clause-written : goal.returns-clause-written
returns-clause-written g c = λ room pieces gives.
    let all : c.loop-index.index ≡ c.args.count = omega (arith, c.loop-index-test.false, c.loop-index.auto.index-end) in
    let long : length c.put_all.new.row ≡ length c.args.row.now = ap length c.put_all.ensures ∙ length_written _ 0 _ in
    let behind = c.loop-index.invariant (omega (arith, room, long)) pieces gives in
    begun_end _ _ _ _ pieces all gives.0 room c.put_all.ensures behind c.clear_from.ensures
