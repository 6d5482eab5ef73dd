use Rattle.std.proofs.Common.{◌≡◌, ◌+◌, ◌-◌, ◌*◌, ◌^◌, ◌≤◌, length, sym, ◌∙◌, arith, rules}
use Rattle.rows.specs.Rows.{written_at}
use Rattle.test_rows.proofs.Joined.{piece_capped, pieces_all, pieces_more}
use Rattle.test_rows.proofs.pieces.put_pieces.Goals as goal

pub loop-index-preserved : goal.loop-index-preserved
loop-index-preserved g c =
    let h = c.index-pieces-index in
    let w = c.well_formed in
    let t = c.type_inv in
    let short : length c.loop-index.row ≤ 2 ^ 64 - 1 = omega (arith, w.0.0, c.loop-index.auto.row) in
    let put : c.put_all.new.row ≡ written_at c.loop-index.row (c.args.at + g.row.N * c.loop-index.index) c.index-pieces-index.result = c.put_all.ensures ∙ piece_capped c.loop-index.row c.args.at (g.row.N * c.loop-index.index) (2 ^ 64 - 1) c.index-pieces-index.result short c.saturating_mul.ensures c.saturating_add.ensures in
    pieces_more c.loop-index.row c.args.at g.row.N c.args.pieces.now c.loop-index.index c.index-pieces-index.result c.loop-index-test.true c.index-pieces-index.is (search rules) put c.loop-index.invariant

pub returns : goal.returns
returns g c = sym (pieces_all _ _ _ _ c.loop-index-test.false) ∙ c.loop-index.invariant
