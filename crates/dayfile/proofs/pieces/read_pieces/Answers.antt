use Rattle.std.proofs.Common.{◌≡◌, IfOk, vec_items, rules, subst}
use Rattle.std.proofs.lemmas.Iterator.{YieldsList-from_map, items_from_collect}
use Rattle.std.proofs.lemmas.Iterator.Consumers.{YieldsList-at}
use Rattle.rows.specs.Rows.{chunks}
use Rattle.rows.proofs.PartChains.{YieldsList-from_parts, YieldsList-to_chunks}
use Rattle.dayfile.proofs.pieces.read_pieces.Goals as goal

pub returns : goal.returns
returns g c =
    let read = g.T.Piece.reads in
    let bytes = c.args.bytes.now in
    let source = YieldsList-at c.map.ensures.source (YieldsList-from_parts _ c.parts.ensures) in
    let asked : chunks read c.SIZE.result c.from.result bytes ≡ chunks read g.T.Piece.SIZE c.args.count bytes = λ i. chunks read (c.SIZE.ensures i) (c.from.ensures i) bytes in
    subst (λ xs. IfOk c.collect.result (λ pieces. vec_items pieces ≡ xs)) asked
    (items_from_collect _ c.collect.ensures.ran (YieldsList-to_chunks read _ _ bytes (YieldsList-from_map _ read source c.map.ensures.closure (λ x r q k. search rules))))
