use Rattle.std.proofs.Common.{◌+◌, ◌-◌, ◌^◌, ◌≤◌, length, take, ap, ◌∙◌, arith}
use Rattle.rows.specs.Rows.{written_at}
use Rattle.rows.proofs.Written.{written_capped}
use Rattle.script.specs.Layout.{max_lines}
use Rattle.test_rows.specs.Laid.{joined}
use Rattle.test_rows.proofs.pieces.put_script.Goals as goal

pub returns : goal.returns
unfolding written_at
returns c =
    let row = c.put_all.new.row in
    let lines = joined (take max_lines c.args.lines.now) in
    let short : length row ≤ 2 ^ 64 - 1 = omega (arith, c.well_formed.0.0, c.put_all.auto.row) in
    c.put_pieces.ensures
    ∙ (λ i. written_at row (c.saturating_add.ensures i) (joined (c.front.ensures i)))
    ∙ written_capped row (c.args.at + 1) (2 ^ 64 - 1) lines short
    ∙ ap (λ xs. written_at xs (c.args.at + 1) lines) c.put_all.ensures
