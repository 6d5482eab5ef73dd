use Rattle.std.proofs.Common.{◌≡◌, length, take, ◌∙◌, arith}
use Rattle.std.proofs.lemmas.List.{length-take-le}
use Rattle.std.proofs.lemmas.Bool.{cond-true, eq-eqb}
use Rattle.script.specs.Layout.{script_size}
use Rattle.entry.specs.Rows.{entry_from}
use Rattle.entry.proofs.Forms.{fitting}
use Rattle.entry.proofs.Laid.{laid}
use Rattle.entry.proofs.writing.write_parts.Goals as goal

pub returns : goal.returns
returns c =
    let row = c.args.row.now in
    let script = c.args.script.now in
    let askings = c.args.askings.now in
    let part : length (take script_size row) ≡ script_size = length-take-le script_size row (omega arith) in
    laid (entry_from script askings c.args.given) (fitting script askings c.args.given) row _ _ c.requires (c.write_script.ensures ∙ cond-true _ _ _ (eq-eqb _ _ part)) c.write_askings.ensures
