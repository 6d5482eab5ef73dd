use Rattle.std.proofs.Common.{◌≡◌, ◌≤◌, map, length, take, ◌∙◌, arith}
use Rattle.std.proofs.lemmas.List.{length-map, length-take-le}
use Rattle.std.proofs.lemmas.Bool.{and_from, cond-true, eq-eqb, le-leb}
use Rattle.script.specs.Allowed.{counted_as}
use Rattle.script.specs.Layout.{max_lines, script_size}
use Rattle.entry.specs.Rows.{entry_of}
use Rattle.entry.proofs.Laid.{laid}
use Rattle.entry.proofs.parts.write_fitting.Goals as goal

pub returns : goal.returns
returns c =
    let row = c.args.row.now in
    let lines = c.args.lines.now in
    let few : length (map counted_as lines) ≤ max_lines = omega (arith, length-map lines counted_as, c.requires.lines) in
    let part : length (take script_size row) ≡ script_size = length-take-le script_size row (omega (arith, c.requires.long)) in
    laid (entry_of lines c.args.askings.now c.args.given) (few, c.requires.askings) row _ _ c.requires.long
    (c.write_source.ensures ∙ cond-true _ _ _ (and_from _ _ (eq-eqb _ _ part) (le-leb _ _ c.requires.lines))) c.write_asked.ensures
