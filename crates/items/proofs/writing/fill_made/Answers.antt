use Rattle.std.proofs.Common.{◌≡◌, ◌∷◌, length, take, drop, set, ap, ◌∙◌, arith}
use Rattle.std.proofs.lemmas.List.{length-drop, length-set, length-take}
use Rattle.std.proofs.lemmas.Bool.{and_from, cond-true, eq-eqb, le-leb}
use Rattle.script.specs.Layout.{script_size}
use Rattle.items.proofs.Placed.{headed}
use Rattle.items.proofs.writing.fill_made.Goals as goal

pub returns : goal.returns
returns c =
    let row = c.args.row.now in
    let part : length (take script_size (drop 1 (set row 0 1))) ≡ script_size = simp (length-take, length-drop, length-set) (omega (arith, c.requires.long)) in
    headed row c.write_source.new.row 1 script_size c.requires.long
    ∙ ap (λ zs. 1 ∷ zs) (c.write_source.ensures ∙ cond-true _ _ _ (and_from _ _ (eq-eqb _ _ part) (le-leb _ _ c.requires.few)))
