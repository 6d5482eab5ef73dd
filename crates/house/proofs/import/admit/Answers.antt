use Rattle.std.proofs.Common.{◌≤◌, cond, map, length, is_ok, refl, ap, ◌∙◌, arith}
use Rattle.std.specs.Option.{option_map}
use Rattle.std.proofs.lemmas.List.{length-map}
use Rattle.std.proofs.lemmas.Bool.{and_from, cond-true, le-leb}
use Rattle.script.specs.Allowed.{counted_as, or_else}
use Rattle.script.specs.Layout.{max_lines}
use Rattle.script.specs.declared.refusal.Refusal.TheVariants.{NotHonest}
use Rattle.entry.specs.Replay.{difference}
use Rattle.entry.specs.Rows.{entry_in, entry_of}
use Rattle.entry.proofs.Forms.{entry_back}
use Rattle.store.specs.Faults.{add_fault}
use Rattle.store.specs.Rows.{added}
use Rattle.house.proofs.import.admit.Goals as goal

pub returns : goal.returns
returns c =
    let rows = c.args.rows.now in
    let lines = c.args.lines.now in
    let e = entry_of lines c.args.askings.now c.args.given in
    let few : length (map counted_as lines) ≤ max_lines = omega (arith, length-map lines counted_as, c.requires.lines) in
    let written = c.write_from_parts.ensures ∙ cond-true _ _ _ (and_from _ _ refl (and_from _ _ (le-leb _ _ c.requires.lines) (le-leb _ _ c.requires.askings))) in
    let same = ap entry_in written ∙ entry_back e (few, c.requires.askings) in
    record {
      fault = c.admit_entry.ensures.fault ∙ ap (λ x. or_else (option_map NotHonest (difference x)) (add_fault rows)) same;
      after = c.admit_entry.ensures.after ∙ ap (λ x. cond (is_ok c.admit_entry.result) (added rows x) rows) same;
    }
