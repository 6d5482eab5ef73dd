use Rattle.std.proofs.Common.{◌≡◌, ◌++◌, map, length, vec_items, sym, ap, ◌∙◌, subst}
use Rattle.std.proofs.lemmas.List.{length-map}
use Rattle.house.specs.Deeds.{deed_of}
use Rattle.days.specs.House.{new_house}
use Rattle.days.specs.Outcomes.{WholeDay, told_as}
use Rattle.report.specs.Text.{stop_text, tolds_text}
use Rattle.report.proofs.text.performed_text.Goals as goal

pub returns : goal.returns
returns c =
    let d = c.args.day.now in
    let cs = c.as_slice-commands.ensures.value in
    let ts = map told_as (vec_items c.in_ok-outcomes.outcomes) in
    let many : length c.as_slice-commands.result.now ≡ length (map deed_of (vec_items d.commands)) = ap length cs ∙ sym (length-map (vec_items d.commands) deed_of) in
    record {
      tolds = ts;
      whole = subst (λ xs. WholeDay (new_house d.size) (map deed_of xs) ts) cs c.in_ok-outcomes.ensures;
      shown =
          c.in_ok-push_str.ensures.bytes
          ∙ (λ i. (c.in_ok-text.ensures ∙ (λ j. tolds_text 0 (map deed_of (cs j)) (map told_as (c.as_slice.ensures.value j)))) i ++ (c.as_str.ensures.value ∙ c.in_ok-last.ensures ∙ ap (λ n. stop_text n d.stopped) many) i);
    }
