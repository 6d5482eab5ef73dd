use Rattle.std.proofs.Common.{◌≡◌, ◌%◌, take, drop, inl, inr, rules, arith, ap, ◌∙◌}
use Rattle.entry.specs.Layout.{entry_size}
use Rattle.rows.specs.Rows.{written_at}
use Rattle.store.specs.Rows.{count_of, entry_at}
use Rattle.random_days.specs.Judged.{first_told}
use Rattle.random_days.specs.Seeds.{number_at}
use Rattle.random_days.proofs.Draws.{does, does_not, spoiled_stays}
use Rattle.random_days.proofs.drawing.draw_import.Goals.{then-count-gt0+then-percent, else-count-gt0, else-count-gt0-via-then-count-gt0+else-percent, else-count-gt0-via-else-count-gt0, then-percent-2, else-percent-2}
use Rattle.random_days.proofs.drawing.draw_import.Goals as goal

pub returns-clause-by : goal.returns-clause-by
returns-clause-by c =
    let store = c.args.view.house.now.rows.items in
    let count : c.entry_count-count.result ≡ count_of store = search rules in
    record {
      row = c.if-count-gt0.row;
      size = search rules;
      drawn = elim c.if-count-gt0.branch [
        | then-count-gt0+then-percent w ↦
            let some = w.if-count-gt0.true in
            let happens = does _ _ _ 50 w.percent.ensures.happens w.at.ensures w.if-percent.true in
            let index : w.below.result ≡ number_at c.args.seed.number 1 % count_of store = w.below.ensures.number some ∙ (λ i. w.at-then-percent.ensures i % count i) in
            let read = w.row-is ∙ w.read_back.ensures ∙ (λ i. written_at c.args.row.now 0 (take entry_size (drop (entry_at (index i)) (w.as_slice-then-percent.ensures.value i)))) in
            inl (omega (arith, count), happens, read)
        | else-count-gt0 w ↦ inr (
          elim w.else-count-gt0.branch [
            | else-count-gt0-via-then-count-gt0+else-percent v ↦ λ _. does_not _ _ _ 50 v.percent.ensures.happens v.at.ensures v.if-percent.false
            | else-count-gt0-via-else-count-gt0 v ↦ let none = v.if-count-gt0.false in λ some. absurd (omega (arith, count))
          ],
          rw w.row-is w.record_run.ensures.honest,
        )
      ];
      kept = λ stays. elim c.if-percent-2.branch [
        | then-percent-2 w ↦ absurd (stays (does _ _ _ 50 c.percent-2.ensures.happens c.at-2.ensures w.if-percent-2.true))
        | else-percent-2 w ↦ w.row-is
      ];
      changed = λ yes long few asked. elim c.if-percent-2.branch [
        | then-percent-2 w ↦
            let same = c.then.ensures ∙ ap (λ e. first_told e c.room_for.result) w.spoiled-is ∙ spoiled_stays _ _ w.spoil_entry-spoiled.ensures.refusal in
            rw (same, w.row-is) (w.spoil_entry-spoiled.ensures.changed long few asked)
        | else-percent-2 w ↦ absurd (does_not _ _ _ 50 c.percent-2.ensures.happens c.at-2.ensures w.if-percent-2.false yes)
      ];
      told = λ yes long believed. elim c.if-percent-2.branch [
        | then-percent-2 w ↦
            let same = c.then.ensures ∙ ap (λ e. first_told e c.room_for.result) w.spoiled-is ∙ spoiled_stays _ _ w.spoil_entry-spoiled.ensures.refusal in
            rw (same, w.row-is) (w.spoil_entry-spoiled.ensures.told long believed)
        | else-percent-2 w ↦ absurd (does_not _ _ _ 50 c.percent-2.ensures.happens c.at-2.ensures w.if-percent-2.false yes)
      ];
    }
