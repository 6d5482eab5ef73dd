use Rattle.std.proofs.Common.{◌+◌, sym, ap, ◌∙◌, subst}
use Rattle.items.specs.Rows.{items_in}
use Rattle.build.specs.Leaves.{is_run, left_from}
use Rattle.build.proofs.Keeping.{Keeping, keeping_more, keeping_none, keeping_same, not_run}
use Rattle.build.proofs.ending.keep_runs.Goals as goal
use Rattle.build.proofs.ending.keep_runs.Goals.{in-Ran, in_default}

pub loop-item-init : goal.loop-item-init
loop-item-init c = keeping_none (items_in c.args.items.now) c.args.scratch.now c.args.rows.now

pub loop-item-preserved : goal.loop-item-preserved
loop-item-preserved c =
    let d = items_in c.args.items.now in
    let σ = c.args.scratch.now in
    let rows = c.args.rows.now in
    let i = c.loop-item.item in
    elim c.match-state.branch [
      | in-Ran w ↦
          let ran = sym w.in-Ran.is ∙ c.state.ensures in
          subst (λ row. Keeping d σ rows (i + 1) row) (sym w.rows-is)
          (keeping_more d σ rows i c.loop-item.rows c.loop-item.invariant w.add_entry.result _ w.add_entry.new.rows (sym (ap is_run ran))
          (λ x. left_from (w.script_row.ensures x) (ran x)) w.add_entry.ensures.fault w.add_entry.ensures.after)
      | in_default w ↦
          subst (λ row. Keeping d σ rows (i + 1) row) (sym w.rows-is)
          (keeping_same d σ rows i c.loop-item.rows c.loop-item.invariant (sym (ap is_run c.state.ensures) ∙ not_run c.state.result.now w.in_default.not-Ran))
    ]
