use Rattle.std.proofs.Common.{ℕ, slice_index, sym, ap, ◌∙◌, arith}
use Rattle.std.proofs.lemmas.List.{length-set}
use Rattle.items.specs.Listing.{listed}
use Rattle.theory.specs.Reference.{passing}
use Rattle.theory.proofs.Passing.{length_passing, passing_push, passing_skip}
use Rattle.items.proofs.Pushing.{listed_none}
use Rattle.items.proofs.listing.list_runs.Goals as goal
use Rattle.items.proofs.listing.list_runs.Goals.{then-has_run, else-has_run}

pub loop-item-init : goal.loop-item-init
unfolding passing
loop-item-init g c = listed_none c.args.row.now (omega arith)

pub push-requires : goal.push-requires
push-requires g c =
    let counted = ap (λ row. slice_index row 0) c.loop-item.invariant in
    omega (arith, counted, length_passing (g.S.HasRun.has_run c.args.states.now) 0 c.loop-item.item, length-set {A = ℕ})

pub loop-item-preserved : goal.loop-item-preserved
loop-item-preserved g c =
    let test = g.S.HasRun.has_run c.args.states.now in
    let i = c.loop-item.item in
    elim c.if-has_run.branch [
      | then-has_run w ↦
          w.row-is ∙ w.push.ensures _ _ c.loop-item.invariant ∙ ap (λ list. listed list c.args.row.now) (sym (passing_push test i (sym c.has_run.ensures ∙ w.if-has_run.true)))
      | else-has_run w ↦
          w.row-is ∙ c.loop-item.invariant ∙ ap (λ list. listed list c.args.row.now) (sym (passing_skip test i (sym c.has_run.ensures ∙ w.if-has_run.false)))
    ]
