use Rattle.std.proofs.Common.{◌≡◌, ◌+◌, ◌*◌, sym, subst, arith}
use Rattle.script.specs.declared.line.Line.{Line}
use Rattle.random_days.specs.Pooled.{DrawnLine, IsGive}
use Rattle.random_days.proofs.Pools.{begun_end, begun_more, begun_none, drawn_more, script_allowed}
use Rattle.random_days.proofs.pool.Pool.write_script.Goals.{then-saturating_add-count, else-saturating_add-count}
use Rattle.random_days.proofs.pool.Pool.write_script.Goals as goal

pub loop-index-init : goal.loop-index-init
loop-index-init c = begun_none c.args.row.now c.draw_count-count.result (2 * c.args.number) c.draw_count-count.ensures c.put_all.ensures

pub loop-index-preserved : goal.loop-index-preserved
loop-index-preserved c =
    let count = c.draw_count-count.result in
    let last = 2 * c.args.number in
    let i = c.loop-index.index in
    let line = c.if-saturating_add-count.line in
    let P : Line → Type 0 = λ l. DrawnLine last l × (i + 1 ≡ count → IsGive l) in
    let drawn : DrawnLine last line × (i + 1 ≡ count → IsGive line) =
    elim c.if-saturating_add-count.branch [
      | then-saturating_add-count w ↦ subst P (sym w.line-is) (w.below.ensures.below (omega arith), λ _. tt)
      | else-saturating_add-count w ↦ subst P (sym w.line-is) (drawn_more _ last _ (omega arith) w.draw_line-line.ensures, λ e. absurd (omega arith))
    ] in
    begun_more c.args.row.now count last i c.saturating_add-at.result line (omega arith) (omega arith) drawn.0 drawn.1 (omega arith) c.write.ensures.after c.loop-index.invariant

pub returns-clause-count : goal.returns-clause-count
returns-clause-count c = c.loop-index.invariant.few

pub returns-clause-behind : goal.returns-clause-behind
returns-clause-behind c = c.loop-index.invariant.behind

pub returns-clause-lines : goal.returns-clause-lines
returns-clause-lines c = begun_end _ _ _ _ c.loop-index-test.false c.loop-index.invariant

pub returns-clause-allowed : goal.returns-clause-allowed
returns-clause-allowed c = λ room. script_allowed (2 * c.args.number) c.loop-index.row (omega (arith, c.loop-index.invariant.first room)) (begun_end _ _ _ _ c.loop-index-test.false c.loop-index.invariant room)
