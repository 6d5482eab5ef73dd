use Rattle.std.proofs.Common.{sym, ◌∙◌}
use Rattle.rows.proofs.Written.{written_all, written_more, written_none}
use Rattle.rows.proofs.put_all.Goals as goal

pub loop-offset-init : goal.loop-offset-init
loop-offset-init c = written_none _ _ _

pub loop-offset-preserved : goal.loop-offset-preserved
loop-offset-preserved c = written_more c.loop-offset.row _ _ _ c.loop-offset-test.true c.put_after.ensures c.loop-offset.invariant

pub returns : goal.returns
returns c = sym (written_all _ _ _ _ c.loop-offset-test.false) ∙ c.loop-offset.invariant
