use Rattle.theory.proofs.Worked.{worked_day}
use Rattle.theory.proofs.worked_day.Goals as goal

pub returns : goal.returns
returns c = worked_day
