use Rattle.std.proofs.Common.{sym, ap}
use Rattle.rows.specs.Rows.{chunks}
use Rattle.build.specs.Leaves.{script_of}
use Rattle.build.proofs.ending.script_row.Goals as goal

pub returns-in-Written : goal.returns-in-Written
unfolding chunks
returns-in-Written c = sym (ap script_of c.in-Written.ensures)
