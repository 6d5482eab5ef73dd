use Rattle.std.proofs.Common.{◌≡◌, None, sym, subst, arith}
use Rattle.store.specs.Faults.{remove_fault}
use Rattle.store.specs.Rows.{Shrunk}
use Rattle.store.proofs.Grows.{shrunk}
use Rattle.store.proofs.removing.remove_entry.Goals as goal

pub returns-clause-shrunk : goal.returns-clause-shrunk
returns-clause-shrunk c =
    let rows = c.args.rows.now in
    let fine : remove_fault rows c.args.index ≡ None = grind arith in
    subst (λ xs. Shrunk rows xs c.args.index) (sym c.close_gap.ensures) (shrunk rows c.args.index fine)
