use Rattle.std.proofs.Common.{◌≡◌, None, sym, subst, arith}
use Rattle.entry.specs.Rows.{entry_from}
use Rattle.entry.proofs.Forms.{fitting}
use Rattle.store.specs.Faults.{add_fault}
use Rattle.store.specs.Rows.{Grown}
use Rattle.store.proofs.Grows.{grown}
use Rattle.store.proofs.adding.add_entry.Goals as goal

pub returns-clause-grown : goal.returns-clause-grown
returns-clause-grown c =
    let rows = c.args.rows.now in
    let e = entry_from c.args.script.now c.args.askings.now c.args.given in
    let fine : add_fault rows ≡ None = grind arith in
    subst (λ xs. Grown rows xs e) (sym c.append.ensures) (grown rows e (fitting c.args.script.now c.args.askings.now c.args.given) fine)
