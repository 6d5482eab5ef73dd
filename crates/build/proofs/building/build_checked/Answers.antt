use Rattle.std.proofs.Common.{Ok, Err, arith}
use Rattle.build.proofs.Evaluates.{few_items}
use Rattle.build.proofs.Finish.{all_listed, finished}
use Rattle.build.proofs.building.build_checked.Goals as goal

pub overflow_add-count : goal.overflow_add-count
overflow_add-count c = omega (arith, c.requires.all, few_items c.args.items.now)

pub keep_runs-requires : goal.keep_runs-requires
keep_runs-requires c = omega (arith, c.requires.all, few_items c.args.items.now)

pub returns-in-Ok : goal.returns-in-Ok
returns-in-Ok c =
    finished c.args.items.now c.args.rows.now c.args.ran.now c.args.k (Ok c.in-Ok.value) c.evaluate-found.new.self c.keep_runs.new.rows c.list_runs.new.row
    c.requires.fine c.requires.all c.new-scratch.ensures c.in-Ok.ensures (all_listed c.args.items.now c.args.rows.now c.args.ran.now c.args.k c.requires.fine c.requires.all c.list_runs.ensures) c.keep_runs.ensures

pub returns-in-Err : goal.returns-in-Err
returns-in-Err c =
    finished c.args.items.now c.args.rows.now c.args.ran.now c.args.k (Err _) c.evaluate-found.new.self c.keep_runs.new.rows c.list_runs.new.row
    c.requires.fine c.requires.all c.new-scratch.ensures c.in-Err.ensures (all_listed c.args.items.now c.args.rows.now c.args.ran.now c.args.k c.requires.fine c.requires.all c.list_runs.ensures) c.keep_runs.ensures
