use Rattle.std.proofs.Common.{◌≡◌, ◌+◌, ◌-◌, ◌*◌, length}
use Rattle.items.specs.Rows.{items_in}
use Rattle.script.specs.Rows.{script_in}
use Rattle.clean.proofs.Running.{Running}
use Rattle.clean.proofs.evaluation.Evaluation.+evaluate_run_script.Given as goal

abbrev pub decreases-evaluate : goal.decreases-evaluate
decreases-evaluate l = 2 * l.depth

abbrev pub decreases-run_script : goal.decreases-run_script
decreases-run_script l = 2 * l.depth + 1

abbrev pub invariant-run_script-loop-value : goal.invariant-run_script-loop-value
invariant-run_script-loop-value l = record {
  same : l.self.items.now ≡ l.fn.self.items.now;
  running : Running (items_in l.fn.self.items.now) (script_in l.script) l.fn.self.marks l.self.marks l.registers;
}

abbrev pub decreases-run_script-loop-value : goal.decreases-run_script-loop-value
decreases-run_script-loop-value l = length (script_in l.script) - l.registers.next
