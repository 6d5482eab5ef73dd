use Rattle.std.proofs.Common.{◌≡◌, ◌+◌, ◌-◌, ◌*◌, ◌≤◌, map, length, drop}
use Rattle.entry.specs.Entry.{Honest}
use Rattle.entry.specs.Layout.{askings_size}
use Rattle.entry.specs.Rows.{askings_in, entry_in, first_asking}
use Rattle.rows.specs.Parts.{parts_left}
use Rattle.script.specs.Rows.{script_in}
use Rattle.build.specs.Sound.{IfReady, entries_of}
use Rattle.build.proofs.Recalls.{Recalling}
use Rattle.build.proofs.Runs.{Running}
use Rattle.build.proofs.Tests.{Trying}
use Rattle.build.proofs.scratch.Scratch.+evaluate_make_recall_run_script_answers_agree.Given as goal

abbrev pub decreases-evaluate : goal.decreases-evaluate
decreases-evaluate l = 4 * l.depth

abbrev pub decreases-make : goal.decreases-make
decreases-make l = 4 * l.depth + 3

abbrev pub decreases-recall : goal.decreases-recall
decreases-recall l = 4 * l.depth + 2

abbrev pub decreases-run_script : goal.decreases-run_script
decreases-run_script l = 4 * l.depth + 1

abbrev pub decreases-answers_agree : goal.decreases-answers_agree
decreases-answers_agree l = 4 * l.depth + 1

-- none of the entries so far saves the script
abbrev pub invariant-recall-loop-row : goal.invariant-recall-loop-row
invariant-recall-loop-row l =
    (map entry_in (parts_left l.row-iterator) ≡ drop (length l.yielded) (entries_of l.lent))
    × IfReady l.lent l.initial.self l.depth (λ d es. Recalling d es (script_in l.script) l.initial.self (length l.yielded) l.self)

-- there is room for the askings to come, and those so far are the run's
abbrev pub invariant-run_script-loop-item : goal.invariant-run_script-loop-item
invariant-run_script-loop-item l =
    (length l.askings ≡ askings_size)
    × (length (askings_in l.askings) ≤ l.registers.next)
    × IfReady l.lent l.initial.self l.depth (λ d es. Running d es (script_in l.script) l.initial.self (askings_in l.askings) l.registers l.self)

abbrev pub decreases-run_script-loop-item : goal.decreases-run_script-loop-item
decreases-run_script-loop-item l = length (script_in l.script) - l.registers.next

-- the answers so far are right
abbrev pub invariant-answers_agree-loop-part : goal.invariant-answers_agree-loop-part
invariant-answers_agree-loop-part l =
    (map first_asking (parts_left l.part-iterator) ≡ drop (length l.yielded) (entry_in l.row).asked)
    × IfReady l.lent l.initial.self l.depth (λ d es. Honest (entry_in l.row) → Trying d es (entry_in l.row) l.initial.self (length l.yielded) l.self)
