use Rattle.std.proofs.Common.{◌∙◌}
use Rattle.script.specs.Rows.{script_in}
use Rattle.script.specs.Rule.{task_of}
use Rattle.entry.specs.Replay.{differs}
use Rattle.entry.specs.Rows.{askings_in, entry_in}
use Rattle.entry.proofs.Replays.{decided}
use Rattle.entry.proofs.honesty.replay.Goals as goal

pub returns : goal.returns
returns c =
    let row = c.args.entry.now in
    let place = c.replay_parts.ensures ∙ (λ i. differs 0 (task_of (script_in row)) (askings_in (c.tail.ensures i)) (c.number_after.ensures i)) in
    record { place = place; exactly = decided (entry_in row) c.replay_parts.result place }
