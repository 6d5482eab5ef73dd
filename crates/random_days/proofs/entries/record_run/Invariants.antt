use Rattle.std.proofs.Common.{◌≡◌, ◌≤◌, length, drop}
use Rattle.entry.specs.Layout.{entry_size}
use Rattle.random_days.specs.Spoiled.{asked_in}
use Rattle.random_days.proofs.Records.{Recorded}
use Rattle.random_days.proofs.entries.record_run.Given as goal

-- the askings so far are recorded
abbrev pub invariant-loop-index : goal.invariant-loop-index
invariant-loop-index l = record {
  behind : drop entry_size l.row ≡ drop entry_size l.initial.row;
  recorded : entry_size ≤ length l.initial.row → asked_in l.initial.row ≡ 0 → Recorded l.initial.row l.index l.registers l.row;
}
