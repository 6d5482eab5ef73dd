use Rattle.std.proofs.Common.{◌≡◌}
use Rattle.std.specs.Prelude.{IfErr, OnOk}
use Rattle.random_days.specs.Faultless.{AllFaultless}
use Rattle.random_days.specs.declared.fault.Fault.TheVariants.{NotHonest}
use Rattle.random_days.proofs.days.judge_entries.Given as goal

abbrev pub invariant-loop-entry : goal.invariant-loop-entry
invariant-loop-entry l = record {
  counted : l.tally.commands ≡ l.fn.tally.commands;
  fault : IfErr l.judged (λ fault. fault ≡ NotHonest);
  size : l.entry-iterator.size ≡ l.initial.entry-iterator.size;
  honest : OnOk l.judged (AllFaultless l.entry-iterator.rest.now → AllFaultless l.initial.entry-iterator.rest.now);
  behind : AllFaultless l.initial.entry-iterator.rest.now → AllFaultless l.entry-iterator.rest.now;
  dishonest : IfErr l.judged (λ _. ¬ AllFaultless l.initial.entry-iterator.rest.now);
}
