use Rattle.std.proofs.Common.{◌≡◌, ◌<◌, ◌≤◌, length, Some, sym, ap, ◌∙◌, subst, arith}
use Rattle.std.proofs.lemmas.Bool.{cond-false, cond-true, eq-eqb, ne_eqb}
use Rattle.script.specs.Rows.{script_in}
use Rattle.machine.specs.Machine.{rest}
use Rattle.entry.specs.Rows.{askings_in}
use Rattle.entry.proofs.Askings.{read_there}
use Rattle.entry.proofs.Replays.{Replayed, asks_more, asks_other, asks_same, gives, gives_early, replayed_none}
use Rattle.entry.proofs.honesty.replay_parts.Goals as goal

pub loop-index-init : goal.loop-index-init
loop-index-init c = subst (Replayed _ _ _ 0) (sym c.new-registers.ensures) (replayed_none _ _ _)

pub returns-in_default : goal.returns-in_default
returns-in_default c =
    let inside : c.loop-index.index < length (askings_in c.args.askings.now) = rw c.asking_count-count.ensures.value at c.loop-index-test.true in
    gives_early c.loop-index.invariant _ inside c.in_default.ensures.step

pub returns-then-asking-item : goal.returns-then-asking-item
returns-then-asking-item c =
    let inside : c.loop-index.index < length (askings_in c.args.askings.now) = rw c.asking_count-count.ensures.value at c.loop-index-test.true in
    asks_other c.loop-index.invariant c.read-asking.result inside (read_there _ _ _ inside c.read-asking.ensures) _ _ c.in-Asks.ensures.step c.if-asking-item.true

pub loop-index-preserved : goal.loop-index-preserved
loop-index-preserved c =
    let inside : c.loop-index.index < length (askings_in c.args.askings.now) = rw c.asking_count-count.ensures.value at c.loop-index-test.true in
    asks_same c.loop-index.invariant c.read-asking.result inside (read_there _ _ _ inside c.read-asking.ensures) _ _ c.answer-registers.result c.in-Asks.ensures.step c.if-asking-item.false
    (ap (rest (script_in c.args.script.now)) c.answer-registers.ensures)

pub returns-in_default-run : goal.returns-in_default-run
returns-in_default-run c =
    let past : length (askings_in c.args.askings.now) ≤ c.loop-index.index = rw c.asking_count-count.ensures.value at c.loop-index-test.false in
    let end : c.asking_count-count.result ≡ c.loop-index.index = omega arith in
    ap Some end ∙ asks_more c.loop-index.invariant past _ _ c.in_default-run.ensures.step

pub returns-then-value-given : goal.returns-then-value-given
returns-then-value-given c =
    let past : length (askings_in c.args.askings.now) ≤ c.loop-index.index = rw c.asking_count-count.ensures.value at c.loop-index-test.false in
    sym (cond-true _ _ _ (eq-eqb _ _ c.if-value-given.true)) ∙ gives c.loop-index.invariant past _ c.in-Gives.ensures.step

pub returns-else-value-given : goal.returns-else-value-given
returns-else-value-given c =
    let past : length (askings_in c.args.askings.now) ≤ c.loop-index.index = rw c.asking_count-count.ensures.value at c.loop-index-test.false in
    let end : c.asking_count-count.result ≡ c.loop-index.index = omega arith in
    ap Some end ∙ sym (cond-false _ _ _ (ne_eqb _ _ c.if-value-given.false)) ∙ gives c.loop-index.invariant past _ c.in-Gives.ensures.step
