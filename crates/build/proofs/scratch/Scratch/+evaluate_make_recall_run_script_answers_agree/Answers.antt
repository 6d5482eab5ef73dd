use Rattle.std.proofs.Common.{◌≡◌, ◌+◌, ◌<◌, [], map, length, drop, sym, refl, ap, ◌∙◌, subst, arith, rules}
use Rattle.std.proofs.lemmas.List.{length_push}
use Rattle.std.proofs.lemmas.Bool.{false≢true}
use Rattle.rows.specs.Rows.{chunks}
use Rattle.rows.proofs.Chunks.{map_chunks}
use Rattle.rows.specs.Parts.{parts_left}
use Rattle.script.specs.Layout.{max_askings}
use Rattle.machine.specs.Machine.{rest}
use Rattle.script.specs.Rows.{script_in}
use Rattle.script.proofs.Lines.{script_short}
use Rattle.entry.specs.Entry.{no_entry}
use Rattle.entry.specs.Layout.{entry_size}
use Rattle.entry.specs.Rows.{askings_in, entry_in, first_asking}
use Rattle.store.specs.Rows.{count_of}
use Rattle.build.specs.Sound.{entries_of, items_of}
use Rattle.build.specs.declared.scratch.Scratch.{Scratch}
use Rattle.build.proofs.Evaluates.{deep_enough, is_known, is_written, made_below}
use Rattle.build.proofs.Grows.{ended_join, ready_grown, went_join}
use Rattle.build.proofs.Makes.{made_ring, opened_ready, recalled_as, settles_found, settles_ran}
use Rattle.build.proofs.Parts.{more_pieces, no_more_pieces, piece_there}
use Rattle.build.proofs.Recalls.{Recalling, agreed_as, recalling_agrees, recalling_differs, recalling_end, recalling_none, recalling_other, recalling_ring}
use Rattle.build.proofs.Runs.{Running, running_more, running_none, running_ring}
use Rattle.build.proofs.Tests.{asked_parts, asking_there, trying_differs, trying_end, trying_more, trying_none, trying_ring}
use Rattle.build.proofs.scratch.Scratch.+evaluate_make_recall_run_script_answers_agree.Goals as goal
use Rattle.build.proofs.scratch.Scratch.+evaluate_make_recall_run_script_answers_agree.Goals.{recall-else-same_script-via-then-same_script+in_ok-answers_agree+else-branch, recall-else-same_script-via-else-same_script}

pub evaluate-state-requires : goal.evaluate-state-requires
evaluate-state-requires t c = made_below c.args.lent.items.now c.args.item c.in-Made.ensures

pub evaluate-make-requires : goal.evaluate-make-requires
evaluate-make-requires t c = (search rules, made_below c.args.lent.items.now c.args.item c.in-Made.ensures)

pub evaluate-returns-then-depth-eq0 : goal.evaluate-returns-then-depth-eq0
evaluate-returns-then-depth-eq0 t c ready = absurd (deep_enough ready c.args.item c.if-depth-eq0.true c.in-Made.ensures (sym c.state.ensures ∙ c.in-Unseen.is))

pub evaluate-returns-in-Written : goal.evaluate-returns-in-Written
evaluate-returns-in-Written t c ready = is_written ready c.args.item c.in-Written.ensures

pub evaluate-returns-in-Found : goal.evaluate-returns-in-Found
evaluate-returns-in-Found t c ready = is_known ready c.args.item _ c.state.ensures c.in-Found.is

pub evaluate-returns-in-Found-2 : goal.evaluate-returns-in-Found-2
evaluate-returns-in-Found-2 t c ready = is_known ready c.args.item _ c.state.ensures c.in-Found.is

pub run_script-loop-item-init : goal.run_script-loop-item-init
unfolding chunks
run_script-loop-item-init t c =
    (refl, omega arith, λ ready. subst (λ g. Running (items_of c.args.lent) (entries_of c.args.lent) (script_in c.args.script.now) c.args.self.now [] g c.args.self.now) (sym c.new-registers.ensures) (running_none ready.sound))

pub make-returns-in_err-value : goal.make-returns-in_err-value
make-returns-in_err-value t c ready is un =
    let j = c.args.item in
    made_ring ready j is un c.mark.ensures _ c.from_residual.ensures.0 (c.in_err-value.ensures (opened_ready ready j is un c.mark.ensures))

pub make-returns-in-Some : goal.make-returns-in-Some
make-returns-in-Some t c ready is un =
    let j = c.args.item in
    let (went, saved, run) = recalled_as _ _ _ _ _ c.in-Some.is (c.in_ok-value.ensures (opened_ready ready j is un c.mark.ensures)) in
    settles_found ready j is un c.mark.ensures went run.1 c.mark-in-Some.new.self c.mark-in-Some.ensures (saved j is)

pub make-returns-in_err-gave : goal.make-returns-in_err-gave
make-returns-in_err-gave t c ready is un =
    let j = c.args.item in
    let begun = opened_ready ready j is un c.mark.ensures in
    let (went, unsaved) = recalled_as _ _ _ _ _ c.in_default.is (c.in_ok-value.ensures begun) in
    let (ended, held) = c.in_err-gave.ensures (ready_grown begun went.grown) in
    made_ring ready j is un c.mark.ensures _ c.from_residual-in_err-gave.ensures.0 (ended_join (λ i f. f) went ended, held)

pub make-returns : goal.make-returns
make-returns t c ready is un =
    let j = c.args.item in
    let begun = opened_ready ready j is un c.mark.ensures in
    let (went, unsaved) = recalled_as _ _ _ _ _ c.in_default.is (c.in_ok-value.ensures begun) in
    let (after, walked) = c.in_ok-gave.ensures (ready_grown begun went.grown) in
    settles_ran ready j is un c.mark.ensures (went_join (λ i f. f) went after) walked
    c.in_ok-gave.gave.askings c.mark-2.new.self c.mark-2.ensures refl (unsaved j is)

pub run_script-returns-in_err-answer-in-Asks : goal.run_script-returns-in_err-answer-in-Asks
run_script-returns-in_err-answer-in-Asks t c ready =
    running_ring ready (c.loop-item.invariant.2 ready) c.in-Asks.item _ c.in-Asks.ensures.step c.in_err-answer-in-Asks.ensures _ c.from_residual.ensures.0

pub run_script-loop-item-preserved : goal.run_script-loop-item-preserved
run_script-loop-item-preserved t c =
    let d = items_of c.args.lent in
    let es = entries_of c.args.lent in
    let s = script_in c.args.script.now in
    let before = c.loop-item.invariant in
    let on = c.in-Asks.ensures.progress in
    let room : length (askings_in c.loop-item.askings) < max_askings = omega (arith, before.1, on.0, on.1, script_short c.args.script.now) in
    let more = c.push_asking.ensures (omega (arith, before.0)) room in
    let many : length (askings_in c.push_asking.new.row) ≡ length (askings_in c.loop-item.askings) + 1 = ap length more ∙ length_push (askings_in c.loop-item.askings) _ in
    let next = ap (λ g. g.next) c.answer-registers.ensures in (
      omega (arith, before.0),
      omega (arith, before.1, on.0),
      λ ready.
          subst (λ qs. Running d es s c.args.self.now qs c.answer-registers.result c.evaluate.new.self) (sym more)
          (running_more ready (before.2 ready) c.in-Asks.item _ c.in-Asks.ensures.step c.in_ok-answer-in-Asks.answer c.answer-registers.result c.in_ok-answer-in-Asks.ensures (ap (rest s) c.answer-registers.ensures)),
    )

pub answers_agree-loop-part-init : goal.answers_agree-loop-part-init
answers_agree-loop-part-init t c = (
  ap (λ it. map first_asking (parts_left it)) c.into_iter-part-iterator.ensures.into_iter_gives
      ∙ asked_parts c.args.row.now c.tail-askings.ensures c.tail.ensures c.asking_count.ensures.value c.parts-part-items.ensures,
  λ ready honest. trying_none ready.sound,
)

pub answers_agree-loop-part-preserved : goal.answers_agree-loop-part-preserved
answers_agree-loop-part-preserved t c =
    let q = c.read-asking.result in
    let left = c.loop-part.invariant.0 in
    let next = c.in-Some.ensures.steps in
    rw length_push (
      more_pieces first_asking (entry_in c.args.row.now).asked (length c.loop-part.yielded) left next,
      λ ready honest.
          trying_more ready honest (c.loop-part.invariant.1 ready honest) q (asking_there _ _ q left next c.read-asking.ensures) c.in_ok-evaluate.field-0 c.in_ok-evaluate.ensures c.if-branch-asking.false,
    )

pub answers_agree-returns : goal.answers_agree-returns
answers_agree-returns t c ready honest =
    trying_end ready honest (c.loop-part.invariant.1 ready honest) (no_more_pieces first_asking _ _ c.loop-part.invariant.0 c.in-None.ensures.steps.0)

pub answers_agree-returns-in_err-evaluate : goal.answers_agree-returns-in_err-evaluate
answers_agree-returns-in_err-evaluate t c ready honest =
    let q = c.read-asking.result in
    trying_ring ready honest (c.loop-part.invariant.1 ready honest) q (asking_there _ _ q c.loop-part.invariant.0 c.in-Some.ensures.steps c.read-asking.ensures) c.in_err-evaluate.ensures _ c.from_residual.ensures.0

pub answers_agree-returns-then-branch-asking : goal.answers_agree-returns-then-branch-asking
answers_agree-returns-then-branch-asking t c ready honest =
    let q = c.read-asking.result in
    trying_differs ready honest (c.loop-part.invariant.1 ready honest) q (asking_there _ _ q c.loop-part.invariant.0 c.in-Some.ensures.steps c.read-asking.ensures)
    c.in_ok-evaluate.field-0 c.in_ok-evaluate.ensures c.if-branch-asking.true

pub recall-loop-row-init : goal.recall-loop-row-init
recall-loop-row-init t c =
    let rows = c.args.lent.rows.now in (
      ap (λ it. map entry_in (parts_left it)) c.into_iter-row-iterator.ensures.into_iter_gives
          ∙ ap (map entry_in) c.entries-row-items.ensures
          ∙ map_chunks entry_in entry_size (count_of rows) (drop 2 rows),
      λ ready. recalling_none ready.sound,
    )

pub recall-loop-row-preserved : goal.recall-loop-row-preserved
recall-loop-row-preserved t c =
    let es = entries_of c.args.lent in
    let i = length c.loop-row.yielded in
    let left = c.loop-row.invariant.0 in
    let next = c.in-Some.ensures.steps in
    let After : Scratch → Type 0 = λ τ. Recalling (items_of c.args.lent) es (script_in c.args.script.now) c.args.self.now (i + 1) τ in
    rw length_push (
      more_pieces entry_in es i left next,
      λ ready.
          let so_far = c.loop-row.invariant.1 ready in
          let there = piece_there entry_in es i left next no_entry in
          elim c.else-same_script.branch [
            | recall-else-same_script-via-then-same_script+in_ok-answers_agree+else-branch w ↦
                subst After (sym w.self-is)
                (recalling_differs ready so_far _ there (w.if-same_script.ensures.0 refl) (λ r h. agreed_as _ _ _ _ _ w.if-branch.false (w.in_ok-answers_agree.ensures r h)))
            | recall-else-same_script-via-else-same_script w ↦ subst After (sym w.self-is) (recalling_other ready so_far _ there (λ its. false≢true (w.if-same_script.ensures.1 its)))
          ],
    )

pub recall-returns : goal.recall-returns
recall-returns t c ready =
    recalling_end ready (c.loop-row.invariant.1 ready) (no_more_pieces entry_in _ _ c.loop-row.invariant.0 c.in-None.ensures.steps.0)

pub recall-returns-in_err-answers_agree : goal.recall-returns-in_err-answers_agree
recall-returns-in_err-answers_agree t c ready =
    recalling_ring ready (c.loop-row.invariant.1 ready) _ (piece_there entry_in _ _ c.loop-row.invariant.0 c.in-Some.ensures.steps no_entry) (c.if-same_script.ensures.0 refl)
    c.in_err-answers_agree.ensures _ c.from_residual.ensures.0

pub recall-returns-then-branch : goal.recall-returns-then-branch
recall-returns-then-branch t c ready =
    recalling_agrees ready (c.loop-row.invariant.1 ready) _ (piece_there entry_in _ _ c.loop-row.invariant.0 c.in-Some.ensures.steps no_entry) (c.if-same_script.ensures.0 refl)
    c.number_after.result c.number_after.ensures (λ r h. agreed_as _ _ _ _ _ c.if-branch.true (c.in_ok-answers_agree.ensures r h))
