use Rattle.std.proofs.Common.{◌≡◌, ◌+◌, [], ◌∷◌, ◌++◌, map, take, vec_items, sym, ap, ◌∙◌, subst}
use Rattle.std.proofs.lemmas.List.{map-append, take_all}
use Rattle.house.specs.Deeds.{deed_of}
use Rattle.days.specs.Outcomes.{told_as}
use Rattle.days.specs.Rows.{RowDay, over, told_in}
use Rattle.days.proofs.RowDays.{later, performed, stopped}
use Rattle.days.proofs.performing.perform_all.Goals as goal

pub loop-command-init : goal.loop-command-init
loop-command-init c =
    subst (λ os. RowDay c.args.size c.args.desks.now c.args.rows.now c.args.ran.now [] (map told_as os) c.args.desks.now c.args.rows.now c.args.ran.now) (sym c.new-outcomes.ensures.items) over

pub returns-in_err-outcome_of : goal.returns-in_err-outcome_of
returns-in_err-outcome_of c =
    stopped c.args.commands.now _ c.from_residual.result c.from_residual.ensures.0
    (later c.args.commands.now c.loop-command.command-index c.command-item.result c.perform-told.result c.loop-command-test.true c.command-item.is c.loop-command.invariant c.perform-told.ensures)

pub returns-in_err-push : goal.returns-in_err-push
returns-in_err-push c =
    stopped c.args.commands.now _ c.from_residual-in_err-push.result c.from_residual-in_err-push.ensures.0
    (later c.args.commands.now c.loop-command.command-index c.command-item.result c.perform-told.result c.loop-command-test.true c.command-item.is c.loop-command.invariant c.perform-told.ensures)

pub loop-command-preserved : goal.loop-command-preserved
loop-command-preserved c =
    let old = vec_items c.loop-command.outcomes in
    let x = c.in_ok-outcome_of.field-0 in
    let told : map told_as old ++ told_in c.perform-told.result c.perform-told.new.ran ∷ [] ≡ map told_as (vec_items c.push.new.self) =
    ap (λ t. map told_as old ++ t ∷ []) (sym c.in_ok-outcome_of.ensures) ∙ sym (ap (map told_as) c.in_ok-push.ensures.items ∙ map-append told_as old (x ∷ [])) in
    subst
    (λ ts. RowDay c.args.size c.args.desks.now c.args.rows.now c.args.ran.now (map deed_of (take (c.loop-command.command-index + 1) c.args.commands.now)) ts c.perform-told.new.desks c.perform-told.new.rows c.perform-told.new.ran)
    told
    (later c.args.commands.now c.loop-command.command-index c.command-item.result c.perform-told.result c.loop-command-test.true c.command-item.is c.loop-command.invariant c.perform-told.ensures)

pub returns : goal.returns
returns c =
    let all : map deed_of (take c.loop-command.command-index c.args.commands.now) ≡ map deed_of c.args.commands.now =
    ap (map deed_of) (take_all c.loop-command.command-index c.args.commands.now c.loop-command-test.false) in
    performed (subst
    (λ ds. RowDay c.args.size c.args.desks.now c.args.rows.now c.args.ran.now ds (map told_as (vec_items c.loop-command.outcomes)) c.loop-command.desks c.loop-command.rows c.loop-command.ran) all c.loop-command.invariant)
