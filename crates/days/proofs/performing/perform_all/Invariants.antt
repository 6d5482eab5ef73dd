use Rattle.std.proofs.Common.{map, take, vec_items}
use Rattle.house.specs.Deeds.{deed_of}
use Rattle.days.specs.Outcomes.{told_as}
use Rattle.days.specs.Rows.{RowDay}
use Rattle.days.proofs.performing.perform_all.Given as goal

-- the commands so far were performed, and these are their outcomes
abbrev pub invariant-loop-command : goal.invariant-loop-command
invariant-loop-command l =
    RowDay l.size l.initial.desks l.initial.rows l.initial.ran (map deed_of (take l.command-index l.commands)) (map told_as (vec_items l.outcomes)) l.desks l.rows l.ran
