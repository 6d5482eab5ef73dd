use Rattle.std.proofs.Common.{rules, ◌≡◌, ◌∙◌, replicate, sym}
use Rattle.std.proofs.lemmas.Option.{none-some}
use Rattle.clean_tests.proofs.Room.{has_room}
use Rattle.clean_tests.proofs.desks.builds_so.Goals as goal

-- the list has room, so the build is not refused
pub returns-in_default-clause-seen : goal.returns-in_default-clause-seen
returns-in_default-clause-seen c = absurd (none-some _ (sym (c.in_default.ensures.fault ∙ has_room c.as_slice.result.now (replicate 257 77) (search rules))))
