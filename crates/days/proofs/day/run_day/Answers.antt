use Rattle.std.proofs.Common.{map, ◌∙◌}
use Rattle.house.specs.Deeds.{deed_of}
use Rattle.days.proofs.Whole.{whole_if}
use Rattle.days.proofs.day.run_day.Goals as goal

pub returns : goal.returns
returns c =
    whole_if c.args.size (map deed_of c.args.commands.now) c.perform_all.result _ _ _ _ _ _
    (record {
      desks_new = c.as_mut_slice.ensures.value ∙ c.in_ok-house.ensures.at_desks;
      store_new = c.as_mut_slice-2.ensures.value ∙ c.in_ok-house.ensures.at_store;
      list_new = c.as_mut_slice-3.ensures.value ∙ c.in_ok-house.ensures.at_list;
    })
    c.perform_all.ensures
