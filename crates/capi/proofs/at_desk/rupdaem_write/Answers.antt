use Rattle.std.proofs.Common.{subst}
use Rattle.house.specs.Deeds.{write}
use Rattle.house.specs.declared.size.HouseSize.{HouseSize}
use Rattle.house.specs.Performed.{PerformedSo}
use Rattle.capi.proofs.at_desk.rupdaem_write.Goals as goal

pub returns : goal.returns
returns c =
    let deed = write c.args.desk c.args.item c.args.value in
    let so = λ (z : HouseSize). PerformedSo z deed c.args.desks.now c.args.rows.now c.args.ran.now c.perform.result c.perform.new.desks c.perform.new.rows c.perform.new.ran in
    record { told = c.perform.result; tells = c.into-2.ensures; performed = subst so c.into.ensures c.perform.ensures }
