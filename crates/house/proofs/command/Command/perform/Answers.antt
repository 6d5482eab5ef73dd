use Rattle.std.proofs.Common.{cond, map, is_ok, refl, ap, ◌∙◌}
use Rattle.script.specs.Allowed.{counted_as}
use Rattle.entry.specs.Rows.{entry_of}
use Rattle.store.specs.Rows.{added}
use Rattle.theory.specs.Items.{made}
use Rattle.items.specs.Rows.{rewritten}
use Rattle.house.specs.DeskFaults.{script_at_fault}
use Rattle.house.specs.Desks.{desk_part, with_desk}
use Rattle.house.specs.Faults.{bring_fault}
use Rattle.house.proofs.Verdicts.{leaves_fault, tells_fault}
use Rattle.house.proofs.command.Command.perform.Goals as goal

pub returns-in-Write : goal.returns-in-Write
returns-in-Write c =
    let r = c.write_at.result in
    let told = c.write_at.ensures in
    rw c.in-Write.is (record {
      tells = c.into.ensures ∙ tells_fault r _ told.fault;
      at_desks = leaves_fault r _ _ _ told.fault told.after;
      at_store = refl;
      at_list = refl;
    })

pub returns-in-Script : goal.returns-in-Script
returns-in-Script c =
    let z = c.args.size in
    let desks = c.args.desks.now in
    let r = c.script_at.result in
    let lines = c.as_slice.ensures.value in
    let fault = c.script_at.ensures.fault ∙ ap (script_at_fault z desks c.in-Script.desk c.in-Script.item) lines in
    let after = c.script_at.ensures.after ∙ ap (λ ls. cond (is_ok r) (with_desk z desks c.in-Script.desk (rewritten (desk_part z desks c.in-Script.desk) c.in-Script.item (made (map counted_as ls)))) desks) lines in
    rw c.in-Script.is (record {
      tells = c.into-in-Script.ensures ∙ tells_fault r _ fault;
      at_desks = leaves_fault r _ _ _ fault after;
      at_store = refl;
      at_list = refl;
    })

pub returns-in-Build : goal.returns-in-Build
returns-in-Build c = rw c.in-Build.is (record { answer = c.build_at.result; tells = c.into-in-Build.ensures; at_desks = refl; built = c.build_at.ensures })

pub returns-in-Remove : goal.returns-in-Remove
returns-in-Remove c =
    let r = c.remove_entry.result in
    let told = c.remove_entry.ensures in
    rw c.in-Remove.is (record {
      tells = c.into-in-Remove.ensures ∙ tells_fault r _ told.fault;
      at_desks = refl;
      at_store = leaves_fault r _ _ _ told.fault told.after;
      at_list = refl;
    })

pub returns-in-Import : goal.returns-in-Import
returns-in-Import c =
    let rows = c.args.rows.now in
    let r = c.import.result in
    let v = c.in-Import.result in
    let lines = c.as_slice-in-Import.ensures.value in
    let askings = c.as_slice-in-Import-2.ensures.value in
    let fault = c.import.ensures.fault ∙ (λ i. bring_fault rows (lines i) (askings i) v) in
    let after = c.import.ensures.after ∙ (λ i. cond (is_ok r) (added rows (entry_of (lines i) (askings i) v)) rows) in
    rw c.in-Import.is (record {
      tells = c.into-in-Import.ensures ∙ tells_fault r _ fault;
      at_desks = refl;
      at_store = leaves_fault r _ _ _ fault after;
      at_list = refl;
    })
