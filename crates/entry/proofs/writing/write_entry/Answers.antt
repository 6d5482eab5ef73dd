use Rattle.std.proofs.Common.{length, sym, ap, ◌∙◌}
use Rattle.std.proofs.lemmas.Bool.{cond-true, eq-eqb}
use Rattle.entry.specs.Layout.{entry_size}
use Rattle.entry.specs.Rows.{entry_from, entry_in, entry_out}
use Rattle.entry.proofs.Forms.{entry_back, fitting, form_back}
use Rattle.entry.proofs.writing.write_entry.Goals as goal

pub returns-then-row-eq-ENTRY_SIZE : goal.returns-then-row-eq-ENTRY_SIZE
returns-then-row-eq-ENTRY_SIZE c =
    let script = c.args.script.now in
    let askings = c.args.askings.now in
    let entry = entry_from script askings c.args.given in
    let written = c.write_parts.ensures in
    record {
      after = written ∙ sym (cond-true _ _ _ (eq-eqb (length c.args.row.now) entry_size c.if-row-eq-ENTRY_SIZE.true));
      reads_back = λ _. ap entry_in written ∙ entry_back entry (fitting script askings c.args.given);
      copies = λ xs form _ same. written ∙ ap entry_out same ∙ form_back xs form;
    }
