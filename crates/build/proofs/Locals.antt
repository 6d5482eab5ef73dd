-- An entry is read from its own numbers alone. Assumes nothing.
use Rattle.std.proofs.Common.{◌≡◌, ℕ, ◌-◌, ◌<◌, List, ◌++◌, get_or, take, drop, sym, refl, ap, ◌∙◌, arith}
use Rattle.std.proofs.lemmas.List.{drop-take, get_or-take, take_at}
use Rattle.rows.proofs.Counted.{counted_take}
use Rattle.script.specs.Layout.{line_size, max_askings, max_lines, script_size}
use Rattle.script.specs.Rows.{first_line}
use Rattle.entry.specs.Entry.{Entry}
use Rattle.entry.specs.Layout.{asking_size, entry_size, result_at}
use Rattle.entry.specs.Rows.{Fitting, askings_in, entry_in, entry_out, first_asking}
use Rattle.entry.proofs.Forms.{entry_back, length_entry}

line_local : (xs : List ℕ) → first_line xs ≡ first_line (take line_size xs)
line_local xs =
    let same : (j : ℕ) → j < line_size → get_or (take line_size xs) j 0 ≡ get_or xs j 0 = λ j h. get_or-take line_size xs j 0 h in
    rw (same 0 (omega arith), same 1 (omega arith), same 2 (omega arith), same 3 (omega arith)) refl

pub asking_local : (xs : List ℕ) → first_asking xs ≡ first_asking (take asking_size xs)
asking_local xs = (λ i. record { item = sym (get_or-take asking_size xs 0 0 (omega arith)) i; answer = sym (get_or-take asking_size xs 1 0 (omega arith)) i })

pub entry_local : (xs : List ℕ) → entry_in xs ≡ entry_in (take entry_size xs)
entry_local xs =
    let few = entry_size - script_size in
    let behind : drop script_size (take entry_size xs) ≡ take few (drop script_size xs) = drop-take script_size few xs in
    let script = counted_take first_line line_size max_lines line_local entry_size xs (omega arith) in
    let asked = counted_take first_asking asking_size max_askings asking_local few (drop script_size xs) (omega arith) ∙ ap askings_in (sym behind) in
    let result = sym (get_or-take entry_size xs result_at 0 (omega arith)) in
    (λ i. record { script = script i; asked = asked i; result = result i })

-- an entry that is written down is read back, whatever follows it
pub entry_front : (e : Entry) (more : List ℕ) → Fitting e → entry_in (entry_out e ++ more) ≡ e
entry_front e more fits =
    entry_local (entry_out e ++ more) ∙ ap entry_in (take_at (entry_out e) more entry_size (length_entry e fits)) ∙ entry_back e fits
