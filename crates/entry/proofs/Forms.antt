-- An entry that is written into its row is read back, and a row that is in form is written again as it was. Assumes nothing.
use Rattle.std.proofs.Common.{◌≡◌, ℕ, ◌+◌, List, [], ◌∷◌, ◌++◌, length, get_or, take, drop, sym, refl, ap, ◌∙◌, arith}
use Rattle.std.proofs.lemmas.List.{append_assoc, drop_at, drop-take, get_or_at, get_or-take, length-append, take_at}
use Rattle.script.specs.Layout.{script_size}
use Rattle.script.specs.Rows.{script_out}
use Rattle.script.specs.Rule.{Value}
use Rattle.script.proofs.Lines.{length_script_out, script_back, script_short, script_take}
use Rattle.entry.specs.Entry.{Entry}
use Rattle.entry.specs.Layout.{askings_size, entry_size, result_at}
use Rattle.entry.specs.Rows.{Fitting, InForm, askings_in, askings_out, entry_from, entry_in, entry_out}
use Rattle.entry.proofs.Askings.{askings_back, askings_few, askings_take, length_askings_out}

pub fitting : (script askings : List ℕ) (v : Value) → Fitting (entry_from script askings v)
fitting script askings v = (script_short script, askings_few askings)

module _ (e : Entry) (fits : Fitting e) where
  last : List ℕ
  last = askings_out e.asked ++ (e.result ∷ [])

  long_script : length (script_out e.script) ≡ script_size
  long_script = length_script_out e.script fits.0

  long_both : length (script_out e.script ++ askings_out e.asked) ≡ result_at
  long_both = rw (length-append, long_script, length_askings_out e.asked fits.1) refl

  pub length_entry : length (entry_out e) ≡ entry_size
  length_entry = rw (length-append, long_script, length-append, length_askings_out e.asked fits.1) refl

  behind : drop script_size (entry_out e) ≡ last
  unfolding last
  behind = drop_at (script_out e.script) (askings_out e.asked ++ (e.result ∷ [])) script_size long_script

  result_back : get_or (entry_out e) result_at 0 ≡ e.result
  result_back = rw (← append_assoc) (get_or_at (script_out e.script ++ askings_out e.asked) e.result [] 0 result_at long_both)

  asked_back : askings_in (drop script_size (entry_out e)) ≡ e.asked
  unfolding last
  asked_back = ap askings_in behind ∙ askings_back e.asked (e.result ∷ []) fits.1

  -- what is written is read back
  pub entry_back : entry_in (entry_out e) ≡ e
  unfolding last
  entry_back = λ i. record { script = script_back e.script last fits.0 i; asked = asked_back i; result = result_back i }

-- a row in form is what its own entry is written as
pub form_back : (xs : List ℕ) → InForm xs → entry_out (entry_in xs) ≡ xs
form_back xs (e, fits, is) = ap (λ ys. entry_out (entry_in ys)) is ∙ ap entry_out (entry_back e fits) ∙ sym is

-- an entry is read from its own numbers
pub entry_local : (xs : List ℕ) → entry_in xs ≡ entry_in (take entry_size xs)
entry_local xs =
    let behind : drop script_size (take entry_size xs) ≡ take (askings_size + 1) (drop script_size xs) = drop-take script_size (askings_size + 1) xs in
    let script = script_take entry_size xs (omega arith) in
    let asked = askings_take (askings_size + 1) (drop script_size xs) (omega arith) ∙ ap askings_in (sym behind) in
    let result = sym (get_or-take entry_size xs result_at 0 (omega arith)) in
    λ i. record { script = script i; asked = asked i; result = result i }

-- so an entry that is written down is read back, whatever follows it
pub entry_first : (e : Entry) → Fitting e → (more : List ℕ) → entry_in (entry_out e ++ more) ≡ e
entry_first e fits more =
    entry_local (entry_out e ++ more) ∙ ap entry_in (take_at (entry_out e) more entry_size (length_entry e fits)) ∙ entry_back e fits
