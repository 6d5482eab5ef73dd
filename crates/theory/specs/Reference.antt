-- A build that computes, from the definitions alone. Assumes nothing: these are definitions.
use Rattle.std.specs.Prelude.{ℕ, zero, suc, ◌-◌, Bool, true, false, cond, not, ◌&&◌, ◌||◌, List, [], ◌∷◌, ◌++◌, map, length, take, nat_eq}
use Rattle.script.specs.Rule.{Script, Value, task_of}
use Rattle.entry.specs.Entry.{Entry, no_entry}
use Rattle.entry.specs.declared.asking.Asking.{Asking}
use Rattle.theory.specs.Clean.{Out, clean}
use Rattle.theory.specs.Items.{Item, item, made, written}
use Rattle.theory.specs.Looked.{is_marked, looked}
use Rattle.theory.specs.Same.{same_script}
use Rattle.theory.specs.Traces.{trace, with_value}

-- the answer is this value
abbrev pub is_value : Out → Value → Bool
is_value o w = with_value o false (λ v. nat_eq v w)

abbrev pub has_value : Out → Bool
has_value o = with_value o false (λ v. true)

-- every answer is the clean value
unfoldable pub all_right : List Item → List Asking → Bool
all_right d [] = true
all_right d (q ∷ qs) = is_value (clean d q.item) q.answer && all_right d qs

-- some entry saves a run of the script
unfoldable pub any_saves : List Item → Script → List Entry → Bool
any_saves d s [] = false
any_saves d s (e ∷ es) = (same_script s e.script && all_right d e.asked) || any_saves d s es

abbrev pub must_run : List Item → List Entry → Out → Item → Bool
must_run d es o (written v) = false
must_run d es o (made s) = has_value o && not (any_saves d s es)

abbrev pub is_due : List Item → List Entry → List Bool → ℕ → Bool
is_due d es marks j = is_marked marks j && must_run d es (clean d j) (item d j)

-- of n numbers from j on those that pass a test
unfoldable pub passing : (ℕ → Bool) → ℕ → ℕ → List ℕ
passing test j zero = []
passing test j (suc n) = let rest = passing test (suc j) n in cond (test j) (j ∷ rest) rest

-- the entry that a run leaves, where the item comes to a value
abbrev pub entry_of : List Item → Out → Item → Entry
entry_of d o (written v) = no_entry
entry_of d o (made s) = record { script = s; asked = trace (λ j. clean d j) (task_of s); result = with_value o 0 (λ v. v) }

abbrev pub entry_left : List Item → ℕ → Entry
entry_left d j = entry_of d (clean d j) (item d j)

pub record Outcome : Type 0 where
  pub answer : Out
  pub ran : List ℕ
  pub store : List Entry

unfoldable pub run_list : List Item → List Entry → ℕ → List ℕ
run_list d es k = let marks = looked d k in passing (is_due d es marks) 0 (length d)

-- the build of item k over a store es with room for so many entries
unfoldable pub built_of : List Item → List Entry → ℕ → ℕ → Outcome
built_of d es room k =
    let ran = run_list d es k in
    record { answer = clean d k; ran = ran; store = es ++ take (room - length es) (map (entry_left d) ran) }
