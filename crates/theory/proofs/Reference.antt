-- The build that computes fits the definition of a build. Assumes nothing.
use Rattle.std.proofs.Common.{◌≡◌, ℕ, true, not, List, [], ◌∷◌, map, length, sym, refl, ap, ◌∙◌, subst, arith}
use Rattle.std.proofs.lemmas.Bool.{and_from, and_parts, false≢true}
use Rattle.std.proofs.lemmas.Bool.Decides.{Decides-not}
use Rattle.script.specs.Rule.{Script, Value, task_of}
use Rattle.entry.specs.Entry.{Entry}
use Rattle.theory.specs.Build.{Built, Due, EachLeft, In, Left, and_one, here, no_more, there}
use Rattle.theory.specs.Clean.{Out, Runs, clean, ring, value}
use Rattle.theory.specs.Items.{Item, item, made, written}
use Rattle.theory.specs.Looked.{looked}
use Rattle.theory.specs.Reference.{any_saves, built_of, entry_left, entry_of, is_due, must_run, run_list}
use Rattle.theory.specs.Traces.{with_value}
use Rattle.theory.proofs.Bound.{clean_made, clean_makes, makes_clean}
use Rattle.theory.proofs.Looked.{decides_looked}
use Rattle.theory.proofs.Passing.{in_passing, passing_in, passing_rising}
use Rattle.theory.proofs.Rings.{made_there}
use Rattle.theory.proofs.Saves.{decides_saved}
use Rattle.theory.proofs.Traces.{trace_runs}

-- an item that has to be run is made and has a value, and nothing saves it
must_run_parts : (d : List Item) (es : List Entry) (o : Out) (i : Item) → must_run d es o i ≡ true → (s : Script) × (v : Value) × (i ≡ made s) × (o ≡ value v) × (not (any_saves d s es) ≡ true)
must_run_parts d es o (written w) e = absurd (false≢true e)
must_run_parts d es (value v) (made s) e = (s, v, refl, refl, e)
must_run_parts d es ring (made s) e = absurd (false≢true e)

module _ (d : List Item) (es : List Entry) (k : ℕ) where
  is_due_due : (j : ℕ) → is_due d es (looked d k) j ≡ true → Due d es k j
  is_due_due j e =
      let (marked, must) = and_parts _ _ e in
      let (s, v, is, gives, unsaved) = must_run_parts d es (clean d j) (item d j) must in
      record {
        looked = (decides_looked d k is).0 marked;
        script = s;
        is_made = is;
        gave = v;
        has = clean_makes d j v gives;
        unsaved = (Decides-not _ (decides_saved d is es)).0 unsaved;
      }

  due_is_due : (j : ℕ) → Due d es k j → is_due d es (looked d k) j ≡ true
  due_is_due j due =
      let is = due.is_made in
      and_from _ _ ((decides_looked d k is).1 due.looked)
      (rw (is, makes_clean due.has) ((Decides-not _ (decides_saved d is es)).1 due.unsaved))

  due_left : {j : ℕ} → Due d es k j → Left d j (entry_left d j)
  due_left {j} due =
      let s = due.script in
      let v = due.gave in
      let gives = makes_clean due.has in
      subst (λ x. Left d j x)
      (ap (λ i. entry_of d (clean d j) i) (sym due.is_made))
      (record {
        its = due.is_made;
        ran = subst (λ o. Runs d (task_of s) (entry_of d o (made s)).asked (with_value o 0 (λ x. x))) (sym gives) (trace_runs d (task_of s) v (sym (clean_made d j due.is_made) ∙ gives));
      })

  each_left : (js : List ℕ) → ((j : ℕ) → In j js → Due d es k j) → EachLeft d js (map (entry_left d) js)
  each_left [] due = no_more
  each_left (j ∷ js) due = and_one (due_left (due j here)) (each_left js (λ i h. due i (there h)))

  run_list_due : (j : ℕ) → In j (run_list d es k) → Due d es k j
  unfolding run_list
  run_list_due j i = is_due_due j (passing_in (is_due d es (looked d k)) 0 (length d) j i).0

  pub reference_fits : (room : ℕ) → Built d es room k (built_of d es room k).answer (built_of d es room k).ran (built_of d es room k).store
  unfolding built_of
  reference_fits room =
      record {
        answer = refl;
        rising = unfold run_list in passing_rising (is_due d es (looked d k)) 0 (length d);
        all_due = run_list_due;
        due_all = λ j due. unfold run_list in in_passing (is_due d es (looked d k)) 0 (length d) j (due_is_due j due) (omega arith) (omega (arith, made_there d j due.is_made));
        new = map (entry_left d) (run_list d es k);
        left = each_left (run_list d es k) run_list_due;
        store = refl;
      }
