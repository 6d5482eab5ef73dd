-- How a command goes, and a day of commands. Assumes nothing: these are definitions.
use Rattle.std.specs.Prelude.{◌≡◌, ℕ, List, [], ◌∷◌, ◌++◌, map, Some, None}
use Rattle.script.specs.Allowed.{counted_as}
use Rattle.script.specs.Rule.{Value}
use Rattle.script.specs.declared.refusal.Refusal.{Refusal}
use Rattle.script.specs.declared.source.SourceLine.{SourceLine}
use Rattle.entry.specs.Entry.{Entry}
use Rattle.entry.specs.Rows.{entry_of}
use Rattle.entry.specs.declared.asking.Asking.{Asking}
use Rattle.store.specs.Rows.{without}
use Rattle.theory.specs.Build.{Built}
use Rattle.theory.specs.Clean.{Out}
use Rattle.theory.specs.Items.{made, written}
use Rattle.house.specs.Deeds.{Deed, bring, build, forget, give, write}
use Rattle.days.specs.Faults.{deed_fault}
use Rattle.days.specs.House.{House, desk, edited, with_store}

-- what is told of a command; a build tells its answer and the list of what it ran
pub data Told : Type 0 where
  fine : Told
  refused : Refusal → Told
  built : Out → List ℕ → Told

-- a command that is refused changes nothing, and the first refusal that applies is told
pub data Goes (h : House) : Deed → Told → House → Type 0 where
  refuses : {d : Deed} {f : Refusal} → deed_fault h d ≡ Some f → Goes h d (refused f) h
  writes : {x k : ℕ} {v : Value} → deed_fault h (write x k v) ≡ None → Goes h (write x k v) fine (edited h x k (written v))
  gives : {x k : ℕ} {ls : List SourceLine} → deed_fault h (give x k ls) ≡ None → Goes h (give x k ls) fine (edited h x k (made (map counted_as ls)))
  builds : {x k : ℕ} {o : Out} {ran : List ℕ} {es : List Entry} →
      deed_fault h (build x k) ≡ None → Built (desk h x) h.store h.room k o ran es → Goes h (build x k) (built o ran) (with_store h es)
  forgets : {i : ℕ} → deed_fault h (forget i) ≡ None → Goes h (forget i) fine (with_store h (without h.store i))
  brings : {ls : List SourceLine} {qs : List Asking} {v : Value} →
      deed_fault h (bring ls qs v) ≡ None → Goes h (bring ls qs v) fine (with_store h (h.store ++ entry_of ls qs v ∷ []))

pub data Day : House → List Deed → List Told → House → Type 0 where
  over : {h : House} → Day h [] [] h
  next : {h g l : House} {d : Deed} {ds : List Deed} {t : Told} {ts : List Told} → Goes h d t g → Day g ds ts l → Day h (d ∷ ds) (t ∷ ts) l
