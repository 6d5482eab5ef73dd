-- What a store saves: more entries save no less, and a build with room saves all that it looked at. Assumes nothing.
use Rattle.std.proofs.Common.{◌≡◌, ℕ, ◌+◌, ◌-◌, ◌<◌, ◌≤◌, List, ◌++◌, length, get_or, sym, ap, ◌∙◌, subst, arith}
use Rattle.std.proofs.lemmas.List.{get_or-append-add, get_or_append_left, length-append, take_all}
use Rattle.script.specs.Rule.{Script, Value}
use Rattle.entry.specs.Entry.{Entry, no_entry}
use Rattle.theory.specs.Build.{Built, EachLeft, In, Saved, Usable}
use Rattle.theory.specs.Clean.{Makes, Out, Reached}
use Rattle.theory.specs.Items.{Item, item, made}
use Rattle.theory.proofs.Left.{left_at, left_usable, length_left}

-- an entry at a place of the store saves its item
saved_by : {d : List Item} {es : List Entry} {j : ℕ} (i : ℕ) (e : Entry) → i < length es → get_or es i no_entry ≡ e → item d j ≡ made e.script → Usable d e → Saved d es j
saved_by {d} {es} {j} i e h at its usable =
    record { place = i; kept = h; its = subst (λ f. item d j ≡ made f.script) (sym at) its; usable = subst (λ f. Usable d f) (sym at) usable }

pub saved_more : {d : List Item} {es : List Entry} {j : ℕ} (fs : List Entry) → Saved d es j → Saved d (es ++ fs) j
saved_more {es = es} fs s =
    saved_by s.place (get_or es s.place no_entry)
    (omega (arith, length-append es fs, s.kept))
    (get_or_append_left es fs no_entry s.place s.kept)
    s.its
    s.usable

-- what was run is saved by what it left
pub left_saved : {d : List Item} (es : List Entry) {j : ℕ} {js : List ℕ} {new : List Entry} → EachLeft d js new → In j js → Saved d (es ++ new) j
left_saved es {new = new} ls i =
    let (n, h, l) = left_at ls i in
    saved_by (length es + n) (get_or new n no_entry)
    (omega (arith, length-append es new))
    (get_or-append-add es new n no_entry)
    l.its
    (left_usable l)

module _ {d : List Item} {es fs : List Entry} {room k : ℕ} {o : Out} {ran : List ℕ} (b : Built d es room k o ran fs) (room_for_all : length es + length ran ≤ room) where
  -- the store keeps all that was left
  pub all_kept : fs ≡ es ++ b.new
  all_kept = b.store ∙ ap (λ x. es ++ x) (take_all (room - length es) b.new (omega (arith, length_left b.left)))

  -- an item that the build looked at, with a script and a value, cannot stay unsaved
  pub built_saves : {j : ℕ} {s : Script} {v : Value} → Reached d k j → item d j ≡ made s → Makes d j v → (Saved d fs j → ⊥) → ⊥
  built_saves {j} {s} {v} looked is has unsaved =
      let not_then : Saved d (es ++ b.new) j → ⊥ = λ saved. unsaved (subst (λ x. Saved d x j) (sym all_kept) saved) in
      not_then
      (left_saved es b.left
      (b.due_all j
      (record { looked = looked; script = s; is_made = is; gave = v; has = has; unsaved = λ saved. not_then (saved_more b.new saved) })))
