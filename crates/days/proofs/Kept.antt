-- The store under every command: its entries stay honest, and it holds no more than it has room for. Assumes nothing.
use Rattle.std.proofs.Common.{◌≡◌, ℕ, ◌+◌, ◌<◌, ◌≤◌, List, [], ◌∷◌, length, take, drop, None, Ok, Option, sym, refl, arith}
use Rattle.std.specs.Option.{option_map}
use Rattle.std.specs.List.{AllByRecursion}
use Rattle.std.proofs.ByRecursion.{All-append, All-drop, All-from_get_or, All-get_or, All-take}
use Rattle.std.proofs.lemmas.List.{length-append, length-drop, length-take}
use Rattle.std.proofs.lemmas.Bool.Decides.{nat_tests}
use Rattle.script.specs.Allowed.{or_else, script_fault}
use Rattle.script.specs.Rule.{Value}
use Rattle.script.specs.declared.refusal.Refusal.{Refusal}
use Rattle.script.specs.declared.refusal.Refusal.TheVariants.{NotHonest}
use Rattle.script.specs.declared.source.SourceLine.{SourceLine}
use Rattle.entry.specs.Entry.{AllHonest, Entry, Honest, no_entry}
use Rattle.entry.specs.Replay.{difference}
use Rattle.entry.specs.Rows.{entry_of}
use Rattle.entry.specs.declared.asking.Asking.{Asking}
use Rattle.entry.proofs.Replays.{decided}
use Rattle.store.proofs.Grows.{second_none}
use Rattle.theory.proofs.Builds.{build_honest, build_within}
use Rattle.house.specs.Deeds.{Deed}
use Rattle.house.specs.Faults.{askings_fault}
use Rattle.days.specs.Faults.{bring_fault, full_fault}
use Rattle.days.specs.Goes.{Goes, Told, brings, builds, forgets, gives, refuses, writes}
use Rattle.days.specs.House.{House}

pub first_none : (x y : Option Refusal) → or_else x y ≡ None → x ≡ None
first_none x y e = grind arith

-- an entry that is let in replays, and there is room for it
let_in : (h : House) (ls : List SourceLine) (qs : List Asking) (v : Value) → bring_fault h ls qs v ≡ None → Honest (entry_of ls qs v) × (length h.store < h.room)
let_in h ls qs v n =
    let differing = option_map NotHonest (difference (entry_of ls qs v)) in
    let last = second_none (askings_fault qs) _ (second_none (script_fault ls) _ n) in
    let same : difference (entry_of ls qs v) ≡ None = let none = first_none differing _ last in grind arith in
    let room : length h.store < h.room = let none = first_none (full_fault h) _ (second_none differing _ last) in grind (arith, nat_tests) in
    ((decided {A = ℕ} (entry_of ls qs v) (Ok 0) (sym same)).0 refl, room)

from_all : (es : List Entry) → AllByRecursion Honest es → AllHonest es
unfolding AllHonest
from_all es all = λ i h. All-get_or Honest es i no_entry h all

to_all : (es : List Entry) → AllHonest es → AllByRecursion Honest es
unfolding AllHonest
to_all es honest = All-from_get_or Honest es no_entry honest

pub goes_honest : {h g : House} {d : Deed} {t : Told} → AllHonest h.store → Goes h d t g → AllHonest g.store
goes_honest honest (refuses e) = honest
goes_honest honest (writes n) = honest
goes_honest honest (gives n) = honest
goes_honest honest (builds n b) = build_honest b honest
goes_honest {h} honest (forgets {i} n) =
    let old = to_all h.store honest in
    from_all _ (All-append Honest (take i h.store) (drop (i + 1) h.store) (All-take Honest i h.store old) (All-drop Honest (i + 1) h.store old))
goes_honest {h} honest (brings {ls} {qs} {v} n) =
    from_all _ (All-append Honest h.store (entry_of ls qs v ∷ []) (to_all h.store honest) ((let_in h ls qs v n).0, tt))

pub goes_within : {h g : House} {d : Deed} {t : Told} → length h.store ≤ h.room → Goes h d t g → (length g.store ≤ g.room) × (g.room ≡ h.room)
goes_within few (refuses e) = (few, refl)
goes_within few (writes n) = (few, refl)
goes_within few (gives n) = (few, refl)
goes_within few (builds n b) = (build_within b few, refl)
goes_within {h} few (forgets {i} n) = (omega (arith, length-append (take i h.store) (drop (i + 1) h.store), length-take i h.store, length-drop (i + 1) h.store), refl)
goes_within {h} few (brings {ls} {qs} {v} n) = (omega (arith, length-append h.store (entry_of ls qs v ∷ []), (let_in h ls qs v n).1), refl)
