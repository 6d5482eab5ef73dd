-- The entries that runs leave: one for each item, honest and usable. Assumes nothing.
use Rattle.std.proofs.Common.{◌≡◌, ℕ, suc, ◌<◌, List, length, get_or, sym, refl, ap, subst, arith}
use Rattle.std.specs.List.{AllByRecursion}
use Rattle.script.specs.Rule.{task_of}
use Rattle.entry.specs.Entry.{Entry, Honest, no_entry}
use Rattle.theory.specs.Build.{EachLeft, In, Left, Usable, and_one, here, no_more, there}
use Rattle.theory.specs.Clean.{Runs}
use Rattle.theory.specs.Items.{Item}
use Rattle.theory.proofs.Entries.{runs_replays, runs_right}
use Rattle.theory.proofs.Members.{in_none}
use Rattle.theory.proofs.Values.{made_one, runs_unique}

same_entry : (e f : Entry) → e.script ≡ f.script → e.asked ≡ f.asked → e.result ≡ f.result → e ≡ f
same_entry e f s a r = λ i. record { script = s i; asked = a i; result = r i }

pub left_unique : {d : List Item} {j : ℕ} {e f : Entry} → Left d j e → Left d j f → e ≡ f
left_unique {d} {e = e} {f = f} l m =
    let same = made_one l.its m.its in
    let runs = runs_unique l.ran (subst (λ s. Runs d (task_of s) f.asked f.result) (sym same) m.ran) in
    same_entry e f same runs.0 runs.1

pub each_left_unique : {d : List Item} {js : List ℕ} {es fs : List Entry} → EachLeft d js es → EachLeft d js fs → es ≡ fs
each_left_unique no_more no_more = refl
each_left_unique (and_one l ls) (and_one m ms) = cc (left_unique l m, each_left_unique ls ms)

pub length_left : {d : List Item} {js : List ℕ} {es : List Entry} → EachLeft d js es → length es ≡ length js
length_left no_more = refl
length_left (and_one l ls) = ap suc (length_left ls)

pub left_honest : {d : List Item} {j : ℕ} {e : Entry} → Left d j e → Honest e
unfolding Honest
left_honest l = runs_replays l.ran

pub each_left_honest : {d : List Item} {js : List ℕ} {es : List Entry} → EachLeft d js es → AllByRecursion Honest es
each_left_honest no_more = tt
each_left_honest (and_one l ls) = (left_honest l, each_left_honest ls)

pub left_usable : {d : List Item} {j : ℕ} {e : Entry} → Left d j e → Usable d e
left_usable l = runs_right l.ran

-- where the entry of an item stands
pub left_at : {d : List Item} {j : ℕ} {js : List ℕ} {es : List Entry} → EachLeft d js es → In j js → (i : ℕ) × (i < length es) × Left d j (get_or es i no_entry)
left_at no_more i = absurd (in_none i)
left_at (and_one l ls) here = (0, omega arith, l)
left_at (and_one l ls) (there i) = let (n, h, at) = left_at ls i in (suc n, omega arith, at)
