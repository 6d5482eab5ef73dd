-- The worked day, by computing each build. Assumes nothing.
use Rattle.std.proofs.Common.{◌≡◌, ℕ, Bool, true, false, ◌&&◌, eqb, List, [], ◌∷◌, length, sym, refl, ap, subst}
use Rattle.std.proofs.lemmas.Bool.{and_parts, eqb-true, false≢true}
use Rattle.std.proofs.lemmas.Bool.Decides.{Decides-eqb}
use Rattle.script.specs.Rule.{task, task_of}
use Rattle.entry.specs.Entry.{Entry}
use Rattle.theory.specs.Build.{Built}
use Rattle.theory.specs.Clean.{Out, clean, deep, ring, run, value}
use Rattle.theory.specs.Items.{Item}
use Rattle.theory.specs.Looked.{asked_by, looked, mark, unmarked}
use Rattle.theory.specs.Reference.{all_right, any_saves, built_of, is_value, passing, run_list}
use Rattle.theory.specs.Same.{same_by}
use Rattle.theory.specs.Traces.{asked_for, trace}
use Rattle.theory.specs.Worked.{AsTold, Row, WorkedDay, desk, next, over, rewritten, room, rows}
use Rattle.theory.proofs.Reference.{reference_fits}
use Rattle.theory.proofs.Same.{decides_same_by}

same_out : Out → Out → Bool
same_out (value v) o = is_value o v
same_out ring (value w) = false
same_out ring ring = true

same_out_same : (o u : Out) → same_out o u ≡ true → o ≡ u
unfolding same_out
same_out_same (value v) (value w) e = ap value (sym (eqb-true w v e))
same_out_same (value v) ring e = absurd (false≢true e)
same_out_same ring (value w) e = absurd (false≢true e)
same_out_same ring ring e = refl

-- the builds of the rows, computed and compared
tells : ℕ → List Item → List Entry → List Row → Bool
tells room d es [] = true
tells room d es (r ∷ rs) =
    let desk_now = rewritten d r.before in
    let b = built_of desk_now es room r.item in
    same_out b.answer r.answer && (same_by eqb b.ran r.ran && (eqb (length b.store) r.kept && tells room desk_now b.store rs))

told : (room : ℕ) (d : List Item) (es : List Entry) (rs : List Row) → tells room d es rs ≡ true → AsTold room d es rs
unfolding tells
told room d es [] e = over
told room d es (r ∷ rs) e =
    let desk_now = rewritten d r.before in
    let b = built_of desk_now es room r.item in
    let (answer, rest) = and_parts (same_out b.answer r.answer) _ e in
    let (ran, more) = and_parts (same_by eqb b.ran r.ran) _ rest in
    let (kept, later) = and_parts (eqb (length b.store) r.kept) _ more in
    let fits = reference_fits desk_now es r.item room in
    next
    (subst (λ o. Built desk_now es room r.item o r.ran b.store) (same_out_same _ _ answer)
    (subst (λ js. Built desk_now es room r.item b.answer js b.store) ((decides_same_by eqb Decides-eqb _ _).0 ran) fits))
    (eqb-true _ _ kept)
    (told room desk_now b.store rs later)

day_tells : tells room desk [] rows ≡ true
unfolding tells same_out rewritten built_of run_list passing looked mark unmarked asked_by asked_for trace all_right any_saves same_by clean deep run task task_of
day_tells = refl

pub worked_day : WorkedDay
worked_day = told room desk [] rows day_tells
