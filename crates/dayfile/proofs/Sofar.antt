-- What one turn of the reader keeps: however the rest of the file is read, the whole is read with the commands so far in front. Assumes nothing.
use Rattle.std.proofs.Common.{◌≡◌, ℕ, ◌+◌, ◌-◌, ◌<◌, List, [], ◌∷◌, ◌++◌, map, length, drop, Some, None, Option, sym, ap, ◌∙◌, subst, arith}
use Rattle.std.proofs.lemmas.List.{append_assoc, append-nil, drop-drop, length-drop, map_push}
use Rattle.script.specs.declared.refusal.Refusal.{Refusal}
use Rattle.script.specs.declared.refusal.Refusal.TheVariants.{Unreadable}
use Rattle.house.specs.Deeds.{Deed, deed_of}
use Rattle.house.specs.declared.command.Command.{Command}
use Rattle.dayfile.specs.Day.{Reading, Reads, ends, goes_on, stops}
use Rattle.dayfile.specs.Format.{deed_in, head_bytes, whole_size}

-- the commands so far, and the rest of the file, which begins at some place of it
pub record Sofar (bs : List ℕ) (cs : List Command) (rest : List ℕ) : Type 0 where
  pub at : ℕ
  pub here : rest ≡ drop at bs
  pub onwards : (ds : List Deed) (e : Option Refusal) → Reads bs at ds e → Reads bs head_bytes (map deed_of cs ++ ds) e

pub none : (bs : List ℕ) {cs : List Command} {rest : List ℕ} → cs ≡ [] → rest ≡ drop head_bytes bs → Sofar bs cs rest
none bs empty here = record { at = head_bytes; here = here; onwards = λ ds e r. rw empty r }

module _ {bs : List ℕ} {cs : List Command} {rest : List ℕ} (so_far : Sofar bs cs rest) where
  -- what is left is so much less than the file as its place says
  long : length rest ≡ length bs - so_far.at
  long = ap length so_far.here ∙ length-drop so_far.at bs

  closed : (e : Option Refusal) → Reads bs so_far.at [] e → Reading bs cs e
  closed e r = subst (λ ds. Reads bs head_bytes ds e) (append-nil (map deed_of cs)) (so_far.onwards [] e r)

  pub all : length rest ≡ 0 → Reading bs cs None
  all h = let left = long in closed None (ends (omega arith))

  pub cut : 0 < length rest → None ≡ whole_size rest → Reading bs cs (Some (Unreadable (length bs - length rest)))
  cut h none =
      let left = long in
      let place : so_far.at ≡ length bs - length rest = omega arith in
      closed _ (subst (λ at. Reads bs so_far.at [] (Some (Unreadable at))) place (stops (omega arith) (sym (none ∙ ap whole_size so_far.here))))

  pub more : {cs₁ : List Command} {rest₁ : List ℕ} {n : ℕ} (c : Command) → Some n ≡ whole_size rest → deed_of c ≡ deed_in rest → cs₁ ≡ cs ++ c ∷ [] → rest₁ ≡ drop n rest → Sofar bs cs₁ rest₁
  more {cs₁} {rest₁} {n} c whole is pushed behind =
      record {
        at = so_far.at + n;
        here = behind ∙ ap (drop n) so_far.here ∙ drop-drop n so_far.at bs;
        onwards = λ ds e r. subst (λ l. Reads bs head_bytes l e) (joined ds) (so_far.onwards (deed_in (drop so_far.at bs) ∷ ds) e (goes_on (sym (whole ∙ ap whole_size so_far.here)) r));
      }
    where
      joined : (ds : List Deed) → map deed_of cs ++ (deed_in (drop so_far.at bs) ∷ ds) ≡ map deed_of cs₁ ++ ds
      joined ds = rw (pushed, map_push deed_of cs c, append_assoc, is, so_far.here)
