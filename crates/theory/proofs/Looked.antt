-- The marks that are computed stand at exactly the items that a clean build looks at. Assumes nothing.
use Rattle.std.proofs.Common.{◌≡◌, ℕ, ◌<◌, true, false, List, [], ◌∷◌, length, replicate, Decides, sym, subst, ⊎_elim, arith}
use lib.ListN.{length-replicate}
use Rattle.std.proofs.lemmas.List.{get_or-replicate}
use Rattle.std.proofs.lemmas.Bool.{both_ways}
use Rattle.script.specs.Rule.{Script}
use Rattle.theory.specs.Build.{here}
use Rattle.theory.specs.Clean.{Reached, itself}
use Rattle.theory.specs.Items.{Item, item, made}
use Rattle.theory.specs.Looked.{is_marked, looked, mark}
use Rattle.theory.proofs.MarkAll.{mark_complete}
use Rattle.theory.proofs.MarkOnly.{mark_sound}
use Rattle.theory.proofs.Marks.{free_all}
use Rattle.theory.proofs.Members.{in_cases, in_none}
use Rattle.theory.proofs.Needs.{reached_all}
use Rattle.theory.proofs.Rings.{made_there}

module _ (d : List Item) (k : ℕ) where
  -- at the start nothing that is there is marked
  no_mark : (j : ℕ) → j < length d → is_marked (replicate (length d) false) j ≡ true → ⊥
  no_mark j h m = both_ways _ (get_or-replicate (length d) j false true h) m

  pub decides_looked : {j : ℕ} {s : Script} → item d j ≡ made s → Decides (is_marked (looked d k) j) (Reached d k j)
  unfolding looked
  decides_looked {j} is =
      let n = length d in
      let start = replicate n false in
      let done = mark_complete d n start (k ∷ []) (length-replicate n false) (omega (arith, free_all n)) (record { heard = λ x j s m is a. absurd (no_mark x (made_there d x is) m) }) in (
        mark_sound d k n start (k ∷ [])
            (λ x i. ⊎_elim (λ at. subst (λ z. Reached d k z) (sym at) itself) (λ b. absurd (in_none b)) (in_cases i))
            (λ x h m. absurd (no_mark x h m))
            j
            (made_there d j is),
        reached_all (λ x. is_marked (mark n d start (k ∷ [])) x ≡ true)
            (λ i m s p made_by a. ⊎_elim (λ h. h) (λ b. absurd (in_none b)) (done.closed.heard i m s p made_by a))
            (done.serves k here),
      )
