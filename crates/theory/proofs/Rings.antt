-- Where the build with its bound finds no value, some item that is looked at needs itself. Assumes nothing.
use Rattle.std.proofs.Common.{◌≡◌, ℕ, zero, suc, ◌+◌, ◌<◌, Bool, true, false, List, length, get_or, set, replicate, sym, ◌∙◌, subst, ⊎_elim, arith, length-set}
use lib.ListN.{length-replicate}
use Rattle.std.proofs.lemmas.List.{get_or_past, get_or-set_other}
use Rattle.std.proofs.lemmas.Bool.{both_ways, cases_Bool, cases_eq, cases_lt}
use Rattle.script.specs.Rule.{Script}
use Rattle.theory.specs.Clean.{Reached, clean, deep, itself, on, ring}
use Rattle.theory.specs.Items.{Item, item, made, written}
use Rattle.theory.specs.Rings.{Needs, by_way, directly}
use Rattle.theory.proofs.Marks.{free, free_all, free_less, none_set}
use Rattle.theory.proofs.Sound.{deep_stuck}
use Rattle.theory.proofs.Values.{written_made}

-- an item that is made is there
pub made_there : (d : List Item) (k : ℕ) {s : Script} → item d k ≡ made s → k < length d
made_there d k is = ⊎_elim (λ h. h) (λ past. absurd (written_made (get_or_past d k (written 0) past) is)) (cases_lt k (length d))

module _ (d : List Item) (top : ℕ) where
  -- from item to item that has no value, marking each; a marked one is met again before the marks or the depth run out
  met_again :
      (n : ℕ) (ms : List Bool) (k : ℕ) → length ms ≡ length d → free ms < n → ((x : ℕ) → get_or ms x false ≡ true → Needs d x k) →
      Reached d top k → deep n d k ≡ ring → (j : ℕ) × Reached d top j × Needs d j j
  met_again zero ms k same room seen r e = absurd (omega arith)
  met_again (suc n) ms k same room seen r e =
      let (s, j, is, asked, stuck) = deep_stuck d n k e in
      ⊎_elim
      (λ marked. (k, r, seen k marked))
      (λ new.
      met_again n (set ms k true) j
      (length-set ms k true ∙ same)
      (omega (arith, free_less ms k false (rw same (made_there d k is)) new))
      (λ x marked.
      ⊎_elim
      (λ here. subst (λ y. Needs d y j) (sym here) (directly is asked))
      (λ other. by_way (seen x (sym (get_or-set_other ms k x true false other) ∙ marked)) is asked)
      (cases_eq x k))
      (on r is asked)
      stuck)
      (cases_Bool (get_or ms k false))

pub clean_ring : (d : List Item) (k : ℕ) → clean d k ≡ ring → (j : ℕ) × Reached d k j × Needs d j j
unfolding clean
clean_ring d k e =
    let n = length d in
    met_again d k (n + 1) (replicate n false) k
    (length-replicate n false)
    (omega (arith, free_all n))
    (λ x marked. absurd (both_ways _ (none_set n x) marked))
    itself
    e
