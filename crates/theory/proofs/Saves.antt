-- The test of a store tells exactly whether an entry saves the item. Assumes nothing.
use Rattle.std.proofs.Common.{◌≡◌, ℕ, List, get_or, Decides, refl, ap, ◌∙◌, subst}
use Rattle.std.specs.List.{AllByRecursion}
use Rattle.std.proofs.ByRecursion.{All-from_get_or, All-get_or, Decides-by_and}
use Rattle.std.proofs.lemmas.List.{get_or_default}
use Rattle.std.proofs.lemmas.Bool.Decides.{Decides-and, Decides-by_or, Decides-eqb, Decides-like}
use Rattle.script.specs.Rule.{Script, Value}
use Rattle.entry.specs.Entry.{Entry, no_asking, no_entry}
use Rattle.entry.specs.declared.asking.Asking.{Asking}
use Rattle.theory.specs.Build.{Saved}
use Rattle.theory.specs.Clean.{Makes, Out, clean, ring, value}
use Rattle.theory.specs.Items.{Item, item, made}
use Rattle.theory.specs.Reference.{all_right, any_saves, is_value}
use Rattle.theory.proofs.Bound.{clean_makes, makes_clean}
use Rattle.theory.proofs.Outs.{not_both, value_one}
use Rattle.theory.proofs.Same.{decides_none, decides_same_script}
use Rattle.theory.proofs.Values.{made_one}

decides_value : (o : Out) (w : Value) → Decides (is_value o w) (o ≡ value w)
decides_value (value v) w = Decides-like _ (ap value) value_one (Decides-eqb v w)
decides_value ring w = decides_none _ refl (λ e. not_both e refl)

module _ (d : List Item) where
  abbrev Right : Asking → Type 0
  Right q = Makes d q.item q.answer

  decides_right : (q : Asking) → Decides (is_value (clean d q.item) q.answer) (Right q)
  decides_right q = Decides-like _ (clean_makes d q.item q.answer) makes_clean (decides_value (clean d q.item) q.answer)

  decides_all_right : (qs : List Asking) → Decides (all_right d qs) (AllByRecursion Right qs)
  unfolding all_right
  decides_all_right = Decides-by_and _ Right (all_right d) decides_right refl (λ _ _. refl)

  abbrev Saves : Script → Entry → Type 0
  Saves s e = (s ≡ e.script) × AllByRecursion Right e.asked

  module _ {j : ℕ} {s : Script} (is : item d j ≡ made s) where
    pub decides_saved : (es : List Entry) → Decides (any_saves d s es) (Saved d es j)
    unfolding any_saves
    decides_saved es =
        Decides-like _
        (λ h.
        let at = h.2 no_entry in
        record { place = h.0; kept = h.1; its = is ∙ ap made at.0; usable = λ i l. All-get_or Right _ i no_asking l at.1 })
        (λ saved. (
          saved.place,
          saved.kept,
          λ past.
              subst (λ e. Saves s e) (get_or_default es saved.place no_entry past saved.kept)
              (made_one is saved.its, All-from_get_or Right (get_or es saved.place no_entry).asked no_asking saved.usable),
        ))
        (Decides-by_or _ (Saves s) (any_saves d s)
        (λ e. Decides-and _ _ (decides_same_script s e.script) (decides_all_right e.asked))
        refl
        (λ _ _. refl)
        es)
