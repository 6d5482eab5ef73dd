-- An item that was not seen is opened, and settled by an entry or a run; or it stays open. Assumes nothing.
use Rattle.std.proofs.Common.{◌≡◌, ℕ, suc, ◌<◌, ◌⊎◌, List, length, Option, Ok, Result, sym, refl, ap, ◌∙◌, subst, inl, inr, ⊎_elim, arith}
use Rattle.std.specs.Result.{IsErr}
use Rattle.std.proofs.lemmas.Bool.{cases_eq}
use Rattle.script.specs.Rule.{Script, Value, done, task_of}
use Rattle.entry.specs.Entry.{Entry}
use Rattle.entry.specs.Rows.{askings_in}
use Rattle.entry.specs.declared.asking.Asking.{Asking}
use Rattle.theory.specs.Build.{Saved}
use Rattle.theory.specs.Clean.{Makes, Reached, by_script, itself, on}
use Rattle.theory.specs.Items.{Item, item, made}
use Rattle.theory.proofs.Needs.{reached_join}
use Rattle.theory.proofs.Rings.{made_there}
use Rattle.theory.proofs.Values.{written_made}
use Rattle.build.specs.Made.{EndsOpen, EndsWaiting, Evaluated, RecalledSo}
use Rattle.build.specs.Scratch.{marked, state_of}
use Rattle.build.specs.Sound.{Grown, Known, Later, Looked, Ready, Settled, Sound, Waiting, Walked, Went, by_entry, by_hand, by_run}
use Rattle.items.specs.declared.ring.Ring.{Ring}
use Rattle.build.specs.declared.scratch.Scratch.{Scratch}
use Rattle.build.specs.declared.scratch.State.{State}
use Rattle.build.specs.declared.scratch.State.TheVariants.{Found, Open, Ran, Unseen}
use Rattle.build.proofs.Grows.{by_ring}
use Rattle.build.proofs.Marks.{Marks, marks, marks_keeps, marks_sound}
use Rattle.build.proofs.States.{found_shut, later_unseen, open_seen, ran_shut, unseen_less}
use Rattle.build.proofs.Walks.{later_keeps, walked_keeps, walked_runs}

-- what the entries say, by the value that it is found to be
pub recalled_as : (d : List Item) (es : List Entry) (s : Script) (σ σ₁ : Scratch) {x y : Option Value} → x ≡ y → RecalledSo d es s σ (Ok x) σ₁ → RecalledSo d es s σ (Ok y) σ₁
recalled_as d es s σ σ₁ e r = subst (λ o. RecalledSo d es s σ (Ok o) σ₁) e r

found_one : {t : State} {v w : Value} → t ≡ Found v → t ≡ Found w → v ≡ w
found_one p q = cc

ran_one : {t : State} {v w : Value} {row ns : List ℕ} → t ≡ Ran v row → t ≡ Ran w ns → (v ≡ w) × (row ≡ ns)
ran_one p q = (cc, cc)

not_settled : {d : List Item} {σ : Scratch} {j : ℕ} {s : Script} → item d j ≡ made s → state_of σ j ≡ Open → Settled d σ j → ⊥
not_settled is e (by_hand h) = written_made h is
not_settled is e (by_entry h) = found_shut h e
not_settled is e (by_run h) = ran_shut h e

module _ {d : List Item} {es : List Entry} {σ : Scratch} {depth : ℕ} (ready : Ready d es σ (suc depth)) (j : ℕ) {s : Script} (is : item d j ≡ made s) (un : state_of σ j ≡ Unseen) where
  pub inside : j < length σ.states
  inside = omega (arith, made_there d j is, ready.sound.long)

  module _ {σ₁ : Scratch} (opened : σ₁ ≡ marked σ j Open) where
    first : Marks σ j Open σ₁
    first = marks inside opened

    -- opening an item changes nothing that was seen
    opened_later : Later σ σ₁
    opened_later = record { stays = λ i seen. first.others i (λ e. seen (ap (state_of σ) e ∙ un)) }

    opened_sound : Sound d es σ₁
    opened_sound = marks_sound first (later_keeps opened_later) ready.sound (λ v e. absurd (found_shut e refl)) (λ v row e. absurd (ran_shut e refl))

    pub opened_ready : Ready d es σ₁ depth
    opened_ready = record {
      honest = ready.honest;
      sound = opened_sound;
      deep = omega (arith, unseen_less σ σ₁ (later_unseen opened_later) (length d) j (made_there d j is) un (open_seen first.here), ready.deep);
    }

    module _ {σ₂ : Scratch} (grown : Grown d es (Looked d (task_of s)) σ₁ σ₂) where
      -- the item itself is open until it is settled
      pub still_open : state_of σ₂ j ≡ Open
      still_open = grown.later.stays j (open_seen first.here) ∙ first.here

      looked_reached : (i : ℕ) → Looked d (task_of s) i → Reached d j i
      looked_reached i (m, asked, r) = reached_join (on itself is asked) r

      new_from : (i : ℕ) → (i ≡ j → ⊥) → state_of σ i ≡ Unseen → (state_of σ₂ i ≡ Unseen) ⊎ Reached d j i
      new_from i other e = ⊎_elim inl (λ f. inr (looked_reached i f)) (grown.new i (first.others i other ∙ e))

      old_open : (i : ℕ) → state_of σ₁ i ≡ Open → (i ≡ j) ⊎ (state_of σ i ≡ Open)
      old_open i e = ⊎_elim inl (λ other. inr (sym (first.others i other) ∙ e)) (cases_eq i j)

      same_later : (i : ℕ) → (state_of σ i ≡ Unseen → ⊥) → state_of σ₂ i ≡ state_of σ i
      same_later i seen =
          let keeps = opened_later.stays i seen in
          grown.later.stays i (λ e. seen (sym keeps ∙ e)) ∙ keeps

    rings : {σ₂ : Scratch} → EndsWaiting d es s σ₁ σ₂ → EndsOpen d es σ j σ₂
    rings {σ₂} (e, held) =
        let own : Waiting d σ₂ j = record { script = s; is_made = is; held = held } in (
          record {
            grown = record {
              later = record { stays = same_later e.grown };
              sound = e.grown.sound;
              new = λ i h. ⊎_elim (λ same. inr (subst (λ x. Reached d j x) (sym same) itself)) (λ other. new_from e.grown i other h) (cases_eq i j);
            };
            stopped = λ i h.
                ⊎_elim
                (λ before. ⊎_elim (λ same. inr (subst (λ x. Waiting d σ₂ x) (sym same) own)) inl (old_open e.grown i before))
                inr
                (e.stopped i h);
          },
          still_open e.grown,
        )

    pub made_ring : {σ₂ : Scratch} (r : Result ℕ Ring) → IsErr r → EndsWaiting d es s σ₁ σ₂ → Evaluated d es σ j r σ₂
    made_ring {σ₂} r is_ring waits = by_ring (λ x. Evaluated d es σ j x σ₂) r is_ring (λ _. rings waits)

    -- the item is settled by a state that is neither open nor unseen
    settles :
        {σ₂ σ₃ : Scratch} {t : State} {v : Value} → Went d es (Looked d (task_of s)) σ₁ σ₂ → Marks σ₂ j t σ₃ →
        (t ≡ Open → ⊥) → Sound d es σ₃ → Makes d j v → Settled d σ₃ j → Evaluated d es σ j (Ok v) σ₃
    settles {σ₂} {σ₃} w m shut sound makes settled = (
      record {
        grown = record {
          later = record { stays = λ i seen. m.others i (λ same. seen (ap (state_of σ) same ∙ un)) ∙ same_later w.grown i seen };
          sound = sound;
          new = λ i h.
              ⊎_elim
              (λ same. inr (subst (λ x. Reached d j x) (sym same) itself))
              (λ other. ⊎_elim (λ n. inl (m.others i other ∙ n)) inr (new_from w.grown i other h))
              (cases_eq i j);
        };
        closed = λ i h.
            ⊎_elim
            (λ same. absurd (shut (sym m.here ∙ ap (state_of σ₃) (sym same) ∙ h)))
            (λ other.
            ⊎_elim
            (λ same. absurd (other same))
            (λ o. o)
            (old_open w.grown i (w.closed i (sym (m.others i other) ∙ h))))
            (cases_eq i j);
      },
      makes,
      settled,
    )

    module _ {σ₂ : Scratch} {qs : List Asking} {v : Value} (w : Went d es (Looked d (task_of s)) σ₁ σ₂) (walked : Walked d σ₂ (task_of s) qs (done v)) where
      inside_still : j < length σ₂.states
      inside_still = omega (arith, made_there d j is, w.grown.sound.long)

      keeps_all : {t : State} {σ₃ : Scratch} → Marks σ₂ j t σ₃ → (i : ℕ) → Settled d σ₂ i → Settled d σ₃ i
      keeps_all m = marks_keeps m (λ no_way. absurd (not_settled is (still_open w.grown) no_way))

      known_now : {t : State} {σ₃ : Scratch} → Marks σ₂ j t σ₃ → Known d σ₃ j qs v
      known_now m = record { script = s; is_made = is; walked = walked_keeps (keeps_all m) walked }

      pub settles_found : (σ₃ : Scratch) → σ₃ ≡ marked σ₂ j (Found v) → Saved d es j → Evaluated d es σ j (Ok v) σ₃
      settles_found σ₃ done_so saved =
          let m : Marks σ₂ j (Found v) σ₃ = marks inside_still done_so in
          settles w m (found_shut refl)
          (marks_sound m (keeps_all m) w.grown.sound
          (λ u e. (saved, (qs, subst (λ x. Known d σ₃ j qs x) (found_one refl e) (known_now m))))
          (λ u row e. absurd (let z : ◌≡◌ {A = ℕ} 0 1 = cc in omega arith)))
          (by_script is (walked_runs walked))
          (by_entry m.here)

      pub settles_ran : (row : List ℕ) (σ₃ : Scratch) → σ₃ ≡ marked σ₂ j (Ran v row) → askings_in row ≡ qs → (Saved d es j → ⊥) → Evaluated d es σ j (Ok v) σ₃
      settles_ran row σ₃ done_so kept unsaved =
          let m : Marks σ₂ j (Ran v row) σ₃ = marks inside_still done_so in
          settles w m (ran_shut refl)
          (marks_sound m (keeps_all m) w.grown.sound
          (λ u e. absurd (let z : ◌≡◌ {A = ℕ} 0 1 = cc in omega arith))
          (λ u ns e.
          let both = ran_one refl e in
          (unsaved, subst (λ x. Known d σ₃ j (askings_in x) u) both.1 (subst (λ x. Known d σ₃ j (askings_in row) x) both.0 (subst (λ x. Known d σ₃ j x v) (sym kept) (known_now m))))))
          (by_script is (walked_runs walked))
          (by_run m.here)
