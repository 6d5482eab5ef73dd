-- The numbers that pass a test, in rising order. Assumes nothing.
use Rattle.std.proofs.Common.{◌≡◌, ℕ, zero, suc, ◌+◌, ◌<◌, ◌≤◌, Bool, true, false, cond, List, [], ◌∷◌, ◌++◌, length, sym, refl, ap, ◌∙◌, subst, ⊎_elim, arith}
use Rattle.std.proofs.lemmas.Bool.{cases_Bool, cases_eq}
use Rattle.std.proofs.lemmas.List.{append-nil}
use Rattle.theory.specs.Build.{In, Rising, here, more, none, one, there}
use Rattle.theory.specs.Reference.{passing}
use Rattle.theory.proofs.Members.{in_cases, in_none}

rising_cons : (j : ℕ) (ks : List ℕ) → ((k : ℕ) → In k ks → j < k) → Rising ks → Rising (j ∷ ks)
rising_cons j [] below r = one
rising_cons j (k ∷ ks) below r = more (below k here) r

one_before : (b : Bool) (j : ℕ) (xs ys : List ℕ) → cond b (j ∷ (xs ++ ys)) (xs ++ ys) ≡ cond b (j ∷ xs) xs ++ ys
one_before true j xs ys = refl
one_before false j xs ys = refl

module _ (test : ℕ → Bool) where
  passes : (j n : ℕ) → test j ≡ true → passing test j (suc n) ≡ j ∷ passing test (suc j) n
  unfolding passing
  passes j n e = ap (λ b. cond b (j ∷ passing test (suc j) n) (passing test (suc j) n)) e

  fails : (j n : ℕ) → test j ≡ false → passing test j (suc n) ≡ passing test (suc j) n
  unfolding passing
  fails j n e = ap (λ b. cond b (j ∷ passing test (suc j) n) (passing test (suc j) n)) e

  pub passing_in : (j n k : ℕ) → In k (passing test j n) → (test k ≡ true) × (j ≤ k) × (k < j + n)
  unfolding passing
  passing_in j zero k i = absurd (in_none i)
  passing_in j (suc n) k i =
      let rest : In k (passing test (suc j) n) → (test k ≡ true) × (j ≤ k) × (k < j + suc n)
      = λ h. let (t, low, high) = passing_in (suc j) n k h in (t, omega arith, omega arith) in
      ⊎_elim
      (λ yes. ⊎_elim (λ e. (subst (λ x. test x ≡ true) (sym e) yes, omega arith, omega arith)) rest (in_cases (subst (λ xs. In k xs) (passes j n yes) i)))
      (λ no. rest (subst (λ xs. In k xs) (fails j n no) i))
      (cases_Bool (test j))

  pub in_passing : (j n k : ℕ) → test k ≡ true → j ≤ k → k < j + n → In k (passing test j n)
  in_passing j zero k t low high = absurd (omega arith)
  in_passing j (suc n) k t low high =
      ⊎_elim
      (λ e. subst (λ xs. In k xs) (sym (passes j n (subst (λ x. test x ≡ true) e t))) (subst (λ x. In k (x ∷ passing test (suc j) n)) e here))
      (λ other.
      let rest = in_passing (suc j) n k t (omega arith) (omega arith) in
      ⊎_elim
      (λ yes. subst (λ xs. In k xs) (sym (passes j n yes)) (there rest))
      (λ no. subst (λ xs. In k xs) (sym (fails j n no)) rest)
      (cases_Bool (test j)))
      (cases_eq k j)

  pub passing_rising : (j n : ℕ) → Rising (passing test j n)
  unfolding passing
  passing_rising j zero = none
  passing_rising j (suc n) =
      let rest = passing_rising (suc j) n in
      ⊎_elim
      (λ yes. subst (λ xs. Rising xs) (sym (passes j n yes)) (rising_cons j _ (λ k i. omega (arith, (passing_in (suc j) n k i).1)) rest))
      (λ no. subst (λ xs. Rising xs) (sym (fails j n no)) rest)
      (cases_Bool (test j))

  pub length_passing : (j n : ℕ) → length (passing test j n) ≤ n
  unfolding passing
  length_passing j zero = omega arith
  length_passing j (suc n) =
      let rest = length_passing (suc j) n in
      ⊎_elim
      (λ yes. omega (arith, ap length (passes j n yes)))
      (λ no. omega (arith, ap length (fails j n no)))
      (cases_Bool (test j))

  -- one more number, after those below it
  last : (j n : ℕ) → passing test j (suc n) ≡ passing test j n ++ cond (test (j + n)) ((j + n) ∷ []) []
  unfolding passing
  last j zero = ap (λ k. cond (test k) (k ∷ []) []) (omega arith)
  last j (suc n) =
      let next : suc j + n ≡ j + suc n = omega arith in
      ap (λ r. cond (test j) (j ∷ r) r) (last (suc j) n ∙ ap (λ k. passing test (suc j) n ++ cond (test k) (k ∷ []) []) next)
      ∙ one_before (test j) j (passing test (suc j) n) _

  first_last : (n : ℕ) → passing test 0 (suc n) ≡ passing test 0 n ++ cond (test n) (n ∷ []) []
  first_last n = last 0 n ∙ ap (λ k. passing test 0 n ++ cond (test k) (k ∷ []) []) (omega arith)

  pub passing_push : (n : ℕ) → test n ≡ true → passing test 0 (n + 1) ≡ passing test 0 n ++ n ∷ []
  passing_push n passed = ap (passing test 0) (omega arith) ∙ first_last n ∙ ap (λ b. passing test 0 n ++ cond b (n ∷ []) []) passed

  pub passing_skip : (n : ℕ) → test n ≡ false → passing test 0 (n + 1) ≡ passing test 0 n
  passing_skip n out = ap (passing test 0) (omega arith) ∙ first_last n ∙ ap (λ b. passing test 0 n ++ cond b (n ∷ []) []) out ∙ append-nil _
