-- The lines of a day, one command after the other. Assumes nothing.
use Rattle.std.proofs.Common.{◌≡◌, ℕ, ◌+◌, List, [], ◌∷◌, ◌++◌, map, length, sym, refl, ap, ◌∙◌, add-one}
use Rattle.std.proofs.lemmas.List.{append_assoc, append-nil, nil_from_length}
use Rattle.house.specs.Deeds.{Deed, deed_of}
use Rattle.house.specs.declared.command.Command.{Command}
use Rattle.days.specs.Goes.{Told}
use Rattle.days.specs.Outcomes.{told_as}
use Rattle.days.specs.declared.outcome.Outcome.{Outcome}
use Rattle.report.specs.Text.{told_text, tolds_text}

-- what is told of these commands and outcomes, of which the first has number n in the file
abbrev pub still : ℕ → List Command → List Outcome → List ℕ
still n cs os = tolds_text n (map deed_of cs) (map told_as os)

no_outcomes : (n : ℕ) (ds : List Deed) → tolds_text n ds [] ≡ []
unfolding tolds_text
no_outcomes n [] = refl
no_outcomes n (d ∷ ds) = refl

no_commands : (n : ℕ) (ts : List Told) → tolds_text n [] ts ≡ []
unfolding tolds_text
no_commands n ts = refl

-- behind the last command or the last outcome nothing is told
pub none_left : (n : ℕ) (cs : List Command) (os : List Outcome) → length cs ≡ 0 → still n cs os ≡ []
none_left n cs os none = ap (λ xs. still n xs os) (nil_from_length cs none) ∙ no_commands n (map told_as os)

pub none_told : (n : ℕ) (cs : List Command) (os : List Outcome) → length os ≡ 0 → still n cs os ≡ []
none_told n cs os none = ap (λ xs. still n cs xs) (nil_from_length os none) ∙ no_outcomes n (map deed_of cs)

first_told : (n : ℕ) (c : Command) (cs : List Command) (o : Outcome) (os : List Outcome) → still n (c ∷ cs) (o ∷ os) ≡ told_text n (deed_of c) (told_as o) ++ still (n + 1) cs os
unfolding tolds_text
first_told n c cs o os = ap (λ m. told_text n (deed_of c) (told_as o) ++ still m cs os) (sym (add-one n))

pub one_told : (n : ℕ) (c : Command) (o : Outcome) {n₁ : ℕ} {cs cs₁ : List Command} {os os₁ : List Outcome} → cs ≡ c ∷ cs₁ → os ≡ o ∷ os₁ → n₁ ≡ n + 1 → still n cs os ≡ told_text n (deed_of c) (told_as o) ++ still n₁ cs₁ os₁
one_told n c o {cs₁} {os₁} of_c of_o next = (λ j. still n (of_c j) (of_o j)) ∙ first_told n c cs₁ o os₁ ∙ ap (λ m. told_text n (deed_of c) (told_as o) ++ still m cs₁ os₁) (sym next)

-- the text with one line more
pub one_more : (text line more whole : List ℕ) {text₁ rest : List ℕ} → text₁ ≡ text ++ line → rest ≡ line ++ more → text ++ rest ≡ whole → text₁ ++ more ≡ whole
one_more text line more whole grown next so_far = ap (λ xs. xs ++ more) grown ∙ append_assoc text line more ∙ ap (λ xs. text ++ xs) (sym next) ∙ so_far

pub all_told : (text whole : List ℕ) {rest : List ℕ} → rest ≡ [] → text ++ rest ≡ whole → text ≡ whole
all_told text whole none so_far = sym (append-nil text) ∙ ap (λ xs. text ++ xs) (sym none) ∙ so_far
