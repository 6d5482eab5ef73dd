-- One line's work is one step of the script's task. Assumes nothing.
use Rattle.std.proofs.Common.{◌≡◌, ℕ, zero, suc, ◌+◌, ◌-◌, ◌^◌, ◌<◌, ◌≤◌, min, cond, eqb, List, [], ◌∷◌, length, get_or, drop, set, sym, refl, ap, ◌∙◌, arith}
use Rattle.std.proofs.lemmas.List.{drop_all, drop-drop, drop_more}
use Rattle.machine.specs.Machine.{further, rest, resumed, start, value_in, work}
use Rattle.script.specs.Rule.{Script, Value, asks, done, sum, task, task_of}
use Rattle.script.specs.declared.line.Line.{Line}
use Rattle.script.specs.declared.line.Line.TheVariants.{Ask, AskAt, Number, Sum, Unless, Give}
use Rattle.machine.specs.declared.registers.Registers.{Registers}
use Rattle.rows.proofs.Chunks.{drop_min}

-- lines that are still to be left out may be dropped at once
pub task_skip : (s : Script) (regs : List Value) (n : ℕ) → task s regs n ≡ task (drop n s) regs 0
unfolding task
task_skip [] regs zero = refl
task_skip [] regs (suc n) = refl
task_skip (l ∷ ls) regs zero = refl
task_skip (l ∷ ls) regs (suc n) = task_skip ls regs n

module _ (s : Script) (g : Registers) (short : length s < 2 ^ 64) where
  after : List Line
  after = drop (g.next + 1) s

  -- the rest of the script is worth what its next line and the lines after it are worth
  split : (l : Line) → g.next < length s → get_or s g.next l ≡ l → rest s g ≡ task (l ∷ after) g.values 0
  unfolding after
  split l h here = ap (λ ls. task ls g.values 0) (drop_more s g.next l h ∙ ap (λ x. x ∷ drop (g.next + 1) s) here)

  -- a line's number that is held down drops the same lines, since no row is that long
  held : (n : ℕ) → drop (min n (2 ^ 64 - 1)) s ≡ drop n s
  held n = drop_min n (2 ^ 64 - 1) s (omega arith)

  one_on : drop (further g 1).next s ≡ after
  unfolding after
  one_on = held (g.next + 1)

  skip_on : (n : ℕ) → drop (further (further g 1) n).next s ≡ drop n after
  skip_on n = held _ ∙ sym (drop-drop n _ s) ∙ ap (drop n) one_on

  stepped : (l : Line) → task (l ∷ after) g.values 0 ≡ resumed s (work g l)
  unfolding task
  stepped (Ask r k) = ap (λ ls. asks k (λ v. task ls (set g.values r v) 0)) (sym one_on)
  stepped (AskAt r a) = ap (λ ls. asks (value_in g a) (λ v. task ls (set g.values r v) 0)) (sym one_on)
  stepped (Number r n) = ap (λ ls. task ls (set g.values r n) 0) (sym one_on)
  stepped (Sum r a b) = ap (λ ls. task ls (set g.values r (sum (value_in g a) (value_in g b))) 0) (sym one_on)
  stepped (Unless a b n) =
      let m = cond (eqb (value_in g a) (value_in g b)) n 0 in
      task_skip after g.values m ∙ ap (λ ls. task ls g.values 0) (sym (skip_on m))
  stepped (Give r) = refl

  pub step : (l : Line) → g.next < length s → get_or s g.next l ≡ l → rest s g ≡ resumed s (work g l)
  step l h here = split l h here ∙ stepped l

-- a script begins with its registers at the start
pub rest_start : (s : Script) → rest s start ≡ task_of s
unfolding task_of
rest_start s = refl

-- past its last line a script gives 0
pub rest_end : (s : Script) (g : Registers) → length s ≤ g.next → rest s g ≡ done 0
unfolding task
rest_end s g h = ap (λ ls. task ls g.values 0) (drop_all g.next s h)
