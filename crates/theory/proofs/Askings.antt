-- A script replays at most as many askings as it has lines. Assumes nothing.
use Rattle.std.proofs.Common.{◌≡◌, ℕ, zero, suc, ◌≤◌, true, List, [], ◌∷◌, length, arith}
use Rattle.std.proofs.lemmas.Bool.{and_parts, false≢true}
use Rattle.script.specs.Rule.{Script, Task, Value, asks, done, task, task_of}
use Rattle.script.specs.declared.line.Line.TheVariants.{Ask, AskAt, Number, Sum, Unless, Give}
use Rattle.entry.specs.Entry.{Entry, Honest, replays}
use Rattle.entry.specs.declared.asking.Asking.{Asking}

done_few : (v w : Value) (qs : List Asking) → replays (done v) qs w ≡ true → length qs ≤ 0
unfolding replays
done_few v w [] e = omega arith
done_few v w (q ∷ qs) e = absurd (false≢true e)

-- one asking, and as many as what is left can replay
asks_few : (k : ℕ) (c : Value → Task) (n : ℕ) → ((a w : Value) (qs : List Asking) → replays (c a) qs w ≡ true → length qs ≤ n) → (w : Value) (qs : List Asking) → replays (asks k c) qs w ≡ true → length qs ≤ suc n
unfolding replays
asks_few k c n rest w [] e = omega arith
asks_few k c n rest w (q ∷ qs) e = omega (arith, rest q.answer w qs (and_parts _ _ e).1)

-- from any line on, with any registers
pub task_few : (s : Script) (regs : List Value) (skip : ℕ) (w : Value) (qs : List Asking) → replays (task s regs skip) qs w ≡ true → length qs ≤ length s
unfolding task
task_few [] regs skip w qs e = done_few 0 w qs e
task_few (l ∷ ls) regs (suc skip) w qs e = omega (arith, task_few ls regs skip w qs e)
task_few (Ask r k ∷ ls) regs zero w qs e = asks_few k _ (length ls) (λ a. task_few ls _ 0) w qs e
task_few (AskAt r a ∷ ls) regs zero w qs e = asks_few _ _ (length ls) (λ a. task_few ls _ 0) w qs e
task_few (Number r n ∷ ls) regs zero w qs e = omega (arith, task_few ls _ 0 w qs e)
task_few (Sum r a b ∷ ls) regs zero w qs e = omega (arith, task_few ls _ 0 w qs e)
task_few (Unless a b n ∷ ls) regs zero w qs e = omega (arith, task_few ls _ _ w qs e)
task_few (Give r ∷ ls) regs zero w qs e = omega (arith, done_few _ w qs e)

pub honest_few : (e : Entry) → Honest e → length e.asked ≤ length e.script
unfolding Honest task_of
honest_few e h = task_few e.script _ 0 e.result e.asked h
