use Rattle.std.proofs.Common.{◌≡◌, ◌≤◌, max, length, sym, refl, subst, ap, arith}
use Rattle.script.specs.Layout.{max_lines, script_size}
use Rattle.script.specs.declared.refusal.Refusal.{Refusal}
use Rattle.random_days.specs.Drawn.{ScriptRefused}
use Rattle.random_days.specs.declared.expected.Expected.TheVariants.{Refused}
use Rattle.random_days.specs.Spoiled.{FaultyLine, RefusedFor, line_place}
use Rattle.random_days.proofs.Faults.{faulty_told, few_lines, many_told}
use Rattle.random_days.proofs.Spoils.{faulty_line, many_lines, no_register, skips_many, unknown_kind}
use Rattle.random_days.proofs.spoiling.spoil_script.Goals.{in-1, in-2, in_default}
use Rattle.random_days.proofs.spoiling.spoil_script.Goals as goal

pub returns-in-0 : goal.returns-in-0
returns-in-0 c =
    let old = c.args.row.now in
    record {
      refusal = tt;
      changed = λ long few. many_lines old _ c.put_all.ensures (omega arith) (omega arith);
      told = λ long ok. many_told old c.put_all.new.row (many_lines old _ c.put_all.ensures (omega arith) (omega arith));
    }

pub returns : goal.returns
returns c =
    let old = c.args.row.now in
    let new = c.put_all-3.new.row in
    let count = c.number_after-count.result in
    let line = c.below-line.result in
    let at = c.saturating_add-at.result in
    let one = c.below-line.ensures in
    let is = c.number_after-count.ensures in
    let many : c.max.result ≡ max count 1 = omega arith in
    let Both : Refusal → Type 0 = λ r. RefusedFor r old new × FaultyLine r line old new in
    let both : script_size ≤ length old → count ≤ max_lines → Both c.match-below.refusal.1 =
    λ long short.
    let below : line ≤ max_lines = grind arith in
    let place : at ≡ line_place line = omega arith in
    elim c.match-below.branch [
      | in-1 w ↦
          let faulty =
          faulty_line old count c.max.result line w.saturating_add.result 0 0 0 at c.match-below.refusal _ w.refusal-is (unknown_kind line w.saturating_add.result 0 0 0 (omega arith)) long is short one.below one.nothing place many c.put_all-2.ensures c.put_all-3.ensures in
          subst Both (sym (ap (λ p. p.1) w.refusal-is)) (faulty, faulty)
      | in-2 w ↦
          let faulty =
          faulty_line old count c.max.result line 4 1 w.saturating_add-in-2.result c.below-beyond.result at c.match-below.refusal _ w.refusal-is (no_register line 4 1 w.saturating_add-in-2.result c.below-beyond.result refl (omega arith)) long is short one.below one.nothing place many c.put_all-2.ensures c.put_all-3.ensures in
          subst Both (sym (ap (λ p. p.1) w.refusal-is)) (faulty, faulty)
      | in_default w ↦
          let faulty =
          faulty_line old count c.max.result line 4 1 2 w.saturating_add-in_default.result at c.match-below.refusal _ w.refusal-is (skips_many line 4 1 2 w.saturating_add-in_default.result refl (omega arith) (omega arith) (omega arith)) long is short one.below one.nothing place many c.put_all-2.ensures c.put_all-3.ensures in
          subst Both (sym (ap (λ p. p.1) w.refusal-is)) (faulty, faulty)
    ] in
    let Kind : Refusal → Type 0 = λ r. ScriptRefused (Refused r) in
    record {
      refusal = elim c.match-below.branch [
        | in-1 w ↦ subst Kind (sym (ap (λ p. p.1) w.refusal-is)) tt
        | in-2 w ↦ subst Kind (sym (ap (λ p. p.1) w.refusal-is)) tt
        | in_default w ↦ subst Kind (sym (ap (λ p. p.1) w.refusal-is)) tt
      ];
      changed = λ long few. (both long (omega arith)).0;
      told = λ long ok. let few = few_lines old ok in faulty_told old new c.match-below.refusal.1 line ok (both long (omega (arith, few))).1;
    }
