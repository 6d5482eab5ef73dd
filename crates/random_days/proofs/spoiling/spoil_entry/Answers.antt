use Rattle.std.proofs.Common.{◌<◌, ◌≤◌, inr, ap, ◌∙◌, arith}
use Rattle.script.specs.Layout.{max_askings}
use Rattle.random_days.specs.Spoiled.{asked_in, raised}
use Rattle.random_days.proofs.Changes.{as_told, askings_told, count_told, item_told, result_told}
use Rattle.random_days.proofs.Spoils.{many_askings}
use Rattle.random_days.proofs.spoiling.spoil_entry.Goals as goal

pub returns-in-TooManyAskings-clause-changed : goal.returns-in-TooManyAskings-clause-changed
returns-in-TooManyAskings-clause-changed c = λ long few asked. inr (many_askings c.args.row.now _ c.put_all.ensures (omega arith) (omega arith))

pub returns-in-TooManyAskings-clause-told : goal.returns-in-TooManyAskings-clause-told
returns-in-TooManyAskings-clause-told c = λ long believed. askings_told c.args.row.now c.put_all.new.row long believed (many_askings c.args.row.now _ c.put_all.ensures (omega arith) (omega arith))

pub returns-in-Count-clause-told : goal.returns-in-Count-clause-told
returns-in-Count-clause-told c = λ long believed.
    let old = c.args.row.now in
    let new = c.raise.new.row in
    let count = c.number_after-count.ensures in
    let less : asked_in old < max_askings = omega (arith, count, c.in-Count.ensures) in
    as_told _ _ (asked_in old) new c.not_honest.ensures (omega (arith, count)) (count_told old new long believed less c.raise.ensures)

pub returns-in-Item-clause-told : goal.returns-in-Item-clause-told
returns-in-Item-clause-told c = λ long believed.
    let old = c.args.row.now in
    let new = c.raise-in-Item.new.row in
    let asking = c.below-asking.result in
    let count = c.number_after-count.ensures in
    let few : asked_in old ≤ max_askings = believed.1 in
    let inside : asking < asked_in old = omega (arith, count, c.in-Item.ensures, c.below-asking.ensures.below) in
    as_told _ _ asking new c.not_honest-in-Item.ensures (omega arith) (item_told old new asking long believed inside (c.raise-in-Item.ensures ∙ ap (λ k. raised k old) (c.asking_at.ensures (omega arith))))

pub returns-in-Result-clause-told : goal.returns-in-Result-clause-told
returns-in-Result-clause-told c = λ long believed.
    let old = c.args.row.now in
    let new = c.raise-in-Result.new.row in
    as_told _ _ (asked_in old) new c.not_honest-in-Result.ensures (omega (arith, c.number_after-count.ensures)) (result_told old new long believed c.raise-in-Result.ensures)
