use Rattle.std.specs.Prelude.{MatchOption}
use Rattle.std.proofs.lemmas.Result.{IfOk-weaker}
use Rattle.test_rows.specs.Spent.{Spent, StopsAt}
use Rattle.house_tests.specs.Stepped.{Otherwise, SpentAnew, Stepped, StoppedAnew}
use Rattle.house_tests.proofs.Anew.{anew}
use Rattle.house_tests.proofs.days.day_in_new_house.Goals as goal

pub returns : goal.returns
returns c =
    let day = c.args.day.now in
    let first = c.in_ok-tested.tested.house in
    let last = c.spend.new.self.house in
    IfOk-weaker c.spend.result (λ wrong. MatchOption wrong (Spent Stepped day first last) (λ i. StopsAt Stepped Otherwise day i first last))
    (λ wrong. MatchOption wrong (SpentAnew c.args.size day) (λ i. StoppedAnew c.args.size day i))
    (anew c.args.size day first last c.in_ok-tested.ensures) c.spend.ensures.went
