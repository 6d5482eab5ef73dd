use Rattle.std.proofs.Common.{sym, ◌∙◌, subst}
use Rattle.days.specs.Goes.{Day}
use Rattle.days.proofs.Apart.{day_own}
use Rattle.days.proofs.Going.{day_one, day_total, goes_one, goes_total, refused_same}
use Rattle.days.proofs.Kept.{goes_honest, goes_within}
use Rattle.days.proofs.Promise.{kept_well, never_stale, same_answer}
use Rattle.days.proofs.laws.day_laws.Goals as goal

pub returns : goal.returns
returns c =
    record {
      goes_total = goes_total;
      goes_one = λ h g g' d t t' a b. goes_one a b;
      day_total = day_total;
      day_one = λ h l l' ds ts ts' a b. day_one a b;
      refusal_changes_nothing = λ h g d f a. refused_same a;
      stays_honest = λ h g d t honest a. goes_honest honest a;
      stays_within = λ h g d t few a. goes_within few a;
      every_day = λ start l ds ts none day. (
        (λ before after x k is. never_stale none before after x k (subst (λ es. Day start es ts l) is day)),
        (λ before after is. kept_well none before after (subst (λ es. Day start es ts l) is day)),
      );
      desks_apart = λ h h' g g' l l' ds ds' ts ts' x k o o' ran ran' same day day' a b.
          same_answer (day_own x day ∙ same ∙ sym (day_own x day')) a b;
    }
