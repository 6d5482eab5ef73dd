use Rattle.theory.proofs.Bound.{clean_makes, makes_clean, needs_ring, none_clean_ring, ring_makes_none}
use Rattle.theory.proofs.Entries.{honest_makes, honest_reached}
use Rattle.theory.proofs.Rings.{clean_ring}
use Rattle.theory.proofs.Values.{makes_unique, reached_value, runs_unique}
use Rattle.theory.proofs.laws.Goals as goal

pub returns : goal.returns
returns c =
    record {
      bound_enough = λ d k. (λ v. (clean_makes d k v, makes_clean), λ e v m. ring_makes_none d k v e m, none_clean_ring d k);
      one_value = (λ d k v w. makes_unique, λ d t ps qs v w. runs_unique);
      honest_usable = λ d k e its honest usable. honest_makes d e honest k its usable;
      looks_no_further = λ d k i e its honest h right. honest_reached d e honest k its i h right;
      no_new_ring = (λ d k j v. reached_value, λ d k i v e m its honest h right. reached_value m (honest_reached d e honest k its i h right));
      ring_exactly = λ d k. (clean_ring d k, λ j. needs_ring);
    }
