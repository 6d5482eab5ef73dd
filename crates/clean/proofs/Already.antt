-- An item that has a value already is evaluated without touching the marks. Assumes nothing.
use Rattle.std.proofs.Common.{◌≡◌, ℕ, List, Ok}
use Rattle.script.specs.Rule.{Value}
use Rattle.theory.specs.Clean.{Makes, as_written}
use Rattle.theory.specs.Items.{Item, item, written}
use Rattle.clean.specs.Marks.{IsKnown, Settled, by_hand, by_mark}
use Rattle.clean.specs.Outcomes.{Evaluated}
use Rattle.clean.specs.Sound.{Sound}
use Rattle.clean.specs.declared.mark.Mark.{Mark}
use Rattle.clean.proofs.Kept.{kept_same}

module _ {d : List Item} {ms : List Mark} (sound : Sound d ms) (k : ℕ) (v : Value) where
  already : Makes d k v → Settled d ms k → Evaluated d ms ms k (Ok v)
  already makes settled = record { sound = sound; kept = kept_same; outcome = record { makes = makes; settled = settled; opened = λ j e. e } }

  pub written_evaluated : item d k ≡ written v → Evaluated d ms ms k (Ok v)
  written_evaluated is = already (as_written is) (by_hand is)

  pub known_already : IsKnown ms k v → Evaluated d ms ms k (Ok v)
  known_already is = already (sound.finished k v is).makes (by_mark is)
