-- What counting one refusal changes. Assumes nothing: these are definitions.
use Rattle.std.specs.Prelude.{◌≡◌, ℕ, ◌+◌, ◌-◌, ◌^◌, min}
use Rattle.house.specs.declared.perform.Told.{Told}
use Rattle.house.specs.declared.perform.Told.TheVariants.{Done, Refused, Ring, Value}
use Rattle.script.specs.declared.refusal.Refusal.{Refusal}
use Rattle.script.specs.declared.refusal.Refusal.TheVariants.{Unreadable, NoSuchDesk, NoSuchItem, TooManyLines, UnknownKind, NoSuchRegister, SkipsTooMany, NoSuchEntry, TooManyAskings, NotHonest, StoreFull, StoreTooShort, StoreOverfull, ListTooShort}
use Rattle.random_days.specs.declared.counter.Counter.{Counter}
use Rattle.random_days.specs.declared.refusals.Refusals.{Refusals}

-- so many more; a counter that is full stays full
abbrev pub More : ℕ → Counter → Counter → Type 0
More n old new = new.number ≡ min (old.number + n) (2 ^ 64 - 1)

abbrev pub OneMore : Counter → Counter → Type 0
OneMore old new = More 1 old new

-- the refusal's own counter has one more, and the others stay; refusals that no command of a house meets have none
abbrev pub Counted : Refusal → Refusals → Refusals → Type 0
Counted (Unreadable at) old new = new ≡ old
Counted (NoSuchDesk desk) old new = OneMore old.no_such_desk new.no_such_desk × (new ≡ record old { no_such_desk = new.no_such_desk })
Counted (NoSuchItem item) old new = OneMore old.no_such_item new.no_such_item × (new ≡ record old { no_such_item = new.no_such_item })
Counted TooManyLines old new = OneMore old.too_many_lines new.too_many_lines × (new ≡ record old { too_many_lines = new.too_many_lines })
Counted (UnknownKind line) old new = OneMore old.unknown_kind new.unknown_kind × (new ≡ record old { unknown_kind = new.unknown_kind })
Counted (NoSuchRegister line) old new = OneMore old.no_such_register new.no_such_register × (new ≡ record old { no_such_register = new.no_such_register })
Counted (SkipsTooMany line) old new = OneMore old.skips_too_many new.skips_too_many × (new ≡ record old { skips_too_many = new.skips_too_many })
Counted (NoSuchEntry entry) old new = OneMore old.no_such_entry new.no_such_entry × (new ≡ record old { no_such_entry = new.no_such_entry })
Counted TooManyAskings old new = OneMore old.too_many_askings new.too_many_askings × (new ≡ record old { too_many_askings = new.too_many_askings })
Counted (NotHonest asking) old new = OneMore old.not_honest new.not_honest × (new ≡ record old { not_honest = new.not_honest })
Counted (StoreFull room) old new = OneMore old.store_full new.store_full × (new ≡ record old { store_full = new.store_full })
Counted (StoreTooShort n) old new = new ≡ old
Counted (StoreOverfull count) old new = new ≡ old
Counted (ListTooShort n) old new = new ≡ old

-- a refusal that was told is counted, and what else was told leaves the counters
abbrev pub CountedTold : Told → Refusals → Refusals → Type 0
CountedTold (Refused refusal) old new = Counted refusal old new
CountedTold Done old new = new ≡ old
CountedTold (Value v) old new = new ≡ old
CountedTold Ring old new = new ≡ old
