-- The number of each seed that a seed has, by its place (splitmix64), and what is drawn from a number. Assumes nothing: these are definitions.
use Rattle.std.specs.Prelude.{ℕ, ◌+◌, ◌-◌, ◌*◌, ◌/◌, ◌%◌, ◌^◌, ◌<◌, min, cond, ◌==◌, nat_lt, bit_xor}

-- with its high bits folded down by so many places
abbrev pub folded : ℕ → ℕ → ℕ
folded places n = bit_xor n (n / 2 ^ places)

unfoldable pub mix : ℕ → ℕ
mix n =
    let first = folded 30 n * 0xbf58476d1ce4e5b9 % 2 ^ 64 in
    let second = folded 27 first * 0x94d049bb133111eb % 2 ^ 64 in
    folded 31 second

-- every sum and product wraps
unfoldable pub number_at : ℕ → ℕ → ℕ
number_at number place = mix ((number + (place + 1) % 2 ^ 64 * 0x9e3779b97f4a7c15 % 2 ^ 64) % 2 ^ 64)

-- 0 if there is none
unfoldable pub drawn_below : ℕ → ℕ → ℕ
drawn_below bound number = cond (bound == 0) 0 (number % bound)

-- so many times in a hundred
abbrev pub Happens : ℕ → ℕ → Type 0
Happens number chance = number % 100 < chance

-- the number of a script for an item: one time in five any, else one that asks by number only for items before it
unfoldable pub chosen : ℕ → ℕ → ℕ → ℕ
chosen scripts number item =
    cond (nat_lt (number_at number 0 % 100) 20)
    (drawn_below scripts (number_at number 1))
    (drawn_below (min scripts ((item - 1) / 2 + 1)) (number_at number 1))
