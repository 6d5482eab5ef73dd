use Rattle.std.proofs.Common.{◌*◌, ◌≤◌, mul-le-mul_left, mul-one, arith}
use Rattle.house.proofs.desks.desk_span.Goals as goal

pub overflow_sub-end : goal.overflow_sub-end
overflow_sub-end c =
    let numbers = c.in_ok-numbers.numbers in
    let next = c.in_ok-next.ensures in
    let more : numbers * 1 ≤ numbers * c.in_ok-next.next = mul-le-mul_left numbers (omega (arith, next.1)) in
    omega (arith, more, mul-one numbers, c.in_ok-end.ensures.1)
