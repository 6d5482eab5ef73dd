use Rattle.std.proofs.Common.{◌≡◌, length, vec_items}
use Rattle.house_tests.proofs.lent.lent_house.Given as goal

abbrev pub invariant-loop-draft : goal.invariant-loop-draft
invariant-loop-draft l = record {
  size : l.tested.house.size ≡ l.initial.tested.house.size;
  store : length (vec_items l.tested.house.rows) ≡ length (vec_items l.initial.tested.house.rows);
  list : length (vec_items l.tested.house.ran) ≡ length (vec_items l.initial.tested.house.ran);
}
