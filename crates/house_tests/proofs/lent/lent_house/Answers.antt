use Rattle.std.proofs.Common.{◌≡◌, ◌++◌, ap, ◌∙◌, drop, length, rules, sym, take, vec_items, vec_len}
use Rattle.std.proofs.Math.Seq.{take-append_seam}
use Rattle.house_tests.specs.declared.lent.TheConstants.{SIZE}
use Rattle.house_tests.proofs.Lending.{lent_so}
use Rattle.house_tests.proofs.lent.lent_house.Goals as goal

pub returns : goal.returns
returns c =
    let house = c.loop-draft.tested.house in
    let new = c.in_ok-tested.ensures in
    let put = c.put_all.new.row in
    let behind = drop (length put) (vec_items house.rows) in
    let long : vec_len house.rows ≡ length put = sym c.as_mut_slice.ensures.len ∙ sym c.put_all.auto.row in
    let back : take (vec_len house.rows) (put ++ behind) ≡ put = ap (λ n. take n (put ++ behind)) long ∙ take-append_seam put behind in (
      search rules,
      lent_so SIZE c.args.lent (vec_items house.rows) (vec_items house.ran) new.at_store new.at_list c.loop-draft.invariant.store
          c.loop-draft.invariant.list (rw c.as_mut_slice.ensures.value at c.put_all.ensures)
          (c.truncate.ensures.items ∙ ap (λ row. take c.args.lent.store row) back) c.truncate-2.ensures.items,
    )
