use Rattle.std.proofs.Common.{arith}
use Rattle.jn_places.proofs.Lists.{unvisited}
use Rattle.jn_places.proofs.Rows.{vec_placed, call_placed, own_call_placed, super_call_placed, new_placed, array_of_placed}
use Rattle.jn_renumber.proofs.Lists.{one_more, all_renumbered}
use Rattle.jn_renumber.proofs.expressions.+renumbering.Goals as goal

pub renumber-returns-in-Call : goal.renumber-returns-in-Call
renumber-returns-in-Call t c =
    call_placed (record c.in-Call.target { value = _ }) _ _ _ _ (rw (c.in-Call.is, vec_placed) (grind arith))

pub renumber-returns-in-OwnCall : goal.renumber-returns-in-OwnCall
renumber-returns-in-OwnCall t c =
    own_call_placed _ _ _ _ (rw (c.in-OwnCall.is, vec_placed) (grind arith))

pub renumber-returns-in-SuperCall : goal.renumber-returns-in-SuperCall
renumber-returns-in-SuperCall t c =
    super_call_placed _ _ _ _ (rw (c.in-SuperCall.is, vec_placed) (grind arith))

pub renumber-returns-in-New : goal.renumber-returns-in-New
renumber-returns-in-New t c =
    new_placed _ _ _ _ (rw (c.in-New.is, vec_placed) (grind arith))

pub renumber-returns-in-ArrayOf : goal.renumber-returns-in-ArrayOf
renumber-returns-in-ArrayOf t c =
    array_of_placed _ _ _ _ _ (rw (c.in-ArrayOf.is, vec_placed) (grind arith))

pub renumber_list-loop-at-preserved : goal.renumber_list-loop-at-preserved
renumber_list-loop-at-preserved t c =
    let g = one_more c.args.numbers.now _ c.loop-at.expressions.items c.loop-at.at c.index_mut.result.now c.renumber.new.expression (omega arith) c.index_mut.ensures.value c.renumber.ensures c.loop-at.invariant.1 in
    (unvisited c.loop-at.expressions.items c.args.expressions.now.items c.loop-at.at c.renumber.new.expression c.loop-at.invariant.0, g)

pub renumber_list-returns : goal.renumber_list-returns
renumber_list-returns t c =
    all_renumbered c.args.numbers.now _ c.loop-at.expressions.items c.loop-at.at (omega arith) c.loop-at.invariant.1
