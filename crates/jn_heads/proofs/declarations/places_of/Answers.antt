use Rattle.std.proofs.Common.{arith, sym}
use Rattle.jn_heads.proofs.Places.{one_class_more}
use Rattle.jn_heads.proofs.declarations.places_of.Goals as goal

pub loop-head-preserved : goal.loop-head-preserved
loop-head-preserved c = record {
  counted = omega arith;
  indexed = one_class_more c.args.heads.now c.loop-head.head-index c.loop-head.number c.head-item.result c.loop-head.places.items c.add_place.new.places.items (omega arith) (sym c.head-item.is) c.loop-head.invariant.counted c.loop-head.invariant.indexed c.in_ok-add_place.ensures;
}
