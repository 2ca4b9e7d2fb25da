use Rattle.std.proofs.Common.{sym, subst}
use Rattle.jn_points.specs.declared.program.Program.{Program}
use Rattle.jn_recheck.specs.KeptRows.{TellsKnown, TellsSame}
use Rattle.jn_recheck.proofs.Comparing.{known_stands}
use Rattle.jn_recheck.proofs.rows.rules_again.Goals as goal

pub all_again-requires-clause-tells : goal.all_again-requires-clause-tells
all_again-requires-clause-tells g c κs within = record {
  same = subst (λ (P : Program). TellsSame c.args.kept.now c.args.names P c.args.same) (sym c.program.ensures.is) c.requires.same;
  equal = c.tells_equal-equal.ensures;
  named = c.tells_named-named.ensures;
  known = subst (λ (P : Program). TellsKnown c.args.kept.now P c.as_slice.result.now) (sym c.program.ensures.is) (known_stands c.args.kept.now c.args.base c.args.unchanged.now c.as_slice.result.now c.as_slice.ensures.value c.requires.unchanged);
}

pub pairs_again-requires-clause-tells : goal.pairs_again-requires-clause-tells
pairs_again-requires-clause-tells g c = record {
  same = c.requires.same;
  equal = c.tells_equal-equal.ensures;
  named = c.tells_named-named.ensures;
  known = known_stands c.args.kept.now c.args.base c.args.unchanged.now c.as_slice.result.now c.as_slice.ensures.value c.requires.unchanged;
}
