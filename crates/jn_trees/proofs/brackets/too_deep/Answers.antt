use Rattle.std.proofs.Common.{below_more, arith}
use Rattle.std.proofs.lemmas.List.{length-map}
use Rattle.jn_trees.specs.declared.token.Token.{Token}
use Rattle.jn_trees.proofs.OpenBrackets.{opened_more}
use Rattle.jn_trees.proofs.brackets.too_deep.Goals as goal

pub returns-then-count-gt-MOST_OPEN : goal.returns-then-count-gt-MOST_OPEN
returns-then-count-gt-MOST_OPEN c =
    let more = opened_more c.args.tokens.now c.loop-place.place _ _ _ c.loop-place-test.true c.loop-place.invariant.open_so_far c.opened-count.ensures in
    record {
      inside = omega (arith, length-map c.args.tokens.now (λ (t : Token). t.kind));
      passes = omega arith;
      first = c.loop-place.invariant.shallow;
    }

pub loop-place-preserved : goal.loop-place-preserved
loop-place-preserved c =
    let more = opened_more c.args.tokens.now c.loop-place.place _ _ _ c.loop-place-test.true c.loop-place.invariant.open_so_far c.opened-count.ensures in
    record {
      few = c.if-count-gt-MOST_OPEN.false;
      open_so_far = more;
      shallow = below_more _ _ c.loop-place.invariant.shallow (omega arith);
    }
