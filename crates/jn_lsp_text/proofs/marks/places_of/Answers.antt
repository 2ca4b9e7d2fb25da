use Rattle.std.proofs.Common.{arith}
use Rattle.std.proofs.lemmas.List.Elements.{All-push}
use Rattle.jn_lsp_text.specs.Sweep.{IsPlaceIn}
use Rattle.jn_lsp_text.proofs.marks.places_of.Goals as goal

pub loop-at-preserved : goal.loop-at-preserved
loop-at-preserved c =
    record {
      small = omega (arith, c.loop-at-test.true);
      place = c.place_of.ensures.place;
      places = rw c.in_ok-put.ensures (All-push (IsPlaceIn c.args.encoding c.args.text.now) _ _ c.loop-at.invariant.places c.place_of.ensures.place);
    }
