use Rattle.std.proofs.Common.{◌≡◌, ◌<◌, length, Some, pos_of_ne-zero, refl, sym, ap, subst, ◌∙◌, arith}
use Rattle.std.specs.Prelude.{slice_get, slice_index_or}
use Rattle.std.proofs.lemmas.Option.{slice_get_read, slice_get_within}
use Rattle.jn_points.specs.Lookup.{points_of, body_at}
use Rattle.jn_flow.specs.Inside.{AllInside}
use Rattle.jn_flow.proofs.inside.stays_inside.Goals as goal

pub returns : goal.returns
returns c =
    let P = c.args.program.now in
    let b = c.args.body.0 in
    let info = c.index-as_slice-body.result in
    let at : slice_get P.bodies b ≡ Some info = slice_get_read P.bodies _ b info refl c.requires (c.index-as_slice-body.is ∙ ap (λ xs. slice_index_or xs b info) c.as_slice.ensures) in
    let points : info.points ≡ points_of (body_at P b) = sym (ap points_of at) in
    let long : length info.points ≡ length (points_of (body_at P b)) = ap length points in
    let pos : 0 < c.len-count.result = pos_of_ne-zero c.if-count-eq0.false in
    record {
      stays = λ h.
          let all = subst (λ ps. AllInside ps (length ps)) points (c.all_inside.ensures.stays h) in
          record { some = omega (arith, pos, c.len-count.ensures, long); edges = λ p pt is. all p pt (slice_get_within (points_of (body_at P b)) p pt is) is };
      short = λ h. omega (arith, c.if-count.false, c.len-count.ensures, long);
      left = λ h stays short. c.all_inside.ensures.left h (subst (λ ps. AllInside ps (length ps)) (sym points) (λ p pt lt is. stays.edges p pt is));
    }
