use Rattle.std.proofs.Common.{◌≡◌, ◌<◌, length, true, sym, ap, ◌∙◌, arith}
use Rattle.std.specs.Prelude.{flat_map}
use Rattle.std.specs.List.{list_all}
use Rattle.jn_unkept.specs.Alike.{is_like, made_from}
use Rattle.jn_unkept.proofs.Rounds.{next_round}
use Rattle.jn_unkept.proofs.alike.alike.Goals as goal

pub loop-round-preserved : goal.loop-round-preserved
loop-round-preserved c =
    let body = c.args.body.now in
    let before = c.loop-round.pairs.items in
    let here : c.loop-round._round < length body.points = omega (arith, c.loop-round-test.true, c.len-round-end.ensures) in
    let like : list_all (is_like body) before ≡ true = ap (list_all (is_like body)) (sym c.deref.ensures.value) ∙ sym c.are_like.ensures ∙ c.if-not-are_like.false in
    next_round body (length body.points) c.loop-round._round before c.in_ok-pairs.pairs.items here (λ none. c.if-len-eq0.false (c.len.ensures ∙ c.loop-round.pairs.ok.0 ∙ none)) like
    (c.in_ok-pairs.ensures ∙ ap (flat_map (made_from body)) c.deref-in-loop-round.ensures.value)
    ∙ c.loop-round.invariant
