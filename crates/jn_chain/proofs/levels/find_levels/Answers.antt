use Rattle.std.proofs.Common.{◌∙◌, ◌++◌, ◌∷◌, ◌<◌, List, Option, [], length, arith, ap, sym, subst}
use Rattle.std.proofs.lemmas.List.{get_or_default}
use Rattle.jn_reasons_law.specs.declared.item.Item.{Item}
use Rattle.jn_reasons_law.specs.Sources.{IsOneOf}
use Rattle.jn_chain.specs.Keys.{rest_of}
use Rattle.jn_chain.specs.Search.{AreSeen}
use Rattle.jn_chain.proofs.Loops.{IsTurn, levels_init, seen_first, seen_level, turn_more, turn_reaches, turn_ends}
use Rattle.jn_chain.proofs.levels.find_levels.Goals as goal

pub loop-at-init : goal.loop-at-init
loop-at-init g c = (
  levels_init (g.O.Origins.describe c.args.origins.now) (rest_of c.args.chains.now) c.args.item c.push.new.list.items c.new-levels.result.items c.in_ok-only.field-0 c.new-levels.ensures.items c.in_ok-only.ensures c.in_ok-push.ensures,
  seen_first c.args.item c.put.new.self c.new-seen.result c.push.new.list.items c.new-levels.result.items c.in_ok-only.field-0 c.new-seen.ensures c.in_ok-put.ensures c.new-levels.ensures.items c.in_ok-only.ensures c.in_ok-push.ensures,
)

pub index-requires : goal.index-requires
index-requires g c = omega (arith, c.loop-at.invariant.0.long, c.deref.ensures.len, ap length c.deref.ensures.value)

pub next_level-requires : goal.next_level-requires
next_level-requires g c = record { seen = subst (λ (l : List (List (Option Item))). AreSeen c.loop-at.seen l []) (sym c.deref.ensures.value) c.loop-at.invariant.1 }

pub loop-at-preserved : goal.loop-at-preserved
loop-at-preserved g c =
    let inside : c.loop-at.at < length c.loop-at.levels.items = omega (arith, c.loop-at.invariant.0.long) in
    let t : IsTurn (g.O.Origins.describe c.args.origins.now) (rest_of c.args.chains.now) c.loop-at.levels.items c.deref.result.now c.push-in-loop-at.new.list.items c.as_slice.result.now c.in_ok-next.next.items c.of_vec.result c.loop-at.at c.loop-at.best c.in_ok-next.least = record {
      given_is = c.deref.ensures.value;
      last_is = c.as_slice.ensures ∙ c.index.ensures ∙ get_or_default c.loop-at.levels.items c.loop-at.at c.index.result.now [] inside;
      pushed_is = c.of_vec.ensures;
      new_is = c.in_ok-push-2.ensures;
      met = c.in_ok-next.ensures.met;
    } in (
      turn_more (g.O.Origins.describe c.args.origins.now) (rest_of c.args.chains.now) c.args.item c.loop-at.at c.loop-at.levels.items c.deref.result.now c.push-in-loop-at.new.list.items c.as_slice.result.now c.in_ok-next.next.items c.of_vec.result c.loop-at.best c.in_ok-next.least c.requires.rests c.loop-at.invariant.0 t,
      seen_level c.loop-at.levels.items c.push-in-loop-at.new.list.items c.next_level.new.seen c.in_ok-next.next.items
          (subst (λ (l : List (List (Option Item))). AreSeen c.next_level.new.seen l c.in_ok-next.next.items) c.deref.ensures.value c.in_ok-next.ensures.seen)
          (c.in_ok-push-2.ensures ∙ ap (λ (l : List (Option Item)). c.loop-at.levels.items ++ l ∷ []) c.of_vec.ensures),
    )

pub unreachable-requires : goal.unreachable-requires
unreachable-requires g c =
    let inside : c.loop-at.at < length c.loop-at.levels.items = omega (arith, c.loop-at.invariant.0.long) in
    let t : IsTurn (g.O.Origins.describe c.args.origins.now) (rest_of c.args.chains.now) c.loop-at.levels.items c.deref.result.now c.push-in-loop-at.new.list.items c.as_slice.result.now c.in_ok-next.next.items c.of_vec.result c.loop-at.at c.loop-at.best c.in_ok-next.least = record {
      given_is = c.deref.ensures.value;
      last_is = c.as_slice.ensures ∙ c.index.ensures ∙ get_or_default c.loop-at.levels.items c.loop-at.at c.index.result.now [] inside;
      pushed_is = c.of_vec.ensures;
      new_is = c.in_ok-push-2.ensures;
      met = c.in_ok-next.ensures.met;
    } in
    turn_reaches (g.O.Origins.describe c.args.origins.now) (rest_of c.args.chains.now) c.args.item c.loop-at.at c.loop-at.levels.items c.deref.result.now c.push-in-loop-at.new.list.items c.as_slice.result.now c.in_ok-next.next.items c.of_vec.result c.loop-at.best c.in_ok-next.least c.requires.rests c.loop-at.invariant.0 t (λ z h. c.is_over-ends.ensures c.if-ends.true z (subst (IsOneOf z) (sym c.deref-in-loop-at.ensures.value) h)) c.requires.chain c.in-None.is

pub returns-in-Some : goal.returns-in-Some
returns-in-Some g c =
    let inside : c.loop-at.at < length c.loop-at.levels.items = omega (arith, c.loop-at.invariant.0.long) in
    let t : IsTurn (g.O.Origins.describe c.args.origins.now) (rest_of c.args.chains.now) c.loop-at.levels.items c.deref.result.now c.push-in-loop-at.new.list.items c.as_slice.result.now c.in_ok-next.next.items c.of_vec.result c.loop-at.at c.loop-at.best c.in_ok-next.least = record {
      given_is = c.deref.ensures.value;
      last_is = c.as_slice.ensures ∙ c.index.ensures ∙ get_or_default c.loop-at.levels.items c.loop-at.at c.index.result.now [] inside;
      pushed_is = c.of_vec.ensures;
      new_is = c.in_ok-push-2.ensures;
      met = c.in_ok-next.ensures.met;
    } in
    turn_ends (g.O.Origins.describe c.args.origins.now) (rest_of c.args.chains.now) c.args.item c.loop-at.at c.loop-at.levels.items c.deref.result.now c.push-in-loop-at.new.list.items c.as_slice.result.now c.in_ok-next.next.items c.of_vec.result c.loop-at.best c.in_ok-next.least c.requires.rests c.loop-at.invariant.0 t (λ z h. c.is_over-ends.ensures c.if-ends.true z (subst (IsOneOf z) (sym c.deref-in-loop-at.ensures.value) h)) c.in-Some.steps c.in-Some.is
