use Rattle.std.proofs.Common.{◌+◌, drop, rules, ap, ◌∙◌, append_assoc}
use Rattle.std.proofs.lemmas.Result.{IfOk-equal}
use Rattle.jn_trees.specs.Spelling.{spell}
use Rattle.jn_trees.specs.View.{view, views}
use Rattle.jn_trees.proofs.Seen.{seen_call, seen_own_call, seen_super_call, seen_new, seen_array_of, left_before, none_left}
use Rattle.jn_trees_spelling.proofs.Listed.{listed_more, listed_none}
use Rattle.jn_trees_spelling.proofs.expressions.+expressions.Goals as goal

pub spell-returns-in_ok-put_all-in-Call : goal.spell-returns-in_ok-put_all-in-Call
spell-returns-in_ok-put_all-in-Call t c =
    let e = ap spell (seen_call _ c.in-Call.target c.in-Call.name c.in-Call.arguments c.in-Call.span c.deref-in-Call-2.result.now c.in-Call.is c.deref-in-Call-2.ensures.value) in
    search (rules, IfOk-equal, append_assoc)

pub spell-returns-in_ok-put_all-in-OwnCall : goal.spell-returns-in_ok-put_all-in-OwnCall
spell-returns-in_ok-put_all-in-OwnCall t c =
    let e = ap spell (seen_own_call _ c.in-OwnCall.name c.in-OwnCall.arguments c.in-OwnCall.span c.deref-in-OwnCall.result.now c.in-OwnCall.is c.deref-in-OwnCall.ensures.value) in
    search (rules, IfOk-equal, append_assoc)

pub spell-returns-in_ok-put_all-in-SuperCall : goal.spell-returns-in_ok-put_all-in-SuperCall
spell-returns-in_ok-put_all-in-SuperCall t c =
    let e = ap spell (seen_super_call _ c.in-SuperCall.name c.in-SuperCall.arguments c.in-SuperCall.span c.deref-in-SuperCall.result.now c.in-SuperCall.is c.deref-in-SuperCall.ensures.value) in
    search (rules, IfOk-equal, append_assoc)

pub spell-returns-in_ok-put_all-in-New : goal.spell-returns-in_ok-put_all-in-New
spell-returns-in_ok-put_all-in-New t c =
    let e = ap spell (seen_new _ c.in-New.class c.in-New.arguments c.in-New.span c.deref-in-New.result.now c.in-New.is c.deref-in-New.ensures.value) in
    search (rules, IfOk-equal, append_assoc)

pub spell_list-loop-place-preserved : goal.spell_list-loop-place-preserved
spell_list-loop-place-preserved t c =
    let es = c.args.expressions.now in
    let left = left_before es c.loop-place.place c.index-expressions-place.result c.loop-place-test.true c.index-expressions-place.is in
    listed_more c.args.end c.loop-place.place (view c.index-expressions-place.result) (views (drop c.loop-place.place es)) (views (drop (c.loop-place.place + 1) es)) c.loop-place.kinds.items c.separate.new.kinds.items c.spell.new.kinds.items left c.in_ok-separate.ensures c.in_ok-spell.ensures
    ∙ c.loop-place.invariant

pub spell_list-returns : goal.spell_list-returns
spell_list-returns t c =
    let none = listed_none c.args.end c.loop-place.place (views (drop c.loop-place.place c.args.expressions.now)) c.loop-place.kinds.items (none_left c.args.expressions.now c.loop-place.place c.loop-place-test.false) ∙ c.loop-place.invariant in
    search (rules, IfOk-equal)

pub spell-returns-in_ok-put_all-in-ArrayOf : goal.spell-returns-in_ok-put_all-in-ArrayOf
spell-returns-in_ok-put_all-in-ArrayOf t c =
    let e = ap spell (seen_array_of _ c.in-ArrayOf.element c.in-ArrayOf.elements c.in-ArrayOf.span c.deref-in-ArrayOf-4.result.now c.in-ArrayOf.is c.deref-in-ArrayOf-4.ensures.value) in
    search (rules, IfOk-equal, append_assoc)
