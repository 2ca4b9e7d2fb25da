use Rattle.std.proofs.Common.{ap, arith}
use Rattle.jn_trees.specs.WellFormed.{nesting}
use Rattle.jn_trees.specs.View.{view}
use Rattle.jn_trees.proofs.Seen.{seen_call, seen_own_call, seen_super_call, seen_new, seen_array_of}
use Rattle.jn_trees_spelling.proofs.nesting.+nesting.Goals as goal

pub nesting-returns-in-Call : goal.nesting-returns-in-Call
nesting-returns-in-Call t c =
    let e = ap nesting (seen_call _ c.in-Call.target c.in-Call.name c.in-Call.arguments c.in-Call.span c.deref-in-Call-2.result.now c.in-Call.is c.deref-in-Call-2.ensures.value) in
    let target = ap (λ e. nesting (view e)) c.deref-in-Call.ensures in
    omega arith

pub nesting-returns-in-OwnCall : goal.nesting-returns-in-OwnCall
nesting-returns-in-OwnCall t c =
    let e = ap nesting (seen_own_call _ c.in-OwnCall.name c.in-OwnCall.arguments c.in-OwnCall.span c.deref-in-OwnCall.result.now c.in-OwnCall.is c.deref-in-OwnCall.ensures.value) in
    omega arith

pub nesting-returns-in-SuperCall : goal.nesting-returns-in-SuperCall
nesting-returns-in-SuperCall t c =
    let e = ap nesting (seen_super_call _ c.in-SuperCall.name c.in-SuperCall.arguments c.in-SuperCall.span c.deref-in-SuperCall.result.now c.in-SuperCall.is c.deref-in-SuperCall.ensures.value) in
    omega arith

pub nesting-returns-in-New : goal.nesting-returns-in-New
nesting-returns-in-New t c =
    let e = ap nesting (seen_new _ c.in-New.class c.in-New.arguments c.in-New.span c.deref-in-New.result.now c.in-New.is c.deref-in-New.ensures.value) in
    omega arith

pub nesting-returns-in-ArrayOf : goal.nesting-returns-in-ArrayOf
nesting-returns-in-ArrayOf t c =
    let e = ap nesting (seen_array_of _ c.in-ArrayOf.element c.in-ArrayOf.elements c.in-ArrayOf.span c.deref-in-ArrayOf.result.now c.in-ArrayOf.is c.deref-in-ArrayOf.ensures.value) in
    omega arith
