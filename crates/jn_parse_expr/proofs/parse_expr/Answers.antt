use Rattle.std.proofs.Common.{sym, subst, arith, drop, Some}
use Rattle.jn_trees.specs.View.{view}
use Rattle.jn_trees.specs.Longest.{IsLongest}
use Rattle.jn_trees.specs.Pieces.{kinds}
use Rattle.jn_parse_expr.proofs.Behind.{is_behind}
use Rattle.jn_parse_expr.proofs.parse_expr.Goals as goal

pub returns-in-Some-clause-longest : goal.returns-in-Some-clause-longest
returns-in-Some-clause-longest c =
    let h = rw c.in-Some.is at c.in_ok-read_expr.ensures in
    let b = is_behind c.args.at c.args.depth c.args.tokens.now c.in-Some.rest.now (view c.in-Some.tree.value) c.requires.inside (subst (λ x. IsLongest c.args.depth x (Some (view c.in-Some.tree.value, kinds c.in-Some.rest.now))) c.tokens_from.ensures h) in
    let here = subst (λ n. IsLongest c.args.depth (drop c.args.at (kinds c.args.tokens.now)) (Some (view c.in-Some.tree.value, drop n (kinds c.args.tokens.now)))) (sym c.place_before-place.ensures) b.longest in
    subst (λ e. IsLongest c.args.depth (drop c.args.at (kinds c.args.tokens.now)) (Some (view e, drop c.place_before-place.result (kinds c.args.tokens.now)))) (sym c.into_inner.ensures) here

pub returns-in-Some-clause-inside : goal.returns-in-Some-clause-inside
returns-in-Some-clause-inside c =
    let h = rw c.in-Some.is at c.in_ok-read_expr.ensures in
    let b = is_behind c.args.at c.args.depth c.args.tokens.now c.in-Some.rest.now (view c.in-Some.tree.value) c.requires.inside (subst (λ x. IsLongest c.args.depth x (Some (view c.in-Some.tree.value, kinds c.in-Some.rest.now))) c.tokens_from.ensures h) in
    (omega (arith, c.place_before-place.ensures, b.later), omega (arith, c.place_before-place.ensures))
