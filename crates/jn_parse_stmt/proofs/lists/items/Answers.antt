use Rattle.std.proofs.Common.{◌≡◌, ◌≤◌, ◌∷◌, ◌++◌, [], length, sym, ap, ◌∙◌, subst, arith}
use Rattle.jn_trees.specs.Pieces.{kinds}
use Rattle.jn_trees.specs.View.{view, views}
use Rattle.jn_parse_expr_law.specs.Reader.{reader, all_items}
use Rattle.jn_parse_stmt.proofs.Runs.{as_many}
use Rattle.jn_parse_stmt.proofs.Items.{listing_starts, listing_ends, listing_goes}
use Rattle.jn_parse_stmt.proofs.lists.items.Goals as goal

pub items-init : goal.items-init
items-init c = listing_starts (reader c.args.depth).whole (kinds c.args.tokens.now) c.new-items.result.items c.new-items.ensures.items

pub returns-in-None-expect : goal.returns-in-None-expect
returns-in-None-expect c =
    let h = rw c.in-Some.is at c.in_ok-expression.ensures.gives in
    listing_ends (reader c.args.depth).whole c.items.items.items c.put.new.items.items (kinds c.items.left.now) (all_items (reader c.args.depth).whole (kinds c.args.tokens.now)) c.in-Some.item.value (kinds c.in-Some.rest.now)
    c.items.invariant h c.in-None-expect.ensures (rw c.into_inner.ensures at c.in_ok-put-in-Some.ensures)

pub items-preserved : goal.items-preserved
items-preserved c =
    let h = rw c.in-Some.is at c.in_ok-expression.ensures.gives in
    let less = rw c.in-Some.is at c.in_ok-expression.ensures.shortens in
    let short : length (kinds c.in-Some.rest.now) ≤ length (kinds c.items.left.now) = omega (arith, less, as_many c.in-Some.rest.now, as_many c.items.left.now) in
    listing_goes (reader c.args.depth).whole c.items.items.items c.put.new.items.items (kinds c.items.left.now) (all_items (reader c.args.depth).whole (kinds c.args.tokens.now)) c.in-Some.item.value (kinds c.in-Some.rest.now) (kinds c.in-Some-expect.after.now)
    c.items.invariant h c.in-Some-expect.ensures short (rw c.into_inner.ensures at c.in_ok-put-in-Some.ensures)
