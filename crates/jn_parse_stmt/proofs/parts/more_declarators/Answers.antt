use Rattle.std.proofs.Common.{◌≡◌, ◌≤◌, ◌∷◌, ◌++◌, [], sym, ap, ◌∙◌, subst, arith, length}
use Rattle.jn_trees.specs.Pieces.{kinds}
use Rattle.jn_trees.specs.View.{declarator_view, declarator_views}
use Rattle.jn_parse_expr_law.specs.Reader.{reader}
use Rattle.jn_parse_stmt_law.specs.Parts.{all_declarators}
use Rattle.jn_parse_stmt.proofs.Runs.{Declaring, declaring_starts, declaring_ends, declaring_goes, as_many, map_pushed}
use Rattle.jn_parse_stmt.proofs.parts.more_declarators.Goals as goal

pub declarators-init : goal.declarators-init
declarators-init c =
    let whole = (reader c.args.depth).whole in
    subst (λ xs. Declaring whole (declarator_views xs) (kinds c.args.tokens.now) (all_declarators whole (kinds c.args.tokens.now))) (sym c.new-declarators.ensures.items) (declaring_starts whole (kinds c.args.tokens.now))

pub declarators-preserved : goal.declarators-preserved
declarators-preserved c =
    let whole = (reader c.args.depth).whole in
    let all = all_declarators whole (kinds c.args.tokens.now) in
    let old = c.declarators.declarators.items in
    let next = c.in_ok-next-in-Some.next in
    let rest = c.in_ok-next-in-Some.rest.now in
    let after = c.in-Some.after.now in
    let short : length (kinds rest) ≤ length (kinds after) = omega (arith, c.in_ok-next-in-Some.ensures.shortens, as_many rest, as_many after) in
    let more = declaring_goes whole (declarator_views old) (kinds c.declarators.left.now) all c.declarators.invariant c.in-Some.name.name (kinds after) (kinds rest) (declarator_view next) c.in-Some.ensures c.in_ok-next-in-Some.ensures.gives short in
    subst (λ xs. Declaring whole xs (kinds rest) all) (sym (map_pushed declarator_view old next) ∙ ap declarator_views (sym c.in_ok-put-in-Some.ensures)) more
