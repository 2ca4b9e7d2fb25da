use Rattle.std.proofs.Common.{◌≡◌, ◌+◌, ◌<◌, sym, ap, ◌∙◌, subst, arith, length}
use Rattle.jn_trees.specs.Pieces.{kinds}
use Rattle.jn_trees.specs.View.{parameter_view, parameter_views}
use Rattle.jn_parse_decl_law.specs.PieceReader.{read_more_parameters}
use Rattle.jn_parse_decl.specs.Front.{prepend_parameters}
use Rattle.jn_parse_decl.proofs.Rows.{Going, going_start, going_fails, going_on, one_shorter}
use Rattle.jn_parse_decl.proofs.Views.{more}
use Rattle.jn_parse_decl.proofs.parameters.more_parameters.Goals as goal

pub parameters-init : goal.parameters-init
parameters-init c = going_start (parameter_views c.args.before.items) (kinds c.args.tokens.now)

pub returns-in-None-2 : goal.returns-in-None-2
returns-in-None-2 c =
    let none = rw c.in-None-2.is at c.in_ok-parameter-in-Some-expect.ensures in
    sym (going_fails (parameter_views c.parameters.all.items) (kinds c.parameters.left.now) (kinds c.in-Some-expect.after.now) (prepend_parameters (parameter_views c.args.before.items) (read_more_parameters (kinds c.args.tokens.now))) c.parameters.invariant c.in-Some-expect.ensures (sym none))

pub parameters-smaller : goal.parameters-smaller
parameters-smaller c =
    let read = rw c.in-Some-2.is at c.in_ok-parameter-in-Some-expect.ensures in
    let less : length (kinds c.in-Some-2.rest.now) < length (kinds c.in-Some-expect.after.now) = one_shorter (kinds c.in-Some-expect.after.now) (parameter_view c.in-Some-2.found) (kinds c.in-Some-2.rest.now) (sym read) in
    let long : length (kinds c.parameters.left.now) ≡ length (kinds c.in-Some-expect.after.now) + 1 = ap length c.in-Some-expect.ensures ∙ omega arith in
    omega (arith, less, long)

pub parameters-preserved : goal.parameters-preserved
parameters-preserved c =
    let read = rw c.in-Some-2.is at c.in_ok-parameter-in-Some-expect.ensures in
    let whole = prepend_parameters (parameter_views c.args.before.items) (read_more_parameters (kinds c.args.tokens.now)) in
    let rest = kinds c.in-Some-2.rest.now in
    let after = kinds c.in-Some-expect.after.now in
    let found = parameter_view c.in-Some-2.found in
    let next = going_on (parameter_views c.parameters.all.items) (kinds c.parameters.left.now) after rest found whole c.parameters.invariant c.in-Some-expect.ensures (sym read) (one_shorter after found rest (sym read)) in
    subst (λ ps. Going ps rest whole) (sym (more parameter_view c.parameters.all.items _ c.in-Some-2.found c.in_ok-put-in-Some-2.ensures)) next
