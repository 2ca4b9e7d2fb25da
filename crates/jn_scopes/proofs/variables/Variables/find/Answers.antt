use Rattle.std.proofs.Common.{◌%◌, length, get_or, ap, sym, ◌∙◌, subst, arith}
use Rattle.std.proofs.lemmas.Nat.{mod_below}
use Rattle.jn_lowering.specs.Scopes.{local_in}
use Rattle.jn_scopes.specs.Linked.{IsLast}
use Rattle.jn_scopes.specs.Views.{scope_of}
use Rattle.jn_scopes.proofs.Finding.{begun, found, moved, smaller}
use Rattle.jn_scopes.proofs.variables.Variables.find.Goals as goal

pub loop-at-init : goal.loop-at-init
loop-at-init c =
    begun c.self.inside.items.items c.args.name.0 (get_or c.self.inside.last c.group_of.result 0)
    (subst (λ g. IsLast c.self.inside.items.items (length c.self.inside.items.items) (c.args.name.0 % 64) (get_or c.self.inside.last g 0)) (sym c.group_of.ensures.is) (c.self.invariant.last (c.args.name.0 % 64) (mod_below c.args.name.0 64 (omega arith))))

pub returns-then-variable-name : goal.returns-then-variable-name
returns-then-variable-name c rows = ap (λ vs. local_in (scope_of rows vs) c.args.name.0) (sym c.self.view_is) ∙ found c.self.inside.items.items c.args.name.0 c.loop-at.at c.index-variable.result.now c.loop-at-test.true c.loop-at.invariant c.index-variable.ensures rows c.if-variable-name.true

pub loop-at-smaller : goal.loop-at-smaller
loop-at-smaller c = smaller c.self.inside.items.items c.args.name.0 c.loop-at.at c.index-variable.result.now c.loop-at-test.true c.loop-at.invariant c.index-variable.ensures c.self.inside.previous.items c.self.inside.last c.self.invariant c.index.result.now c.index.ensures

pub loop-at-preserved : goal.loop-at-preserved
loop-at-preserved c = moved c.self.inside.items.items c.args.name.0 c.loop-at.at c.index-variable.result.now c.loop-at-test.true c.loop-at.invariant c.index-variable.ensures c.self.inside.previous.items c.self.inside.last c.self.invariant c.index.result.now c.index.ensures c.if-variable-name.false
