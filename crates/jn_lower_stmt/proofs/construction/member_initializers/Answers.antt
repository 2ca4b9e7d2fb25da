use Rattle.std.proofs.Common.{sym, subst, List}
use Rattle.jn_trees.specs.declared.declaration.Member.{Member}
use Rattle.jn_trees.specs.declared.statement.Declarator.{Declarator}
use Rattle.jn_places.specs.PlacedView.{placed_declarator, placed_declarators, placed_member}
use Rattle.jn_lowering.specs.Bodies as spec
use Rattle.jn_lower_stmt.specs.Stating.{StepsOn}
use Rattle.jn_lower_stmt.proofs.Piecing.{both_done}
use Rattle.jn_lower_stmt.proofs.construction.member_initializers.Goals as goal

pub returns-in_ok-initializers_of-in-Field : goal.returns-in_ok-initializers_of-in-Field
returns-in_ok-initializers_of-in-Field c =
    subst (λ (x : Member). StepsOn (spec.initializers_of c.args.c.now.program.now c.args.method.0 c.args.c.now.first c.args.s.now (spec.declarators_of (placed_member x))) c.args.e.now c.initializers_of.new.e c.initializers_of.new.s) (sym c.in-Field.is)
    (both_done (spec.initializes c.args.c.now.program.now c.args.method.0 c.args.c.now.first c.in-Field.first.name.span c.in-Field.first.name.name.0 c.args.s.now (placed_declarator c.in-Field.first).value) (λ st. spec.initializers_of c.args.c.now.program.now c.args.method.0 c.args.c.now.first st (placed_declarators c.in-Field.more.items)) c.args.e.now c.initializer.new.e c.initializers_of.new.e c.initializer.new.s c.initializers_of.new.s
    c.in_ok-initializer-in-Field.ensures
    (subst (λ (ds : List Declarator). StepsOn (spec.initializers_of c.args.c.now.program.now c.args.method.0 c.args.c.now.first c.initializer.new.s (placed_declarators ds)) c.initializer.new.e c.initializers_of.new.e c.initializers_of.new.s) c.deref.ensures.value c.in_ok-initializers_of-in-Field.ensures))
