use Rattle.std.proofs.Common.{ap, ◌∙◌, subst, List}
use Rattle.jn_trees.specs.declared.statement.LocalModifier.{LocalModifier}
use Rattle.jn_trees.specs.declared.statement.Declarator.{Declarator}
use Rattle.jn_places.specs.PlacedView.{placed_declarator, placed_declarators, placed_type_use}
use Rattle.jn_lowering.specs.Bases.{type_of_use}
use Rattle.jn_lowering.specs.Locals.{annotations_of, bound_of, has_final, own_annotations}
use Rattle.jn_lowering.specs.Statements.{declarators}
use Rattle.jn_scopes.specs.Views as view
use Rattle.jn_lower_stmt.specs.Views.{rows_of}
use Rattle.jn_lower_stmt.specs.Stating.{StepsOn}
use Rattle.jn_lower_stmt.proofs.Piecing.{declaration_done}
use Rattle.jn_lower_stmt.proofs.pieces.declaration.Goals as goal

pub returns : goal.returns
returns c =
    declaration_done c.args.c.now.program.now c.args.c.now.class.0 c.args.c.now.first _ _ _ _ _ _ _ _ c.args.s.now c.declarator.new.s c.declarators.new.s (placed_declarator c.args.tree.now.first) (placed_declarators c.args.tree.now.more.items) c.args.e.now c.declarator.new.e c.declarators.new.e
    (c.kind_of-kind.ensures.base ∙ ap (λ (ms : List LocalModifier). type_of_use c.args.c.now.program.now (placed_type_use c.args.tree.now.type_use) (annotations_of ms)) c.deref.ensures.value)
    (c.kind_of-kind.ensures.bound ∙ ap (λ (ms : List LocalModifier). bound_of (own_annotations (placed_type_use c.args.tree.now.type_use).array (annotations_of ms))) c.deref.ensures.value)
    (c.has_final-is_final.ensures ∙ ap has_final c.deref-2.ensures.value)
    c.kind_of-kind.ensures.fault
    c.in_ok-declarator.ensures
    (subst (λ (ds : List Declarator). StepsOn (declarators c.args.c.now.program.now c.args.c.now.class.0 c.args.c.now.first c.kind_of-kind.result.base (view.bound_of c.kind_of-kind.result.bound) c.has_final-is_final.result (rows_of c.kind_of-kind.result.fault) c.declarator.new.s (placed_declarators ds)) c.declarator.new.e c.declarators.new.e c.declarators.new.s) c.deref-3.ensures.value c.in_ok-declarators.ensures)
