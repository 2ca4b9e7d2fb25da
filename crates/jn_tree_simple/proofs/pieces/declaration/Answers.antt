use Rattle.std.proofs.Common.{List, ap, ◌∙◌, ◌∷◌, subst}
use Rattle.jn_trees.specs.declared.statement.Declarator.{Declarator}
use Rattle.jn_places.specs.PlacedView.{placed_declarator, placed_declarators, placed_type_use}
use Rattle.jn_heap.specs.Values.{usual_limits}
use Rattle.jn_trees.specs.declared.statement.LocalModifier.{LocalModifier}
use Rattle.jn_lowering.specs.Bases.{type_of_use}
use Rattle.jn_lowering.specs.Locals.{annotations_of, bound_of as bound_written, has_final, own_annotations}
use Rattle.jn_scopes.specs.Views.{bound_of}
use Rattle.jn_lower_stmt.specs.Views.{rows_of}
use Rattle.jn_meaning.specs.Statements as spec
use Rattle.jn_meaning.specs.Statements.{Standing, Onward}
use Rattle.jn_tree_world.specs.Outcomes.{MeansAs}
use Rattle.jn_tree_world.specs.Worlds.{world_of}
use Rattle.jn_tree_world.proofs.Binding.{bound, stop_then, stops}
use Rattle.jn_tree_simple.specs.Standings.{onward_of, standing_of}
use Rattle.jn_tree_simple.proofs.Founding.{declared_so}
use Rattle.jn_tree_simple.proofs.pieces.declaration.Goals as goal

pub returns-in_err-declarator-clause-means : goal.returns-in_err-declarator-clause-means
returns-in_err-declarator-clause-means g c = λ turns m h. declared_so c.args.b.now.program.now c.args.names.now m turns c.args.b.now.class.0 _ _ _ _ _ _ _ _ (standing_of c.args.st.now) (placed_declarator c.args.tree.now.first ∷ placed_declarators c.args.tree.now.more.items) (world_of c.args.w.now) c.from_residual.result (world_of c.declarator.new.w)
    (c.kind_of-kind.ensures.base ∙ ap (λ (ms : List LocalModifier). type_of_use c.args.b.now.program.now (placed_type_use c.args.tree.now.type_use) (annotations_of ms)) c.deref.ensures.value)
    (c.kind_of-kind.ensures.bound ∙ ap (λ (ms : List LocalModifier). bound_written (own_annotations (placed_type_use c.args.tree.now.type_use).array (annotations_of ms))) c.deref.ensures.value)
    (c.has_final-is_final.ensures ∙ ap has_final c.deref-2.ensures.value)
    c.kind_of-kind.ensures.fault
    (stops onward_of _ c.in_err-declarator.field-0.0 c.from_residual.result (world_of c.declarator.new.w) c.from_residual.ensures.1 (stop_then c.in_err-declarator.field-0.0 _ _ _ (c.in_err-declarator.ensures.means turns m h)))

pub returns-clause-means : goal.returns-clause-means
returns-clause-means g c = λ turns m h. declared_so c.args.b.now.program.now c.args.names.now m turns c.args.b.now.class.0 _ _ _ _ _ _ _ _ (standing_of c.args.st.now) (placed_declarator c.args.tree.now.first ∷ placed_declarators c.args.tree.now.more.items) (world_of c.args.w.now) c.declarators.result (world_of c.declarators.new.w)
    (c.kind_of-kind.ensures.base ∙ ap (λ (ms : List LocalModifier). type_of_use c.args.b.now.program.now (placed_type_use c.args.tree.now.type_use) (annotations_of ms)) c.deref.ensures.value)
    (c.kind_of-kind.ensures.bound ∙ ap (λ (ms : List LocalModifier). bound_written (own_annotations (placed_type_use c.args.tree.now.type_use).array (annotations_of ms))) c.deref.ensures.value)
    (c.has_final-is_final.ensures ∙ ap has_final c.deref-2.ensures.value)
    c.kind_of-kind.ensures.fault
    (bound onward_of _ _ Onward (world_of c.declarator.new.w) c.declarators.result (world_of c.declarators.new.w) (c.in_ok-declarator.ensures.means turns m h) (subst (λ (s : Standing). MeansAs onward_of (spec.declarators c.args.b.now.program.now c.args.names.now usual_limits.longest m turns c.args.b.now.class.0 c.kind_of-kind.result.base (bound_of c.kind_of-kind.result.bound) c.has_final-is_final.result (rows_of c.kind_of-kind.result.fault) s (placed_declarators c.args.tree.now.more.items) (world_of c.declarator.new.w)) c.declarators.result (world_of c.declarators.new.w)) c.in_ok-declarator.ensures.behind (subst (λ (ds : List Declarator). MeansAs onward_of (spec.declarators c.args.b.now.program.now c.args.names.now usual_limits.longest m turns c.args.b.now.class.0 c.kind_of-kind.result.base (bound_of c.kind_of-kind.result.bound) c.has_final-is_final.result (rows_of c.kind_of-kind.result.fault) (standing_of c.declarator.new.st) (placed_declarators ds) (world_of c.declarator.new.w)) c.declarators.result (world_of c.declarators.new.w)) c.deref-3.ensures.value (c.declarators.ensures.means turns m h))))
