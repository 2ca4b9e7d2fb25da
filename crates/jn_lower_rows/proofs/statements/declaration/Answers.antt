use Rattle.std.proofs.Common.{◌∙◌, ap, subst, sym}
use Rattle.jn_places.specs.PlacedView.{placed_declarators, placed_type_use}
use Rattle.jn_lowering.specs.Bases.{type_of_use}
use Rattle.jn_lowering.specs.Locals.{annotations_of, has_final}
use Rattle.jn_scopes.specs.Views.{faults_of}
use Rattle.jn_lower_rows.specs.Views.{setting_of}
use Rattle.jn_lower_rows.proofs.Stepping.{WalksNames, both_names, declaration_walks}
use Rattle.jn_lower_rows.proofs.statements.declaration.Goals as goal

pub returns : goal.returns
returns c = declaration_walks c.args.place.now.program.now c.args.place.now.class.0 (setting_of c.args.place.now.at) c.args.local.now c.deref-3.result.now c.type_of_use-base.result c.has_final-is_final.result (faults_of c.declare_type.new.names.faults.items c.in_ok-faults.faults) c.args.names.now c.declare_type.new.names c.declarators.new.names _ _ _
    (c.deref-3.ensures.value ∙ c.in_ok-notes.ensures ∙ ap annotations_of c.deref.ensures.value)
    (c.type_of_use-base.ensures ∙ ap (type_of_use c.args.place.now.program.now (placed_type_use c.args.local.now.type_use)) (c.deref-4.ensures.value ∙ sym c.deref-3.ensures.value))
    (c.has_final-is_final.ensures ∙ ap has_final c.deref-2.ensures.value) c.in_ok-faults.ensures.faults.0 c.in_ok-faults.ensures.walks
    (λ b. both_names c.args.place.now.program.now c.args.place.now.class.0 (setting_of c.args.place.now.at) c.type_of_use-base.result c.has_final-is_final.result (faults_of c.declare_type.new.names.faults.items c.in_ok-faults.faults) b c.args.local.now.first c.args.local.now.more.items c.declare_type.new.names c.declarator.new.names c.declarators.new.names _ _ _ (c.in_ok-declarator.ensures.walks b)
    (subst (λ rows. WalksNames c.args.place.now.program.now c.args.place.now.class.0 (setting_of c.args.place.now.at) c.type_of_use-base.result c.has_final-is_final.result (faults_of rows c.in_ok-faults.faults) b (placed_declarators c.args.local.now.more.items) c.declarator.new.names c.declarators.new.names c.declarator.new.rows c.declarators.new.rows) c.in_ok-declarator.ensures.same
    (subst (λ ds. WalksNames c.args.place.now.program.now c.args.place.now.class.0 (setting_of c.args.place.now.at) c.type_of_use-base.result c.has_final-is_final.result (faults_of c.declarator.new.names.faults.items c.in_ok-faults.faults) b (placed_declarators ds) c.declarator.new.names c.declarators.new.names c.declarator.new.rows c.declarators.new.rows) c.deref-5.ensures.value (c.in_ok-declarators.ensures b))))
