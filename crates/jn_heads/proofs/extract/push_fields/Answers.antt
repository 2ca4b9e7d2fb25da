use Rattle.std.proofs.Common.{◌≡◌, ◌++◌, ◌∷◌, List, map, subst, OnOk}
use Rattle.jn_trees.specs.declared.declaration.Modifier.{Modifier}
use Rattle.jn_trees.specs.declared.statement.Declarator.{Declarator}
use Rattle.jn_places.specs.PlacedView.{placed_type_use, placed_declarator, placed_declarators}
use Rattle.jn_heads.specs.Extract as spec
use Rattle.jn_heads.proofs.extract.push_fields.Goals as goal

pub returns-in-Field : goal.returns-in-Field
returns-in-Field c =
    let Added : List Modifier → List Declarator → Type 0 = λ ms more. OnOk c.push_declaration.result (c.push_declaration.new.heads ≡ c.args.heads.now ++ map (spec.field_head ms (placed_type_use c.in-Field.type_use)) (placed_declarator c.in-Field.first ∷ placed_declarators more)) in
    rw c.in-Field.is (subst (λ ms. Added ms c.in-Field.more.items) c.deref.ensures.value (subst (λ more. Added c.deref.result.now more) c.deref-in-Field.ensures.value c.push_declaration.ensures))
