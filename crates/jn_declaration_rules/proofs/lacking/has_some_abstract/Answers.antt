use Rattle.std.proofs.Common.{◌&&◌, ap, ◌∙◌, length}
use Rattle.jn_points.specs.declared.program.Method.{Method}
use Rattle.jn_points.specs.Lookup.{method_at}
use Rattle.jn_points.specs.Members as members
use Rattle.jn_member_tables.specs.Numbers.{places_of, passes}
use Rattle.jn_index.specs.Index.{owners}
use Rattle.jn_declaration_rules.proofs.OwnMethods.{lacking_in_walk}
use Rattle.jn_declaration_rules.proofs.lacking.has_some_abstract.Goals as goal

pub returns : goal.returns
returns c =
    c.some_lacking_along.ensures
    ∙ (ap (members.some_of (λ d. members.some_of (λ k. passes (λ (y : Method). y.is_abstract && members.is_number (members.method_of c.args.program.now c.args.class.0 y.name.0 (length y.params)) k) (method_at c.args.program.now k)) (places_of d 0 (owners c.args.program.now.methods)))) c.walk.ensures
    ∙ lacking_in_walk c.args.program.now c.index.result.now c.args.class.0 c.index.ensures c.requires.inside)
