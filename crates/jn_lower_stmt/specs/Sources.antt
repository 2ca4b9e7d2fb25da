-- What bodies are made of, as the definitions see it.
use Rattle.std.specs.Prelude.{List, [], ◌∷◌}
use Rattle.jn_places.specs.PlacedView.{placed_members, placed_parameters, placed_statements}
use Rattle.jn_lowering.specs.Bodies as spec
use Rattle.jn_lower_stmt.specs.declared.body.Source as code

abbrev pub source_of : code.Source → spec.Source
source_of s = record { method = s.method.0; parameters = placed_parameters s.parameters.now; body = placed_statements s.body.now; members = placed_members s.members.now }

abbrev pub sources_of : List code.Source → List spec.Source
sources_of [] = []
sources_of (s ∷ ss) = source_of s ∷ sources_of ss
