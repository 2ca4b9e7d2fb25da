use Rattle.std.proofs.Common.{◌≡◌, drop}
use Rattle.std.specs.Prelude.{map}
use Rattle.jn_trees.specs.View.{type_view}
use Rattle.jn_annotate.specs.Insertions as spec
use Rattle.jn_annotate.proofs.files.fields_behind_types.Given as goal

abbrev pub invariant-loop-declared : goal.invariant-loop-declared
invariant-loop-declared l = drop (spec.file_fields (map type_view (drop l.declared-index l.types))) l.rest ≡ drop (spec.file_fields (map type_view l.types)) l.fields
