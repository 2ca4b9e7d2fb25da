-- Words to put into a text, as insertions.
use Rattle.std.specs.Prelude.{List, map}
use Rattle.jn_splice_law.specs.Inserted.{Insertion}
use Rattle.jn_annotate.specs.declared.insert.Put.{Put}

abbrev pub insertion : Put → Insertion
insertion p = record { at = p.at; words = p.words }

abbrev pub insertions : List Put → List Insertion
insertions puts = map insertion puts
