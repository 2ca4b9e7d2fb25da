-- A place in one of a session's files.
use Rattle.std.specs.Prelude.{ℕ, List, [], Option, Some, None, slice_get}
use Rattle.jn_command.specs.declared.show.Place.{Place}
use Rattle.jn_diag.specs.Sweep.{IsPosition}
use Rattle.jn_front.specs.declared.source.SourceFile.{SourceFile}

abbrev pub text_of : Option SourceFile → List ℕ
text_of None = []
text_of (Some file) = file.bytes

abbrev pub IsPlaceIn : List SourceFile → Place → Type 0
IsPlaceIn files place = IsPosition (text_of (slice_get files place.file)) place.position
