-- Where rows and sweeps stand in files that were read.
use Rattle.std.specs.Prelude.{ℕ, ◌≡◌, ◌⊎◌, true, List, [], ◌∷◌, Option, Some, None, slice_get}
use Rattle.jn_base.specs.declared.place.Row.{Row}
use Rattle.jn_diag.specs.Sweep.{IsPosition}
use Rattle.jn_front.specs.declared.source.SourceRead.{SourceRead}
use Rattle.jn_command.specs.declared.show.Place.{Place}
use Rattle.jn_reporters.specs.Excerpts.{is_limit}

-- a row of a file that wasn't read whole, since it is too large, is one of a limit, and stands at its first byte
abbrev pub StandsIn : Option SourceRead → Row → Type 0
StandsIn None row = Unit {0}
StandsIn (Some read) row = (read.whole ≡ true) ⊎ ((row.span.from ≡ 0) × (is_limit row.code ≡ true))

abbrev pub StandIn : List SourceRead → List Row → Type 0
StandIn reads [] = Unit {0}
StandIn reads (row ∷ rows) = StandsIn (slice_get reads row.span.file.0) row × StandIn reads rows

abbrev pub bytes_of : Option SourceRead → List ℕ
bytes_of None = []
bytes_of (Some read) = read.file.bytes

-- a place in one of the files that were read
abbrev pub IsPlace : List SourceRead → Place → Type 0
IsPlace reads place = IsPosition (bytes_of (slice_get reads place.file)) place.position
