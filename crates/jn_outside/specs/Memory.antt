-- What files in memory hold.
use Rattle.std.specs.Prelude.{ℕ, Bool, List, [], Option, Some, None, drop, slice_get, bytes_eq, string_bytes}
use Rattle.std.specs.List.{position}
use Rattle.jn_outside.specs.Files.{Holding}
use Rattle.jn_outside.specs.Calls.{IsSteady}
use Rattle.jn_outside.specs.declared.mem_files.MemFile.{MemFile}
use Rattle.jn_outside.specs.declared.mem_files.MemFiles.{MemFiles}

abbrev pub bytes_of : Option MemFile → Option (List ℕ)
bytes_of None = None
bytes_of (Some file) = Some file.bytes.items

abbrev pub bytes_at : Option ℕ → List MemFile → Option (List ℕ)
bytes_at None files = None
bytes_at (Some at) files = bytes_of (slice_get files at)

abbrev pub is_named : List ℕ → MemFile → Bool
is_named name file = bytes_eq (string_bytes file.name) name

-- the bytes of the first file of the name
abbrev pub held_in : List MemFile → List ℕ → Option (List ℕ)
held_in files name = bytes_at (position (is_named name) files) files

-- what is left of a file of which so many bytes were read; where none was started nothing is left
abbrev pub left_of : Option (List ℕ) → ℕ → List ℕ
left_of None place = []
left_of (Some bytes) place = drop place bytes

-- each name holds what the first file of the name has
abbrev pub held_by : MemFiles → Option Holding
held_by source = Some (held_in source.files.items)

abbrev pub left_by : MemFiles → Option (List ℕ)
left_by source = Some (left_of (bytes_at source.file source.files.items) source.place)

-- no call that is still to come is to fail
abbrev pub IsSteadyBy : MemFiles → Type 0
IsSteadyBy source = IsSteady source.failing.items source.calls
