-- What may be of a value, in words.
use Rattle.std.specs.Prelude.{ℕ, ◌++◌, Bool, true, false, List, codes, slice_get}
use Rattle.std.specs.Str.Lossy.{utf8_lossy}
use Rattle.jn_note_words.specs.Owned.{owner_of}
use Rattle.jn_note_words.specs.Worded.{owner_words}
use Rattle.jn_points.specs.declared.program.Program.{Program}
use Rattle.jn_quals.specs.Qualifier.{Qualifier}
use Rattle.jn_transfer.specs.Contributions.{is_inferred}

-- whether it may be null
abbrev pub null_words : Bool → List ℕ
null_words true = codes "may be null"
null_words false = codes "never null"

-- whether it may be under construction
abbrev pub whole_words : Bool → List ℕ
whole_words true = codes ", may be under construction"
whole_words false = codes ", whole"

-- both, one after the other
abbrev pub qual_words : Qualifier → List ℕ
qual_words q = null_words q.null ++ whole_words q.free

-- where a slot's qualifier is from
abbrev pub source_words : Bool → List ℕ
source_words true = codes "; inferred"
source_words false = codes "; as written"

-- what has a slot, and what that may be; what is no UTF-8 is replaced
abbrev pub slot_words : Program → List (List ℕ) → ℕ → Qualifier → List ℕ
slot_words P names k q = utf8_lossy (((owner_words P names (owner_of P k) ++ codes ": ") ++ qual_words q) ++ source_words (is_inferred (slice_get P.slots k)))
