-- Body 0 always outputs 2. Body 1 reads the word, and outputs 4 where 2 is set.
use Rattle.std.specs.Prelude.{ℕ, zero, suc, ◌==◌, Bool, true, false, if◌then◌else◌, List, [], ◌∷◌, slice_index}
use Rattle.std.specs.Int.{bit_at}
use Rattle.jn_base.specs.declared.number.WordNo.{WordNo}
use Rattle.jn_sigtable.specs.System.{System}

abbrev pub zero_word : WordNo
zero_word = record { 0 = 0 }

abbrev pub out_of : ℕ → List ℕ → List (WordNo × ℕ)
out_of zero words = (zero_word, 2) ∷ []
out_of (suc b) words = if bit_at (slice_index words 0) 1 == 1 then ((zero_word, 4) ∷ []) else []

abbrev pub pair : System
pair = record { bodies = 2; words = 1; reads = λ b w. b == 1; output = out_of }
