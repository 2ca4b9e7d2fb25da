-- Lists of words, to which the words of slots are added.
use Rattle.std.specs.Prelude.{ℕ, ◌≡◌, ◌||◌, ◌&&◌, ltb, List}
use Rattle.jn_base.specs.declared.number.WordNo.{WordNo}
use Rattle.jn_sigtable.specs.System.{WordsOnce, lists_word}
use Rattle.jn_inference_law.specs.Reading.{has_word}

-- the words below n in which one of the slots stands are added, each once
pub record Adds (n : ℕ) (slots : List ℕ) (old new : List WordNo) : Type 0 where
  pub words : (w : ℕ) → lists_word new w ≡ (lists_word old w || (ltb w n && has_word w slots))
  pub once : WordsOnce old → WordsOnce new
