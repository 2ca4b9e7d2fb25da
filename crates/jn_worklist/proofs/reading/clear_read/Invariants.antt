use Rattle.std.proofs.Common.{◌≡◌, ◌⊎◌, ℕ, true, drop, length}
use Rattle.std.specs.Prelude.{slice_index}
use Rattle.jn_sigtable.specs.System.{lists_word}
use Rattle.jn_worklist.proofs.reading.clear_read.Given as goal

abbrev pub invariant-loop-word : goal.invariant-loop-word
invariant-loop-word l = record {
  count : length l.values ≡ length l.fn.values;
  rest : (u : ℕ) → (slice_index l.values u ≡ 0) ⊎ (lists_word (drop l.word-index l.reads) u ≡ true);
}
