use Rattle.std.proofs.Common.{◌≡◌, ◌||◌, drop}
use Rattle.jn_inference_law.specs.Reading.{methods_reads, has_word}
use Rattle.jn_system.proofs.reading.some_given.Given as goal

abbrev pub invariant-loop-method : goal.invariant-loop-method
invariant-loop-method l = (l.some || has_word l.word (methods_reads l.program (drop l.method-index l.methods))) ≡ has_word l.word (methods_reads l.program l.methods)
