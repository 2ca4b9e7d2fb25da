use Rattle.std.proofs.Common.{◌≡◌, ◌||◌, drop}
use Rattle.jn_inference_law.specs.Reading.{has_word, points_reads}
use Rattle.jn_system.proofs.reading.points_read.Given as goal

abbrev pub invariant-loop-point : goal.invariant-loop-point
invariant-loop-point l = (l.some || has_word l.word (points_reads l.program (drop l.point-index l.points))) ≡ has_word l.word (points_reads l.program l.points)
