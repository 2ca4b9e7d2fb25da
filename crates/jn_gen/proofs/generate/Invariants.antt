use Rattle.std.proofs.Common.{◌≡◌}
use Rattle.jn_gen.specs.Generated.{program_lines, text_of}
use Rattle.jn_gen.proofs.generate.Given as goal

abbrev pub invariant-loop-k : goal.invariant-loop-k
invariant-loop-k l = l.text.items ≡ text_of (program_lines l.k)
