use Rattle.std.proofs.Common.{◌≡◌, drop}
use Rattle.jn_annotate.specs.Imports as spec
use Rattle.jn_annotate.specs.Puts.{insertions}
use Rattle.jn_annotate.proofs.imports.gets_word.Given as goal

abbrev pub invariant-loop-put : goal.invariant-loop-put
invariant-loop-put l = spec.gets_word l.word (insertions l.puts) ≡ spec.gets_word l.word (insertions (drop l.put-index l.puts))
