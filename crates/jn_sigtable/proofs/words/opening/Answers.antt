use Rattle.std.proofs.Common.{ℕ, ◌++◌, ◌∷◌, [], ap, ◌∙◌}
use Rattle.jn_sigtable.specs.Machine.{dirty_bits}
use Rattle.jn_sigtable.proofs.OpenKept.{one_more}
use Rattle.jn_sigtable.proofs.words.opening.Goals as goal

pub loop-word-preserved : goal.loop-word-preserved
loop-word-preserved c = one_more c.args.start.now (dirty_bits c.args.bodies) c.loop-word.word c.loop-word.all.items c.push.new.self.items c.loop-word.invariant (c.in_ok-push.ensures.items ∙ ap (λ (x : ℕ). c.loop-word.all.items ++ x ∷ []) c.dirty_word.ensures)
