use Rattle.jn_points.specs.Lookup.{method_at}
use Rattle.jn_note_words.specs.Owned.{Filled, by_method, first_below}
use Rattle.jn_note_words.proofs.owners.fill_methods.Given as goal

abbrev pub invariant-loop-m : goal.invariant-loop-m
invariant-loop-m l = Filled l.fn.owners l.owners (λ k. first_below (λ m. by_method k m (method_at l.program m)) l.m)
