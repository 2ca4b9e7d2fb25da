use Rattle.jn_points.specs.Lookup.{field_info}
use Rattle.jn_note_words.specs.Owned.{Filled, by_field, first_below}
use Rattle.jn_note_words.proofs.owners.fill_fields.Given as goal

abbrev pub invariant-loop-f : goal.invariant-loop-f
invariant-loop-f l = Filled l.fn.owners l.owners (λ k. first_below (λ f. by_field k f (field_info l.program f)) l.f)
