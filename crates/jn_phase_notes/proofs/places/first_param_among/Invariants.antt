use Rattle.std.proofs.Common.{◌≡◌, drop}
use Rattle.jn_note_words.specs.Owned.{first_of}
use Rattle.jn_phase_notes.specs.Others.{first_param}
use Rattle.jn_phase_notes.proofs.places.first_param_among.Given as goal

abbrev pub invariant-loop-method : goal.invariant-loop-method
invariant-loop-method l = first_of (first_param l.span) (drop l.method-index l.methods) ≡ first_of (first_param l.span) l.methods
