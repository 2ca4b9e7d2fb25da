use Rattle.std.proofs.Common.{◌≡◌, drop}
use Rattle.jn_heads.specs.declared.head.ClassHead.{ClassHead}
use Rattle.jn_note_words.specs.Owned.{first_of}
use Rattle.jn_phase_notes.specs.Others.{first_param, first_param_of}
use Rattle.jn_phase_notes.proofs.places.first_param_of.Given as goal

abbrev pub invariant-loop-head : goal.invariant-loop-head
invariant-loop-head l = first_of (λ (h : ClassHead). first_of (first_param l.span) h.methods) (drop l.head-index l.heads) ≡ first_param_of l.span l.heads
