-- Where it is told that files get no annotated texts, or that a slot is left without words.
use Rattle.std.specs.Prelude.{ℕ, cond, List, [], ◌∷◌, Option, Some, None, unwrap_or}
use Rattle.jn_base.specs.declared.place.Span.{Span}
use Rattle.jn_points.specs.declared.program.Field.{Field}
use Rattle.jn_points.specs.declared.program.Method.{Method}
use Rattle.jn_points.specs.declared.program.Program.{Program}
use Rattle.jn_sigs.specs.Signature.{is_slot, method_has_slot}
use Rattle.jn_annotate.specs.declared.annotating.AnnotateFault.{AnnotateFault}
use Rattle.jn_annotate.specs.declared.annotating.AnnotateFault.TheVariants.{NameTaken, SharedType, TooLarge}

-- the first byte of a file
abbrev pub file_start : ℕ → Span
file_start k = record { file = record { 0 = k }; from = 0; to = 0 }

abbrev pub field_span : ℕ → List Field → Option Span
field_span i [] = None
field_span i (f ∷ fs) = cond (is_slot i f.slot) (Some f.span) (field_span i fs)

abbrev pub method_span : ℕ → List Method → Option Span
method_span i [] = None
method_span i (m ∷ ms) = cond (method_has_slot i m) (Some m.span) (method_span i ms)

abbrev pub first_span : Option Span → Option Span → Span
first_span (Some span) other = span
first_span None other = unwrap_or other (file_start 0)

-- the name of the slot's field, or of the method whose parameter, receiver or result it is
abbrev pub slot_span : Program → ℕ → Span
slot_span P i = first_span (field_span i P.fields) (method_span i P.methods)

-- where a fault stands: at the slot's declaration, or at the first byte of the file
abbrev pub fault_span : Program → AnnotateFault → Span
fault_span P (NameTaken slot) = slot_span P slot.0
fault_span P (SharedType slot) = slot_span P slot.0
fault_span P (TooLarge file) = file_start file.0
