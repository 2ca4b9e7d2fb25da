-- The bytes that tell a verdict, by the certificate's name and the files.
use Rattle.std.specs.Prelude.{ℕ, ◌++◌, Bool, false, ◌||◌, eqb, ltb, List, [], ◌∷◌, Option, Some, None, cond, codes, decimal, slice_get}
use Rattle.jn_base.specs.declared.number.SlotNo.{SlotNo}
use Rattle.jn_base.specs.declared.place.Span.{Span}
use Rattle.jn_base.specs.Place.{place_in}
use Rattle.jn_points.specs.declared.point.Point.{Point}
use Rattle.jn_points.specs.declared.program.Field.{Field}
use Rattle.jn_points.specs.declared.program.Method.{Method}
use Rattle.jn_points.specs.declared.program.Program.{Program}
use Rattle.jn_points.specs.Lookup.{method_in, point_at}
use Rattle.jn_cert_judge.specs.declared.fault.CertFault.{CertFault}
use Rattle.jn_cert_judge.specs.declared.fault.CertFault.TheVariants.{BadForm, Slot, Entry, Edge, Broken, Open}
use Rattle.jn_front.specs.declared.source.SourceFile.{SourceFile}
use Rattle.jn_reporters.specs.Reports.{plain_line, plain_shown}
use Rattle.jn_command.specs.Shown.{row_of, shown}
use Rattle.jn_command.specs.declared.report.Report.TheVariants.{Refused as RefusedReport}
use Rattle.jn_command.specs.declared.status.Status.{Status}
use Rattle.jn_command.specs.declared.status.Status.TheVariants.{Ok, Rejected, Refused as RefusedStatus}
use Rattle.nullcheck_cert_check.specs.declared.verdict.CertVerdict.{CertVerdict}
use Rattle.nullcheck_cert_check.specs.declared.verdict.CertVerdict.TheVariants.{Refused, TooLarge, Faulty, Certified}

-- ---- where a fault stands

abbrev pub is_slot : ℕ → Option SlotNo → Bool
is_slot n None = false
is_slot n (Some slot) = eqb slot.0 n

abbrev pub has_slot_among : ℕ → List (Option SlotNo) → Bool
has_slot_among n [] = false
has_slot_among n (slot ∷ slots) = is_slot n slot || has_slot_among n slots

-- the slot is of the method's receiver, of one of its parameters or of its result
abbrev pub has_slot_of : ℕ → Method → Bool
has_slot_of n m = is_slot n m.receiver || (has_slot_among n m.param_slots || is_slot n m.result_slot)

-- the first method that has the slot
abbrev pub method_span : ℕ → List Method → Option Span
method_span n [] = None
method_span n (m ∷ methods) = cond (has_slot_of n m) (Some m.span) (method_span n methods)

-- the first field that has it
abbrev pub field_span : ℕ → List Field → Option Span
field_span n [] = None
field_span n (f ∷ fields) = cond (is_slot n f.slot) (Some f.span) (field_span n fields)

abbrev pub or_span : Option Span → Option Span → Option Span
or_span None other = other
or_span (Some span) other = Some span

abbrev pub span_of_method : Option Method → Option Span
span_of_method None = None
span_of_method (Some m) = Some m.span

abbrev pub span_of_point : Option Point → Option Span
span_of_point None = None
span_of_point (Some pt) = Some pt.span

module _ (P : Program) where
  -- the member that has the slot
  abbrev pub slot_span : ℕ → Option Span
  slot_span n = or_span (field_span n P.fields) (method_span n P.methods)

  -- the body's method or constructor
  abbrev pub body_span : ℕ → Option Span
  body_span b = span_of_method (method_in P b)

  abbrev pub point_span : ℕ → ℕ → Option Span
  point_span b p = span_of_point (point_at P b p)

-- ---- lines

-- a space and FILE:LINE:COL of a span's first byte
abbrev pub told_place : SourceFile → Span → List ℕ
told_place file span = let place = place_in file.bytes span in codes " " ++ file.name ++ codes ":" ++ decimal place.line ++ codes ":" ++ decimal place.col

-- nothing of no file, and of a span without a byte, which stands for what isn't written
abbrev pub place_in_file : Option SourceFile → Span → List ℕ
place_in_file None span = []
place_in_file (Some file) span = cond (ltb span.from span.to) (told_place file span) []

module _ (files : List SourceFile) where
  abbrev pub place_text : Option Span → List ℕ
  place_text None = []
  place_text (Some span) = place_in_file (slice_get files span.file.0) span

abbrev pub form_line : List ℕ → ℕ → List ℕ
form_line cert at = cert ++ codes ": form " ++ decimal at ++ codes "\n"

module _ (cert : List ℕ) (files : List SourceFile) where
  -- CERT: WORD, and a place where there is one
  abbrev pub placed_line : List ℕ → Option Span → List ℕ
  placed_line word span = cert ++ word ++ place_text files span ++ codes "\n"

  -- a broken rule is told by its row, all else by the certificate's name
  abbrev pub fault_line : Program → CertFault → List ℕ
  fault_line P (BadForm at) = form_line cert at
  fault_line P (Slot n) = placed_line (codes ": slot") (slot_span P n.0)
  fault_line P (Entry b) = placed_line (codes ": entry") (body_span P b.0)
  fault_line P (Edge b p) = placed_line (codes ": edge") (point_span P b.0 p.0)
  fault_line P (Broken row) = plain_line (row_of files row).text
  fault_line P (Open n) = placed_line (codes ": open") (slot_span P n.0)

  -- rows of files that are refused are shown by the plain reporter
  abbrev pub verdict_text : CertVerdict → List ℕ
  verdict_text (Refused rows) = shown plain_shown files (RefusedReport rows)
  verdict_text TooLarge = cert ++ codes ": too large\n"
  verdict_text (Faulty P fault) = fault_line P fault
  verdict_text (Certified accepted) = codes "certified\n"

abbrev pub status_of : CertVerdict → Status
status_of (Refused rows) = RefusedStatus
status_of TooLarge = Rejected
status_of (Faulty P fault) = Rejected
status_of (Certified accepted) = Ok
