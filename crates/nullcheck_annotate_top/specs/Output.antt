-- What the command writes of what files come to.
use Rattle.std.specs.Prelude.{ℕ, ◌≡◌, Bool, ◌++◌, List, [], ◌∷◌, Option, Some, None, codes, decimal, slice_get}
use Rattle.std.specs.List.{flat_map}
use Rattle.jn_base.specs.declared.infer.Infer.{Infer}
use Rattle.jn_base.specs.declared.place.Place.{Place}
use Rattle.jn_base.specs.declared.place.Span.{Span}
use Rattle.jn_base.specs.Place.{place_in}
use Rattle.jn_annotate.specs.declared.annotating.AnnotateFault.{AnnotateFault}
use Rattle.jn_annotate.specs.declared.annotating.AnnotateFault.TheVariants.{NameTaken, SharedType, TooLarge}
use Rattle.jn_cli.specs.declared.annotate.Mode.{Mode}
use Rattle.jn_cli.specs.declared.annotate.Mode.TheVariants.{Show, Check, Write}
use Rattle.jn_command.specs.declared.report.Report.TheVariants.{Refused as RefusedReport}
use Rattle.jn_command.specs.declared.status.Status.{Status}
use Rattle.jn_command.specs.declared.status.Status.TheVariants.{Ok, Rejected, Refused as RefusedStatus}
use Rattle.jn_command.specs.Shown.{shown}
use Rattle.jn_reporters.specs.Reports.{plain_shown}
use Rattle.jn_front.specs.declared.source.SourceFile.{SourceFile}
use Rattle.nullcheck_annotate_top.specs.declared.changes.Change.{Change}
use Rattle.nullcheck_annotate_top.specs.declared.output.Output.{Output}
use Rattle.nullcheck_annotate_top.specs.declared.study.Study.{Study}
use Rattle.nullcheck_annotate_top.specs.declared.study.Study.TheVariants.{Refused, Unannotated, Annotated}
use Rattle.nullcheck_annotate_top.specs.Changes.{changes, diffs, replacements}
use Rattle.nullcheck_annotate_top.specs.declared.parts.Part.{Part}
use Rattle.nullcheck_annotate_top.specs.declared.study.Left.{Left}
use Rattle.nullcheck_annotate_top.specs.Parts.{part_words}
use Rattle.nullcheck_annotate_top.specs.Study.{IsStudy}

-- ---- why there are no annotated texts, and what is left without words

abbrev pub fault_code : AnnotateFault → List ℕ
fault_code (NameTaken slot) = codes "NAME-TAKEN"
fault_code (SharedType slot) = codes "SHARED-TYPE"
fault_code (TooLarge file) = codes "TOO-LARGE"

-- FILE:LINE:COL: CODE
abbrev pub placed_line : List ℕ → Place → List ℕ → List ℕ
placed_line name place code = name ++ codes ":" ++ decimal place.line ++ codes ":" ++ decimal place.col ++ codes ": " ++ code ++ codes "\n"

abbrev pub line_in : Option SourceFile → Span → List ℕ → List ℕ
line_in None span code = code ++ codes "\n"
line_in (Some file) span code = placed_line file.name (place_in file.bytes span) code

abbrev pub place_line : List SourceFile → List ℕ → Span → List ℕ
place_line files code span = line_in (slice_get files span.file.0) span code

-- what can be done where no annotation says the qualifier of this part
abbrev pub spelling_cure : Option Part → List ℕ
spelling_cure part = codes "cure: write the annotation that is meant at " ++ part_words part ++ codes ", or leave out what takes nothing but null\n"

-- a slot that is left without words
abbrev pub left_text : List SourceFile → Left → List ℕ
left_text files left = place_line files (codes "NO-SPELLING") left.span ++ spelling_cure left.part

-- all of them, in their order
abbrev pub left_texts : List SourceFile → List Left → List ℕ
left_texts files left = flat_map (left_text files) left

-- what can be done about a fault, in a line of its own
abbrev pub fault_cure : AnnotateFault → List ℕ
fault_cure (NameTaken slot) = codes "cure: give the type that has the annotation's name another one, or leave --imports out\n"
fault_cure (SharedType slot) = codes "cure: declare the fields one by one\n"
fault_cure (TooLarge file) = codes "cure: split the file\n"

abbrev pub fault_text : List SourceFile → AnnotateFault → Span → List ℕ
fault_text files fault span = place_line files (fault_code fault) span ++ fault_cure fault

-- ---- the output

-- whether anything would change
abbrev pub status_of_changes : List Change → Status
status_of_changes [] = Ok
status_of_changes (c ∷ cs) = Rejected

abbrev pub only : Status → List ℕ → Output
only status bytes = record { status = status; bytes = bytes; replaced = [] }

-- what changes is shown, told by the status alone, or written
abbrev pub changed_output : Mode → List Change → Output
changed_output Show cs = only Ok (diffs cs)
changed_output Check cs = only (status_of_changes cs) []
changed_output Write cs = record { status = Ok; bytes = []; replaced = replacements cs }

-- where slots are left without words, these are told after it, and the status says so
abbrev pub told_after : List SourceFile → List Left → Output → Output
told_after files [] output = output
told_after files (l ∷ left) output = record { status = Rejected; bytes = output.bytes ++ left_texts files (l ∷ left); replaced = output.replaced }

-- files that are refused get their report
abbrev pub output_of : Mode → List SourceFile → Study → Output
output_of mode files (Refused rows) = only RefusedStatus (shown plain_shown files (RefusedReport rows))
output_of mode files (Unannotated fault span) = only Rejected (fault_text files fault span)
output_of mode files (Annotated new left) = told_after files left (changed_output mode (changes files new))

pub record IsOutput (infer : Infer) (terse imports : Bool) (mode : Mode) (files : List SourceFile) (output : Output) : Type 0 where
  pub study : Study
  pub is : IsStudy infer terse imports files study
  pub comes : output ≡ output_of mode files study
