-- What files come to: rows that refuse them, why they have no annotated texts, or these texts with the slots that are left without words.
use Rattle.std.specs.Prelude.{ℕ, ◌≡◌, Bool, List, map}
use Rattle.jn_base.specs.declared.infer.Infer.{Infer}
use Rattle.jn_base.specs.declared.place.Span.{Span}
use Rattle.jn_quals.specs.Qualifier.{Qualifier}
use Rattle.jn_points.specs.declared.program.Program.{Program}
use Rattle.jn_trees.specs.declared.token.Token.{Token}
use Rattle.jn_trees.specs.Trees.{SourceTree}
use Rattle.jn_places.specs.Forget.{forget_file}
use Rattle.jn_inference_law.specs.Solution.{IsLeastSignature}
use Rattle.jn_annotate.specs.declared.annotating.AnnotateFault.{AnnotateFault}
use Rattle.jn_annotate.specs.Annotated.{AreWorded, unspelled_slots}
use Rattle.jn_annotate.specs.Chosen.{chosen_slots}
use Rattle.jn_annotate.specs.Answers.{IsFaultOf}
use Rattle.jn_command.specs.Stands.{StandIn}
use Rattle.jn_front.specs.declared.source.SourceFile.{SourceFile}
use Rattle.jn_front.specs.declared.source.SourceRead.{SourceRead}
use Rattle.jn_front.specs.Files.{AreReads, files_of_reads}
use Rattle.jn_phases.specs.Phases.{IsPhase, TypedProgramOf}
use Rattle.nullcheck_annotate_top.specs.declared.study.Study.{Study}
use Rattle.nullcheck_annotate_top.specs.declared.study.Study.TheVariants.{Refused, Unannotated, Annotated as AnnotatedTexts}
use Rattle.nullcheck_annotate_top.specs.declared.study.Left.{Left}
use Rattle.nullcheck_annotate_top.specs.Parts.{slot_part}
use Rattle.nullcheck_annotate_top.specs.Places.{fault_span, slot_span}

abbrev pub texts_of : List SourceFile → List (List ℕ)
texts_of files = map (λ (file : SourceFile). file.bytes) files

-- the files' own program, in which all has a meaning and a type that fits, with its least signature
pub record Solved (infer : Infer) (files : List SourceFile) : Type 0 where
  pub names : List (List ℕ)
  pub P : Program
  pub of_files : TypedProgramOf infer files names P
  pub signature : List Qualifier
  pub least : IsLeastSignature P signature

module _ (infer : Infer) (files : List SourceFile) (solved : Solved infer files) where
  -- the files' tokens and trees
  abbrev pub tokens_of : List (List Token)
  tokens_of = solved.of_files.of_files.tokens

  abbrev pub trees_of : List SourceTree
  trees_of = map forget_file solved.of_files.of_files.trees

-- of a slot that is left without words, the part of its declaration, and where that stands
abbrev pub left_at : Program → ℕ → Left
left_at P i = record { part = slot_part P i; span = slot_span P i }

-- the files' texts with what is inferred of them, under the least signature of their program, and the slots that no annotation says
pub record AreAnnotated (infer : Infer) (terse imports : Bool) (files : List SourceFile) (new : List (List ℕ)) (left : List Left) : Type 0 where
  pub solved : Solved infer files
  pub are : AreWorded (chosen_slots terse solved.P solved.signature) imports solved.P solved.signature (texts_of files) (tokens_of infer files solved) (trees_of infer files solved) new
  pub left_are : left ≡ map (left_at solved.P) (unspelled_slots solved.P solved.signature)

-- they have no such texts, for this reason, which stands there
pub record AreUnannotated (infer : Infer) (terse imports : Bool) (files : List SourceFile) (fault : AnnotateFault) (span : Span) : Type 0 where
  pub solved : Solved infer files
  pub why : IsFaultOf (chosen_slots terse solved.P solved.signature) imports solved.P solved.signature (texts_of files) (tokens_of infer files solved) (trees_of infer files solved) fault
  pub stands : span ≡ fault_span solved.P fault

-- files that some phase refuses come to its rows; of others nothing is asked, accepted or not
abbrev pub IsStudy : Infer → Bool → Bool → List SourceFile → Study → Type 0
IsStudy infer terse imports files (Refused rows) = IsPhase infer files rows
IsStudy infer terse imports files (Unannotated fault span) = AreUnannotated infer terse imports files fault span
IsStudy infer terse imports files (AnnotatedTexts new left) = AreAnnotated infer terse imports files new left

-- what was read are the files, whole
abbrev pub AreWhole : List SourceRead → Type 0
AreWhole reads = (files : List SourceFile) → AreReads reads files → files_of_reads reads ≡ files

-- rows stand in files that were read whole, or at their first byte; others than refused files were read whole
abbrev pub IsOf : List SourceRead → Study → Type 0
IsOf reads (Refused rows) = StandIn reads rows
IsOf reads (Unannotated fault span) = AreWhole reads
IsOf reads (AnnotatedTexts new left) = AreWhole reads
