-- The annotated texts of files, or why they have none.
use Rattle.std.proofs.Common.{◌≡◌, ℕ, Bool, suc, ◌+◌, List, [], ◌∷◌, length, map, refl, sym, ap, ap₂, ◌∙◌, subst}
use Rattle.jn_base.specs.declared.infer.Infer.{Infer}
use Rattle.jn_base.specs.declared.place.Span.{Span}
use Rattle.jn_quals.specs.Qualifier.{Qualifier}
use Rattle.jn_env.specs.Order.{QualsWithin}
use Rattle.jn_points.specs.declared.program.Program.{Program}
use Rattle.jn_points.specs.declared.program.SlotInfo.{SlotInfo}
use Rattle.jn_sigs.specs.Signature.{start_signature, starts_from}
use Rattle.jn_trees.specs.declared.declaration.FileTree.{FileTree}
use Rattle.jn_trees.specs.declared.token.Token.{Token}
use Rattle.jn_trees.specs.Trees.{SourceTree}
use Rattle.jn_trees.specs.View.{file_view}
use Rattle.jn_places.specs.Forget.{forget_file}
use Rattle.jn_places.specs.Placed.{PlacedFile}
use Rattle.jn_places.specs.PlacedView.{placed_file}
use Rattle.jn_inference_law.specs.Solution.{IsLeastSignature}
use Rattle.jn_annotate.specs.declared.annotating.AnnotateFault.{AnnotateFault}
use Rattle.jn_annotate.specs.Annotated.{AreWorded, unspelled_slots}
use Rattle.jn_annotate.specs.Chosen.{chosen_slots}
use Rattle.jn_annotate.specs.Answers.{IsFaultOf}
use Rattle.jn_front.specs.declared.source.SourceFile.{SourceFile}
use Rattle.jn_points.specs.BaseRows.{NoBaseRows}
use Rattle.jn_phases.specs.Phases.{ProgramOf, TypedProgramOf}
use Rattle.nullcheck_annotate_top.specs.declared.study.Left.{Left}
use Rattle.nullcheck_annotate_top.specs.Places.{fault_span}
use Rattle.nullcheck_annotate_top.specs.Study.{AreAnnotated, AreUnannotated, Solved, left_at, texts_of}

-- there is a qualifier for each slot
within_long : (xs ys : List Qualifier) → QualsWithin xs ys → length ys ≡ length xs
within_long [] [] w = refl
within_long [] (y ∷ ys) w = absurd w
within_long (x ∷ xs) [] w = absurd w
within_long (x ∷ xs) (y ∷ ys) w = ap suc (within_long xs ys w.1)

start_long : (P : Program) (i : ℕ) (xs : List SlotInfo) → length (starts_from P i xs) ≡ length xs
start_long P i [] = refl
start_long P i (x ∷ xs) = ap suc (start_long P (i + 1) xs)

pub signature_long : (P : Program) (s : List Qualifier) → IsLeastSignature P s → length s ≡ length P.slots
signature_long P s least = within_long (start_signature P) s least.starts ∙ start_long P 0 P.slots

-- trees in memory without places
abbrev pub Forgets : Type 0
Forgets = (tree : FileTree) → forget_file (placed_file tree) ≡ file_view tree

pub all_seen : Forgets → (trees : List FileTree) → map forget_file (map placed_file trees) ≡ map file_view trees
all_seen forgets [] = refl
all_seen forgets (tree ∷ trees) = ap₂ (λ x xs. x ∷ xs) (forgets tree) (all_seen forgets trees)

-- what is known of a program of files, by its parts
module _ (infer : Infer) (terse imports : Bool) (files : List SourceFile) (names : List (List ℕ)) (P : Program) (s : List Qualifier) (texts : List (List ℕ)) (tokens : List (List Token)) (trees : List FileTree) (forgets : Forgets) (typed : TypedProgramOf infer files names P) (placed : typed.of_files.trees ≡ map placed_file trees) (lexed : typed.of_files.tokens ≡ tokens) (read : texts ≡ texts_of files) (least : IsLeastSignature P s) where
  abbrev solved : Solved infer files
  solved = record { names = names; P = P; of_files = typed; signature = s; least = least }

  seen : map file_view trees ≡ map forget_file typed.of_files.trees
  seen = sym (ap (map forget_file) placed ∙ all_seen forgets trees)

  -- what holds of these texts, tokens and trees holds of those of the files
  told : (Holds : List (List ℕ) → List (List Token) → List SourceTree → Type 0) → Holds texts tokens (map file_view trees) → Holds (texts_of files) typed.of_files.tokens (map forget_file typed.of_files.trees)
  told Holds h = subst (λ v. Holds (texts_of files) typed.of_files.tokens v) seen (subst (λ t. Holds (texts_of files) t (map file_view trees)) (sym lexed) (subst (λ x. Holds x tokens (map file_view trees)) read h))

  pub annotated : (new : List (List ℕ)) (left : List Left) → AreWorded (chosen_slots terse P s) imports P s texts tokens (map file_view trees) new → left ≡ map (left_at P) (unspelled_slots P s) → AreAnnotated infer terse imports files new left
  annotated new left h e = record { solved = solved; are = told (λ x t v. AreWorded (chosen_slots terse P s) imports P s x t v new) h; left_are = e }

  pub unannotated : (fault : AnnotateFault) (span : Span) → IsFaultOf (chosen_slots terse P s) imports P s texts tokens (map file_view trees) fault → span ≡ fault_span P fault → AreUnannotated infer terse imports files fault span
  unannotated fault span h stands = record { solved = solved; why = told (λ x t v. IsFaultOf (chosen_slots terse P s) imports P s x t v fault) h; stands = stands }

-- a program of files that has no row of types, by its trees
pub typed_of : (infer : Infer) (files : List SourceFile) (names : List (List ℕ)) (P Q : Program) (trees : List PlacedFile) → Q ≡ P → ((of : ProgramOf infer files names P) × (of.trees ≡ trees)) → NoBaseRows P → (typed : TypedProgramOf infer files names Q) × (typed.of_files.trees ≡ trees)
typed_of infer files names P Q trees same of none = subst (λ R. (typed : TypedProgramOf infer files names R) × (typed.of_files.trees ≡ trees)) (sym same) (record { of_files = of.0; typed = none }, of.1)
