-- Actions of the files' report.
use Rattle.std.proofs.Common.{◌≡◌, ℕ, true, List, [], ◌∷◌, ◌++◌, map, Some, None, refl, sym, ap, ◌∙◌, subst}
use Rattle.std.specs.Prelude.{filter}
use Rattle.std.proofs.lemmas.Bool.{false≢true}
use Rattle.jn_annotate.specs.Shared.{IsLeast, is_among, shared_slots}
use Rattle.jn_base.specs.declared.infer.Infer.{Infer}
use Rattle.jn_base.specs.declared.place.Row.{Row}
use Rattle.jn_command.specs.declared.report.Report.TheVariants.{Refused, Checked}
use Rattle.jn_env.specs.Order.{Table}
use Rattle.jn_front.specs.declared.source.SourceFile.{SourceFile}
use Rattle.jn_inference_law.specs.Solution.{IsLeastSignature}
use Rattle.jn_lsp_text.specs.declared.encoding.Encoding.{Encoding}
use Rattle.jn_lsp_text.specs.declared.range.Range.{Range}
use Rattle.jn_lsp_text.specs.declared.reply.Action.{Action}
use Rattle.jn_lsp_text.specs.declared.reply.Diagnostic.{Diagnostic}
use Rattle.jn_note_words.specs.declared.note.Notes.{Notes}
use Rattle.jn_notes.specs.Noted.{AreLeastTables, AreNotesOf}
use Rattle.jn_places.specs.Forget.{forget_file}
use Rattle.jn_places.specs.PlacedView.{placed_file}
use Rattle.jn_points.specs.declared.program.Program.{Program}
use Rattle.jn_quals.specs.Qualifier.{Qualifier}
use Rattle.jn_system.specs.Rows.{AreBroken}
use Rattle.jn_trees.specs.declared.declaration.FileTree.{FileTree}
use Rattle.jn_trees.specs.declared.token.Token.{Token}
use Rattle.jn_trees.specs.Trees.{SourceTree}
use Rattle.jn_trees.specs.View.{file_view}
use Rattle.jn_phases.specs.Phases.{IsPhase, TypedProgramOf}
use Rattle.jn_report.specs.Report.{IsCheckedBy}
use Rattle.jn_lsp_actions.specs.declared.edits.Writing.TheVariants.{Null}
use Rattle.jn_lsp_actions.specs.Mended.{diagnostics_of}
use Rattle.jn_lsp_actions.specs.Offered.{AreActions, AreOfAsked, AreOfInferred, AreOfRows, AreOfRules, AreUnlessShared, AreWritten, given_for, is_asked_row}
use Rattle.jn_lsp_actions.specs.Own.{rows_want}

pub views : ((tree : FileTree) → forget_file (placed_file tree) ≡ file_view tree) → (trees : List FileTree) → map file_view trees ≡ map forget_file (map placed_file trees)
views view [] = refl
views view (tree ∷ trees) = λ i. sym (view tree) i ∷ views view trees i

module _ (encoding : Encoding) (files : List SourceFile) (names : List (List ℕ)) (tokens : List (List Token)) (trees : List SourceTree) (P : Program) (s : List Qualifier) (rows : List Row) (diagnostics : List Diagnostic) where
  shared : (n : ℕ) (ns : List ℕ) (actions : List Action) → is_among n ns ≡ true → actions ≡ [] → AreUnlessShared encoding files names tokens trees P s rows diagnostics ns actions
  shared n [] actions h e = absurd (false≢true h)
  shared n (m ∷ ns) actions h e = e

  -- where a type is shared
  pub some_shared : (n : ℕ) (actions : List Action) → IsLeast (Some n) (shared_slots P s trees P.fields) → actions ≡ [] → AreOfInferred encoding files names tokens trees P s rows diagnostics actions
  some_shared n actions h e = shared n (shared_slots P s trees P.fields) actions h.0 e

  -- where none is
  pub none_shared : (actions : List Action) → IsLeast None (shared_slots P s trees P.fields) → AreWritten encoding files names tokens trees P s rows diagnostics actions → AreOfInferred encoding files names tokens trees P s rows diagnostics actions
  none_shared actions e h = subst (λ (ns : List ℕ). AreUnlessShared encoding files names tokens trees P s rows diagnostics ns actions) (sym e) h

  -- with those that write null after them
  pub with_nulls : (tables : List Table) (wants : List (List ℕ)) (inferred all : List Action) → AreLeastTables P s tables → wants ≡ rows_want P s tables rows
      → AreOfInferred encoding files names tokens trees P s rows diagnostics inferred → all ≡ inferred ++ given_for encoding files names tokens trees P s Null wants diagnostics → AreOfRows encoding files names tokens trees P s rows diagnostics all
  with_nulls tables wants inferred all solved are h e = record {
    inferred = inferred;
    nulls = given_for encoding files names tokens trees P s Null wants diagnostics;
    of_inferred = h;
    of_nulls = record { tables = tables; solved = solved; are = ap (λ (slots : List (List ℕ)). given_for encoding files names tokens trees P s Null slots diagnostics) are };
    are = e;
  }

-- of rows with their notes, and of those that are asked for
module _ (encoding : Encoding) (files : List SourceFile) (names : List (List ℕ)) (tokens : List (List Token)) (trees : List SourceTree) (P : Program) (s : List Qualifier) where
  pub of_noted : (rows : List Row) (notes : List Notes) (diagnostics : List Diagnostic) (actions : List Action) → AreNotesOf P names s rows notes → diagnostics ≡ diagnostics_of encoding files rows notes
      → AreOfRows encoding files names tokens trees P s rows diagnostics actions → AreOfAsked encoding files names tokens trees P s rows actions
  of_noted rows notes diagnostics actions noted are h = record { notes = notes; noted = noted; of_rows = subst (λ (ds : List Diagnostic). AreOfRows encoding files names tokens trees P s rows ds actions) are h }

  pub of_those : (name : List ℕ) (range : Range) (rows asked : List Row) (actions : List Action) → asked ≡ filter (is_asked_row encoding files name range) rows → AreOfAsked encoding files names tokens trees P s asked actions
      → AreOfRules encoding files name range names tokens trees P s rows actions
  of_those name range rows asked actions are h = subst (λ (rs : List Row). AreOfAsked encoding files names tokens trees P s rs actions) are h

module _ (infer : Infer) (encoding : Encoding) (files : List SourceFile) (name : List ℕ) (range : Range) where
  -- of files that were checked
  pub of_checked : (names : List (List ℕ)) (P : Program) (s : List Qualifier) (tokens : List (List Token)) (trees : List FileTree) (rows : List Row) (actions : List Action)
      → ((tree : FileTree) → forget_file (placed_file tree) ≡ file_view tree)
      → (typed : TypedProgramOf infer files names P) → typed.of_files.trees ≡ map placed_file trees → tokens ≡ typed.of_files.tokens
      → IsLeastSignature P s → AreBroken P s rows
      → AreOfRules encoding files name range names tokens (map file_view trees) P s rows actions → AreActions infer encoding files name range actions
  of_checked names P s tokens trees rows actions view typed these same least broken are =
      let checked : IsCheckedBy infer files rows = record { names = names; P = P; of_files = typed; rules = record { signature = s; least = least; broken = broken.all; breaks = broken.broken; order = broken.ordered } } in
      let forgotten : map file_view trees ≡ map forget_file typed.of_files.trees = views view trees ∙ ap (map forget_file) (sym these) in
      record {
        report = Checked rows;
        is = checked;
        offered = (checked, subst (λ (ts : List SourceTree). AreOfRules encoding files name range names typed.of_files.tokens ts P s rows actions) forgotten (subst (λ (tss : List (List Token)). AreOfRules encoding files name range names tss (map file_view trees) P s rows actions) same are));
      }

  -- of files that are refused
  pub of_refused : (rows : List Row) (actions : List Action) → IsPhase infer files rows → actions ≡ [] → AreActions infer encoding files name range actions
  of_refused rows actions phase none = record { report = Refused rows; is = phase; offered = none }
