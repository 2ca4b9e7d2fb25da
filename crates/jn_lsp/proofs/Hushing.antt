-- What is told where some texts aren't known.
use Rattle.std.proofs.Common.{◌≡◌, ℕ, Bool, true, false, ◌||◌, List, [], ◌∷◌, cond, map, bytes_eq, refl, sym, ap, ◌∙◌, subst}
use Rattle.std.proofs.lemmas.Slice.Eq.{bytes_eq-Decides}
use Rattle.jn_base.specs.declared.infer.Infer.{Infer}
use Rattle.jn_front.specs.declared.source.SourceFile.{SourceFile}
use Rattle.jn_lsp_text.specs.declared.choice.Choice.{Choice}
use Rattle.jn_lsp_text.specs.declared.choice.Choice.TheVariants as choice
use Rattle.jn_lsp_text.specs.declared.encoding.Encoding.TheVariants.{Utf16}
use Rattle.jn_lsp_text.specs.declared.reply.Diagnostic.{Diagnostic}
use Rattle.jn_lsp_text.specs.declared.markup.Markup.TheVariants.{Plain}
use Rattle.jn_lsp_text.specs.declared.message.Message.{Message}
use Rattle.jn_lsp.specs.declared.diagnostics.Told.{Told}
use Rattle.jn_lsp.specs.declared.documents.Workspace.{Workspace}
use Rattle.jn_lsp.specs.declared.phase.Phase.{Phase}
use Rattle.jn_lsp.specs.declared.phase.Phase.TheVariants.{Waiting, Serving, ShutDown, Exited}
use Rattle.jn_lsp.specs.Names.{is_among}
use Rattle.jn_lsp.specs.Publications.{is_told, last_published}
use Rattle.jn_lsp.specs.Requests.{ids_answered}
use Rattle.jn_lsp.specs.Serving.{AreToldOf, files_of, workspace_of}
use Rattle.jn_lsp.specs.declared.unchecked.LastReport.{LastReport}
use Rattle.jn_lsp.specs.Reported.{IsTold}
use Rattle.jn_lsp.specs.Telling.{told_of}
use Rattle.jn_lsp.specs.Unknown.{choice_in, doubt, doubted_by, doubts_in, hushed, misread, newly, unless_unknown}
use Rattle.jn_lsp.proofs.LastPublished.{AreOwnTold}

-- ---- what is told of a name

none_either : (b : Bool) → ◌≡◌ {A = List Diagnostic} [] (cond b [] [])
none_either true = refl
none_either false = refl

module _ (unknown : List (List ℕ)) where
  pub hushed_told : (told : List Told) (name : List ℕ) → told_of (hushed unknown told) name ≡ unless_unknown unknown name (told_of told name)
  hushed_told [] name = none_either (is_among unknown name)
  hushed_told (one ∷ told) name = case (bytes_eq one.name name) refl (hushed_told told name)
    where
      case : (b : Bool) → bytes_eq one.name name ≡ b → told_of (hushed unknown told) name ≡ unless_unknown unknown name (told_of told name) → cond b (unless_unknown unknown one.name one.diagnostics) (told_of (hushed unknown told) name) ≡ unless_unknown unknown name (cond b one.diagnostics (told_of told name))
      case true e r = ap (λ n. unless_unknown unknown n one.diagnostics) ((bytes_eq-Decides one.name name).0 e)
      case false e r = r

  hushed_names : (told : List Told) (name : List ℕ) → is_told (hushed unknown told) name ≡ is_told told name
  hushed_names [] name = refl
  hushed_names (one ∷ told) name = ap (λ b. bytes_eq one.name name || b) (hushed_names told name)

  pub own_hushed : (told : List Told) → AreOwnTold told → AreOwnTold (hushed unknown told)
  own_hushed [] own = tt
  own_hushed (one ∷ told) own = (hushed_names told one.name ∙ own.0, own_hushed told own.1)

-- ---- a workspace

pub told_known : (workspace : Workspace) (last : LastReport) (came : Bool) (files : List SourceFile) (unknown : List (List ℕ)) (found all told : List Told) → files ≡ files_of workspace → unknown ≡ workspace.unknown → found ≡ all → IsTold workspace.infer workspace.encoding last came files all → told ≡ hushed unknown found → AreToldOf workspace last came all told
told_known workspace last came files unknown found all told e f same is h = record {
  is = subst (λ fs. IsTold workspace.infer workspace.encoding last came fs all) e is;
  told_is = h ∙ ap (hushed unknown) same ∙ ap (λ u. hushed u all) f;
}

pub told_nothing : (infer : Infer) (workspace : Workspace) (last : LastReport) (told : List Told) → workspace ≡ workspace_of infer Plain Utf16 [] [] [] [] → told ≡ [] → (came : Bool) × (all : List Told) × AreToldOf workspace last came all told
told_nothing infer workspace last told e none = (false, [], subst (λ w. AreToldOf w last false [] told) (sym e) (record { is = (refl, refl); told_is = none }))

-- ---- warnings

all_silent : (name : List ℕ) (last : List Diagnostic) (names : List (List ℕ)) → last_published name last (map doubt names) ≡ last
all_silent name last [] = refl
all_silent name last (first ∷ names) = all_silent name last names

misread_silent : (name : List ℕ) (last : List Diagnostic) (said : Choice) → last_published name last (misread said) ≡ last
misread_silent name last choice.Unsaid = refl
misread_silent name last (choice.Said infer) = refl
misread_silent name last choice.Wrong = refl

pub doubts_silent : (name : List ℕ) (last : List Diagnostic) (phase : Phase) (message : Message) (documents : List SourceFile) (unknown : List (List ℕ)) → last_published name last (doubts_in phase message documents unknown) ≡ last
doubts_silent name last Waiting m documents unknown = misread_silent name last (choice_in m)
doubts_silent name last Serving m documents unknown = all_silent name last (newly unknown (doubted_by m documents))
doubts_silent name last ShutDown m documents unknown = refl
doubts_silent name last (Exited in_order) m documents unknown = refl

all_unasked : (names : List (List ℕ)) → ids_answered (map doubt names) ≡ []
all_unasked [] = refl
all_unasked (first ∷ names) = all_unasked names

misread_unasked : (said : Choice) → ids_answered (misread said) ≡ []
misread_unasked choice.Unsaid = refl
misread_unasked (choice.Said infer) = refl
misread_unasked choice.Wrong = refl

pub doubts_unasked : (phase : Phase) (message : Message) (documents : List SourceFile) (unknown : List (List ℕ)) → ids_answered (doubts_in phase message documents unknown) ≡ []
doubts_unasked Waiting m documents unknown = misread_unasked (choice_in m)
doubts_unasked Serving m documents unknown = all_unasked (newly unknown (doubted_by m documents))
doubts_unasked ShutDown m documents unknown = refl
doubts_unasked (Exited in_order) m documents unknown = refl
