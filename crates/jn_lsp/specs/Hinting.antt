-- The hints for a request of hints (Language Server Protocol 3.17, "Inlay Hint Request").
use Rattle.std.specs.Prelude.{ℕ, ◌≡◌, Bool, true, false, List, []}
use Rattle.jn_base.specs.declared.infer.Infer.{Infer}
use Rattle.jn_front.specs.declared.source.SourceFile.{SourceFile}
use Rattle.jn_lsp_actions.specs.Hinted.{AreHints}
use Rattle.jn_lsp_text.specs.declared.range.Range.{Range}
use Rattle.jn_lsp_text.specs.declared.encoding.Encoding.{Encoding}
use Rattle.jn_lsp_text.specs.declared.message.Message.{Message}
use Rattle.jn_lsp_text.specs.declared.message.Message.TheVariants.{InlayHint}
use Rattle.jn_lsp_text.specs.declared.reply.Hint.{Hint}
use Rattle.jn_lsp.specs.declared.phase.Phase.{Phase}
use Rattle.jn_lsp.specs.declared.phase.Phase.TheVariants.{Serving}
use Rattle.jn_lsp.specs.Names.{is_empty}

module _ (infer : Infer) (encoding : Encoding) where
  -- the files' hints, where all texts are known; else none, since they would stand at wrong places
  abbrev pub AreHintsIf : Bool → List SourceFile → List ℕ → Range → List Hint → Type 0
  AreHintsIf false files name range hints = hints ≡ []
  AreHintsIf true files name range hints = AreHints infer encoding files name range hints

  -- those for a request of hints; other messages have none
  abbrev pub AreHintsFor : List (List ℕ) → List SourceFile → Message → List Hint → Type 0
  AreHintsFor unknown files (InlayHint id name range) hints = AreHintsIf (is_empty unknown) files name range hints
  AreHintsFor unknown files other hints = hints ≡ []

-- they are shown only while the server serves
abbrev pub AreHintsIn : Phase → Infer → Encoding → List (List ℕ) → List SourceFile → Message → List Hint → Type 0
AreHintsIn Serving infer encoding unknown files message hints = AreHintsFor infer encoding unknown files message hints
AreHintsIn _ _ _ _ _ _ hints = hints ≡ []
