-- What is shown for a request of what stands at a position (Language Server Protocol 3.17, "Hover Request").
use Rattle.std.specs.Prelude.{ℕ, ◌≡◌, Bool, true, false, List, Option, None}
use Rattle.jn_base.specs.declared.infer.Infer.{Infer}
use Rattle.jn_front.specs.declared.source.SourceFile.{SourceFile}
use Rattle.jn_lsp_hover.specs.Hovered.{IsHover}
use Rattle.jn_lsp_text.specs.declared.encoding.Encoding.{Encoding}
use Rattle.jn_lsp_text.specs.declared.position.Position.{Position}
use Rattle.jn_lsp_text.specs.declared.message.Message.{Message}
use Rattle.jn_lsp_text.specs.declared.message.Message.TheVariants.{Hover as HoverAsked}
use Rattle.jn_lsp_text.specs.declared.reply.Hover.{Hover}
use Rattle.jn_lsp.specs.declared.phase.Phase.{Phase}
use Rattle.jn_lsp.specs.declared.phase.Phase.TheVariants.{Serving}
use Rattle.jn_lsp.specs.Names.{is_empty}

module _ (infer : Infer) (encoding : Encoding) where
  -- what is shown of the files, where all texts are known; else nothing, since it would stand at a wrong place
  abbrev pub IsHoverIf : Bool → List SourceFile → List ℕ → Position → Option Hover → Type 0
  IsHoverIf false files name position hover = hover ≡ None
  IsHoverIf true files name position hover = IsHover infer encoding files name position hover

  -- that for a request of it; other messages have none
  abbrev pub IsHoverFor : List (List ℕ) → List SourceFile → Message → Option Hover → Type 0
  IsHoverFor unknown files (HoverAsked id name position) hover = IsHoverIf (is_empty unknown) files name position hover
  IsHoverFor unknown files other hover = hover ≡ None

-- it is shown only while the server serves
abbrev pub IsHoverIn : Phase → Infer → Encoding → List (List ℕ) → List SourceFile → Message → Option Hover → Type 0
IsHoverIn Serving infer encoding unknown files message hover = IsHoverFor infer encoding unknown files message hover
IsHoverIn _ _ _ _ _ _ hover = hover ≡ None
