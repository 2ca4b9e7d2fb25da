-- What is shown of files that are refused, and of those that aren't.
use Rattle.std.proofs.Common.{◌≡◌, ℕ, List, map, Option, None, inl, inr, sym, ap, ◌∙◌, subst}
use Rattle.jn_base.specs.declared.infer.Infer.{Infer}
use Rattle.jn_base.specs.declared.place.Row.{Row}
use Rattle.jn_env.specs.Order.{Table}
use Rattle.jn_front.specs.declared.source.SourceFile.{SourceFile}
use Rattle.jn_heads.specs.declared.head.ClassHead.{ClassHead}
use Rattle.jn_heads.specs.Extract.{heads}
use Rattle.jn_inference_law.specs.Solution.{IsLeastSignature}
use Rattle.jn_lsp_text.specs.declared.encoding.Encoding.{Encoding}
use Rattle.jn_lsp_text.specs.declared.position.Position.{Position}
use Rattle.jn_lsp_text.specs.declared.reply.Hover.{Hover}
use Rattle.jn_notes.specs.Noted.{AreLeastTables}
use Rattle.jn_phases.specs.Phases.{IsPhase, TypedProgramOf}
use Rattle.jn_places.specs.PlacedView.{placed_file}
use Rattle.jn_points.specs.declared.program.Program.{Program}
use Rattle.jn_quals.specs.Qualifier.{Qualifier}
use Rattle.jn_recheck.specs.Files.{place_of}
use Rattle.jn_trees.specs.declared.declaration.FileTree.{FileTree}
use Rattle.jn_lsp_hover.specs.Hovered.{IsAtPlace, IsHover}

module _ (infer : Infer) (encoding : Encoding) (files : List SourceFile) (name : List ℕ) (position : Position) where
  pub of_refused : (rows : List Row) (hover : Option Hover) → IsPhase infer files rows → hover ≡ None → IsHover infer encoding files name position hover
  of_refused rows hover phase none = inl (rows, phase, none)

  pub of_inferred : (names : List (List ℕ)) (P : Program) (s : List Qualifier) (tables : List Table) (trees : List FileTree) (all : List ClassHead) (hover : Option Hover)
      → (typed : TypedProgramOf infer files names P) → typed.of_files.trees ≡ map placed_file trees → all ≡ heads (map placed_file trees)
      → IsLeastSignature P s → AreLeastTables P s tables
      → IsAtPlace encoding files names P s tables all position (place_of name files) hover → IsHover infer encoding files name position hover
  of_inferred names P s tables trees all hover typed these heads_are least solved is = inr (record {
    names = names;
    P = P;
    of_files = typed;
    signature = s;
    least = least;
    tables = tables;
    solved = solved;
    is = subst (λ (hs : List ClassHead). IsAtPlace encoding files names P s tables hs position (place_of name files) hover) (heads_are ∙ ap heads (sym these)) is;
  })
