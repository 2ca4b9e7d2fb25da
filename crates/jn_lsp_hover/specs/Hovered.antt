-- What is shown at a position of a file (Language Server Protocol 3.17, "Hover Request"): what the value may be whose text is the narrowest there, or else
-- what a declared name's slot has, and why.
use Rattle.std.specs.Prelude.{ℕ, ◌≡◌, ◌⊎◌, List, [], filter, map, Option, Some, None, option_map, slice_index_or}
use Rattle.jn_base.specs.declared.infer.Infer.{Infer}
use Rattle.jn_base.specs.declared.place.Row.{Row}
use Rattle.jn_base.specs.declared.number.SlotNo.{SlotNo}
use Rattle.jn_base.specs.declared.place.Span.{Span}
use Rattle.jn_env.specs.Order.{Table}
use Rattle.jn_front.specs.declared.source.SourceFile.{SourceFile}
use Rattle.jn_heads.specs.declared.head.ClassHead.{ClassHead}
use Rattle.jn_heads.specs.Extract.{heads}
use Rattle.jn_inference_law.specs.Solution.{IsLeastSignature}
use Rattle.jn_lsp_text.specs.Positions.{IsOffsetOf}
use Rattle.jn_lsp_text.specs.Ranges.{range_at}
use Rattle.jn_lsp_text.specs.declared.encoding.Encoding.{Encoding}
use Rattle.jn_lsp_text.specs.declared.position.Position.{Position}
use Rattle.jn_lsp_text.specs.declared.reply.Hover.{Hover}
use Rattle.jn_note_words.specs.declared.note.Note.{Note}
use Rattle.jn_notes.specs.Noted.{AreLeastTables}
use Rattle.jn_phases.specs.Phases.{IsPhase, TypedProgramOf}
use Rattle.jn_points.specs.declared.program.Program.{Program}
use Rattle.jn_quals.specs.Order.{no_qual}
use Rattle.jn_quals.specs.Qualifier.{Qualifier}
use Rattle.jn_recheck.specs.Files.{place_of}
use Rattle.jn_lsp_hover.specs.declared.declared.Declared.{Declared}
use Rattle.jn_lsp_hover.specs.declared.spot.Spot.{Spot}
use Rattle.jn_lsp_hover.specs.Declarations.{declared_at, declared_in}
use Rattle.jn_lsp_solved.specs.Reasons.{AreReasons}
use Rattle.jn_lsp_solved.specs.Related.{no_file, related_of}
use Rattle.jn_lsp_hover.specs.Spots.{IsNarrowestOf, is_there, spots_of}
use Rattle.jn_lsp_hover.specs.Values.{qual_of}
use Rattle.jn_lsp_hover.specs.Worded.{qual_words, slot_words}

-- what is shown of a value whose text stands at the span
abbrev pub value_hover : Encoding → List ℕ → Span → Qualifier → Hover
value_hover encoding text span q = record { range = range_at encoding text span.from span.to; words = qual_words q; related = [] }

module _ (encoding : Encoding) (files : List SourceFile) (names : List (List ℕ)) (P : Program) (s : List Qualifier) (tables : List Table) where
  -- what is shown of a slot, whose name stands at the span
  abbrev pub slot_hover : List ℕ → Span → ℕ → List Note → Hover
  slot_hover text span k notes = record { range = range_at encoding text span.from span.to; words = slot_words P names k (slice_index_or s k no_qual); related = map (related_of encoding files) notes }

  -- of a declared name with this slot: what the slot has; nothing where it has none
  abbrev pub IsOfSlot : List ℕ → Span → Option SlotNo → Option Hover → Type 0
  IsOfSlot text span None hover = hover ≡ None
  IsOfSlot text span (Some k) hover = (notes : List Note) × AreReasons names P s tables k.0 notes × (hover ≡ Some (slot_hover text span k.0 notes))

  -- the same where no name may stand
  abbrev pub IsOfDeclared : List ℕ → Option Declared → Option Hover → Type 0
  IsOfDeclared text None hover = hover ≡ None
  IsOfDeclared text (Some one) hover = IsOfSlot text one.span one.slot hover

  -- of the narrowest value, where there is one
  abbrev pub IsOfSpot : List ℕ → Option Declared → Option Spot → Option Hover → Type 0
  IsOfSpot text declared None hover = IsOfDeclared text declared hover
  IsOfSpot text declared (Some spot) hover = hover ≡ option_map (value_hover encoding text spot.span) (qual_of P s tables spot)

  -- at a byte of the file of a number
  pub record IsAtByte (heads : List ClassHead) (file : ℕ) (text : List ℕ) (offset : ℕ) (hover : Option Hover) : Type 0 where
    pub spot : Option Spot
    pub narrowest : IsNarrowestOf (filter (is_there P file text offset) (spots_of P)) spot
    pub is : IsOfSpot text (declared_at file offset (declared_in heads P)) spot hover

  -- at a position of the file of a number; a name that doesn't stand has none
  abbrev pub IsAtPlace : List ClassHead → Position → Option ℕ → Option Hover → Type 0
  IsAtPlace heads position None hover = hover ≡ None
  IsAtPlace heads position (Some file) hover =
      let text : List ℕ = (slice_index_or files file no_file).bytes in
      (offset : ℕ) × IsOffsetOf encoding text position offset × IsAtByte heads file text offset hover

module _ (infer : Infer) (encoding : Encoding) (files : List SourceFile) (name : List ℕ) (position : Position) where
  -- that of files that no phase refuses, under the least signature of their program and the least tables of its bodies
  pub record IsSolved (hover : Option Hover) : Type 0 where
    pub names : List (List ℕ)
    pub P : Program
    pub of_files : TypedProgramOf infer files names P
    pub signature : List Qualifier
    pub least : IsLeastSignature P signature
    pub tables : List Table
    pub solved : AreLeastTables P signature tables
    pub is : IsAtPlace encoding files names P signature tables (heads of_files.of_files.trees) position (place_of name files) hover

  -- refused files get none
  abbrev pub IsHover : Option Hover → Type 0
  IsHover hover = ((rows : List Row) × IsPhase infer files rows × (hover ≡ None)) ⊎ IsSolved hover
