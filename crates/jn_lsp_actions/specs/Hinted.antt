-- The words that are shown in a range of a file, where they aren't written: those that annotating puts there for what is inferred, with why.
use Rattle.std.specs.Prelude.{ℕ, ◌≡◌, ◌⊎◌, ◌-◌, Bool, false, bytes_eq, codes, drop, filter, if◌then◌else◌, length, List, [], ◌∷◌, map, nat_eq, take}
use Rattle.std.specs.List.{ends_with, starts_with}
use Rattle.std.specs.Str.Lossy.{utf8_lossy}
use Rattle.jn_base.specs.declared.infer.Infer.{Infer}
use Rattle.jn_base.specs.declared.place.Row.{Row}
use Rattle.jn_annotate.specs.Chosen.{chosen_slots}
use Rattle.jn_annotate.specs.Insertions.{file_fields, file_methods, in_file}
use Rattle.jn_annotate.specs.Shared.{shared_slots}
use Rattle.jn_env.specs.Order.{Table}
use Rattle.jn_front.specs.declared.source.SourceFile.{SourceFile}
use Rattle.jn_inference_law.specs.Solution.{IsLeastSignature}
use Rattle.jn_lsp_text.specs.Positions.{position_at}
use Rattle.jn_lsp_text.specs.declared.encoding.Encoding.{Encoding}
use Rattle.jn_lsp_text.specs.declared.position.Position.{Position}
use Rattle.jn_lsp_text.specs.declared.range.Range.{Range}
use Rattle.jn_lsp_text.specs.declared.reply.Hint.{Hint}
use Rattle.jn_lsp_text.specs.declared.reply.Related.{Related}
use Rattle.jn_lsp_solved.specs.Reasons.{AreReasons}
use Rattle.jn_lsp_solved.specs.Related.{related_of}
use Rattle.jn_note_words.specs.declared.note.Note.{Note}
use Rattle.jn_notes.specs.Noted.{AreLeastTables}
use Rattle.jn_phases.specs.Phases.{IsPhase, TypedProgramOf}
use Rattle.jn_places.specs.Forget.{forget_file}
use Rattle.jn_points.specs.declared.program.Field.{Field}
use Rattle.jn_points.specs.declared.program.Method.{Method}
use Rattle.jn_points.specs.declared.program.SlotInfo.{SlotInfo}
use Rattle.jn_points.specs.declared.program.Program.{Program}
use Rattle.jn_quals.specs.Qualifier.{Qualifier}
use Rattle.jn_splice_law.specs.Inserted.{Insertion as Words}
use Rattle.jn_trees.specs.declared.token.Token.{Token}
use Rattle.jn_trees.specs.Trees.{SourceTree}
use Rattle.jn_lsp_actions.specs.Asking.{meets}
use Rattle.jn_lsp_actions.specs.Slots.{types_slots}
use Rattle.jn_lsp_actions.specs.declared.hints.SlotHint.{SlotHint}

-- ---- words at their position

abbrev pub space : List ℕ
space = codes " "

-- a text without this front, where it has it, and without this ending
abbrev pub without_front : List ℕ → List ℕ → List ℕ
without_front front text = if starts_with nat_eq text front then drop (length front) text else text

abbrev pub without_ending : List ℕ → List ℕ → List ℕ
without_ending ending text = if ends_with nat_eq text ending then take (length text - length ending) text else text

-- words at a position: a space before them, and one after them, is told and not written; what is no UTF-8 in them is replaced
abbrev pub hint_of : Position → List ℕ → Hint
hint_of at words = record {
  at = at;
  label = utf8_lossy (without_ending space (without_front space words));
  space_before = starts_with nat_eq words space;
  space_behind = ends_with nat_eq words space;
  related = [];
}

abbrev pub hint_at : Encoding → List ℕ → Words → Hint
hint_at encoding text words = hint_of (position_at encoding text words.at) words.words

-- an end of a range is in it
abbrev pub is_within : Range → Position → Bool
is_within range at = meets (record { start = at; end = at }) range

abbrev pub is_shown : Range → Hint → Bool
is_shown range hint = is_within range hint.at

-- hints with their slots
abbrev pub slotted : List ℕ → List Hint → List SlotHint
slotted [] hints = []
slotted (slot ∷ slots) [] = []
slotted (slot ∷ slots) (hint ∷ hints) = record { slot = slot; hint = hint } ∷ slotted slots hints

abbrev pub is_slot_shown : Range → SlotHint → Bool
is_slot_shown range one = is_shown range one.hint

-- of words that are put into a text for these slots, those in a range
abbrev pub shown : Encoding → List ℕ → Range → List ℕ → List Words → List SlotHint
shown encoding text range slots words = filter (is_slot_shown range) (slotted slots (map (hint_at encoding text) words))

-- ---- words of files

-- none where a field shares its type with one of another qualifier, as there is no annotating then
abbrev pub unless_shared : List ℕ → List SlotHint → List SlotHint
unless_shared [] hints = hints
unless_shared (slot ∷ shared) hints = []

module _ (encoding : Encoding) (name : List ℕ) (range : Range) where
  module _ (slots : List SlotInfo) (s : List Qualifier) where
    -- in the first file of the name; the first fields and methods are those that the files declare
    abbrev pub shown_in : List SourceFile → List (List Token) → List SourceTree → List Field → List Method → List SlotHint
    shown_in [] tokens trees fields methods = []
    shown_in (file ∷ files) [] trees fields methods = []
    shown_in (file ∷ files) (ts ∷ tokens) [] fields methods = []
    shown_in (file ∷ files) (ts ∷ tokens) (tree ∷ trees) fields methods =
        if bytes_eq file.name name then shown encoding file.bytes range (types_slots slots tree.types fields methods) (in_file slots s file.bytes ts tree fields methods)
        else shown_in files tokens trees (drop (file_fields tree.types) fields) (drop (file_methods tree.types) methods)

  -- those of files with this program, under its signature, for each inferred slot that an annotation says
  abbrev pub hints_of : List SourceFile → List (List Token) → List SourceTree → Program → List Qualifier → List SlotHint
  hints_of files tokens trees P s = unless_shared (shared_slots P s trees P.fields) (shown_in (chosen_slots false P s) s files tokens trees P.fields (drop 1 P.methods))

-- ---- why

-- with what tells why
abbrev pub with_related : Hint → List Related → Hint
with_related hint related = record { at = hint.at; label = hint.label; space_before = hint.space_before; space_behind = hint.space_behind; related = related }

module _ (encoding : Encoding) (files : List SourceFile) (names : List (List ℕ)) (P : Program) (s : List Qualifier) (tables : List Table) where
  -- with the notes of the first chains of its slot
  abbrev pub IsExplained : SlotHint → Hint → Type 0
  IsExplained one hint = (notes : List Note) × AreReasons names P s tables one.slot notes × (hint ≡ with_related one.hint (map (related_of encoding files) notes))

  -- one by one
  abbrev pub AreExplained : List SlotHint → List Hint → Type 0
  AreExplained [] [] = Unit {0}
  AreExplained [] (hint ∷ hints) = ⊥
  AreExplained (one ∷ shown) [] = ⊥
  AreExplained (one ∷ shown) (hint ∷ hints) = IsExplained one hint × AreExplained shown hints

-- by the least tables
pub record HaveReasons (encoding : Encoding) (files : List SourceFile) (names : List (List ℕ)) (P : Program) (s : List Qualifier) (shown : List SlotHint) (hints : List Hint) : Type 0 where
  pub tables : List Table
  pub solved : AreLeastTables P s tables
  pub each : AreExplained encoding files names P s tables shown hints

-- ---- the hints of files

module _ (infer : Infer) (encoding : Encoding) (files : List SourceFile) (name : List ℕ) (range : Range) where
  -- those of files that no phase refuses, under the least signature of their program
  pub record AreInferred (hints : List Hint) : Type 0 where
    pub names : List (List ℕ)
    pub P : Program
    pub of_files : TypedProgramOf infer files names P
    pub signature : List Qualifier
    pub least : IsLeastSignature P signature
    pub are : HaveReasons encoding files names P signature (hints_of encoding name range files of_files.of_files.tokens (map forget_file of_files.of_files.trees) P signature) hints

  -- refused files get none
  abbrev pub AreHints : List Hint → Type 0
  AreHints hints = ((rows : List Row) × IsPhase infer files rows × (hints ≡ [])) ⊎ AreInferred hints
