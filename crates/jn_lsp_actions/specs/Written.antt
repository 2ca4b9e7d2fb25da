-- What is written of one slot alone: the words that annotating puts where that slot alone is inferred, or `@Nullable`, with lines that import them, at their
-- positions in the file that declares the slot.
use Rattle.std.specs.Prelude.{ℕ, cond, codes, Bool, true, is_some, List, [], ◌∷◌, ◌++◌, drop, map, Option, Some, None, slice_index_or}
use Rattle.std.specs.Str.Lossy.{utf8_lossy}
use Rattle.jn_front.specs.declared.source.SourceFile.{SourceFile}
use Rattle.jn_known.specs.Known.{nullable_name}
use Rattle.jn_quals.specs.Qualifier.{Qualifier}
use Rattle.jn_quals.specs.Order.{no_qual}
use Rattle.jn_points.specs.declared.program.Field.{Field}
use Rattle.jn_points.specs.declared.program.Method.{Method}
use Rattle.jn_points.specs.declared.program.SlotInfo.{SlotInfo}
use Rattle.jn_points.specs.declared.program.Program.{Program}
use Rattle.jn_trees.specs.declared.token.Token.{Token}
use Rattle.jn_trees.specs.Trees.{SourceTree}
use Rattle.jn_splice_law.specs.Inserted.{Insertion as Words}
use Rattle.jn_annotate.specs.Words.{is_unspelled}
use Rattle.jn_annotate.specs.Imports.{with_lines}
use Rattle.jn_annotate.specs.Insertions.{file_fields, file_methods, in_file}
use Rattle.jn_annotate.specs.Taken.{declares}
use Rattle.jn_note_words.specs.Owned.{owner_of}
use Rattle.jn_note_words.specs.Worded.{owner_words}
use Rattle.jn_lsp_text.specs.Positions.{position_at}
use Rattle.jn_lsp_text.specs.declared.encoding.Encoding.{Encoding}
use Rattle.jn_lsp_text.specs.declared.reply.Action.{Action}
use Rattle.jn_lsp_text.specs.declared.reply.Diagnostic.{Diagnostic}
use Rattle.jn_lsp_text.specs.declared.reply.Insertion.{Insertion}
use Rattle.jn_lsp_actions.specs.declared.edits.Edit.{Edit}
use Rattle.jn_lsp_actions.specs.declared.edits.Writing.{Writing}
use Rattle.jn_lsp_actions.specs.declared.edits.Writing.TheVariants.{Inferred, Null}
use Rattle.jn_lsp_actions.specs.Alone.{alone}
use Rattle.jn_lsp_actions.specs.Nulls.{null_file}

-- words at their position; what is no UTF-8 in them is replaced
abbrev pub insertion_at : Encoding → List ℕ → Words → Insertion
insertion_at encoding text words = record { at = position_at encoding text words.at; text = utf8_lossy words.words }

-- no edit where there are no words
abbrev pub edit_of : Encoding → SourceFile → List Words → Option Edit
edit_of encoding file [] = None
edit_of encoding file (first ∷ more) = Some (record { name = file.name; insertions = map (insertion_at encoding file.bytes) (first ∷ more) })

abbrev pub or_edit : Option Edit → Option Edit → Option Edit
or_edit None other = other
or_edit (Some edit) other = Some edit

-- the words of a file that declares the first of these fields and methods: those of its inferred slots, or those that write null for a slot
abbrev pub words_of : Writing → ℕ → List SlotInfo → List Qualifier → SourceFile → List Token → SourceTree → List Field → List Method → List Words
words_of Inferred slot slots s file tokens tree fields methods = in_file slots s file.bytes tokens tree fields methods
words_of Null slot slots s file tokens tree fields methods = null_file slot tokens tree fields methods

module _ (writing : Writing) (slot : ℕ) (slots : List SlotInfo) (s : List Qualifier) where
  -- with lines that import them where the file doesn't
  abbrev pub words_in : SourceFile → List Token → SourceTree → List Field → List Method → List Words
  words_in file tokens tree fields methods = with_lines true file.bytes tokens tree (words_of writing slot slots s file tokens tree fields methods)

  -- of the first file that gets words
  abbrev pub first_edit : Encoding → List SourceFile → List (List Token) → List SourceTree → List Field → List Method → Option Edit
  first_edit encoding [] tokens trees fields methods = None
  first_edit encoding (file ∷ files) [] trees fields methods = None
  first_edit encoding (file ∷ files) (ts ∷ tokens) [] fields methods = None
  first_edit encoding (file ∷ files) (ts ∷ tokens) (tree ∷ trees) fields methods = or_edit (edit_of encoding file (words_in file ts tree fields methods)) (first_edit encoding files tokens trees (drop (file_fields tree.types) fields) (drop (file_methods tree.types) methods))

module _ (encoding : Encoding) (files : List SourceFile) (tokens : List (List Token)) (trees : List SourceTree) (P : Program) (s : List Qualifier) where
  -- what is written of a slot. What is inferred of it isn't where it isn't inferred, no annotation says it, or it has no words of its own since those of
  -- another field of its declaration are its words, too; null isn't where a type of the files has the annotation's name
  abbrev pub edit_of_slot : Writing → ℕ → Option Edit
  edit_of_slot Inferred slot = cond (is_unspelled (slice_index_or s slot no_qual)) None (first_edit Inferred slot (alone slot P.slots) s encoding files tokens trees P.fields (drop 1 P.methods))
  edit_of_slot Null slot = cond (declares trees nullable_name) None (first_edit Null slot P.slots s encoding files tokens trees P.fields (drop 1 P.methods))

  abbrev pub is_written : ℕ → Bool
  is_written slot = is_some (edit_of_slot Inferred slot)

abbrev pub title_front : Writing → List ℕ
title_front Inferred = codes "write what is inferred of "
title_front Null = codes "write `@Nullable` at "

abbrev pub title_of : Program → List (List ℕ) → Writing → ℕ → List ℕ
title_of P names writing slot = utf8_lossy (title_front writing ++ owner_words P names (owner_of P slot))

abbrev pub action_of : List ℕ → List Diagnostic → Edit → Action
action_of title diagnostics edit = record { title = title; diagnostics = diagnostics; name = edit.name; insertions = edit.insertions }

-- the action of an edit, where there is one
abbrev pub actions_of : List ℕ → List Diagnostic → Option Edit → List Action
actions_of title diagnostics None = []
actions_of title diagnostics (Some edit) = action_of title diagnostics edit ∷ []

-- what is given for a slot, which mends these diagnostics
abbrev pub give : Encoding → List SourceFile → List (List ℕ) → List (List Token) → List SourceTree → Program → List Qualifier → Writing → (ℕ → List Diagnostic) → ℕ → List Action
give encoding files names tokens trees P s writing mends slot = actions_of (title_of P names writing slot) (mends slot) (edit_of_slot encoding files tokens trees P s writing slot)
