-- The diagnostics that an action mends (Language Server Protocol 3.17, CodeAction): those of the rows for which it is offered.
use Rattle.std.specs.Prelude.{ℕ, Bool, false, cond, ◌||◌, eqb, List, [], ◌∷◌, ◌++◌}
use Rattle.jn_base.specs.declared.place.Row.{Row}
use Rattle.jn_front.specs.declared.source.SourceFile.{SourceFile}
use Rattle.jn_lsp_solved.specs.Related.{diagnostic_of}
use Rattle.jn_lsp_text.specs.declared.encoding.Encoding.{Encoding}
use Rattle.jn_lsp_text.specs.declared.reply.Diagnostic.{Diagnostic}
use Rattle.jn_note_words.specs.declared.note.Notes.{Notes}

-- those of rows, each with its notes
abbrev pub diagnostics_of : Encoding → List SourceFile → List Row → List Notes → List Diagnostic
diagnostics_of encoding files [] notes = []
diagnostics_of encoding files (row ∷ rows) [] = []
diagnostics_of encoding files (row ∷ rows) (first ∷ notes) = diagnostic_of encoding files row first.shown ∷ diagnostics_of encoding files rows notes

abbrev pub comes : ℕ → List ℕ → Bool
comes slot [] = false
comes slot (other ∷ slots) = eqb other slot || comes slot slots

-- those of the rows among whose slots this one is
abbrev pub mended : List (List ℕ) → List Diagnostic → ℕ → List Diagnostic
mended [] diagnostics slot = []
mended (wants ∷ more) [] slot = []
mended (wants ∷ more) (first ∷ diagnostics) slot = cond (comes slot wants) (first ∷ []) [] ++ mended more diagnostics slot
