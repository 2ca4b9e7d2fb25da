-- The notes of rows of the phases before the rules: of files that have no trees, and of files that have.
use Rattle.std.specs.Prelude.{ℕ, ◌≡◌, ◌⊎◌, List, [], ◌∷◌, map}
use Rattle.jn_base.specs.declared.place.Row.{Row}
use Rattle.jn_front.specs.Phases.{AreParsed}
use Rattle.jn_front.specs.declared.source.SourceFile.{SourceFile}
use Rattle.jn_note_words.specs.declared.note.Notes.{Notes}
use Rattle.jn_phases.specs.Phases.{NoneParsed}
use Rattle.jn_places.specs.Placed.{PlacedFile}
use Rattle.jn_trees.specs.declared.token.Token.{Token}
use Rattle.jn_phase_notes.specs.Stops.{AreStops}
use Rattle.jn_phase_notes.specs.Trees.{row_notes}

-- of files that have no trees: beside each syntax row, where its file stops being of the subset
pub record StopNotes (files : List SourceFile) (rows : List Row) (notes : List Notes) : Type 0 where
  pub unparsed : NoneParsed files
  pub are : AreStops files rows notes

-- of files that have trees: beside a row, the other declaration of which it speaks
pub record TreeNotes (files : List SourceFile) (rows : List Row) (notes : List Notes) : Type 0 where
  pub names : List (List ℕ)
  pub tokens : List (List Token)
  pub trees : List PlacedFile
  pub parsed : AreParsed files names tokens trees
  pub are : notes ≡ map (row_notes names trees) rows

-- of any files that a phase before the rules refuses
abbrev pub PhaseNotes : List SourceFile → List Row → List Notes → Type 0
PhaseNotes files rows notes = StopNotes files rows notes ⊎ TreeNotes files rows notes

-- the notes by these names and trees; by the texts, where no name is known
abbrev pub AreNotesBy : List SourceFile → List (List ℕ) → List PlacedFile → List Row → List Notes → Type 0
AreNotesBy files [] trees rows notes = AreStops files rows notes
AreNotesBy files (name ∷ names) trees rows notes = notes ≡ map (row_notes (name ∷ names) trees) rows
