-- The notes of rows: of the declarations that a row speaks of, and then what is told of the first chain from its value.
use Rattle.std.specs.Prelude.{ℕ, zero, suc, ◌<◌, ◌-◌, ◌≡◌, Bool, true, false, List, [], ◌∷◌, ◌++◌, drop, length, map, take, Option, Some, None, slice_index_or}
use Rattle.jn_base.specs.declared.place.Row.{Row}
use Rattle.jn_quals.specs.Qualifier.{Qualifier}
use Rattle.jn_points.specs.declared.program.Program.{Program}
use Rattle.jn_env.specs.Order.{Table}
use Rattle.jn_transfer.specs.Least.{IsLeastTable}
use Rattle.jn_reasons_law.specs.declared.item.Item.{Item}
use Rattle.jn_reasons_law.specs.declared.item.Step.{Step}
use Rattle.jn_reasons_law.specs.Choice.{IsFirstChain, told}
use Rattle.jn_note_words.specs.declared.note.Note.{Note}
use Rattle.jn_note_words.specs.declared.note.Notes.{Notes}
use Rattle.jn_notes.specs.declared.topics.Topic.{Topic}
use Rattle.jn_notes.specs.Asked.{item_of}
use Rattle.jn_notes.specs.Spoken.{topic_note, topics_of}
use Rattle.jn_note_words.specs.Unkept.{preceded}
use Rattle.jn_note_words.specs.Leaving.{read_in}
use Rattle.jn_notes.specs.Voids.{AreVoids}
use Rattle.jn_note_words.specs.Worded.{step_span, step_words}

-- how many steps of a chain are shown at most, and how many declarations that a row speaks of
abbrev pub most_shown : ℕ
most_shown = 8

-- no note is shown, and none is left out
abbrev pub no_notes : Notes
no_notes = record { shown = []; more = 0 }

-- how many notes are left out: of the declarations, where any are, and else of the chain
abbrev pub left_out : ℕ → ℕ → ℕ
left_out zero more = more
left_out (suc n) more = suc n

-- the steps before the last one, at most 7 of them
abbrev pub before_last : List Step → List Step
before_last steps = take (most_shown - 1) (take (length steps - 1) steps)

-- the last step, at which a chain ends; none where there is no step
abbrev pub last_of : List Step → List Step
last_of steps = drop (length steps - 1) steps

module _ (P : Program) (names : List (List ℕ)) where
  -- a step in words, and where it stands, and whether the chain ends there
  abbrev pub note_of : Bool → Step → Note
  note_of ends step = record { joined = false; ends = ends; words = step_words P names step; span = step_span P step }

  -- of the steps that are told the first 7 before the last one, and that one
  abbrev pub step_notes : List Step → List Note
  step_notes steps = map (note_of false) (before_last steps) ++ map (note_of true) (last_of steps)

  -- the notes of a test or an assignment that something made void, and then those of the steps that are told
  abbrev pub noted : List Note → List Step → Notes
  noted voids steps = record { shown = voids ++ step_notes steps; more = length steps - most_shown }

  -- the notes of the first 8 declarations that a row speaks of, and then those of its chain
  abbrev pub headed : Row → List Topic → Notes → Notes
  headed row topics notes = record { shown = map (topic_note P names row.span) (take most_shown topics) ++ notes.shown; more = left_out (length topics - most_shown) notes.more }

  module _ (s : List Qualifier) (tables : List Table) where
    -- of a chain: those of the read of a field by which it leaves its first registers, and what is told of it
    abbrev pub AreBy : List Step → Notes → Type 0
    AreBy steps notes = (voids : List Note) × AreVoids P names s tables (read_in P steps) voids × (notes ≡ noted voids (told steps))

    -- of the first chain from the item
    abbrev pub AreFrom : Option Item → Notes → Type 0
    AreFrom None notes = notes ≡ no_notes
    AreFrom (Some x) notes = (steps : List Step) × IsFirstChain P s tables x steps × AreBy steps notes

    -- the notes of a row: those of the declarations that it speaks of, that of a test that isn't kept, and then those of the item
    abbrev pub AreNotes : Row → Notes → Type 0
    AreNotes row notes = (behind : Notes) × AreFrom (item_of P s row tables) behind × (notes ≡ headed row (topics_of P s row tables) (preceded P (item_of P s row tables) behind))

    -- row by row
    abbrev pub AreEach : List Row → List Notes → Type 0
    AreEach [] [] = Unit {0}
    AreEach [] (n ∷ notes) = ⊥
    AreEach (row ∷ rows) [] = ⊥
    AreEach (row ∷ rows) (n ∷ notes) = AreNotes row n × AreEach rows notes

-- the least table of each body
pub record AreLeastTables (P : Program) (s : List Qualifier) (tables : List Table) : Type 0 where
  pub long : length tables ≡ length P.bodies
  pub least : (b : ℕ) → b < length P.bodies → IsLeastTable P s b (slice_index_or tables b [])

-- the notes of each row, under the least tables
pub record AreNotesOf (P : Program) (names : List (List ℕ)) (s : List Qualifier) (rows : List Row) (notes : List Notes) : Type 0 where
  pub tables : List Table
  pub solved : AreLeastTables P s tables
  pub each : AreEach P names s tables rows notes
