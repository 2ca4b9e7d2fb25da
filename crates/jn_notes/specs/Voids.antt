-- The notes of a fact that something made void: where a field was tested or assigned so that it isn't null, and what may have changed that since, before
-- the field was read.
use Rattle.std.specs.Prelude.{ℕ, ◌≡◌, Bool, true, false, cond, codes, eqb, not, ◌&&◌, List, [], ◌∷◌, ◌++◌, Option, Some, None, slice_index_or}
use Rattle.jn_quals.specs.Qualifier.{Qualifier}
use Rattle.jn_points.specs.declared.program.Program.{Program}
use Rattle.jn_points.specs.Lookup.{field_info, method_in, point_at, static_of}
use Rattle.jn_env.specs.Keys.{Key}
use Rattle.jn_env.specs.Order.{Table}
use Rattle.jn_voided.specs.declared.search.Voided.{Voided}
use Rattle.jn_voided.specs.Voided.{IsFound}
use Rattle.jn_note_words.specs.declared.leaving.ReadAt.{ReadAt}
use Rattle.jn_note_words.specs.declared.note.Note.{Note}
use Rattle.jn_note_words.specs.Worded.{ended_words, field_name, how_made, point_span}

module _ (P : Program) where
  -- the object is the body's own
  abbrev pub is_this : ReadAt → Bool
  is_this read = eqb read.object 0 && not (static_of (method_in P read.body))

  -- how a field's name begins in a note: after `this.` where the object is the body's own
  abbrev pub front_words : ReadAt → List ℕ
  front_words read = cond (is_this read) (codes "`this.") (codes "the field `")

  -- the words that say of a field where it was tested or assigned
  abbrev pub made_words : List (List ℕ) → ReadAt → ℕ → List ℕ
  made_words names read p = front_words read ++ field_name names (field_info P read.field) ++ how_made (point_at P read.body p)

-- the object's register, and the field
abbrev pub key_of : ReadAt → Key
key_of read = record { reg = read.object; field = read.field }

-- where the field was tested or assigned, and on the same line what may change it
abbrev pub made_note : Program → List (List ℕ) → ReadAt → ℕ → Note
made_note P names read p = record { joined = false; ends = false; words = made_words P names read p; span = point_span (point_at P read.body p) }

-- the note of what may have changed the field after that, which goes on with the note before it
abbrev pub ended_note : Program → ReadAt → ℕ → Note
ended_note P read p = record { joined = true; ends = false; words = ended_words (point_at P read.body p); span = point_span (point_at P read.body p) }

module _ (P : Program) (names : List (List ℕ)) where
  -- the two notes of a test or an assignment and of what made it void, where there is such a pair
  abbrev pub void_notes : ReadAt → Option Voided → List Note
  void_notes read None = []
  void_notes read (Some v) = made_note P names read v.made.0 ∷ ended_note P read v.ended.0 ∷ []

  -- of the first pair
  abbrev pub AreVoids : List Qualifier → List Table → Option ReadAt → List Note → Type 0
  AreVoids s tables None notes = notes ≡ []
  AreVoids s tables (Some read) notes = (found : Option Voided) × IsFound P s read.body (slice_index_or tables read.body []) (key_of read) read.point found × (notes ≡ void_notes read found)
