-- Why a slot has its bits.
use Rattle.std.specs.Prelude.{ℕ, ◌≡◌, ◌++◌, cond, List, Option, Some, None, slice_index_or}
use Rattle.jn_env.specs.Order.{Table}
use Rattle.jn_note_words.specs.declared.note.Note.{Note}
use Rattle.jn_note_words.specs.declared.note.Notes.{Notes}
use Rattle.jn_notes.specs.Noted.{AreFrom}
use Rattle.jn_points.specs.declared.program.Program.{Program}
use Rattle.jn_quals.specs.Order.{no_qual}
use Rattle.jn_quals.specs.Qualifier.{Qualifier}
use Rattle.jn_reasons_law.specs.Items.{on}
use Rattle.jn_reasons_law.specs.declared.item.Bit.{Bit}
use Rattle.jn_reasons_law.specs.declared.item.Bit.TheVariants.{Nullable, Free}
use Rattle.jn_reasons_law.specs.declared.item.Item.{Item}
use Rattle.jn_reasons_law.specs.declared.item.Item.TheVariants.{AtSlot}

-- the item of a slot's bit, where it has that
abbrev pub bit_item : ℕ → Qualifier → Bit → Option Item
bit_item k q bit = cond (on bit q) (Some (AtSlot k bit)) None

module _ (names : List (List ℕ)) (P : Program) (s : List Qualifier) (tables : List Table) where
  -- the notes of the first chain of each bit that a slot has: that it may be null, and then that it may be under construction
  pub record AreReasons (k : ℕ) (notes : List Note) : Type 0 where
    pub null : Notes
    pub free : Notes
    pub of_null : AreFrom P names s tables (bit_item k (slice_index_or s k no_qual) Nullable) null
    pub of_free : AreFrom P names s tables (bit_item k (slice_index_or s k no_qual) Free) free
    pub are : notes ≡ null.shown ++ free.shown
