-- Which inferred slots get words: those whose qualifier some annotation says, and, where words are terse, isn't the default.
use Rattle.std.specs.Prelude.{ℕ, ◌+◌, Bool, not, ◌&&◌, List, [], ◌∷◌, slice_index_or}
use Rattle.jn_quals.specs.Qualifier.{Qualifier}
use Rattle.jn_quals.specs.Order.{no_qual}
use Rattle.jn_points.specs.declared.program.SlotInfo.{SlotInfo}
use Rattle.jn_points.specs.declared.program.Program.{Program}
use Rattle.jn_annotate.specs.Words.{is_unspelled}

-- what a position says on which nothing is written, where it isn't inferred: initialized, and not null
abbrev pub is_default : Qualifier → Bool
is_default q = q.committed && not q.free && not q.null

-- words are put for the qualifier
abbrev pub gets_words : Bool → Qualifier → Bool
gets_words terse q = not (is_unspelled q) && not (terse && is_default q)

module _ (terse : Bool) (s : List Qualifier) where
  -- slots from the k-th on, of which only those count as inferred that get words
  abbrev pub chosen_from : ℕ → List SlotInfo → List SlotInfo
  chosen_from k [] = []
  chosen_from k (info ∷ slots) = record { start = info.start; inferred = info.inferred && gets_words terse (slice_index_or s k no_qual) } ∷ chosen_from (k + 1) slots

-- a program's slots, which count as inferred only where they get words
abbrev pub chosen_slots : Bool → Program → List Qualifier → List SlotInfo
chosen_slots terse P s = chosen_from terse s 0 P.slots
