-- What a written `@Nullable` says of the slot where it stands.
use Rattle.std.specs.Prelude.{ℕ, ◌≡◌, Bool, true, false}
use Rattle.jn_heads.specs.Extract.{notes_by}
use Rattle.jn_heads.specs.Types.{slot_of}
use Rattle.jn_heads.specs.declared.head.Notes.{Notes}
use Rattle.jn_known.specs.Known.{nullable_name}
use Rattle.jn_points.specs.declared.program.SlotInfo.{SlotInfo}
use Rattle.jn_quals.specs.Qualifier.{Qualifier}

-- the slot isn't inferred, and may be null
abbrev pub TakesNull : SlotInfo → Type 0
TakesNull info = (info.start.null ≡ true) × (info.inferred ≡ false)

-- where the word is among the annotations on a position, of a member whose positions are inferred or not
abbrev pub SaysNull : (Notes → Qualifier) → Type 0
SaysNull qual = (has : ℕ → Bool) (infers : Bool) → has nullable_name ≡ true → TakesNull (slot_of infers (notes_by has) (qual (notes_by has)))
