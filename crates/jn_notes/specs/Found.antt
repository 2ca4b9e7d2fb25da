-- What a point gives: a register that is read there, and what takes a value there.
use Rattle.std.specs.Prelude.{List, [], Option, slice_index_or}
use Rattle.jn_quals.specs.Qualifier.{Qualifier}
use Rattle.jn_points.specs.declared.program.Program.{Program}
use Rattle.jn_env.specs.Order.{Table}
use Rattle.jn_reasons.specs.declared.sources.Spot.{Spot}
use Rattle.jn_reasons_law.specs.declared.item.Item.{Item}
use Rattle.jn_note_words.specs.declared.owners.Owner.{Owner}
use Rattle.jn_notes.specs.declared.reads.Sought.{Sought}
use Rattle.jn_notes.specs.Asked.{by_number}
use Rattle.jn_notes.specs.Spoken.{taker_at}

module _ (P : Program) (s : List Qualifier) (q : Sought) (tables : List Table) where
  -- the register that is read at a point where the rule finds the bit lacking
  abbrev pub item_by : Spot → Option Item
  item_by x = by_number P s q x.body.0 (slice_index_or tables x.body.0 []) x.point.0

  -- what takes a value at a point where the rule is broken
  abbrev pub owner_by : Spot → Option Owner
  owner_by x = taker_at P s q x.body.0 (slice_index_or tables x.body.0 []) x.point.0
