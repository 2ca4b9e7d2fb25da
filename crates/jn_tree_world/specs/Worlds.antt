-- Worlds and places of the code as those of the definition.
use Rattle.std.specs.Prelude.{List, Option, Some, None, Vec}
use Rattle.std.specs.declared.alloc.Global.{Global}
use Rattle.jn_meaning.specs.Worlds as spec
use Rattle.jn_meaning.specs.Operations as ops
use Rattle.jn_tree_world.specs.declared.world.World.{World}
use Rattle.jn_tree_world.specs.declared.place.Place.{Place}
use Rattle.jn_tree_world.specs.declared.place.Place.TheVariants.{Local, Static, Field, Element, Length, Nothing}

abbrev pub world_of : World → spec.World
world_of w = record { heap = w.heap.items; statics = w.statics.items; out = w.out.items; locals = w.locals.items; fuel = w.fuel }

abbrev pub place_of : Place → ops.Place
place_of (Local r) = ops.LocalPlace r.0
place_of (Static f) = ops.StaticPlace f.0
place_of (Field o at f) = ops.FieldPlace o at f.0
place_of (Element a at i) = ops.ElementPlace a at i
place_of (Length a at) = ops.LengthPlace a at
place_of Nothing = ops.NoPlace

-- the items of a list, where there is one
abbrev pub items_in : {A : Type 0} → Option (Vec A Global) → Option (List A)
items_in None = None
items_in (Some v) = Some v.items

abbrev pub items_of : {A : Type 0} → Vec A Global → List A
items_of v = v.items
