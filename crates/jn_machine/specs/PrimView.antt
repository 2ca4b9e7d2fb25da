-- Ints and booleans of the code as those of the definition.
use Rattle.jn_machine.specs.declared.prim.Plain.{Plain}
use Rattle.jn_machine.specs.declared.prim.Plain.TheVariants.{Int, Bool}
use Rattle.jn_heap.specs.Values.{Prim, Number, Truth}

abbrev pub plain_view : Plain → Prim
plain_view (Int n) = Number n
plain_view (Bool b) = Truth b
