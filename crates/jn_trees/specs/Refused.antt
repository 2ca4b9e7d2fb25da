-- What a refusal says.
use Rattle.jn_base.specs.declared.refusal.Fail.{Fail}
use Rattle.jn_base.specs.declared.refusal.Fail.TheVariants.{Refused, OutOfMemory}
use Rattle.jn_base.specs.declared.place.Row.{Row}

abbrev pub IfRefused : Fail Row → (Row → Type 0) → Type 0
IfRefused (Refused row) P = P row
IfRefused OutOfMemory P = Unit {0}
