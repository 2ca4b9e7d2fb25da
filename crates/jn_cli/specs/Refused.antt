-- What a refusal says.
use Rattle.std.specs.Prelude.{Result, Ok, Err}
use Rattle.jn_base.specs.declared.refusal.Fail.{Fail}
use Rattle.jn_base.specs.declared.refusal.Fail.TheVariants.{Refused, OutOfMemory}

-- where the call refused, P holds
abbrev pub IfRefused : {T E : Type 0} → Result T (Fail E) → Type 0 → Type 0
IfRefused (Ok value) P = Unit {0}
IfRefused (Err (Refused cause)) P = P
IfRefused (Err OutOfMemory) P = Unit {0}
