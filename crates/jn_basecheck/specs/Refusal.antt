-- What base typing refuses.
use Rattle.std.specs.Prelude.{◌≡◌, ◌↔◌, [], Vec}
use Rattle.std.specs.List.{Contains}
use Rattle.std.specs.declared.alloc.Global.{Global}
use Rattle.jn_base.specs.declared.place.Row.{Row}
use Rattle.jn_base.specs.declared.refusal.Fail.{Fail}
use Rattle.jn_base.specs.declared.refusal.Fail.TheVariants.{Refused, OutOfMemory}
use Rattle.jn_points.specs.declared.program.Program.{Program}
use Rattle.jn_points.specs.BaseRows.{IsBaseRow}

-- a refusal has exactly the rows of the program, and there is one; want of memory says nothing
abbrev pub IsRefusedFor : Program → Fail (Vec Row Global) → Type 0
IsRefusedFor P (Refused rows) = (rows.items ≡ [] → ⊥) × ((row : Row) → Contains rows.items row ↔ IsBaseRow P row)
IsRefusedFor P OutOfMemory = Unit {0}
