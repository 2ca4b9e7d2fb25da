-- How long the lists of a program may be.
use Rattle.std.specs.Prelude.{ℕ, ◌≡◌, ◌<◌, ◌^◌, length, Some}
use Rattle.jn_points.specs.declared.program.Method.{Method}
use Rattle.jn_points.specs.declared.program.Program.{Program}
use Rattle.jn_points.specs.Lookup.{method_at}

-- no method has more parameters than a number of 32 bits counts
abbrev pub ParamsFit : Program → Type 0
ParamsFit P = (m : ℕ) (x : Method) → method_at P m ≡ Some x → length x.params < 2 ^ 32

-- numbers of fields, methods, classes and parameters fit
pub record Few (P : Program) : Type 0 where
  pub classes : length P.classes < 2 ^ 32
  pub fields : length P.fields < 2 ^ 32
  pub methods : length P.methods < 2 ^ 32
  pub parameters : ParamsFit P
