-- What a class is asked for, a field or a method.
use Rattle.std.specs.Prelude.{ℕ, length, Option}
use Rattle.jn_points.specs.declared.program.Program.{Program}
use Rattle.jn_points.specs.declared.members.Sought.{Sought}
use Rattle.jn_points.specs.declared.members.Sought.TheVariants.{Field, Method}
use Rattle.jn_points.specs.Members.{declared_method, declared_field}

-- what class d declares for class c
abbrev pub declared : Program → Sought → ℕ → ℕ → Option ℕ
declared P (Field name) c d = declared_field P c name.0 d
declared P (Method name arity) c d = declared_method P c name.0 arity d

-- how many fields or methods there are
abbrev pub count_of : Program → Sought → ℕ
count_of P (Field name) = length P.fields
count_of P (Method name arity) = length P.methods
