-- The tables of a program whose first body is a constructor of two points: the object is under construction before both.
use Rattle.std.specs.Prelude.{List, [], ◌∷◌, Some}
use Rattle.jn_quals.specs.Order.{free_only}
use Rattle.jn_env.specs.Environment.{Env}
use Rattle.jn_env.specs.Order.{Table}

abbrev pub free_env : Env
free_env = record { quals = free_only ∷ []; facts = []; assigned = [] }

abbrev pub free_tables : List Table
free_tables = (Some free_env ∷ Some free_env ∷ []) ∷ []
