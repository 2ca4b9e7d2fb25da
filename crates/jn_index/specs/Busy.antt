-- The classes whose methods overriding and bodies ask for.
use Rattle.std.specs.Prelude.{ℕ, ◌||◌, Bool, not, eqb, ◌&&◌, List, length}
use Rattle.jn_points.specs.declared.program.Method.{Method}
use Rattle.jn_points.specs.declared.program.Program.{Program}
use Rattle.jn_points.specs.Lookup.{method_at}
use Rattle.jn_points.specs.Members.{some_of, is_named}
use Rattle.jn_member_tables.specs.Numbers.{list_at, passes}

-- k is another method of the method's name and arity
abbrev pub is_other : Program → ℕ → Method → ℕ → Bool
is_other P m over k = not (eqb m k) && passes (λ y. is_named y over.name.0 (length over.params)) (method_at P k)

-- the method is no constructor, and another one of those of its name has its arity, too
abbrev pub has_other : Program → List (List ℕ) → ℕ → Method → Bool
has_other P named m over = not over.ctor && some_of (is_other P m over) (list_at named over.name.0)

-- the method is abstract, or another one has its name and arity
abbrev pub is_busy_method : Program → List (List ℕ) → ℕ → Bool
is_busy_method P named k = passes (λ (m : Method). m.is_abstract || has_other P named k m) (method_at P k)

-- the class declares such a method
abbrev pub is_busy : Program → List (List ℕ) → List (List ℕ) → ℕ → Bool
is_busy P own named d = some_of (is_busy_method P named) (list_at own d)
