-- What is declared, and the state of a body's lowering after a statement, as the definitions see them.
use Rattle.std.specs.Prelude.{ℕ, ◌-◌, List, [], ◌∷◌, drop, length, Option, None, Some}
use Rattle.jn_base.specs.declared.place.Row.{Row}
use Rattle.jn_lowering.specs.Scopes.{Local, Scope}
use Rattle.jn_lowering.specs.Locals.{State}
use Rattle.jn_scopes.specs.Views.{bound_of}
use Rattle.jn_lower_stmt.specs.declared.names.Declared.{Declared}

abbrev pub rows_of : Option Row → List Row
rows_of None = []
rows_of (Some r) = r ∷ []

abbrev pub declared_local : Declared → Local
declared_local d = record { name = d.name.0; reg = d.reg.0; base = d.base; bound = bound_of d.bound; fixed = d.fixed; faults = rows_of d.fault }

-- a scope with only the first declared names left, so many of them
abbrev pub with_names : State → ℕ → State
with_names st names = record { scope = drop (length st.scope - names) st.scope; locals = st.locals; temporaries = st.temporaries }

abbrev pub with_scope : State → Scope → State
with_scope st scope = record { scope = scope; locals = st.locals; temporaries = st.temporaries }

-- the temporaries that are taken
abbrev pub with_taken : State → List ℕ → State
with_taken st taken = record { scope = st.scope; locals = st.locals; temporaries = record { bases = st.temporaries.bases; taken = taken } }
