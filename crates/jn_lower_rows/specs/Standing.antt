-- Where a statement stands, as rows see it: the names in scope with their types, and neither registers nor temporaries.
use Rattle.std.specs.Prelude.{ℕ, ◌≡◌, ◌≤◌, List, [], ◌∷◌, ◌++◌, length, None}
use Rattle.jn_base.specs.declared.place.Row.{Row}
use Rattle.jn_lowering.specs.Locals.{State}
use Rattle.jn_lowering.specs.Scopes.{Local, Scope}
use Rattle.jn_scopes.specs.declared.context.Variable.{Variable}
use Rattle.jn_scopes.specs.Views.{scope_of}
use Rattle.jn_lower_rows.specs.declared.standing.Names.{Names}

abbrev pub plain_local : Local → Local
plain_local l = record { name = l.name; reg = 0; base = l.base; bound = None; fixed = l.fixed; faults = l.faults }

abbrev pub plain : Scope → Scope
plain [] = []
plain (l ∷ ls) = plain_local l ∷ plain ls

-- the rows of each declared type lie in a list of so many
abbrev pub AllWithin : ℕ → List Variable → Type 0
AllWithin n [] = Unit {0}
AllWithin n (v ∷ vs) = (v.faults.to ≤ n) × AllWithin n vs

-- the state's names are these
abbrev pub Stands : State → Names → Type 0
Stands st names = plain st.scope ≡ scope_of names.faults.items names.scope

abbrev pub WellKept : Names → Type 0
WellKept names = AllWithin (length names.faults.items) names.scope

-- names are added at the end
pub record Longer (old new : Names) : Type 0 where
  pub scope : List Variable
  pub faults : List Row
  pub scope_is : new.scope ≡ old.scope ++ scope
  pub faults_is : new.faults.items ≡ old.faults.items ++ faults

-- from the one place to the other: exactly these rows are added, whatever registers and temporaries there are, and the names are those of the state after
pub record Walks (rows : ℕ → State → List Row) (behind : ℕ → State → State) (old new : Names) (before after : List Row) : Type 0 where
  pub longer : Longer old new
  pub kept : WellKept new
  pub adds : (first : ℕ) (st : State) → Stands st old → after ≡ before ++ rows first st
  pub stands : (first : ℕ) (st : State) → Stands st old → Stands (behind first st) new
