-- Where the rows of declared types lie in the list of all of them.
use Rattle.std.specs.Prelude.{ℕ, ⊤, ◌≤◌, List, [], ◌∷◌}
use Rattle.jn_scopes.specs.declared.context.Variable.{Variable}

-- the rows of each local's type are among so many
abbrev pub Within : ℕ → List Variable → Type 0
Within n [] = ⊤
Within n (v ∷ vs) = (v.faults.from ≤ v.faults.to) × (v.faults.to ≤ n) × Within n vs
