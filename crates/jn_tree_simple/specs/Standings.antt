-- Where statements stand, and flows, of the code as those of the definition.
use Rattle.std.specs.Prelude.{ℕ, ◌-◌, drop, length}
use Rattle.jn_meaning.specs.Statements as spec
use Rattle.jn_tree_simple.specs.declared.standing.Standing.{Standing}
use Rattle.jn_tree_simple.specs.declared.flow.Flow.{Flow}
use Rattle.jn_tree_simple.specs.declared.flow.Flow.TheVariants.{Onward, Breaks, Continues, Returns}

abbrev pub flow_of : Flow → spec.Flow
flow_of Onward = spec.Onward
flow_of Breaks = spec.Breaks
flow_of Continues = spec.Continues
flow_of (Returns v) = spec.Returns v

abbrev pub standing_of : Standing → spec.Standing
standing_of st = record { scope = st.scope; count = st.count }

-- a scope with only the first declared names left, and so many locals
abbrev pub back_to : spec.Standing → ℕ → ℕ → spec.Standing
back_to st names count = record { scope = drop (length st.scope - names) st.scope; count = count }

-- what is done goes on after itself
abbrev pub onward_of : {A : Type 0} → A → spec.Flow
onward_of u = spec.Onward
