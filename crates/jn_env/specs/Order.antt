-- Order and join of environments and tables: qualifiers grow, facts and assigned fields shrink. What is unreached is below all.
use Rattle.std.specs.Prelude.{ℕ, Bool, not, ◌&&◌, ◌||◌, IsTrue, List, [], ◌∷◌, Option, Some, None, slice_index_or}
use Rattle.jn_quals.specs.Qualifier.{Qualifier}
use Rattle.jn_quals.specs.Order.{join, within, no_qual}
use Rattle.jn_env.specs.Environment.{Env}

-- for each point of a body its environment, where it is reached
abbrev pub Table : Type 0
Table = List (Option Env)

-- what is known at a point, None where it is unreached
abbrev pub env_in : List (Option Env) → ℕ → Option Env
env_in t p = slice_index_or t p None

-- what the value in a register may be, nothing for a register that the environment lacks
abbrev pub qual_at : Env → ℕ → Qualifier
qual_at e r = slice_index_or e.quals r no_qual

-- lists of one length, each qualifier of the first within the one at its place in the second
abbrev pub QualsWithin : List Qualifier → List Qualifier → Type 0
QualsWithin [] [] = Unit {0}
QualsWithin [] (b ∷ bs) = ⊥
QualsWithin (a ∷ as') [] = ⊥
QualsWithin (a ∷ as') (b ∷ bs) = IsTrue (within a b) × QualsWithin as' bs

-- the first has all bits of the second
abbrev pub BitsAbove : List Bool → List Bool → Type 0
BitsAbove [] [] = Unit {0}
BitsAbove [] (b ∷ bs) = ⊥
BitsAbove (a ∷ as') [] = ⊥
BitsAbove (a ∷ as') (b ∷ bs) = IsTrue (not b || a) × BitsAbove as' bs

-- the first says at least what the second says: each qualifier is within, and no fact or assigned field of the second is missing
pub record EnvWithin (a b : Env) : Type 0 where
  pub quals : QualsWithin a.quals b.quals
  pub facts : BitsAbove a.facts b.facts
  pub assigned : BitsAbove a.assigned b.assigned

-- the same at a point: what is unreached is within all, and nothing else is within what is unreached
abbrev pub SlotWithin : Option Env → Option Env → Type 0
SlotWithin None b = Unit {0}
SlotWithin (Some a) None = ⊥
SlotWithin (Some a) (Some b) = EnvWithin a b

-- tables of one length, each point of the first within the one at its place in the second
abbrev pub TableWithin : List (Option Env) → List (Option Env) → Type 0
TableWithin [] [] = Unit {0}
TableWithin [] (b ∷ bs) = ⊥
TableWithin (a ∷ as') [] = ⊥
TableWithin (a ∷ as') (b ∷ bs) = SlotWithin a b × TableWithin as' bs

-- by union
abbrev pub join_quals : List Qualifier → List Qualifier → List Qualifier
join_quals [] bs = bs
join_quals (a ∷ as') [] = a ∷ as'
join_quals (a ∷ as') (b ∷ bs) = join a b ∷ join_quals as' bs

-- by intersection
abbrev pub meet_bits : List Bool → List Bool → List Bool
meet_bits [] bs = bs
meet_bits (a ∷ as') [] = a ∷ as'
meet_bits (a ∷ as') (b ∷ bs) = (a && b) ∷ meet_bits as' bs

-- what is known where two paths meet: a value may be what it may be on either, and what holds on both holds
abbrev pub join_env : Env → Env → Env
join_env a b = record { quals = join_quals a.quals b.quals; facts = meet_bits a.facts b.facts; assigned = meet_bits a.assigned b.assigned }

-- what is known at a point after one more edge comes to it, perhaps the first
abbrev pub join_slot : Option Env → Env → Option Env
join_slot None e = Some e
join_slot (Some a) e = Some (join_env a e)
