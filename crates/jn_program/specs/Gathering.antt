-- Bodies that are numbered in turn.
use Rattle.std.specs.Prelude.{ℕ, suc, false, cond, List, [], ◌∷◌, ◌++◌, flat_map, Option, Some, None}
use Rattle.jn_places.specs.Placed.{PlacedMember}
use Rattle.jn_heads.specs.Extract.{has_constructor, method_heads}
use Rattle.jn_lowering.specs.Bodies.{Source}
use Rattle.jn_program_law.specs.FileSources.{BodyTree, members_trees, unwritten_tree}
use Rattle.jn_lower_stmt.specs.Sources.{sources_of}
use Rattle.jn_program.specs.declared.sources.Gathered.{Gathered}

-- the sources so far, and the number of the next method
pub record Numbered : Type 0 where
  pub sources : List Source
  pub next : ℕ

-- what was gathered
abbrev pub numbered_of : Gathered → Numbered
numbered_of g = record { sources = sources_of g.sources.items; next = g.next }

-- after a method with this body, or with none
abbrev pub behind : Numbered → Option BodyTree → Numbered
behind n None = record { sources = n.sources; next = suc n.next }
behind n (Some t) = record { sources = n.sources ++ record { method = n.next; parameters = t.parameters; body = t.body; members = t.members } ∷ []; next = suc n.next }

-- after several
abbrev pub gathered : Numbered → List (Option BodyTree) → Numbered
gathered n [] = n
gathered n (t ∷ ts) = gathered (behind n t) ts

-- the bodies of a class with these members
abbrev pub class_trees : List PlacedMember → List (Option BodyTree)
class_trees members = cond (has_constructor (flat_map (method_heads false) members)) (members_trees false members members) (members_trees false members members ++ unwritten_tree members ∷ [])
