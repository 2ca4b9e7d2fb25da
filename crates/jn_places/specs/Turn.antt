-- Members whose places were set one after the other.
use Rattle.std.specs.Prelude.{◌≡◌, List}
use Rattle.std.specs.List.{flat_map}
use Rattle.jn_trees.specs.declared.token.Token.{Token}
use Rattle.jn_trees.specs.declared.declaration.Member.{Member}
use Rattle.jn_trees.specs.Spelling.{spell_member}
use Rattle.jn_trees.specs.View.{member_views}
use Rattle.jn_places.specs.PlacedView.{placed_members}
use Rattle.jn_places.specs.Places.{behind, place_members}

-- the old members now stand where the first of these tokens spell them, and the rest follows these
pub record InTurn (tokens : List Token) (old new : List Member) (rest : List Token) : Type 0 where
  pub placed : placed_members new ≡ place_members tokens (member_views old)
  pub behind : rest ≡ behind tokens (flat_map spell_member (member_views old))
