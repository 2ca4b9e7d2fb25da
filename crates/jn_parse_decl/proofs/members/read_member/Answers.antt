use Rattle.std.proofs.Common.{◌≡◌, subst, refl, IfOk}
use Rattle.jn_trees.specs.Pieces.{kinds}
use Rattle.jn_trees.specs.View.{marks}
use Rattle.jn_parse_decl_law.specs.PieceReader.{TryPiece, member_behind}
use Rattle.jn_parse_decl.specs.Seen.{seen_piece}
use Rattle.jn_parse_decl.proofs.Found.{member_reads}
use Rattle.jn_parse_decl.proofs.members.read_member.Goals as goal

pub returns-in_ok-modifiers-in-None : goal.returns-in_ok-modifiers-in-None
returns-in_ok-modifiers-in-None c =
    let us = kinds c.in_ok-modifiers-in-None.rest.now in
    let ms = marks c.in_ok-modifiers-in-None.modifiers.items in
    subst (λ (r : TryPiece). IfOk c.member_behind.result (λ o. seen_piece o ≡ r))
    (member_reads c.args.owner (kinds c.args.tokens.now) us ms (member_behind c.args.owner ms us) c.in-None.ensures c.in_ok-modifiers-in-None.ensures refl)
    c.member_behind.ensures
