use Rattle.std.proofs.Common.{◌≡◌, subst, refl, IfOk}
use Rattle.jn_trees.specs.Pieces.{kinds}
use Rattle.jn_trees.specs.View.{marks, type_use_view}
use Rattle.jn_parse_decl_law.specs.PieceReader.{TryPiece, typed_member}
use Rattle.jn_parse_decl.specs.Seen.{seen_piece}
use Rattle.jn_parse_decl.proofs.Found.{typed_reads}
use Rattle.jn_parse_decl.proofs.members.member_behind.Goals as goal

pub returns-in-Some-2 : goal.returns-in-Some-2
returns-in-Some-2 c =
    let read = rw c.in-Some-2.is at c.in_ok-read_type_use-in-None-called.ensures in
    let ms = marks c.args.modifiers.items in
    let u = type_use_view c.in-Some-2.type_use in
    let us = kinds c.in-Some-2.rest.now in
    subst (λ (r : TryPiece). IfOk c.typed_member.result (λ o. seen_piece o ≡ r))
    (typed_reads c.args.owner ms (kinds c.args.tokens.now) us u (typed_member c.args.owner ms u us) c.in-None.ensures c.in-None-called.ensures read refl)
    c.typed_member.ensures
