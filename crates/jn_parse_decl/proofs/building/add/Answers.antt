use Rattle.std.proofs.Common.{Some, sym, ap, ◌∙◌}
use Rattle.jn_parse_decl_law.specs.Built.{add}
use Rattle.jn_parse_decl.specs.declared.piece.Piece.{Piece}
use Rattle.jn_parse_decl.specs.Seen.{built_view, inside_of, piece_view}
use Rattle.jn_parse_decl.proofs.Views.{add_head}
use Rattle.jn_parse_decl.proofs.building.add.Goals as goal

pub returns-in-TypeHead : goal.returns-in-TypeHead
returns-in-TypeHead c =
    add_head (built_view c.args.built.now) c.in-TypeHead.head (inside_of (Some c.open_type.result)) c.open_type.ensures
    ∙ ap (λ (p : Piece). add (built_view c.args.built.now) (piece_view p)) (sym c.in-TypeHead.is)
