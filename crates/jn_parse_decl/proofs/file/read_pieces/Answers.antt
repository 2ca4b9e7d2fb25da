use Rattle.std.proofs.Common.{◌<◌, length, sym, subst, arith}
use Rattle.jn_trees.specs.Pieces.{AtStart, kinds}
use Rattle.jn_parse_decl_law.specs.Progress.{IsReached}
use Rattle.jn_parse_decl.specs.Seen.{built_view, around_view, piece_view}
use Rattle.jn_parse_decl.proofs.Turns.{moved}
use Rattle.jn_parse_decl.proofs.file.read_pieces.Goals as goal

pub pieces-init : goal.pieces-init
pieces-init g c =
    let ts = kinds c.args.tokens.now in
    subst (λ b. IsReached ts b AtStart ts) (sym c.nothing-built.ensures) (c.pieces_are_read_in_turn.ensures.begun ts)

pub pieces-smaller : goal.pieces-smaller
pieces-smaller g c =
    let read = rw c.in-Some.is at c.in_ok-read_piece.ensures in
    let less : length (kinds c.in-Some.rest.now) < length (kinds c.pieces.left.now) = c.pieces_are_read_in_turn.ensures.shorter (around_view c.pieces.around) (kinds c.pieces.left.now) (piece_view c.in-Some.piece) (kinds c.in-Some.rest.now) (sym read) in
    let ahead = c.in_ok-left-in-Some.ensures.0 in
    omega (arith, less, ahead)

pub pieces-preserved : goal.pieces-preserved
pieces-preserved g c =
    let read = rw c.in-Some.is at c.in_ok-read_piece.ensures in
    c.in_ok-left-in-Some.ensures.1 (kinds c.args.tokens.now)
    (moved c.pieces_are_read_in_turn.ensures.more (kinds c.args.tokens.now) (built_view c.pieces.built) _ (around_view c.pieces.around) (around_view c.behind-around.result) (kinds c.pieces.left.now) (kinds c.in-Some.rest.now) (piece_view c.in-Some.piece)
    c.pieces.invariant read c.behind-around.ensures c.in_ok-add-in-Some.ensures)
