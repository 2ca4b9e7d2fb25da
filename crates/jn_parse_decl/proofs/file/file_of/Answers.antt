use Rattle.std.proofs.Common.{◌≡◌, ◌-◌, sym, length, arith}
use Rattle.jn_trees.specs.View.{file_view}
use Rattle.jn_parse_decl.specs.Seen.{built_view}
use Rattle.jn_parse_decl.proofs.Turns.{cut, unfinished, whole}
use Rattle.jn_parse_decl.proofs.file.file_of.Goals as goal

pub returns-then-unread-gt0 : goal.returns-then-unread-gt0
returns-then-unread-gt0 c =
    let same : c.saturating_sub-place.result ≡ length c.args.tokens.now - length c.args.left.now = cc in
    record {
      tree = tt;
      place = cut c.pieces_build_files.ensures.found c.pieces_build_files.ensures.only c.pieces_are_read_in_turn.ensures.stops c.args.tokens.now c.args.left.now (built_view c.args.built) c.saturating_sub-place.result c.requires same (omega arith);
    }

pub returns-in-Some : goal.returns-in-Some
returns-in-Some c = record {
  tree = whole c.pieces_build_files.ensures.found c.pieces_build_files.ensures.only c.pieces_are_read_in_turn.ensures.stops c.args.tokens.now c.args.left.now (built_view c.args.built) (file_view c.in-Some.tree) c.requires (omega arith) (sym c.in-Some.ensures);
  place = tt;
}

pub returns-in-None : goal.returns-in-None
returns-in-None c =
    let same : c.saturating_sub-place.result ≡ length c.args.tokens.now - length c.args.left.now = cc in
    record {
      tree = tt;
      place = unfinished c.pieces_build_files.ensures.found c.pieces_build_files.ensures.only c.pieces_are_read_in_turn.ensures.stops c.args.tokens.now c.args.left.now (built_view c.args.built) c.saturating_sub-place.result c.requires same (sym c.in-None.ensures);
    }
