use Rattle.std.proofs.Common.{◌≡◌, map, take}
use Rattle.std.specs.Prelude.{not}
use Rattle.std.specs.List.{filter}
use Rattle.jn_cli.specs.Words.{is_empty}
use Rattle.jn_cli.proofs.command.kept.Given as goal

abbrev pub invariant-loop-piece : goal.invariant-loop-piece
invariant-loop-piece l = l.kept ≡ filter (λ piece. not (is_empty piece)) (map (λ x. x.now) (take l.piece-index l.pieces))
