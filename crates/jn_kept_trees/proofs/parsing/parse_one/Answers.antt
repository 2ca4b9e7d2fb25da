use Rattle.std.proofs.Common.{length, refl}
use Rattle.std.proofs.lemmas.Option.{slice_get_read}
use Rattle.jn_kept_trees.proofs.parsing.parse_one.Goals as goal

pub returns : goal.returns
returns g c =
    let reads = c.args.reads.now in
    let there = slice_get_read reads (length reads) c.args.at c.index-reads-at.result refl c.requires.inside c.index-reads-at.is in
    (c.if-kept-at.false, (c.index-reads-at.result, there, c.in_ok-outcome.ensures))
