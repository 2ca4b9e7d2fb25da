use Rattle.std.proofs.Common.{length, refl}
use Rattle.std.proofs.lemmas.Option.{slice_get_read}
use Rattle.jn_front.proofs.sharing.fn.parse_by.parse.Goals as goal

pub returns : goal.returns
returns g c =
    let reads = c.captures.reads.now in
    (c.index-reads-at.result, slice_get_read reads (length reads) c.args.at c.index-reads-at.result refl c.requires.2 c.index-reads-at.is, c.in_ok-outcome.ensures)
