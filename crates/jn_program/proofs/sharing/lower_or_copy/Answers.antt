use Rattle.std.proofs.Common.{refl}
use Rattle.std.proofs.lemmas.Option.{slice_get_read}
use Rattle.jn_program.proofs.Known.{known_there, lowered_there}
use Rattle.jn_program.proofs.sharing.lower_or_copy.Goals as goal

pub known_copy-requires : goal.known_copy-requires
known_copy-requires c =
    let sources = c.args.sources.now in
    let there = slice_get_read sources _ c.args.at c.index-sources-at.result refl c.requires.inside c.index-sources-at.is in
    known_there c.args.program.now sources c.args.bodies.now c.args.known.now c.args.at c.index-sources-at.result c.in-Some.body.now c.requires.known c.in-Some.ensures.0 there c.in-Some.ensures.1

pub returns-in-Some : goal.returns-in-Some
returns-in-Some c =
    let sources = c.args.sources.now in
    lowered_there c.args.program.now sources c.args.at c.index-sources-at.result c.known_copy.result (slice_get_read sources _ c.args.at c.index-sources-at.result refl c.requires.inside c.index-sources-at.is) c.known_copy.ensures

pub returns-in-None : goal.returns-in-None
returns-in-None c =
    let sources = c.args.sources.now in
    lowered_there c.args.program.now sources c.args.at c.index-sources-at.result c.lower_one.result (slice_get_read sources _ c.args.at c.index-sources-at.result refl c.requires.inside c.index-sources-at.is) c.lower_one.ensures
