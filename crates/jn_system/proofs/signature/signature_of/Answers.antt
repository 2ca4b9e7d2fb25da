use Rattle.jn_system.proofs.Seen.{seen_packed, seen_signature}
use Rattle.jn_system.proofs.signature.signature_of.Goals as goal

pub of_words-requires : goal.of_words-requires
of_words-requires c = seen_packed c.args.slots c.args.words.now c.args.listed.now c.in_ok-list.list.items c.in_ok-list.ensures

pub returns : goal.returns
returns c = seen_signature c.args.slots c.args.words.now c.args.listed.now c.in_ok-list.list.items c.in_ok-list.ensures c.of_words.result c.of_words.ensures
