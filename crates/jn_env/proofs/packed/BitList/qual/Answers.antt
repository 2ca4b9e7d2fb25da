use Rattle.std.proofs.Common.{◌≡◌, ◌<◌, ◌+◌, ◌*◌, ◌/◌, length, get_or, arith, ap, ◌∙◌, rules}
use Rattle.std.proofs.lemmas.List.{get_or_default}
use Rattle.jn_env.proofs.Held.{length-bits_of, read_qual, qual_word_there}
use Rattle.jn_env.proofs.packed.BitList.qual.Goals as goal

pub index-word-requires : goal.index-word-requires
index-word-requires c =
    let below : 3 * c.args.index + 2 < c.self.inside.count = omega (arith, c.requires, length-bits_of c.self.inside.words.items c.self.inside.count, ap length c.self.view_is) in
    let short = qual_word_there c.self.inside.words.items c.self.inside.count c.args.index c.self.invariant below in
    search rules

pub returns : goal.returns
returns c =
    let words = c.self.inside.words.items in
    let count = c.self.inside.count in
    let r = c.args.index in
    let below : 3 * r + 2 < count = omega (arith, c.requires, length-bits_of words count, ap length c.self.view_is) in
    let word : c.index-word.result.now ≡ get_or words (r / 21) 0 = c.index-word.ensures ∙ get_or_default words (r / 21) c.index-word.result.now 0 (qual_word_there words count r c.self.invariant below) in
    read_qual words count r c.index-word.result.now c.unpack.result c.args.self.now c.self.view_is below word c.unpack.ensures
