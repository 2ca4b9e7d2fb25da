use Rattle.std.proofs.Common.{◌≡◌, ◌<◌, ◌+◌, ◌*◌, ◌/◌, length, get_or, arith, ap, ◌∙◌, rules}
use Rattle.std.proofs.lemmas.List.{get_or_default}
use Rattle.jn_env.specs.Packed.{bit, with_qual}
use Rattle.jn_env.proofs.Held.{length-bits_of, qual_word_there}
use Rattle.jn_env.proofs.HeldWrites.{qual_held, qual_are}
use Rattle.jn_env.proofs.packed.BitList.set_qual.Goals as goal

pub index-word-requires : goal.index-word-requires
index-word-requires c =
    let below : 3 * c.args.index + 2 < c.self.inside.count = omega (arith, c.requires, length-bits_of c.self.inside.words.items c.self.inside.count, ap length c.self.view_is) in
    let short = qual_word_there c.self.inside.words.items c.self.inside.count c.args.index c.self.invariant below in
    search rules

pub with_qual-requires-clause-small : goal.with_qual-requires-clause-small
with_qual-requires-clause-small c =
    let words = c.self.inside.words.items in
    let r = c.args.index in
    let below : 3 * r + 2 < c.self.inside.count = omega (arith, c.requires, length-bits_of words c.self.inside.count, ap length c.self.view_is) in
    let word : c.index-word.result.now ≡ get_or words (r / 21) 0 = c.index-word.ensures ∙ get_or_default words (r / 21) c.index-word.result.now 0 (qual_word_there words c.self.inside.count r c.self.invariant below) in
    rw word (c.self.invariant.top (r / 21))

pub index_mut-requires : goal.index_mut-requires
index_mut-requires c =
    let below : 3 * c.args.index + 2 < c.self.inside.count = omega (arith, c.requires, length-bits_of c.self.inside.words.items c.self.inside.count, ap length c.self.view_is) in
    let short = qual_word_there c.self.inside.words.items c.self.inside.count c.args.index c.self.invariant below in
    search rules

pub invariant_of-self : goal.invariant_of-self
invariant_of-self c =
    let words = c.self.inside.words.items in
    let count = c.self.inside.count in
    let r = c.args.index in
    let below : 3 * r + 2 < count = omega (arith, c.requires, length-bits_of words count, ap length c.self.view_is) in
    let word : c.index-word.result.now ≡ get_or words (r / 21) 0 = c.index-word.ensures ∙ get_or_default words (r / 21) c.index-word.result.now 0 (qual_word_there words count r c.self.invariant below) in
    qual_held words count r c.with_qual.result c.args.qual c.self.invariant below c.with_qual.ensures.small c.with_qual.ensures.here (λ j lt. c.with_qual.ensures.before j lt ∙ ap (λ w. bit w j) word) (λ j lt. c.with_qual.ensures.behind j lt ∙ ap (λ w. bit w j) word)

pub returns : goal.returns
returns c =
    let words = c.self.inside.words.items in
    let count = c.self.inside.count in
    let r = c.args.index in
    let below : 3 * r + 2 < count = omega (arith, c.requires, length-bits_of words count, ap length c.self.view_is) in
    let word : c.index-word.result.now ≡ get_or words (r / 21) 0 = c.index-word.ensures ∙ get_or_default words (r / 21) c.index-word.result.now 0 (qual_word_there words count r c.self.invariant below) in
    qual_are words count r c.with_qual.result c.args.qual c.self.invariant below c.with_qual.ensures.small c.with_qual.ensures.here (λ j lt. c.with_qual.ensures.before j lt ∙ ap (λ w. bit w j) word) (λ j lt. c.with_qual.ensures.behind j lt ∙ ap (λ w. bit w j) word) ∙ ap (λ v. with_qual v r c.args.qual) c.self.view_is
