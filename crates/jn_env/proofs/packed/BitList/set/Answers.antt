use Rattle.std.proofs.Common.{◌≡◌, ◌<◌, ◌/◌, length, get_or, set, arith, ap, ◌∙◌, rules}
use Rattle.std.proofs.lemmas.List.{get_or_default}
use Rattle.jn_env.specs.Packed.{bit}
use Rattle.jn_env.proofs.Held.{length-bits_of, word_there}
use Rattle.jn_env.proofs.HeldWrites.{set_held, set_are}
use Rattle.jn_env.proofs.packed.BitList.set.Goals as goal

pub index-word-requires : goal.index-word-requires
index-word-requires c =
    let below : c.args.at < c.self.inside.count = omega (arith, c.requires, length-bits_of c.self.inside.words.items c.self.inside.count, ap length c.self.view_is) in
    let short = word_there c.self.inside.words.items c.self.inside.count c.args.at c.self.invariant below in
    search rules

pub with_bit-requires-clause-small : goal.with_bit-requires-clause-small
with_bit-requires-clause-small c =
    let words = c.self.inside.words.items in
    let at = c.args.at in
    let below : at < c.self.inside.count = omega (arith, c.requires, length-bits_of words c.self.inside.count, ap length c.self.view_is) in
    let word : c.index-word.result.now ≡ get_or words (at / 63) 0 = c.index-word.ensures ∙ get_or_default words (at / 63) c.index-word.result.now 0 (word_there words c.self.inside.count at c.self.invariant below) in
    rw word (c.self.invariant.top (at / 63))

pub index_mut-requires : goal.index_mut-requires
index_mut-requires c =
    let below : c.args.at < c.self.inside.count = omega (arith, c.requires, length-bits_of c.self.inside.words.items c.self.inside.count, ap length c.self.view_is) in
    let short = word_there c.self.inside.words.items c.self.inside.count c.args.at c.self.invariant below in
    search rules

pub invariant_of-self : goal.invariant_of-self
invariant_of-self c =
    let words = c.self.inside.words.items in
    let count = c.self.inside.count in
    let at = c.args.at in
    let below : at < count = omega (arith, c.requires, length-bits_of words count, ap length c.self.view_is) in
    let word : c.index-word.result.now ≡ get_or words (at / 63) 0 = c.index-word.ensures ∙ get_or_default words (at / 63) c.index-word.result.now 0 (word_there words count at c.self.invariant below) in
    set_held words count at c.with_bit.result c.args.wanted c.self.invariant below c.with_bit.ensures.small c.with_bit.ensures.here (λ j ne. c.with_bit.ensures.others j ne ∙ ap (λ w. bit w j) word)

pub returns : goal.returns
returns c =
    let words = c.self.inside.words.items in
    let count = c.self.inside.count in
    let at = c.args.at in
    let below : at < count = omega (arith, c.requires, length-bits_of words count, ap length c.self.view_is) in
    let word : c.index-word.result.now ≡ get_or words (at / 63) 0 = c.index-word.ensures ∙ get_or_default words (at / 63) c.index-word.result.now 0 (word_there words count at c.self.invariant below) in
    set_are words count at c.with_bit.result c.args.wanted c.self.invariant below c.with_bit.ensures.small c.with_bit.ensures.here (λ j ne. c.with_bit.ensures.others j ne ∙ ap (λ w. bit w j) word) ∙ ap (λ v. set v at c.args.wanted) c.self.view_is
