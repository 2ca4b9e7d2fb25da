use Rattle.std.proofs.Common.{◌≡◌, ◌/◌, get_or, ◌∙◌}
use Rattle.std.proofs.lemmas.List.{get_or_default}
use Rattle.jn_env.proofs.Held.{word_there, read, read_past}
use Rattle.jn_env.proofs.packed.BitList.get.Goals as goal

pub returns-then-at-self : goal.returns-then-at-self
returns-then-at-self c =
    let words = c.self.inside.words.items in
    let count = c.self.inside.count in
    let at = c.args.at in
    let word : c.index.result.now ≡ get_or words (at / 63) 0 = c.index.ensures ∙ get_or_default words (at / 63) c.index.result.now 0 (word_there words count at c.self.invariant c.if-at-self.true) in
    read words count at c.index.result.now c.bit.result c.args.self.now c.self.view_is c.if-at-self.true word c.bit.ensures

pub returns-else-at-self : goal.returns-else-at-self
returns-else-at-self c = read_past c.self.inside.words.items c.self.inside.count c.args.at c.args.self.now c.self.view_is c.if-at-self.false
