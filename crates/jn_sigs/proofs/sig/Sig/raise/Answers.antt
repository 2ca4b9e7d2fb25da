use Rattle.std.proofs.Common.{◌≡◌, ◌<◌, ◌/◌, ◌%◌, length, get_or, set, arith, ap, ◌∙◌, rules}
use Rattle.std.proofs.lemmas.List.{get_or_default}
use Rattle.jn_quals.specs.Word.{pack}
use Rattle.jn_sigs.specs.Packed.{unpacked, raised}
use Rattle.jn_sigs.proofs.Slots.{word_below, raised_packed, raised_unpacked, length-unpacked}
use Rattle.jn_sigs.proofs.sig.Sig.raise.Goals as goal

pub index-requires : goal.index-requires
index-requires c =
    let below : c.args.slot.0 < c.self.inside.slots = omega (arith, c.requires, length-unpacked c.self.inside.words.items c.self.inside.slots, ap length c.self.view_is) in
    let short = word_below c.self.inside.words.items c.self.inside.slots c.args.slot.0 c.self.invariant below in
    search rules

pub index_mut-requires : goal.index_mut-requires
index_mut-requires c =
    let below : c.args.slot.0 < c.self.inside.slots = omega (arith, c.requires, length-unpacked c.self.inside.words.items c.self.inside.slots, ap length c.self.view_is) in
    let short = word_below c.self.inside.words.items c.self.inside.slots c.args.slot.0 c.self.invariant below in
    search rules

pub invariant_of-self : goal.invariant_of-self
invariant_of-self c =
    let words = c.self.inside.words.items in
    let slots = c.self.inside.slots in
    let s = c.args.slot.0 in
    let below : s < slots = omega (arith, c.requires, length-unpacked words slots, ap length c.self.view_is) in
    let word : c.index.result.now ≡ get_or words (s / 21) 0 = c.index.ensures ∙ get_or_default words (s / 21) c.index.result.now 0 (word_below words slots s c.self.invariant below) in
    let is : c.pack.result ≡ pack (get_or words (s / 21) 0) (s % 21) c.args.qual = c.pack.ensures ∙ ap (λ w. pack w (s % 21) c.args.qual) word in
    rw is (raised_packed words slots s c.args.qual c.self.invariant below)

pub returns : goal.returns
returns c =
    let words = c.self.inside.words.items in
    let slots = c.self.inside.slots in
    let s = c.args.slot.0 in
    let below : s < slots = omega (arith, c.requires, length-unpacked words slots, ap length c.self.view_is) in
    let word : c.index.result.now ≡ get_or words (s / 21) 0 = c.index.ensures ∙ get_or_default words (s / 21) c.index.result.now 0 (word_below words slots s c.self.invariant below) in
    let is : c.pack.result ≡ pack (get_or words (s / 21) 0) (s % 21) c.args.qual = c.pack.ensures ∙ ap (λ w. pack w (s % 21) c.args.qual) word in
    ap (λ w. unpacked (set words (s / 21) w) slots) is ∙ raised_unpacked words slots s c.args.qual c.self.invariant below ∙ ap (λ v. raised v s c.args.qual) c.self.view_is
