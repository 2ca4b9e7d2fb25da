use Rattle.std.proofs.Common.{◌≡◌, bit_xor, ap, ◌∙◌}
use Rattle.jn_quals.specs.Qualifier.{to_bits}
use Rattle.jn_quals.specs.Word.{unpack}
use Rattle.jn_env.proofs.WordWrites.{requalified_here, requalified_before, requalified_behind, requalified_small}
use Rattle.jn_env.proofs.words.with_qual.Goals as goal

pub returns-clause-here : goal.returns-clause-here
returns-clause-here c =
    let is : c.from-change.result ≡ bit_xor (to_bits (unpack c.args.word c.args.index)) (to_bits c.args.qual) = c.from-change.ensures ∙ ap (λ n. bit_xor n c.bits-2.result) c.bits.ensures ∙ ap (λ n. bit_xor (to_bits c.unpack.result) n) c.bits-2.ensures ∙ ap (λ p. bit_xor (to_bits p) (to_bits c.args.qual)) c.unpack.ensures in
    requalified_here c.args.word c.args.index c.from-change.result c.args.qual c.requires.index is

pub returns-clause-before : goal.returns-clause-before
returns-clause-before c =
    let is : c.from-change.result ≡ bit_xor (to_bits (unpack c.args.word c.args.index)) (to_bits c.args.qual) = c.from-change.ensures ∙ ap (λ n. bit_xor n c.bits-2.result) c.bits.ensures ∙ ap (λ n. bit_xor (to_bits c.unpack.result) n) c.bits-2.ensures ∙ ap (λ p. bit_xor (to_bits p) (to_bits c.args.qual)) c.unpack.ensures in
    requalified_before c.args.word c.args.index c.from-change.result c.args.qual c.requires.index is

pub returns-clause-behind : goal.returns-clause-behind
returns-clause-behind c =
    let is : c.from-change.result ≡ bit_xor (to_bits (unpack c.args.word c.args.index)) (to_bits c.args.qual) = c.from-change.ensures ∙ ap (λ n. bit_xor n c.bits-2.result) c.bits.ensures ∙ ap (λ n. bit_xor (to_bits c.unpack.result) n) c.bits-2.ensures ∙ ap (λ p. bit_xor (to_bits p) (to_bits c.args.qual)) c.unpack.ensures in
    requalified_behind c.args.word c.args.index c.from-change.result c.args.qual c.requires.index is

pub returns-clause-small : goal.returns-clause-small
returns-clause-small c =
    let is : c.from-change.result ≡ bit_xor (to_bits (unpack c.args.word c.args.index)) (to_bits c.args.qual) = c.from-change.ensures ∙ ap (λ n. bit_xor n c.bits-2.result) c.bits.ensures ∙ ap (λ n. bit_xor (to_bits c.unpack.result) n) c.bits-2.ensures ∙ ap (λ p. bit_xor (to_bits p) (to_bits c.args.qual)) c.unpack.ensures in
    requalified_small c.args.word c.args.index c.from-change.result c.args.qual c.requires.index is c.requires.small
