use Rattle.std.proofs.Common.{ap, ◌∙◌, bit_or}
use Rattle.jn_quals.proofs.Words.{shifted}
use Rattle.jn_quals.proofs.word.pack.Goals as goal

pub returns : goal.returns
returns c = ap (λ n. bit_or c.args.word n) (shifted c.args.qual c.from.result c.args.index (c.from.ensures ∙ c.bits.ensures) c.requires)
