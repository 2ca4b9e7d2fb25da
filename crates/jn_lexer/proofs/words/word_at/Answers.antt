use Rattle.std.proofs.Common.{◌∙◌, sym}
use Rattle.jn_lexer.proofs.Standing.{word_fixed, word_plain}
use Rattle.jn_lexer.proofs.words.word_at.Goals as goal

pub returns-in-Some : goal.returns-in-Some
returns-in-Some c = word_fixed c.args.text.now c.run_len-count.result c.run_len-count.ensures.value c.requires c.in-Some.kind (sym c.keyword.ensures ∙ c.in-Some.is)

pub returns-in-None : goal.returns-in-None
returns-in-None c = word_plain c.args.text.now c.run_len-count.result c.run_len-count.ensures.value c.requires (sym c.keyword.ensures ∙ c.in-None.is)
