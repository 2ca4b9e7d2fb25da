use Rattle.std.proofs.Common.{arith}
use Rattle.jn_renumber.specs.Tokens.{token_by}
use Rattle.jn_renumber.proofs.Lists.{one_changed, each_changed}
use Rattle.jn_lex_shared.proofs.renumbering.renumber_tokens.Goals as goal

pub loop-at-preserved : goal.loop-at-preserved
loop-at-preserved c =
    one_changed (token_by c.args.numbers.now) c.args.tokens.now.items c.loop-at.tokens.items c.loop-at.at c.index_mut.result.now c.renumber_token.new.token (omega arith) c.index_mut.ensures.value c.renumber_token.ensures c.loop-at.invariant

pub returns : goal.returns
returns c =
    each_changed (token_by c.args.numbers.now) c.args.tokens.now.items c.loop-at.tokens.items c.loop-at.at (omega arith) c.loop-at.invariant
