use Rattle.jn_lex_shared.proofs.Known.{further, short}
use Rattle.jn_lex_shared.proofs.names.intern_all.Goals as goal

pub intern-requires : goal.intern-requires
intern-requires c = short c.args.names.now c.loop-text.names c.args.texts.now c.loop-text.text-index c.loop-text-test.true c.loop-text.invariant c.requires

pub loop-text-preserved : goal.loop-text-preserved
loop-text-preserved c = further _ _ _ c.args.texts.now c.loop-text.text-index _ c.loop-text-test.true c.loop-text.invariant c.in_ok-intern.ensures.names
