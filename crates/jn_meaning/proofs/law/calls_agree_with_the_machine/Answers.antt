use Rattle.jn_meaning.proofs.Agreeing.{call_agrees}
use Rattle.jn_meaning.proofs.law.calls_agree_with_the_machine.Goals as goal

pub returns : goal.returns
returns c P sources names m b limits vs heap statics printed bodied deep sourced fits never = call_agrees P sources names m b limits vs heap statics printed bodied deep sourced fits never
