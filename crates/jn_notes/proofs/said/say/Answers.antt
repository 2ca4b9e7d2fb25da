use Rattle.std.proofs.Common.{List, Some, sym, subst}
use Rattle.jn_reasons_law.specs.declared.item.Step.{Step}
use Rattle.jn_chain.specs.Keys.{rest_of}
use Rattle.jn_chain.specs.Search.{IsPath}
use Rattle.jn_notes.specs.Walked.{ground_in}
use Rattle.jn_notes.proofs.said.say.Goals as goal

pub say_back-requires-clause-path : goal.say_back-requires-clause-path
say_back-requires-clause-path c = subst (λ (l : List Step). IsPath (ground_in c.args.of.now) (rest_of c.find_left.new.chains) (Some c.args.item) l c.in_ok-steps.stop) (sym c.deref.ensures.value) c.in_ok-steps.ensures.path
