use Rattle.std.proofs.Common.{sym}
use Rattle.jn_chain.specs.Keys.{kept_of, rest_of}
use Rattle.jn_notes.specs.declared.said.Said.{Said}
use Rattle.jn_notes.proofs.Saying.{said_behind, said_last}
use Rattle.jn_notes.specs.Walked.{ground_in}
use Rattle.jn_notes.proofs.said.said_before.Goals as goal

pub returns-in_ok-found-in-None : goal.returns-in_ok-found-in-None
returns-in_ok-found-in-None c = said_last (ground_in c.args.of.now) (rest_of c.args.chains.now) c.requires.rests c.program-program.result.now c.args.step c.args.next c.nothing_told.result c.in_ok-found-in-None.found (sym c.program-program.ensures) c.requires.step c.in-None.is c.nothing_told.ensures c.in_ok-found-in-None.ensures

pub returns-in_ok-found-in-Some-get : goal.returns-in_ok-found-in-Some-get
returns-in_ok-found-in-Some-get c = said_behind (ground_in c.args.of.now) (rest_of c.args.chains.now) c.requires.rests c.program-program.result.now c.args.step c.args.next c.in-Some.item (kept_of Said c.args.said.now) c.in-Some-get.behind.now c.in_ok-found-in-Some-get.found (sym c.program-program.ensures) c.requires.step c.in-Some.is c.requires.said c.in-Some-get.ensures c.in_ok-found-in-Some-get.ensures
