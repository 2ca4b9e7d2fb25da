use Rattle.jn_soundness.proofs.ChainShape.{chain_main}
use Rattle.jn_soundness.proofs.ChainTyping.{chain_typed}
use Rattle.jn_soundness.proofs.ChainTables.{chain_accepted, chain_solved}
use Rattle.jn_soundness.proofs.law.constructor_chains_are_accepted.Goals as goal

pub returns : goal.returns
returns c = record { accepted = chain_accepted; solved = chain_solved; typed = chain_typed; main = chain_main }
