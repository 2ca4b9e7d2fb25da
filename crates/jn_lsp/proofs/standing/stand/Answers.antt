use Rattle.std.proofs.Common.{sym, subst}
use Rattle.jn_recheck.specs.Files.{AllFit, HaveOwnNames}
use Rattle.jn_lsp.proofs.Names.{own_distinct, stand_fits, stand_own}
use Rattle.jn_lsp.proofs.standing.stand.Goals as goal

pub of-requires-clause-fit : goal.of-requires-clause-fit
of-requires-clause-fit c = subst AllFit (sym c.in_ok-files.ensures) (stand_fits c.as_slice.result.now c.as_slice-2.result.now)

pub of-requires-clause-distinct : goal.of-requires-clause-distinct
of-requires-clause-distinct c = subst HaveOwnNames (sym c.in_ok-files.ensures) (own_distinct _ (stand_own c.as_slice.result.now c.as_slice-2.result.now))
