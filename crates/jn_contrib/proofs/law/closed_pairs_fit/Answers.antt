use Rattle.jn_contrib.proofs.Fits.{closed_fits, closed_rows}
use Rattle.jn_contrib.proofs.law.closed_pairs_fit.Goals as goal

pub returns : goal.returns
returns c = record { fits = closed_fits; no_rows = closed_rows }
