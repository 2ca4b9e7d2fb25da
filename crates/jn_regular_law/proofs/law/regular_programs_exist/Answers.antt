use Rattle.jn_regular_law.proofs.ChainPoints.{chain_is_regular, chain_without_rows}
use Rattle.jn_regular_law.proofs.DispatchPoints.{dispatch_is_regular, dispatch_without_rows}
use Rattle.jn_regular_law.proofs.law.regular_programs_exist.Goals as goal

pub returns : goal.returns
returns c = record { chain = chain_is_regular; chain_untouched = chain_without_rows; dispatch = dispatch_is_regular; dispatch_untouched = dispatch_without_rows }
