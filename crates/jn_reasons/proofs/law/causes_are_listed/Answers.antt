use Rattle.jn_reasons.proofs.Listing.{all_listed, none_else}
use Rattle.jn_reasons.proofs.law.causes_are_listed.Goals as goal

pub returns : goal.returns
returns c = record { all = all_listed; none_else = none_else }
