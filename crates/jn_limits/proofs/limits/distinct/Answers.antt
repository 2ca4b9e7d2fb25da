use Rattle.std.proofs.Common.{◌∙◌}
use Rattle.std.specs.Cmp.{nat_eq_equiv}
use Rattle.std.proofs.lemmas.Map.Made.{hash_set_len-from_list}
use Rattle.jn_limits.proofs.limits.distinct.Goals as goal

pub returns : goal.returns
returns c = c.len.ensures.len ∙ hash_set_len-from_list nat_eq_equiv c.args.codes.now c.in_ok-set.set c.in_ok-set.ensures
