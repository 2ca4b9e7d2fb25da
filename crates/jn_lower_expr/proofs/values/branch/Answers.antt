use Rattle.std.proofs.Common.{refl}
use Rattle.jn_lower_expr.proofs.Emitting.{one}
use Rattle.jn_lower_expr.proofs.values.branch.Goals as goal

pub returns : goal.returns
returns c = one _ _ _ _ _ _ _ _ c.in_ok-put.ensures.points c.in_ok-put.ensures.labels refl (λ σ. refl)
