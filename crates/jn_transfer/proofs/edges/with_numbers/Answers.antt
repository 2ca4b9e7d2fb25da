use Rattle.std.proofs.Common.{◌++◌, ◌∷◌, [], ap, ◌∙◌}
use Rattle.jn_transfer.specs.Covered.{numbered}
use Rattle.jn_transfer.proofs.Refs.{numbered_more}
use Rattle.jn_transfer.proofs.edges.with_numbers.Goals as goal

pub loop-to-preserved : goal.loop-to-preserved
loop-to-preserved c =
    ap (λ xs. numbered xs) c.in_ok-push.ensures.items ∙ numbered_more c.loop-to.numbered.items _ ∙ ap (λ ys. ys ++ (c.in-Some.to, c.in-Some.env) ∷ []) c.loop-to.invariant
