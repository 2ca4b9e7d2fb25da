use Rattle.std.proofs.Common.{◌++◌, ◌∷◌, [], ap, ◌∙◌}
use Rattle.jn_contrib.specs.Sends.{slot_numbers}
use Rattle.jn_contrib.proofs.Along.{slots_more}
use Rattle.jn_contrib.proofs.body.with_slots.Goals as goal

pub loop-slot-preserved : goal.loop-slot-preserved
loop-slot-preserved c =
    ap (λ xs. slot_numbers xs) c.in_ok-push.ensures.items ∙ slots_more c.loop-slot.numbered.items _ ∙ ap (λ ys. ys ++ (c.in-Some.slot, c.in-Some.qual) ∷ []) c.loop-slot.invariant
