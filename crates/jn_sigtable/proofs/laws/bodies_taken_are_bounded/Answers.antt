use Rattle.jn_sigtable.specs.Machine.{described, start_of}
use Rattle.jn_sigtable.proofs.Counting.{all_within}
use Rattle.jn_sigtable.proofs.laws.bodies_taken_are_bounded.Goals as goal

pub returns : goal.returns
returns g c k s h =
    let d = described g.C.Constraints.describe in
    all_within (d k.system) (start_of d k) s.words s.views h.counted h.below
