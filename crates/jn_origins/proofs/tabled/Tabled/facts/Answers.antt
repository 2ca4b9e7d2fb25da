use Rattle.std.proofs.Common.{subst}
use Rattle.jn_transfer.specs.Sized.{StaysInside}
use Rattle.jn_origins.specs.OneBody.{TabledBody}
use Rattle.jn_origins.proofs.tabled.Tabled.facts.Goals as goal

pub returns : goal.returns
returns c = subst (λ (t : TabledBody). StaysInside t.program t.body) c.self.view_is c.self.invariant.stays
