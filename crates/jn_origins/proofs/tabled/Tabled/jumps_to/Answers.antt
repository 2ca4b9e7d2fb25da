use Rattle.std.proofs.Common.{subst}
use Rattle.jn_origins.specs.OneBody.{TabledBody, LeadTo}
use Rattle.jn_origins.proofs.tabled.Tabled.jumps_to.Goals as goal

pub returns : goal.returns
returns c = subst (λ (t : TabledBody). LeadTo t c.args.point.0 c.jumps_to.result.now) c.self.view_is (record {
  lists = c.self.inside.jumps.now;
  jumps = c.self.invariant.leading;
  are = c.jumps_to.ensures;
})
