use Rattle.std.proofs.Common.{sym, subst}
use Rattle.jn_env.specs.Sized.{EnvSized}
use Rattle.jn_origins.specs.OneBody.{TabledBody}
use Rattle.jn_origins.proofs.tabled.Tabled.edges.Goals as goal

pub edges_after-requires-clause-sized : goal.edges_after-requires-clause-sized
edges_after-requires-clause-sized c = subst (λ (t : TabledBody). EnvSized t.program t.body c.args.env.now) (sym c.self.view_is) c.requires.sized
