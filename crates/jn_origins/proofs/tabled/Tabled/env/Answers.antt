use Rattle.std.proofs.Common.{◌≡◌, ◌∙◌, sym, ap, subst, Some}
use Rattle.jn_env.specs.Environment.{Env}
use Rattle.jn_env.specs.Order.{env_in}
use Rattle.jn_env.specs.Sized.{EnvSized}
use Rattle.jn_tables_law.proofs.Climbing.{sized_at}
use Rattle.jn_origins.specs.OneBody.{TabledBody}
use Rattle.jn_origins.proofs.tabled.Tabled.env.Goals as goal

pub returns-in-Some : goal.returns-in-Some
returns-in-Some c =
    let it = c.self.inside in
    let p = c.args.point.0 in
    let e = c.in-Some.env.now in (
      sym (ap (λ (t : TabledBody). env_in t.table p) c.self.view_is) ∙ c.in-Some.ensures,
      subst (λ (t : TabledBody). EnvSized t.program t.body e) c.self.view_is (sized_at it.analysis.program it.analysis.body it.slots.now p e c.self.invariant.sized c.in-Some.ensures),
    )
