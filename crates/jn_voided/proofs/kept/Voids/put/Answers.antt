use Rattle.std.proofs.Common.{[], sym, subst}
use Rattle.std.specs.Prelude.{slice_index_or}
use Rattle.jn_voided.specs.Kept.{AreTurned, Scene}
use Rattle.jn_voided.specs.Searched.{IsTurned}
use Rattle.jn_voided.proofs.Keeping.{put_turned}
use Rattle.jn_voided.proofs.kept.Voids.put.Goals as goal

pub invariant_of-self : goal.invariant_of-self
invariant_of-self c =
    let it = c.self.inside in
    let b = c.args.body.0 in
    let k = c.args.key in
    let this = subst (λ (v : Scene). IsTurned v.program v.sig b (slice_index_or v.tables b []) k c.args.turned) (sym c.self.view_is) c.requires in
    record {
      inferable = c.self.invariant.inferable;
      sized = c.self.invariant.sized;
      turned = put_turned it.program.now it.sig.now it.tables.now it.turned c.insert.new.self b k c.args.turned c.numbers_of.result c.numbers_of.ensures c.self.invariant.turned this c.in-Ok.ensures.updates.0;
    }

pub invariant_of-self-2 : goal.invariant_of-self-2
invariant_of-self-2 c =
    let it = c.self.inside in
    record {
      inferable = c.self.invariant.inferable;
      sized = c.self.invariant.sized;
      turned = subst (AreTurned it.program.now it.sig.now it.tables.now) (sym c.in-Err.ensures.err) c.self.invariant.turned;
    }
