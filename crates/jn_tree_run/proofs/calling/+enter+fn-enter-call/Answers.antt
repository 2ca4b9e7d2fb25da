use Rattle.std.proofs.Common.{◌≡◌, ◌<◌, ◌+◌, ◌-◌, ℕ, suc, sym, subst, arith}
use Rattle.jn_tree_world.proofs.Binding.{bound}
use Rattle.jn_tree_world.specs.Outcomes.{Means, spends}
use Rattle.jn_tree_world.specs.Worlds.{world_of}
use Rattle.jn_tree_run.proofs.Entering.{enters}
use Rattle.jn_tree_run.specs.Beginning.{entered_in, framed_in}
use Rattle.jn_tree_run.proofs.calling.+enter+fn-enter-call.Goals as goal

pub returns : goal.returns
returns t c =
    let at : c.args.turns ≡ suc (c.args.turns - 1) = omega (arith, c.if-turns-eq0.false) in
    let few : c.args.frames < c.args.run.now.deepest = omega (arith, c.if-frames-run.false) in
    subst (λ (t : ℕ). Means (entered_in c.args.run.now t c.args.frames c.args.method c.args.values.items (world_of c.args.w.now)) c.in_frame_by.result (world_of c.in_frame_by.new.w)) (sym at)
    (rw (enters c.args.run.now (c.args.turns - 1) c.args.frames c.args.method c.args.values.items (world_of c.args.w.now) few)
    (bound (λ x. x) (spends (world_of c.args.w.now)) (λ u v. framed_in c.args.run.now (entered_in c.args.run.now (c.args.turns - 1) (c.args.frames + 1)) (c.args.turns - 1) c.args.method c.args.values.items v) tt (world_of c.spend.new.self) c.in_frame_by.result (world_of c.in_frame_by.new.w) c.in_ok-spend.ensures
    (c.in_frame_by.ensures (entered_in c.args.run.now (c.args.turns - 1) (c.args.frames + 1)) (λ k vs u r v post. post.1))))
