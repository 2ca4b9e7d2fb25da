use Rattle.std.proofs.Common.{◌≡◌, ℕ, Option, Some, refl, ◌+◌, subst}
use Rattle.std.specs.Prelude.{pos}
use Rattle.jn_points.specs.declared.point.Literal.TheVariants.{Int as IntOf}
use Rattle.jn_heap.specs.Values.{Value}
use Rattle.jn_heap.specs.Steps.{literal_value}
use Rattle.jn_meaning.specs.Worlds.{Has}
use Rattle.jn_meaning.specs.Operations.{write_local}
use Rattle.jn_tree_world.specs.Outcomes.{IsStop, Means}
use Rattle.jn_tree_world.specs.Worlds.{world_of}
use Rattle.jn_tree_world.proofs.Binding.{bound, stop_then, stops}
use Rattle.jn_tree_simple.proofs.Founding.{has_behind, stop_behind}
use Rattle.jn_tree_simple.proofs.each.begin.Goals as goal

pub returns-in_err-given : goal.returns-in_err-given
returns-in_err-given g c = λ turns m h. stops (λ x. x) _ c.in_err-given.field-0.0 c.from_residual.result (world_of c.value_in.new.w) c.from_residual.ensures.1 (stop_then c.in_err-given.field-0.0 _ _ _ (stop_then c.in_err-given.field-0.0 _ _ _ (stop_then c.in_err-given.field-0.0 _ _ _ (c.in_err-given.ensures.means turns m h))))

pub returns-in_err-set_local : goal.returns-in_err-set_local
returns-in_err-set_local g c = λ turns m h. stops (λ x. x) _ c.in_err-set_local.field-0.0 c.from_residual-in_err-set_local.result (world_of c.set_local.new.self) c.from_residual-in_err-set_local.ensures.1 (stop_then c.in_err-set_local.field-0.0 _ _ _ (stop_then c.in_err-set_local.field-0.0 _ _ _ (stop_behind c.in_err-set_local.field-0.0 _ _ c.in_ok-given.given (world_of c.value_in.new.w) _ (c.in_ok-given.ensures.means turns m h) (subst (λ (k : ℕ). IsStop c.in_err-set_local.field-0.0 (write_local c.args.b.now.program.now (world_of c.value_in.new.w) k c.in_ok-given.given) c.set_local.new.self.out.items) c.requires.first (c.in_err-set_local.ensures c.args.b.now.program.now)))))

pub returns : goal.returns
returns g c = λ turns m h. bound (λ x. x) _ _ (Some (literal_value c.args.names.now (IntOf (pos 0)))) (world_of c.set_local.new.self) c.set_local-2.result (world_of c.set_local-2.new.self)
    (has_behind _ _ c.in_ok-set_local.field-0 (world_of c.set_local.new.self) _ (has_behind _ _ c.in_ok-given.given (world_of c.value_in.new.w) _ (c.in_ok-given.ensures.means turns m h) (subst (λ (k : ℕ). write_local c.args.b.now.program.now (world_of c.value_in.new.w) k c.in_ok-given.given ≡ Has c.in_ok-set_local.field-0 (world_of c.set_local.new.self)) c.requires.first (c.in_ok-set_local.ensures c.args.b.now.program.now))) refl)
    (subst (λ (v : Option Value). Means (write_local c.args.b.now.program.now (world_of c.set_local.new.self) (c.args.st.now.count + 1) v) c.set_local-2.result (world_of c.set_local-2.new.self)) c.number.ensures (subst (λ (k : ℕ). Means (write_local c.args.b.now.program.now (world_of c.set_local.new.self) k c.number.result) c.set_local-2.result (world_of c.set_local-2.new.self)) c.requires.index (c.set_local-2.ensures c.args.b.now.program.now)))
