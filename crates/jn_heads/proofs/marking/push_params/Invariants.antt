use Rattle.std.proofs.Common.{◌≡◌, ◌++◌, drop}
use Rattle.jn_heads.specs.Types as types
use Rattle.jn_heads.proofs.marking.push_params.Given as goal

abbrev pub invariant-loop-param : goal.invariant-loop-param
invariant-loop-param l = l.slots ++ types.params_slots l.declared l.mark (drop l.param-index l.params) ≡ l.fn.slots ++ types.params_slots l.declared l.mark l.params
