use Rattle.std.proofs.Common.{◌≡◌, ◌++◌, drop}
use Rattle.jn_heads.specs.Types as spec
use Rattle.jn_heads.proofs.types.param_bases.Given as goal

abbrev pub invariant-loop-param : goal.invariant-loop-param
invariant-loop-param l = l.bases ++ spec.param_bases l.declared (drop l.param-index l.params) ≡ spec.param_bases l.declared l.params
