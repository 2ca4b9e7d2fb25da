-- Where private members alone are inferred, and none of them is of a pair, the least signature is that of the bodies.
use Rattle.std.proofs.Common.{List}
use Rattle.jn_quals.specs.Qualifier.{Qualifier}
use Rattle.jn_points.specs.declared.program.Program.{Program}
use Rattle.jn_sigs.specs.Signature.{OnlyPrivateInferred}
use Rattle.jn_transfer.specs.Closing.{NoPrivatePairs}
use Rattle.jn_contrib.proofs.Targets.{bodies_close, private_targets}
use Rattle.jn_inference_law.specs.BodiesAlone.{IsLeastOfBodies}
use Rattle.jn_inference_law.specs.Solution.{IsLeastSignature}

module _ (P : Program) (s : List Qualifier) (only : OnlyPrivateInferred P) (none : NoPrivatePairs P) where
  pub tasks_least : IsLeastOfBodies P s → IsLeastSignature P s
  tasks_least is = record {
    closed = bodies_close P s (private_targets P only none) is.closed;
    starts = is.starts;
    least = λ t c w. is.least t c.bodies w;
  }

  pub bodies_least : IsLeastSignature P s → IsLeastOfBodies P s
  bodies_least is = record {
    closed = is.closed.bodies;
    starts = is.starts;
    least = λ t c w. is.least t (bodies_close P t (private_targets P only none) c) w;
  }
