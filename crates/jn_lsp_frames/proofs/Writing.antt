-- What a sink has taken where nothing went out.
use Rattle.std.proofs.Common.{ℕ, List, [], Option, Some, None, refl, sym, ap, arith, append-nil}
use Rattle.jn_outside.specs.Sink.{Appends, AppendsPrefix}

none_out : (taken : Option (List ℕ)) → Appends taken taken []
none_out None = refl
none_out (Some bytes) = ap Some (sym (append-nil bytes))

pub nothing_out : (taken : Option (List ℕ)) (bytes : List ℕ) → AppendsPrefix taken taken bytes
nothing_out taken bytes = record { count = 0; within = omega arith; taken = none_out taken }
