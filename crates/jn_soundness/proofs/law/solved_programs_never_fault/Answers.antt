use Rattle.jn_soundness.proofs.Accepts.{accepted_checked, accepted_mains}
use Rattle.jn_soundness.proofs.Overriding.{program_typed, mains_typed}
use Rattle.jn_soundness.proofs.Solves.{solved_accepted}
use Rattle.jn_soundness.proofs.Whole.{typed_never_null}
use Rattle.jn_soundness.proofs.law.solved_programs_never_fault.Goals as goal

pub returns : goal.returns
returns c = λ W S B.
    let A = solved_accepted W S in
    typed_never_null W (accepted_checked W A) (accepted_mains W A) B.ordered (program_typed W S.shaped B S.none) (mains_typed W S.shaped B)
