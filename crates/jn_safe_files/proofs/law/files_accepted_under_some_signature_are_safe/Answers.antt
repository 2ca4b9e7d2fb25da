use Rattle.std.specs.Prelude.{List}
use Rattle.jn_quals.specs.Qualifier.{Qualifier}
use Rattle.jn_points.specs.declared.program.Program.{Program}
use Rattle.jn_points.specs.Regular.{Regular}
use Rattle.jn_soundness.specs.Accepting.{IsAccepted}
use Rattle.jn_cert_law.specs.Holds.{KeepsWritten}
use Rattle.jn_inference_law.specs.Solution.{IsLeastSignature}
use Rattle.jn_safe_files.specs.Safe.{BreaksNone}
use Rattle.jn_safe_files.proofs.law.files_accepted_under_some_signature_are_safe.Goals as goal

-- no rule is broken under the least signature, which there is
breaks_none : ((P : Program) → Regular P → (s : List Qualifier) × IsLeastSignature P s) → ((P : Program) (s t : List Qualifier) → IsAccepted P s → KeepsWritten P s → IsLeastSignature P t → IsAccepted P t) → (P : Program) (s : List Qualifier) → IsAccepted P s → KeepsWritten P s → BreaksNone P
breaks_none exists lower P s is kept =
    let least = exists P is.regular in
    (least.0, least.1, (lower P s least.0 is kept least.1).unbroken)

pub returns-clause-none : goal.returns-clause-none
returns-clause-none c = breaks_none c.programs_have_a_least_signature.ensures c.what_is_accepted_is_accepted_under_the_least.ensures

pub returns-clause-safe : goal.returns-clause-safe
returns-clause-safe c infer files names P s typed is kept = c.accepted_files_are_safe.ensures.safe infer files names P typed (breaks_none c.programs_have_a_least_signature.ensures c.what_is_accepted_is_accepted_under_the_least.ensures P s is kept)
