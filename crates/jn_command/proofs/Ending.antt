-- What the sink took of what was made, and the answer.
use Rattle.std.proofs.Common.{◌≡◌, ℕ, inl, inr, List, Option, Result, Ok as Made, Err, sym, ◌∙◌, subst}
use Rattle.jn_base.specs.declared.refusal.OutOfMemory.{OutOfMemory as NoMemory}
use Rattle.jn_outside.specs.Causes.{Rose}
use Rattle.jn_command.specs.declared.output.Output.{Output}
use Rattle.jn_command.specs.declared.status.Status.{Status}
use Rattle.jn_command.specs.declared.status.Status.TheVariants.{Ok, Rejected, Refused as RefusedStatus, RunFault, Stopped, ReadFault, WriteFault, OutOfMemory, Usage}
use Rattle.jn_command.specs.Answer.{Finished}
use Rattle.jn_command.specs.Outputs.{IfMade}

-- statuses after which something was written whole
abbrev pub Written : Status → Type 0
Written Ok = Unit {0}
Written Rejected = Unit {0}
Written RefusedStatus = Unit {0}
Written Usage = Unit {0}
Written RunFault = ⊥
Written Stopped = ⊥
Written ReadFault = ⊥
Written WriteFault = ⊥
Written OutOfMemory = ⊥

-- what the sink took, and the answer
abbrev pub Ends : Option (List ℕ) → Option (List ℕ) → ℕ → ℕ → Status → Result Output NoMemory → Type 0
Ends old new before now result made = IfMade made (λ status bytes. Finished old new bytes status before now result) ((result ≡ OutOfMemory) × (new ≡ old) × (now ≡ before))

-- no write fault unless the count rose
pub no_fault : (old new : Option (List ℕ)) (before now : ℕ) (result : Status) (made : Result Output NoMemory) → IfMade made (λ status bytes. Written status) (Unit {0}) → Ends old new before now result made → result ≡ WriteFault → Rose before now
no_fault old new before now result (Made r) w (inl p) e = absurd (subst Written (sym p.0 ∙ e) w)
no_fault old new before now result (Made r) w (inr p) e = p.2
no_fault old new before now result (Err e1) w f e = absurd (let x : OutOfMemory ≡ WriteFault = sym f.0 ∙ e in cc)
