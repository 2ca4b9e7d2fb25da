-- An output that was made, or no memory for it.
use Rattle.std.specs.Prelude.{ℕ, List, Result, Ok, Err}
use Rattle.jn_base.specs.declared.refusal.OutOfMemory.{OutOfMemory}
use Rattle.jn_command.specs.declared.output.Output.{Output}
use Rattle.jn_command.specs.declared.status.Status.{Status}

-- what holds of an output's status and bytes, and what holds where there is none
abbrev pub IfMade : Result Output OutOfMemory → (Status → List ℕ → Type 0) → Type 0 → Type 0
IfMade (Ok output) made none = made output.status output.bytes
IfMade (Err e) made none = none
