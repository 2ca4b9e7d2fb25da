-- Environments of one body have one size, and so has what they join to.
use Rattle.std.proofs.Common.{ℕ, sym, ◌∙◌}
use Rattle.jn_points.specs.declared.program.Program.{Program}
use Rattle.jn_env.specs.Environment.{Env}
use Rattle.jn_env.specs.Order.{join_env}
use Rattle.jn_env.specs.Size.{SameSize}
use Rattle.jn_env.specs.Sized.{EnvSized}
use Rattle.jn_env.proofs.Order.{length-join_quals, length-meet_bits}

pub same_size : (P : Program) (b : ℕ) (e f : Env) → EnvSized P b e → EnvSized P b f → SameSize e f
same_size P b e f l m = record { quals = l.quals ∙ sym m.quals; facts = l.facts ∙ sym m.facts; assigned = l.assigned ∙ sym m.assigned }

pub join_sized : (P : Program) (b : ℕ) (e f : Env) → EnvSized P b e → EnvSized P b f → EnvSized P b (join_env e f)
join_sized P b e f l m =
    let s = same_size P b e f l m in
    record { quals = length-join_quals e.quals f.quals s.quals ∙ m.quals; facts = length-meet_bits e.facts f.facts s.facts ∙ m.facts; assigned = length-meet_bits e.assigned f.assigned s.assigned ∙ m.assigned }
