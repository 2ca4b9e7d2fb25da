-- A greater signature has greater edges after greater environments.
use Rattle.std.proofs.Common.{ℕ, List}
use Rattle.jn_quals.specs.Qualifier.{Qualifier}
use Rattle.jn_points.specs.declared.point.PointKind.{PointKind}
use Rattle.jn_points.specs.declared.program.Program.{Program}
use Rattle.jn_env.specs.Environment.{Env}
use Rattle.jn_env.specs.Order.{QualsWithin, EnvWithin}
use Rattle.jn_transfer.specs.Covered.{Covered}
use Rattle.jn_transfer.specs.Transfer.{transfer, IsAmong}

-- what the law of transfer says of all programs
abbrev pub TransferGrows : Type 0
TransferGrows = (P : Program) (s t : List Qualifier) (b : ℕ) (kind : PointKind) (p : ℕ) (e f : Env) (x : ℕ × Env) → QualsWithin s t → EnvWithin e f → IsAmong x (transfer P s b kind p e) → Covered x (transfer P t b kind p f)
