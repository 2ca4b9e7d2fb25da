use Rattle.std.proofs.Common.{◌≡◌, drop, map}
use Rattle.std.specs.Prelude.{string_bytes}
use Rattle.jn_targets.specs.Replacing.{is_one}
use Rattle.nullcheck_cert_write.proofs.command.is_among.Given as goal

abbrev pub invariant-loop-one : goal.invariant-loop-one
invariant-loop-one l = is_one (map string_bytes (drop l.one-index l.names)) l.name ≡ is_one (map string_bytes l.names) l.name
