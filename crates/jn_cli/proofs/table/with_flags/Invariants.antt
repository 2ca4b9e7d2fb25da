use Rattle.std.proofs.Common.{◌≡◌, drop, fold, map}
use Rattle.clap.specs.Words.{app_of, with_rule}
use Rattle.jn_cli.specs.Tables.{flag}
use Rattle.jn_cli.proofs.table.with_flags.Given as goal

abbrev pub invariant-loop-name : goal.invariant-loop-name
invariant-loop-name l = fold with_rule (app_of l.command) (map flag (map (λ n. n.now) (drop l.name-index l.names))) ≡ fold with_rule (app_of l.initial.command) (map flag (map (λ n. n.now) l.names))
