use Rattle.std.proofs.Common.{◌≡◌, ℕ, List, [], ◌∷◌, codes, map, rules}
use Rattle.jn_cli.specs.Tables.{app_with, table}
use Rattle.jn_cli.specs.Names.{names_app}
use Rattle.jn_cli.proofs.names.names_table.Goals as goal

pub returns : goal.returns
unfolding names_app
returns c =
    let values : map (λ n. n.now) c.as_slice.result.now ≡ codes "infer" ∷ [] = search rules in
    let flags : map (λ n. n.now) c.as_slice-2.result.now ≡ [] = search rules in
    λ i. app_with (table c.args.program.now (values i) (flags i))
