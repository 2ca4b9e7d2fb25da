use Rattle.std.proofs.Common.{◌≡◌, ℕ, List, [], ◌∷◌, codes, map, rules}
use Rattle.jn_cli.specs.Tables.{app_with, table}
use Rattle.jn_cli.specs.Server.{server_app}
use Rattle.jn_cli.proofs.server.server_table.Goals as goal

pub returns : goal.returns
unfolding server_app
returns c =
    let values : map (λ n. n.now) c.as_slice.result.now ≡ codes "codes" ∷ codes "infer" ∷ [] = search rules in
    let flags : map (λ n. n.now) c.as_slice-2.result.now ≡ [] = search rules in
    λ i. app_with (table (codes "nullcheck_lsp") (values i) (flags i))
