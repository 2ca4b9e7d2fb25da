use Rattle.std.proofs.Common.{◌≡◌, ℕ, List, [], ◌∷◌, codes, map, rules}
use Rattle.jn_cli.specs.Tables.{app_with, table}
use Rattle.jn_cli.specs.Words.{nullcheck_app}
use Rattle.jn_cli.proofs.parse.nullcheck_table.Goals as goal

pub returns : goal.returns
unfolding nullcheck_app
returns c =
    let values : map (λ n. n.now) c.as_slice.result.now ≡ codes "workers" ∷ codes "report" ∷ codes "infer" ∷ codes "steps" ∷ codes "words" ∷ codes "gen" ∷ codes "codes" ∷ [] = search rules in
    let flags : map (λ n. n.now) c.as_slice-2.result.now ≡ codes "run" ∷ [] = search rules in
    λ i. app_with (table (codes "nullcheck") (values i) (flags i))
