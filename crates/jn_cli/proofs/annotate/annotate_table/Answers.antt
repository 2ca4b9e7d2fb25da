use Rattle.std.proofs.Common.{◌≡◌, ℕ, List, [], ◌∷◌, codes, map, rules}
use Rattle.jn_cli.specs.Tables.{app_with, table}
use Rattle.jn_cli.specs.Annotate.{annotate_app}
use Rattle.jn_cli.proofs.annotate.annotate_table.Goals as goal

pub returns : goal.returns
unfolding annotate_app
returns c =
    let values : map (λ n. n.now) c.as_slice.result.now ≡ codes "infer" ∷ [] = search rules in
    let flags : map (λ n. n.now) c.as_slice-2.result.now ≡ codes "imports" ∷ codes "terse" ∷ codes "check" ∷ codes "write" ∷ [] = search rules in
    λ i. app_with (table (codes "nullcheck_annotate") (values i) (flags i))
