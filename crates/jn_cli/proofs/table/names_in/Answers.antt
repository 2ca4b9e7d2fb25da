use Rattle.std.proofs.Common.{◌∙◌, ap, codes, []}
use Rattle.std.specs.Prelude.{unwrap_or}
use Rattle.std.proofs.lemmas.Result.{IfOk-weaker}
use Rattle.clap.specs.Words.{found_of}
use Rattle.clap.proofs.WalkLemmas.{raw_values-rows}
use Rattle.jn_cli.proofs.table.names_in.Goals as goal

pub returns-in-None : goal.returns-in-None
returns-in-None c = c.new.ensures ∙ ap (λ o. unwrap_or o []) (c.in-None.ensures ∙ raw_values-rows (found_of c.args.matches.now) (codes "FILE"))

pub returns-in-Some : goal.returns-in-Some
returns-in-Some c = IfOk-weaker c.copies.result _ _ (λ ts h. h ∙ ap (λ o. unwrap_or o []) (c.in-Some.ensures ∙ raw_values-rows (found_of c.args.matches.now) (codes "FILE"))) c.copies.ensures
