use Rattle.std.proofs.Common.{◌≡◌, ◌∙◌, ap, fold, map, true}
use Rattle.std.proofs.lemmas.Result.{IfOk-weaker}
use Rattle.clap.specs.Words.{app_of, with_rule}
use Rattle.clap.specs.Simple.{app_of_fields, on_top}
use Rattle.jn_cli.specs.Tables.{bare_app, flag, single, table_of}
use Rattle.jn_cli.proofs.Taken.{added}
use Rattle.jn_cli.proofs.table.command.Goals as goal

pub returns : goal.returns
returns c =
    let t = table_of c.args.table in
    let bare : app_of c.disable_help_flag-command.result ≡ bare_app t.program =
    ap app_of_fields c.disable_help_flag-command.ensures ∙ ap (on_top (λ s. record s { disable_help_flag = true }))
    (ap app_of_fields c.no_binary_name.ensures ∙ ap (on_top (λ s. record s { no_binary_name = true })) c.new.ensures.app) in
    let valued = c.in_ok-command.ensures ∙ ap (λ a. fold with_rule a (map single t.values)) bare in
    let flagged = c.in_ok-command-2.ensures ∙ ap (λ a. fold with_rule a (map flag t.flags)) valued in
    IfOk-weaker c.arg.result _ _ (λ r h. added _ _ _ _ _ h c.file.ensures.local flagged c.file.ensures.rule) c.arg.ensures
