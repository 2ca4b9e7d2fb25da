use Rattle.std.proofs.Common.{List, sym, subst}
use Rattle.jn_lsp_actions.specs.Hinted.{AreExplained}
use Rattle.jn_lsp_text.specs.declared.reply.Hint.{Hint}
use Rattle.jn_lsp_actions.proofs.explaining.with_reasons.Goals as goal

pub returns : goal.returns
returns c =
    let v = c.args.traced.now in
    record {
      tables = v.tables;
      solved = c.facts.ensures.solved;
      each = subst (λ (hints : List Hint). AreExplained v.encoding v.files v.names v.program v.sig v.tables c.args.shown.now hints) (sym c.of_vec.ensures) c.in_ok-hints.ensures;
    }
