use Rattle.jn_lsp.proofs.Hushing.{told_known}
use Rattle.jn_lsp.proofs.server.retell.Goals as goal

pub returns-clause-told : goal.returns-clause-told
returns-clause-told g c =
    told_known c.args.workspace.now c.args.last.now c.in_ok-all.field-0.came c.in_ok-files.files c.as_slice.result.now c.as_slice-2.result.now c.in_ok-all.field-0.told.items c.in_ok-told.told.items
    c.in_ok-files.ensures c.as_slice.ensures c.as_slice-2.ensures.value c.in_ok-all.ensures c.in_ok-told.ensures
