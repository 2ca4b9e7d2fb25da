use Rattle.std.proofs.Common.{ap, ◌∙◌}
use Rattle.nullcheck_lsp_top.specs.Announcing.{able_behind, progress_with}
use Rattle.nullcheck_lsp_top.proofs.Opening.{task_from}
use Rattle.nullcheck_lsp_top.proofs.messages.task_of.Goals as goal

pub returns : goal.returns
returns c =
    task_from c.phase-phase.result c.workspace-workspace.result.now c.as_slice-documents.result.now c.args.client.now c.args.message _
    c.phase-phase.ensures
    c.workspace-workspace.ensures
    c.as_slice-documents.ensures (
      c.in_ok-told.ensures,
      c.in_ok-message.ensures,
      c.looks-looks.ensures,
      c.in_ok-first.ensures.notices,
      c.in_ok-first.ensures.foreign,
      c.announces-announced.ensures.is,
      ap (λ b. progress_with b c.next_behind-next.result) c.able_behind-able.ensures ∙ ap (λ n. progress_with (able_behind c.phase-phase.result c.args.client.now.progress.able c.args.message) n) c.next_behind-next.ensures,
    )
