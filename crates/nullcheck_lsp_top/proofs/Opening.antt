-- What is known of a message before it is worked on.
use Rattle.std.proofs.Common.{◌≡◌, List, ap, ◌∙◌, subst}
use Rattle.std.specs.Prelude.{is_some}
use Rattle.jn_front.specs.declared.source.SourceFile.{SourceFile}
use Rattle.jn_lsp.specs.declared.documents.Workspace.{Workspace}
use Rattle.jn_lsp.specs.declared.phase.Phase.{Phase}
use Rattle.jn_lsp_text.specs.declared.message.Message.{Message}
use Rattle.nullcheck_lsp_top.specs.declared.client.Client.{Client}
use Rattle.nullcheck_lsp_top.specs.declared.messages.Task.{Task}
use Rattle.nullcheck_lsp_top.specs.Announcing.{able_behind, announces, next_behind, progress_with}
use Rattle.nullcheck_lsp_top.specs.Hearing.{IsTask, announced, looks}
use Rattle.nullcheck_lsp_top.specs.Looking.{told_root}
use Rattle.nullcheck_lsp_top.specs.Placing.{foreign_in, notices, placed}

-- by the phase, the workspace and the documents of the server
abbrev IsTaskBy : Phase → Workspace → List SourceFile → Client → Message → Task → Type 0
IsTaskBy phase workspace documents client message task =
    (task.told ≡ told_root phase client.root message)
    × (task.message ≡ placed client.root documents message)
    × (task.looks ≡ looks phase task.message)
    × (task.notices.items ≡ notices phase client.root documents client.said message)
    × (task.foreign ≡ is_some (foreign_in phase client.root documents message))
    × (task.announced ≡ announces phase workspace client.progress task.message)
    × (task.progress ≡ progress_with (able_behind phase client.progress.able message) (next_behind task.announced client.progress.next))

task_by : (client : Client) (message : Message) (task : Task) → IsTaskBy client.server.phase client.server.workspace client.server.workspace.documents client message task → IsTask client message task
task_by client message task (told, taken, looks_, notices_, foreign_, announced_, progress_) =
    let is_announced : task.announced ≡ announced client message = announced_ ∙ ap (announces client.server.phase client.server.workspace client.progress) taken in
    record {
      taken = taken;
      told = told;
      looks = looks_ ∙ ap (looks client.server.phase) taken;
      notices = notices_;
      foreign = foreign_;
      announced = is_announced;
      progress = progress_ ∙ ap (λ b. progress_with (able_behind client.server.phase client.progress.able message) (next_behind b client.progress.next)) is_announced;
    }

pub task_from : (phase : Phase) (workspace : Workspace) (documents : List SourceFile) (client : Client) (message : Message) (task : Task) → phase ≡ client.server.phase → workspace ≡ client.server.workspace → documents ≡ workspace.documents → IsTaskBy phase workspace documents client message task → IsTask client message task
task_from phase workspace documents client message task e f g by =
    task_by client message task
    (subst (λ p. IsTaskBy p client.server.workspace client.server.workspace.documents client message task) e
    (subst (λ (w : Workspace). IsTaskBy phase w w.documents client message task) f
    (subst (λ (ds : List SourceFile). IsTaskBy phase workspace ds client message task) g by)))
