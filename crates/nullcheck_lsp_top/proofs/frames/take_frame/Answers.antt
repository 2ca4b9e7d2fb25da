use Rattle.std.proofs.Common.{ℕ, List, inr, refl, sym, ◌∙◌, subst}
use Rattle.jn_outside.specs.Causes.{Rose}
use Rattle.jn_outside.specs.Sink.{Appends, AppendsPrefix}
use Rattle.nullcheck_lsp_top.specs.Looking.{outside}
use Rattle.nullcheck_lsp_top.proofs.Looping.{heard_broken, heard_short, heard_unbegun, heard_whole}
use Rattle.nullcheck_lsp_top.proofs.frames.take_frame.Goals as goal

pub returns-in-Err-clause-heard : goal.returns-in-Err-clause-heard
returns-in-Err-clause-heard g c =
    let held = g.F.Files.held c.args.files.now in
    let from = g.K.Sink.written c.args.out.now in
    let mid = g.K.Sink.written c.write_begun.new.out in
    let before = g.K.Sink.faults c.args.out.now in
    let now = g.K.Sink.faults c.write_begun.new.out in
    let old = outside (g.D.Folder.told c.args.folder.now) (g.D.Folder.faults c.args.folder.now) (g.F.Files.gave c.args.files.now) (g.F.Files.faults c.args.files.now) in
    let opened = c.in-Ok.ensures in
    heard_unbegun c.args.setup.now.address held from mid mid before now old old c.args.client.now c.args.frame.now c.args.client.now opened.message opened.is c.deref.result.now (c.deref.ensures.value ∙ opened.bytes)
    c.in-Err.ensures.err
    (sym opened.task.announced ∙ c.in-Err.ensures.told)
    refl
    c.in-Err.ensures.cause.failed

pub returns-in_default-answer-clause-heard : goal.returns-in_default-answer-clause-heard
returns-in_default-answer-clause-heard g c =
    let held = g.F.Files.held c.args.files.now in
    let from = g.K.Sink.written c.args.out.now in
    let mid = g.K.Sink.written c.write_begun.new.out in
    let before = g.K.Sink.faults c.args.out.now in
    let now = g.K.Sink.faults c.write_begun.new.out in
    let old = outside (g.D.Folder.told c.args.folder.now) (g.D.Folder.faults c.args.folder.now) (g.F.Files.gave c.args.files.now) (g.F.Files.faults c.args.files.now) in
    let new = outside (g.D.Folder.told c.answer.new.folder) (g.D.Folder.faults c.answer.new.folder) (g.F.Files.gave c.answer.new.files) (g.F.Files.faults c.answer.new.files) in
    let opened = c.in-Ok.ensures in
    heard_short c.args.setup.now.address held from mid mid before now old new c.args.client.now c.args.frame.now c.answer.new.client opened.message opened.is c.deref.result.now (c.deref.ensures.value ∙ opened.bytes)
    c.in-Ok-write_begun.ensures.ok
    (inr (c.answer.ensures.starts opened.message opened.task))
    c.in-Ok-write_begun.ensures.cause.kept

pub returns-in-Ok-write_whole-clause-heard : goal.returns-in-Ok-write_whole-clause-heard
returns-in-Ok-write_whole-clause-heard g c =
    let held = g.F.Files.held c.args.files.now in
    let from = g.K.Sink.written c.args.out.now in
    let mid = g.K.Sink.written c.write_begun.new.out in
    let to = g.K.Sink.written c.write_whole.new.sink in
    let before = g.K.Sink.faults c.args.out.now in
    let now = g.K.Sink.faults c.write_whole.new.sink in
    let old = outside (g.D.Folder.told c.args.folder.now) (g.D.Folder.faults c.args.folder.now) (g.F.Files.gave c.args.files.now) (g.F.Files.faults c.args.files.now) in
    let new = outside (g.D.Folder.told c.answer.new.folder) (g.D.Folder.faults c.answer.new.folder) (g.F.Files.gave c.answer.new.files) (g.F.Files.faults c.answer.new.files) in
    let opened = c.in-Ok.ensures in
    heard_whole c.args.setup.now.address held from mid to before now old new c.args.client.now c.args.frame.now c.answer.new.client opened.message opened.is c.deref.result.now (c.deref.ensures.value ∙ opened.bytes)
    c.in-Ok-answer.bytes.items
    c.in-Ok-write_begun.ensures.ok
    (c.in-Ok-answer.ensures.answers opened.message opened.task)
    c.phase.result c.goes_on.result
    (subst (λ (b : List ℕ). Appends mid to b) c.deref-2.ensures.value c.in-Ok-write_whole.ensures.ok)
    (c.in-Ok-write_whole.ensures.cause.kept ∙ c.in-Ok-write_begun.ensures.cause.kept)
    c.phase.ensures
    c.goes_on.ensures

pub returns-clause-heard : goal.returns-clause-heard
returns-clause-heard g c =
    let held = g.F.Files.held c.args.files.now in
    let from = g.K.Sink.written c.args.out.now in
    let mid = g.K.Sink.written c.write_begun.new.out in
    let to = g.K.Sink.written c.write_whole.new.sink in
    let before = g.K.Sink.faults c.args.out.now in
    let now = g.K.Sink.faults c.write_whole.new.sink in
    let old = outside (g.D.Folder.told c.args.folder.now) (g.D.Folder.faults c.args.folder.now) (g.F.Files.gave c.args.files.now) (g.F.Files.faults c.args.files.now) in
    let new = outside (g.D.Folder.told c.answer.new.folder) (g.D.Folder.faults c.answer.new.folder) (g.F.Files.gave c.answer.new.files) (g.F.Files.faults c.answer.new.files) in
    let opened = c.in-Ok.ensures in
    heard_broken c.args.setup.now.address held from mid to before now old new c.args.client.now c.args.frame.now c.answer.new.client opened.message opened.is c.deref.result.now (c.deref.ensures.value ∙ opened.bytes)
    c.in-Ok-answer.bytes.items
    c.in-Ok-write_begun.ensures.ok
    (c.in-Ok-answer.ensures.answers opened.message opened.task)
    (subst (λ (b : List ℕ). AppendsPrefix mid to b) c.deref-2.ensures.value c.in-Err-write_whole.ensures.err)
    (subst (λ (n : ℕ). Rose n now) c.in-Ok-write_begun.ensures.cause.kept c.in-Err-write_whole.ensures.cause.failed)
