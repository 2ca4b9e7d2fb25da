use Rattle.std.proofs.Common.{refl}
use Rattle.nullcheck_lsp_top.specs.declared.client.Client.{Client}
use Rattle.nullcheck_lsp_top.specs.Looking.{outside}
use Rattle.nullcheck_lsp_top.proofs.Hearing.{hears_from}
use Rattle.nullcheck_lsp_top.proofs.Starting.{starts_first, starts_from, starts_traced}
use Rattle.nullcheck_lsp_top.proofs.messages.hear.Goals as goal

pub returns-clause-hears : goal.returns-clause-hears
returns-clause-hears g c message is =
    let held = g.F.Files.held c.args.files.now in
    let old = outside (g.D.Folder.told c.args.folder.now) (g.D.Folder.faults c.args.folder.now) (g.F.Files.gave c.args.files.now) (g.F.Files.faults c.args.files.now) in
    let out = outside (g.D.Folder.told c.traced_where.new.folder) (g.D.Folder.faults c.traced_where.new.folder) (g.F.Files.gave c.args.files.now) (g.F.Files.faults c.args.files.now) in
    let new = outside (g.D.Folder.told c.look_where.new.folder) (g.D.Folder.faults c.look_where.new.folder) (g.F.Files.gave c.look_where.new.files) (g.F.Files.faults c.look_where.new.files) in
    let start = c.settle.new.client in
    let mid : Client = record { server = c.take.new.self; root = start.root; shown = start.shown; said = start.said; progress = start.progress } in
    hears_from held old out new c.in_ok-told.told c.args.client.now start mid c.look_where.new.client message c.args.task c.in_ok-replies.replies.items c.in_ok-more.more.items c.in_ok-all.all.items
    is
    (c.in_ok-told.ensures.traces, (refl, refl))
    c.settle.ensures.server
    c.settle.ensures.root
    c.settle.ensures.shown
    c.settle.ensures.said
    c.settle.ensures.progress
    c.in_ok-replies.ensures.takes refl refl refl refl
    c.in_ok-more.ensures.looks
    c.in_ok-all.ensures

pub returns-in_err-told-clause-starts : goal.returns-in_err-told-clause-starts
returns-in_err-told-clause-starts g c message is =
    let held = g.F.Files.held c.args.files.now in
    let old = outside (g.D.Folder.told c.args.folder.now) (g.D.Folder.faults c.args.folder.now) (g.F.Files.gave c.args.files.now) (g.F.Files.faults c.args.files.now) in
    let out = outside (g.D.Folder.told c.traced_where.new.folder) (g.D.Folder.faults c.traced_where.new.folder) (g.F.Files.gave c.args.files.now) (g.F.Files.faults c.args.files.now) in
    starts_first held old out out c.args.client.now message c.args.task is (c.in_err-told.ensures.first, (refl, refl))

pub returns-in_err-replies-clause-starts : goal.returns-in_err-replies-clause-starts
returns-in_err-replies-clause-starts g c message is =
    let held = g.F.Files.held c.args.files.now in
    let old = outside (g.D.Folder.told c.args.folder.now) (g.D.Folder.faults c.args.folder.now) (g.F.Files.gave c.args.files.now) (g.F.Files.faults c.args.files.now) in
    let out = outside (g.D.Folder.told c.traced_where.new.folder) (g.D.Folder.faults c.traced_where.new.folder) (g.F.Files.gave c.args.files.now) (g.F.Files.faults c.args.files.now) in
    starts_traced held old out out c.args.client.now message c.args.task is c.in_ok-told.told (c.in_ok-told.ensures.traces, (refl, refl))

pub returns-in_err-more-clause-starts : goal.returns-in_err-more-clause-starts
returns-in_err-more-clause-starts g c message is =
    let held = g.F.Files.held c.args.files.now in
    let old = outside (g.D.Folder.told c.args.folder.now) (g.D.Folder.faults c.args.folder.now) (g.F.Files.gave c.args.files.now) (g.F.Files.faults c.args.files.now) in
    let out = outside (g.D.Folder.told c.traced_where.new.folder) (g.D.Folder.faults c.traced_where.new.folder) (g.F.Files.gave c.args.files.now) (g.F.Files.faults c.args.files.now) in
    let new = outside (g.D.Folder.told c.look_where.new.folder) (g.D.Folder.faults c.look_where.new.folder) (g.F.Files.gave c.look_where.new.files) (g.F.Files.faults c.look_where.new.files) in
    starts_from held old out new c.args.client.now message c.args.task is c.settle.new.client.root c.in_ok-told.told (c.in_ok-told.ensures.traces, (refl, refl)) c.settle.ensures.root c.look_where.ensures.starts

pub returns-in_err-all-clause-starts : goal.returns-in_err-all-clause-starts
returns-in_err-all-clause-starts g c message is =
    let held = g.F.Files.held c.args.files.now in
    let old = outside (g.D.Folder.told c.args.folder.now) (g.D.Folder.faults c.args.folder.now) (g.F.Files.gave c.args.files.now) (g.F.Files.faults c.args.files.now) in
    let out = outside (g.D.Folder.told c.traced_where.new.folder) (g.D.Folder.faults c.traced_where.new.folder) (g.F.Files.gave c.args.files.now) (g.F.Files.faults c.args.files.now) in
    let new = outside (g.D.Folder.told c.look_where.new.folder) (g.D.Folder.faults c.look_where.new.folder) (g.F.Files.gave c.look_where.new.files) (g.F.Files.faults c.look_where.new.files) in
    starts_from held old out new c.args.client.now message c.args.task is c.settle.new.client.root c.in_ok-told.told (c.in_ok-told.ensures.traces, (refl, refl)) c.settle.ensures.root c.look_where.ensures.starts

pub returns-clause-starts : goal.returns-clause-starts
returns-clause-starts g c message is =
    let held = g.F.Files.held c.args.files.now in
    let old = outside (g.D.Folder.told c.args.folder.now) (g.D.Folder.faults c.args.folder.now) (g.F.Files.gave c.args.files.now) (g.F.Files.faults c.args.files.now) in
    let out = outside (g.D.Folder.told c.traced_where.new.folder) (g.D.Folder.faults c.traced_where.new.folder) (g.F.Files.gave c.args.files.now) (g.F.Files.faults c.args.files.now) in
    let new = outside (g.D.Folder.told c.look_where.new.folder) (g.D.Folder.faults c.look_where.new.folder) (g.F.Files.gave c.look_where.new.files) (g.F.Files.faults c.look_where.new.files) in
    starts_from held old out new c.args.client.now message c.args.task is c.settle.new.client.root c.in_ok-told.told (c.in_ok-told.ensures.traces, (refl, refl)) c.settle.ensures.root c.look_where.ensures.starts
