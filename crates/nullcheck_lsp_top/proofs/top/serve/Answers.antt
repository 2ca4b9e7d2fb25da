use Rattle.std.proofs.Common.{map}
use Rattle.std.specs.String.{string_bytes}
use Rattle.nullcheck_lsp_top.specs.Answer.{channels}
use Rattle.nullcheck_lsp_top.specs.Looking.{outside}
use Rattle.jn_cli.specs.Server.{setup_of}
use Rattle.nullcheck_lsp_top.proofs.Ending.{read_rose, write_rose}
use Rattle.nullcheck_lsp_top.proofs.Wording.{other_by, refused, serving_by, short_by}
use Rattle.nullcheck_lsp_top.proofs.top.serve.Goals as goal

pub returns-in-Err-OutOfMemory-clause-answer : goal.returns-in-Err-OutOfMemory-clause-answer
returns-in-Err-OutOfMemory-clause-answer g c =
    let held = g.F.Files.held c.args.files.now in
    let from = channels (g.S.Stream.given c.args.input.now) (g.S.Stream.ended c.args.input.now) (g.S.Stream.faults c.args.input.now) (g.S.Stream.asked c.args.input.now) (g.K.Sink.written c.args.out.now) (g.K.Sink.faults c.args.out.now) in
    let old = outside (g.D.Folder.told c.args.folder.now) (g.D.Folder.faults c.args.folder.now) (g.F.Files.gave c.args.files.now) (g.F.Files.faults c.args.files.now) in
    short_by (setup_of (map string_bytes c.args.words.now)) held from old

pub returns-in-Err-Refused-clause-answer : goal.returns-in-Err-Refused-clause-answer
returns-in-Err-Refused-clause-answer g c =
    let held = g.F.Files.held c.args.files.now in
    let from = channels (g.S.Stream.given c.args.input.now) (g.S.Stream.ended c.args.input.now) (g.S.Stream.faults c.args.input.now) (g.S.Stream.asked c.args.input.now) (g.K.Sink.written c.args.out.now) (g.K.Sink.faults c.args.out.now) in
    let old = outside (g.D.Folder.told c.args.folder.now) (g.D.Folder.faults c.args.folder.now) (g.F.Files.gave c.args.files.now) (g.F.Files.faults c.args.files.now) in
    other_by (setup_of (map string_bytes c.args.words.now)) held from old (refused _ _ _ c.in-Err-Refused.field-0-is c.in-Err-Refused.ensures.usage)

pub returns-in-Ok-clause-answer : goal.returns-in-Ok-clause-answer
returns-in-Ok-clause-answer g c =
    let held = g.F.Files.held c.args.files.now in
    let from = channels (g.S.Stream.given c.args.input.now) (g.S.Stream.ended c.args.input.now) (g.S.Stream.faults c.args.input.now) (g.S.Stream.asked c.args.input.now) (g.K.Sink.written c.args.out.now) (g.K.Sink.faults c.args.out.now) in
    let to = channels (g.S.Stream.given c.serve_all.new.input) (g.S.Stream.ended c.serve_all.new.input) (g.S.Stream.faults c.serve_all.new.input) (g.S.Stream.asked c.serve_all.new.input) (g.K.Sink.written c.serve_all.new.out) (g.K.Sink.faults c.serve_all.new.out) in
    let old = outside (g.D.Folder.told c.args.folder.now) (g.D.Folder.faults c.args.folder.now) (g.F.Files.gave c.args.files.now) (g.F.Files.faults c.args.files.now) in
    let new = outside (g.D.Folder.told c.serve_all.new.folder) (g.D.Folder.faults c.serve_all.new.folder) (g.F.Files.gave c.serve_all.new.files) (g.F.Files.faults c.serve_all.new.files) in
    serving_by (setup_of (map string_bytes c.args.words.now)) c.in-Ok.setup held from to old new c.serve_all.result c.in-Ok.ensures.setup c.serve_all.ensures.answer c.serve_all.ensures.in_time

pub returns-in-Ok-clause-read_always : goal.returns-in-Ok-clause-read_always
returns-in-Ok-clause-read_always g c =
    let held = g.F.Files.held c.args.files.now in
    let from = channels (g.S.Stream.given c.args.input.now) (g.S.Stream.ended c.args.input.now) (g.S.Stream.faults c.args.input.now) (g.S.Stream.asked c.args.input.now) (g.K.Sink.written c.args.out.now) (g.K.Sink.faults c.args.out.now) in
    let to = channels (g.S.Stream.given c.serve_all.new.input) (g.S.Stream.ended c.serve_all.new.input) (g.S.Stream.faults c.serve_all.new.input) (g.S.Stream.asked c.serve_all.new.input) (g.K.Sink.written c.serve_all.new.out) (g.K.Sink.faults c.serve_all.new.out) in
    let old = outside (g.D.Folder.told c.args.folder.now) (g.D.Folder.faults c.args.folder.now) (g.F.Files.gave c.args.files.now) (g.F.Files.faults c.args.files.now) in
    let new = outside (g.D.Folder.told c.serve_all.new.folder) (g.D.Folder.faults c.serve_all.new.folder) (g.F.Files.gave c.serve_all.new.files) (g.F.Files.faults c.serve_all.new.files) in
    read_rose c.in-Ok.setup held from to old new c.serve_all.result c.serve_all.ensures.answer

pub returns-in-Ok-clause-write_always : goal.returns-in-Ok-clause-write_always
returns-in-Ok-clause-write_always g c =
    let held = g.F.Files.held c.args.files.now in
    let from = channels (g.S.Stream.given c.args.input.now) (g.S.Stream.ended c.args.input.now) (g.S.Stream.faults c.args.input.now) (g.S.Stream.asked c.args.input.now) (g.K.Sink.written c.args.out.now) (g.K.Sink.faults c.args.out.now) in
    let to = channels (g.S.Stream.given c.serve_all.new.input) (g.S.Stream.ended c.serve_all.new.input) (g.S.Stream.faults c.serve_all.new.input) (g.S.Stream.asked c.serve_all.new.input) (g.K.Sink.written c.serve_all.new.out) (g.K.Sink.faults c.serve_all.new.out) in
    let old = outside (g.D.Folder.told c.args.folder.now) (g.D.Folder.faults c.args.folder.now) (g.F.Files.gave c.args.files.now) (g.F.Files.faults c.args.files.now) in
    let new = outside (g.D.Folder.told c.serve_all.new.folder) (g.D.Folder.faults c.serve_all.new.folder) (g.F.Files.gave c.serve_all.new.files) (g.F.Files.faults c.serve_all.new.files) in
    write_rose c.in-Ok.setup held from to old new c.serve_all.result c.serve_all.ensures.answer
