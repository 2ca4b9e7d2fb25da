use Rattle.std.proofs.Common.{refl, ◌∙◌, subst}
use Rattle.jn_lsp_frames.specs.declared.frame.Next.{Next}
use Rattle.jn_lsp_frames.specs.declared.frame.Next.TheVariants as next
use Rattle.jn_lsp_frames.specs.Frames.{IsPartial}
use Rattle.jn_lsp_frames.specs.Reading.{HasRead}
use Rattle.nullcheck_lsp_top.specs.Answer.{EndsBy, IsHeard, channels}
use Rattle.nullcheck_lsp_top.specs.declared.frames.Heard.TheVariants.{Goes}
use Rattle.nullcheck_lsp_top.specs.Looking.{outside}
use Rattle.nullcheck_lsp_top.proofs.Looping.{counts_refused, counts_short, ends_frame, ends_input, ends_short, ends_turns, ends_unread, in_time_more, in_time_none, lacks_refused, runs_more, runs_none}
use Rattle.nullcheck_lsp_top.proofs.frames.take_frames.Goals as goal

pub returns-in-Ok-End-clause-answer : goal.returns-in-Ok-End-clause-answer
returns-in-Ok-End-clause-answer g c =
    let read = channels (g.S.Stream.given c.next.new.input) (g.S.Stream.ended c.next.new.input) (g.S.Stream.faults c.next.new.input) (g.S.Stream.asked c.next.new.input) (g.K.Sink.written c.loop-turn.out) (g.K.Sink.faults c.loop-turn.out) in
    ends_input _ _ _ _ _ _ _ _ _ c.loop-turn.invariant.runs read c.next.new.self.pending.items c.in-Ok-End.field-0-0 (rw c.in-Ok-End.field-0-is at c.in-Ok-End.ensures.read) refl refl c.in-Ok-End.ensures.cause

pub returns-in-Err-Refused-clause-answer : goal.returns-in-Err-Refused-clause-answer
returns-in-Err-Refused-clause-answer g c =
    let read = channels (g.S.Stream.given c.next.new.input) (g.S.Stream.ended c.next.new.input) (g.S.Stream.faults c.next.new.input) (g.S.Stream.asked c.next.new.input) (g.K.Sink.written c.loop-turn.out) (g.K.Sink.faults c.loop-turn.out) in
    let lacks = lacks_refused Next _ IsPartial (g.S.Stream.given c.loop-turn.input) c.loop-turn.reader.pending.items read.given c.in-Err-Refused.field-0 c.in-Err-Refused.field-0-0 c.in-Err-Refused.field-0-is c.in-Err-Refused.ensures.lacks in
    ends_unread _ _ _ _ _ _ _ _ _ c.loop-turn.invariant.runs read lacks.0 lacks.1 lacks.2 refl refl (counts_refused Next _ (g.S.Stream.faults c.loop-turn.input) read.hears c.in-Err-Refused.field-0 c.in-Err-Refused.field-0-0 c.in-Err-Refused.field-0-is c.in-Err-Refused.ensures.cause)

pub returns-in-Err-OutOfMemory-clause-answer : goal.returns-in-Err-OutOfMemory-clause-answer
returns-in-Err-OutOfMemory-clause-answer g c =
    let read = channels (g.S.Stream.given c.next.new.input) (g.S.Stream.ended c.next.new.input) (g.S.Stream.faults c.next.new.input) (g.S.Stream.asked c.next.new.input) (g.K.Sink.written c.loop-turn.out) (g.K.Sink.faults c.loop-turn.out) in
    ends_short _ _ _ _ _ _ _ _ _ c.loop-turn.invariant.runs read c.in-Err-OutOfMemory.ensures.grows refl refl (counts_short Next _ (g.S.Stream.faults c.loop-turn.input) read.hears c.in-Err-OutOfMemory.field-0 c.in-Err-OutOfMemory.field-0-is c.in-Err-OutOfMemory.ensures.cause)

pub returns-in-Ends-clause-answer : goal.returns-in-Ends-clause-answer
returns-in-Ends-clause-answer g c =
    let held = g.F.Files.held c.args.files.now in
    let out = outside (g.D.Folder.told c.loop-turn.folder) (g.D.Folder.faults c.loop-turn.folder) (g.F.Files.gave c.loop-turn.files) (g.F.Files.faults c.loop-turn.files) in
    let read = channels (g.S.Stream.given c.next.new.input) (g.S.Stream.ended c.next.new.input) (g.S.Stream.faults c.next.new.input) (g.S.Stream.asked c.next.new.input) (g.K.Sink.written c.loop-turn.out) (g.K.Sink.faults c.loop-turn.out) in
    let to = channels (g.S.Stream.given c.next.new.input) (g.S.Stream.ended c.next.new.input) (g.S.Stream.faults c.next.new.input) (g.S.Stream.asked c.next.new.input) (g.K.Sink.written c.take_frame.new.out) (g.K.Sink.faults c.take_frame.new.out) in
    let new = outside (g.D.Folder.told c.take_frame.new.folder) (g.D.Folder.faults c.take_frame.new.folder) (g.F.Files.gave c.take_frame.new.files) (g.F.Files.faults c.take_frame.new.files) in
    let frame = c.in-Ok-Frame.frame in
    let after = c.take_frame.new.client in
    let has : HasRead read.ended (g.S.Stream.given c.loop-turn.input) c.loop-turn.reader.pending.items read.given c.next.new.self.pending.items (next.Frame frame) = rw c.in-Ok-Frame.field-0-is at c.in-Ok-Frame.ensures.read in
    let by : EndsBy c.args.setup.now.address held read.written to.written read.writes to.writes out new c.loop-turn.client frame after c.in-Ends.status = subst (λ h. EndsBy c.args.setup.now.address h read.written to.written read.writes to.writes out new c.loop-turn.client frame after c.in-Ends.status) c.loop-turn.invariant.held c.in-Ends.ensures.heard in
    ends_frame _ _ _ _ _ _ _ _ _ c.loop-turn.invariant.runs read to new c.next.new.self.pending.items frame after has refl refl c.in-Ok-Frame.ensures.cause refl refl c.in-Ends.status by

pub returns-clause-answer : goal.returns-clause-answer
returns-clause-answer g c = ends_turns _ _ _ _ _ _ _ _ _ c.loop-turn.invariant.runs c.loop-turn-test.false

pub returns-in-Ok-End-clause-in_time : goal.returns-in-Ok-End-clause-in_time
returns-in-Ok-End-clause-in_time g c = in_time_more _ _ _ _ _ _ _ _ _ _ c.loop-turn.invariant.runs c.loop-turn.invariant.in_time c.in-Ok-End.ensures.asked

pub returns-in-Err-Refused-clause-in_time : goal.returns-in-Err-Refused-clause-in_time
returns-in-Err-Refused-clause-in_time g c = in_time_more _ _ _ _ _ _ _ _ _ _ c.loop-turn.invariant.runs c.loop-turn.invariant.in_time c.in-Err-Refused.ensures.asked

pub returns-in-Err-OutOfMemory-clause-in_time : goal.returns-in-Err-OutOfMemory-clause-in_time
returns-in-Err-OutOfMemory-clause-in_time g c = in_time_more _ _ _ _ _ _ _ _ _ _ c.loop-turn.invariant.runs c.loop-turn.invariant.in_time c.in-Err-OutOfMemory.ensures.asked

pub returns-in-Ends-clause-in_time : goal.returns-in-Ends-clause-in_time
returns-in-Ends-clause-in_time g c = in_time_more _ _ _ _ _ _ _ _ _ _ c.loop-turn.invariant.runs c.loop-turn.invariant.in_time c.in-Ok-Frame.ensures.asked

pub loop-turn-preserved : goal.loop-turn-preserved
loop-turn-preserved g c =
    let held = g.F.Files.held c.args.files.now in
    let out = outside (g.D.Folder.told c.loop-turn.folder) (g.D.Folder.faults c.loop-turn.folder) (g.F.Files.gave c.loop-turn.files) (g.F.Files.faults c.loop-turn.files) in
    let read = channels (g.S.Stream.given c.next.new.input) (g.S.Stream.ended c.next.new.input) (g.S.Stream.faults c.next.new.input) (g.S.Stream.asked c.next.new.input) (g.K.Sink.written c.loop-turn.out) (g.K.Sink.faults c.loop-turn.out) in
    let to = channels (g.S.Stream.given c.next.new.input) (g.S.Stream.ended c.next.new.input) (g.S.Stream.faults c.next.new.input) (g.S.Stream.asked c.next.new.input) (g.K.Sink.written c.take_frame.new.out) (g.K.Sink.faults c.take_frame.new.out) in
    let new = outside (g.D.Folder.told c.take_frame.new.folder) (g.D.Folder.faults c.take_frame.new.folder) (g.F.Files.gave c.take_frame.new.files) (g.F.Files.faults c.take_frame.new.files) in
    let frame = c.in-Ok-Frame.frame in
    let after = c.take_frame.new.client in
    let has : HasRead read.ended (g.S.Stream.given c.loop-turn.input) c.loop-turn.reader.pending.items read.given c.next.new.self.pending.items (next.Frame frame) = rw c.in-Ok-Frame.field-0-is at c.in-Ok-Frame.ensures.read in
    let heard : IsHeard c.args.setup.now.address held read.written to.written read.writes to.writes out new c.loop-turn.client frame after Goes = subst (λ h. IsHeard c.args.setup.now.address h read.written to.written read.writes to.writes out new c.loop-turn.client frame after Goes) c.loop-turn.invariant.held c.in-Goes.ensures.heard in
    record {
      held = c.in-Goes.ensures.held ∙ c.loop-turn.invariant.held;
      runs = runs_more _ _ _ _ _ _ _ _ _ c.loop-turn.invariant.runs read to new c.next.new.self.pending.items frame after has refl refl c.in-Ok-Frame.ensures.cause refl refl heard.0 heard.1;
      in_time = in_time_more _ _ _ _ _ _ _ _ _ _ c.loop-turn.invariant.runs c.loop-turn.invariant.in_time c.in-Ok-Frame.ensures.asked;
    }

pub loop-turn-init : goal.loop-turn-init
loop-turn-init g c =
    let held = g.F.Files.held c.args.files.now in
    let from = channels (g.S.Stream.given c.args.input.now) (g.S.Stream.ended c.args.input.now) (g.S.Stream.faults c.args.input.now) (g.S.Stream.asked c.args.input.now) (g.K.Sink.written c.args.out.now) (g.K.Sink.faults c.args.out.now) in
    let old = outside (g.D.Folder.told c.args.folder.now) (g.D.Folder.faults c.args.folder.now) (g.F.Files.gave c.args.files.now) (g.F.Files.faults c.args.files.now) in
    record {
      held = refl;
      runs = runs_none c.args.setup.now held from old c.args.reader.now.pending.items c.args.client.now c.requires.fresh c.requires.silent;
      in_time = in_time_none c.args.setup.now held from from old refl;
    }
