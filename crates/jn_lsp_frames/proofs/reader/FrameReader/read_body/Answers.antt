use Rattle.std.proofs.Common.{ℕ, ◌<◌, ◌∙◌, arith, length-append, ap, length}
use Rattle.jn_lsp_frames.specs.Reading.{IsShorter}
use Rattle.jn_lsp_frames.proofs.Asked.{asks_body, lacks_back, lacks_body}
use Rattle.jn_lsp_frames.proofs.Taking.{more_body}
use Rattle.jn_lsp_frames.proofs.Waiting.{left_long}
use Rattle.jn_lsp_frames.proofs.reader.FrameReader.read_body.Goals as goal

pub loop-body-preserved : goal.loop-body-preserved
loop-body-preserved g c =
    let more = c.in_ok-count.ensures.taken in
    record {
      taken = more_body (g.S.Stream.given c.args.input.now) c.args.self.now.pending.items (g.S.Stream.given c.loop-body.input) c.loop-body.self.pending.items (g.S.Stream.given c.take_some.new.input) c.take_some.new.self.pending.items c.loop-body.body.items more.0 c.take_some.new.body.items more.1 c.loop-body.invariant.taken more.2.taken;
      few = omega (arith, ap length more.1, length-append c.loop-body.body.items more.0, more.2.many, more.2.few, c.loop-body.invariant.few);
      faults = c.in_ok-count.ensures.cause ∙ c.loop-body.invariant.faults;
      asked = asks_body c.args.total (g.S.Stream.given c.args.input.now) c.args.self.now.pending.items (g.S.Stream.given c.loop-body.input) c.loop-body.self.pending.items c.loop-body.body.items c.loop-body.invariant.taken (omega arith) (g.K.Sink.written c.args.out.now) (g.S.Stream.asked c.args.input.now) (g.S.Stream.asked c.loop-body.input) (g.S.Stream.asked c.take_some.new.input) c.loop-body.invariant.asked c.in_ok-count.ensures.asked;
      unasked = λ le.
          let same = c.loop-body.invariant.unasked le in
          let long = left_long (g.S.Stream.given c.args.input.now) c.args.self.now.pending.items (g.S.Stream.given c.loop-body.input) c.loop-body.self.pending.items c.loop-body.body.items c.loop-body.invariant.taken (ap g.S.Stream.given same) in
          let some : 0 < length c.loop-body.self.pending.items = omega (arith, long, le) in
          c.in_ok-count.ensures.unasked some ∙ same;
    }

pub returns-in_err-count-clause-asked : goal.returns-in_err-count-clause-asked
returns-in_err-count-clause-asked g c =
    let few : length c.loop-body.body.items < c.args.total = omega (arith) in
    asks_body c.args.total (g.S.Stream.given c.args.input.now) c.args.self.now.pending.items (g.S.Stream.given c.loop-body.input) c.loop-body.self.pending.items c.loop-body.body.items c.loop-body.invariant.taken few (g.K.Sink.written c.args.out.now) (g.S.Stream.asked c.args.input.now) (g.S.Stream.asked c.loop-body.input) (g.S.Stream.asked c.take_some.new.input) c.loop-body.invariant.asked c.in_err-count.ensures.asked

pub returns-then-count-eq0-clause-asked : goal.returns-then-count-eq0-clause-asked
returns-then-count-eq0-clause-asked g c =
    let few : length c.loop-body.body.items < c.args.total = omega (arith) in
    asks_body c.args.total (g.S.Stream.given c.args.input.now) c.args.self.now.pending.items (g.S.Stream.given c.loop-body.input) c.loop-body.self.pending.items c.loop-body.body.items c.loop-body.invariant.taken few (g.K.Sink.written c.args.out.now) (g.S.Stream.asked c.args.input.now) (g.S.Stream.asked c.loop-body.input) (g.S.Stream.asked c.take_some.new.input) c.loop-body.invariant.asked c.in_ok-count.ensures.asked

pub returns-in_err-count-clause-lacks : goal.returns-in_err-count-clause-lacks
returns-in_err-count-clause-lacks g c =
    let few : length c.loop-body.body.items < c.args.total = omega (arith) in
    let now = g.S.Stream.given c.take_some.new.input in
    let fail = c.in_err-count.field-0.0 in
    lacks_back ℕ _ _ (IsShorter c.args.total) (g.S.Stream.given c.args.input.now) c.args.self.now.pending.items now c.from_residual.result fail c.from_residual.ensures.1 (lacks_body c.args.total (g.S.Stream.given c.args.input.now) c.args.self.now.pending.items (g.S.Stream.given c.loop-body.input) c.loop-body.self.pending.items c.loop-body.body.items c.loop-body.invariant.taken few ℕ ℕ _ now fail c.in_err-count.ensures.lacks)
