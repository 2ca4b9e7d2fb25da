use Rattle.std.proofs.Common.{ℕ, ◌++◌, ◌<◌, ◌∙◌, ap, arith, length, length-append}
use Rattle.jn_lsp_frames.specs.Reading.{IsShorter}
use Rattle.jn_lsp_frames.proofs.Asked.{asks_body, lacks_back, lacks_body}
use Rattle.jn_lsp_frames.proofs.Taking.{takes_on}
use Rattle.jn_lsp_frames.proofs.Waiting.{left_long}
use Rattle.jn_lsp_frames.proofs.reader.FrameReader.skip.Goals as goal

pub loop-left-preserved : goal.loop-left-preserved
loop-left-preserved g c =
    let before = c.loop-left.invariant.taken in
    let more = c.in_ok-count.ensures.passed in
    record {
      taken = (
        before.0 ++ more.0,
        omega (arith, length-append before.0 more.0, before.1, more.1.many, more.1.few),
        takes_on (g.S.Stream.given c.args.input.now) c.args.self.now.pending.items (g.S.Stream.given c.loop-left.input) c.loop-left.self.pending.items (g.S.Stream.given c.pass_some.new.input) c.pass_some.new.self.pending.items before.0 more.0 before.2 more.1.taken,
      );
      faults = c.in_ok-count.ensures.cause ∙ c.loop-left.invariant.faults;
      asked = asks_body c.args.total (g.S.Stream.given c.args.input.now) c.args.self.now.pending.items (g.S.Stream.given c.loop-left.input) c.loop-left.self.pending.items before.0 before.2 (omega (arith, before.1)) (g.K.Sink.written c.args.out.now) (g.S.Stream.asked c.args.input.now) (g.S.Stream.asked c.loop-left.input) (g.S.Stream.asked c.pass_some.new.input) c.loop-left.invariant.asked c.in_ok-count.ensures.asked;
      unasked = λ le.
          let same = c.loop-left.invariant.unasked le in
          let long = left_long (g.S.Stream.given c.args.input.now) c.args.self.now.pending.items (g.S.Stream.given c.loop-left.input) c.loop-left.self.pending.items before.0 before.2 (ap g.S.Stream.given same) in
          let some : 0 < length c.loop-left.self.pending.items = omega (arith, long, le, before.1) in
          c.in_ok-count.ensures.unasked some ∙ same;
    }

pub returns-in_err-count-clause-asked : goal.returns-in_err-count-clause-asked
returns-in_err-count-clause-asked g c =
    let few : length c.loop-left.invariant.taken.0 < c.args.total = omega (arith, c.loop-left.invariant.taken.1) in
    asks_body c.args.total (g.S.Stream.given c.args.input.now) c.args.self.now.pending.items (g.S.Stream.given c.loop-left.input) c.loop-left.self.pending.items c.loop-left.invariant.taken.0 c.loop-left.invariant.taken.2 few (g.K.Sink.written c.args.out.now) (g.S.Stream.asked c.args.input.now) (g.S.Stream.asked c.loop-left.input) (g.S.Stream.asked c.pass_some.new.input) c.loop-left.invariant.asked c.in_err-count.ensures.asked

pub returns-then-count-eq0-clause-asked : goal.returns-then-count-eq0-clause-asked
returns-then-count-eq0-clause-asked g c =
    let few : length c.loop-left.invariant.taken.0 < c.args.total = omega (arith, c.loop-left.invariant.taken.1) in
    asks_body c.args.total (g.S.Stream.given c.args.input.now) c.args.self.now.pending.items (g.S.Stream.given c.loop-left.input) c.loop-left.self.pending.items c.loop-left.invariant.taken.0 c.loop-left.invariant.taken.2 few (g.K.Sink.written c.args.out.now) (g.S.Stream.asked c.args.input.now) (g.S.Stream.asked c.loop-left.input) (g.S.Stream.asked c.pass_some.new.input) c.loop-left.invariant.asked c.in_ok-count.ensures.asked

pub returns-in_err-count-clause-lacks : goal.returns-in_err-count-clause-lacks
returns-in_err-count-clause-lacks g c =
    let few : length c.loop-left.invariant.taken.0 < c.args.total = omega (arith, c.loop-left.invariant.taken.1) in
    let now = g.S.Stream.given c.pass_some.new.input in
    let fail = c.in_err-count.field-0.0 in
    lacks_back ℕ _ _ (IsShorter c.args.total) (g.S.Stream.given c.args.input.now) c.args.self.now.pending.items now c.from_residual.result fail c.from_residual.ensures.1 (lacks_body c.args.total (g.S.Stream.given c.args.input.now) c.args.self.now.pending.items (g.S.Stream.given c.loop-left.input) c.loop-left.self.pending.items c.loop-left.invariant.taken.0 c.loop-left.invariant.taken.2 few ℕ ℕ _ now fail c.in_err-count.ensures.lacks)
