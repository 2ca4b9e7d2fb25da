use Rattle.std.proofs.Common.{ℕ, ◌<◌, ◌∙◌, ap, arith, length, subst}
use Rattle.jn_lsp_frames.specs.Header.{HasNoBlock}
use Rattle.jn_lsp_frames.specs.Reading.{IsUnknown}
use Rattle.jn_lsp_frames.proofs.Asked.{asks_head, lacks_back, lacks_head}
use Rattle.jn_lsp_frames.proofs.Taking.{takes_still}
use Rattle.jn_lsp_frames.proofs.reader.FrameReader.read_head.Goals as goal

pub loop-self-preserved : goal.loop-self-preserved
loop-self-preserved g c =
    let pending = c.loop-self.self.pending.items in
    let short : length pending < 8192 = omega arith in
    record {
      taken = takes_still (g.S.Stream.given c.args.input.now) c.args.self.now.pending.items (g.S.Stream.given c.loop-self.input) pending (g.S.Stream.given c.fill.new.input) c.fill.new.self.pending.items c.loop-self.invariant.taken c.in_ok-fill.ensures.taken;
      faults = c.in_ok-fill.ensures.cause ∙ c.loop-self.invariant.faults;
      asked = asks_head (g.S.Stream.given c.args.input.now) c.args.self.now.pending.items (g.S.Stream.given c.loop-self.input) pending c.loop-self.invariant.taken (g.K.Sink.written c.args.out.now) (g.S.Stream.asked c.args.input.now) (g.S.Stream.asked c.loop-self.input) (g.S.Stream.asked c.fill.new.input) (subst HasNoBlock c.deref.ensures.value c.in_default.ensures.none) short c.loop-self.invariant.asked c.in_ok-fill.ensures.asked;
      unasked = λ known.
          let same = c.loop-self.invariant.unasked known in
          let none : HasNoBlock c.args.self.now.pending.items = subst HasNoBlock (c.deref.ensures.value ∙ same.1) c.in_default.ensures.none in
          let few : length c.args.self.now.pending.items < 8192 = omega (arith, ap length same.1, short) in
          absurd (known none few);
    }

pub returns-in_err-fill-clause-asked : goal.returns-in_err-fill-clause-asked
returns-in_err-fill-clause-asked g c =
    let pending = c.loop-self.self.pending.items in
    let short : length pending < 8192 = omega arith in
    let none : HasNoBlock pending = subst HasNoBlock c.deref.ensures.value c.in_default.ensures.none in
    asks_head (g.S.Stream.given c.args.input.now) c.args.self.now.pending.items (g.S.Stream.given c.loop-self.input) pending c.loop-self.invariant.taken (g.K.Sink.written c.args.out.now) (g.S.Stream.asked c.args.input.now) (g.S.Stream.asked c.loop-self.input) (g.S.Stream.asked c.fill.new.input) none short c.loop-self.invariant.asked c.in_err-fill.ensures.asked

pub returns-in_err-fill-clause-lacks : goal.returns-in_err-fill-clause-lacks
returns-in_err-fill-clause-lacks g c =
    let gave = g.S.Stream.given c.args.input.now in
    let first = c.args.self.now.pending.items in
    let now = g.S.Stream.given c.fill.new.input in
    let pending = c.loop-self.self.pending.items in
    let short : length pending < 8192 = omega arith in
    let none : HasNoBlock pending = subst HasNoBlock c.deref.ensures.value c.in_default.ensures.none in
    let fail = c.in_err-fill.field-0.0 in
    lacks_back ℕ _ _ IsUnknown gave first now c.from_residual.result fail c.from_residual.ensures.1 (lacks_head gave first (g.S.Stream.given c.loop-self.input) pending c.loop-self.invariant.taken ℕ ℕ _ now fail none short c.in_err-fill.ensures.spared)

pub returns-then-branch-eq0-clause-asked : goal.returns-then-branch-eq0-clause-asked
returns-then-branch-eq0-clause-asked g c =
    let pending = c.loop-self.self.pending.items in
    let short : length pending < 8192 = omega arith in
    let none : HasNoBlock pending = subst HasNoBlock c.deref.ensures.value c.in_default.ensures.none in
    asks_head (g.S.Stream.given c.args.input.now) c.args.self.now.pending.items (g.S.Stream.given c.loop-self.input) pending c.loop-self.invariant.taken (g.K.Sink.written c.args.out.now) (g.S.Stream.asked c.args.input.now) (g.S.Stream.asked c.loop-self.input) (g.S.Stream.asked c.fill.new.input) none short c.loop-self.invariant.asked c.in_ok-fill.ensures.asked
