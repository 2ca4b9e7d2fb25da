use Rattle.std.proofs.Common.{ℕ, List, subst, arith, ap, length, sym, ◌∙◌}
use Rattle.jn_lsp_frames.specs.declared.frame.Next.{Next}
use Rattle.jn_lsp_frames.specs.declared.reader.Head.{Head}
use Rattle.jn_lsp_frames.specs.declared.reader.Head.TheVariants.{Overlong, Missing}
use Rattle.jn_lsp_frames.specs.Frames.{IsPartial}
use Rattle.jn_lsp_frames.specs.Reading.{IsHead, StandsFrame}
use Rattle.jn_lsp_frames.proofs.Asked.{asks_next, asks_partial, lacks_back, lacks_next, lacks_partial}
use Rattle.jn_lsp_frames.proofs.Taking.{reads_overlong, reads_missing}
use Rattle.jn_lsp_frames.proofs.Waiting.{known_frame}
use Rattle.jn_lsp_frames.proofs.reader.FrameReader.next.Goals as goal

pub returns-in-Overlong-clause-read : goal.returns-in-Overlong-clause-read
returns-in-Overlong-clause-read g c =
    let ended = g.S.Stream.ended c.read_head.new.input in
    let mid = c.read_head.new.self.pending.items in
    let head : IsHead ended mid Overlong = subst (λ h. IsHead ended mid h) c.in-Overlong.is c.in_ok-end.ensures.head in
    reads_overlong ended (g.S.Stream.given c.args.input.now) c.args.self.now.pending.items (g.S.Stream.given c.read_head.new.input) c.pass.new.self.pending.items mid c.in_ok-end.ensures.taken head c.pass.ensures

pub returns-in-Missing-2-clause-read : goal.returns-in-Missing-2-clause-read
returns-in-Missing-2-clause-read g c =
    let ended = g.S.Stream.ended c.read_head.new.input in
    let left = c.read_head.new.self.pending.items in
    let head : IsHead ended left Missing = subst (λ h. IsHead ended left h) c.in-Missing-2.is c.in_ok-end.ensures.head in
    reads_missing ended (g.S.Stream.given c.args.input.now) c.args.self.now.pending.items (g.S.Stream.given c.read_head.new.input) left c.in_ok-end.ensures.taken head (λ e. omega (arith, ap length e))

pub returns-in-Block-clause-unasked : goal.returns-in-Block-clause-unasked
returns-in-Block-clause-unasked g c stands =
    let same = c.in_ok-end.ensures.unasked (known_frame c.args.self.now.pending.items stands) in
    c.read_behind.ensures.unasked (subst StandsFrame (sym {A = List ℕ} same.1) stands) ∙ same.0

pub returns-in-Overlong-clause-unasked : goal.returns-in-Overlong-clause-unasked
returns-in-Overlong-clause-unasked g c stands = (c.in_ok-end.ensures.unasked (known_frame c.args.self.now.pending.items stands)).0

pub returns-in-Missing-clause-unasked : goal.returns-in-Missing-clause-unasked
returns-in-Missing-clause-unasked g c stands = (c.in_ok-end.ensures.unasked (known_frame c.args.self.now.pending.items stands)).0

pub returns-in_err-end-clause-asked : goal.returns-in_err-end-clause-asked
returns-in_err-end-clause-asked g c = asks_partial (g.S.Stream.given c.args.input.now) c.args.self.now.pending.items (g.K.Sink.written c.args.out.now) (g.S.Stream.asked c.args.input.now) (g.S.Stream.asked c.read_head.new.input) c.in_err-end.ensures.asked

pub returns-in_err-end-clause-lacks : goal.returns-in_err-end-clause-lacks
returns-in_err-end-clause-lacks g c =
    let gave = g.S.Stream.given c.args.input.now in
    let pending = c.args.self.now.pending.items in
    let now = g.S.Stream.given c.read_head.new.input in
    let fail = c.in_err-end.field-0.0 in
    lacks_back Next _ _ IsPartial gave pending now c.from_residual.result fail c.from_residual.ensures.1 (lacks_partial Head Next _ gave pending now fail c.in_err-end.ensures.lacks)

pub returns-in-Block-clause-asked : goal.returns-in-Block-clause-asked
returns-in-Block-clause-asked g c = asks_next (g.S.Stream.given c.args.input.now) c.args.self.now.pending.items (g.S.Stream.given c.read_head.new.input) c.read_head.new.self.pending.items c.in_ok-end.ensures.taken (g.K.Sink.written c.args.out.now) (g.S.Stream.asked c.args.input.now) (g.S.Stream.asked c.read_head.new.input) (g.S.Stream.asked c.read_behind.new.input) c.in_ok-end.ensures.asked c.read_behind.ensures.asked

pub returns-in-Block-clause-lacks : goal.returns-in-Block-clause-lacks
returns-in-Block-clause-lacks g c = lacks_next (g.S.Stream.given c.args.input.now) c.args.self.now.pending.items (g.S.Stream.given c.read_head.new.input) c.read_head.new.self.pending.items c.in_ok-end.ensures.taken Next _ (g.S.Stream.given c.read_behind.new.input) c.read_behind.result c.read_behind.ensures.lacks

pub returns-in-Overlong-clause-asked : goal.returns-in-Overlong-clause-asked
returns-in-Overlong-clause-asked g c = asks_partial (g.S.Stream.given c.args.input.now) c.args.self.now.pending.items (g.K.Sink.written c.args.out.now) (g.S.Stream.asked c.args.input.now) (g.S.Stream.asked c.read_head.new.input) c.in_ok-end.ensures.asked

pub returns-in-Missing-clause-asked : goal.returns-in-Missing-clause-asked
returns-in-Missing-clause-asked g c = asks_partial (g.S.Stream.given c.args.input.now) c.args.self.now.pending.items (g.K.Sink.written c.args.out.now) (g.S.Stream.asked c.args.input.now) (g.S.Stream.asked c.read_head.new.input) c.in_ok-end.ensures.asked

pub returns-in-Missing-2-clause-asked : goal.returns-in-Missing-2-clause-asked
returns-in-Missing-2-clause-asked g c = asks_partial (g.S.Stream.given c.args.input.now) c.args.self.now.pending.items (g.K.Sink.written c.args.out.now) (g.S.Stream.asked c.args.input.now) (g.S.Stream.asked c.read_head.new.input) c.in_ok-end.ensures.asked

pub returns-in_err-end-clause-unasked : goal.returns-in_err-end-clause-unasked
returns-in_err-end-clause-unasked g c stands = (c.in_err-end.ensures.unasked (known_frame c.args.self.now.pending.items stands)).0

pub returns-in-Missing-2-clause-unasked : goal.returns-in-Missing-2-clause-unasked
returns-in-Missing-2-clause-unasked g c stands = (c.in_ok-end.ensures.unasked (known_frame c.args.self.now.pending.items stands)).0
