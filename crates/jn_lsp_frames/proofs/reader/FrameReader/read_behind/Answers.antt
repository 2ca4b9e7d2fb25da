use Rattle.std.proofs.Common.{◌≤◌, ℕ, List, drop, length, subst, sym, take}
use Rattle.jn_lsp_frames.specs.declared.frame.Next.{Next}
use Rattle.jn_lsp_frames.specs.Header.{IsHeader}
use Rattle.jn_lsp_frames.proofs.Asked.{asks_rest, lacks_rest}
use Rattle.jn_lsp_frames.proofs.Waiting.{rest_there}
use Rattle.jn_lsp_frames.proofs.reader.FrameReader.read_behind.Goals as goal

pub returns-in-Some-clause-unasked : goal.returns-in-Some-clause-unasked
returns-in-Some-clause-unasked g c stands =
    let pending = c.args.self.now.pending.items in
    let block = c.requires.block in
    let total = c.in-Some.total in
    let is : IsHeader block.lines (take c.args.end c.deref.result.now) = subst (λ p. IsHeader block.lines (take c.args.end p)) (sym {A = List ℕ} c.deref.ensures.value) block.is in
    let le : total ≤ length (drop c.args.end pending) = rest_there pending c.args.end total block (c.in-Some.ensures block.lines is) stands in
    c.read_rest.ensures.unasked (subst (λ l. total ≤ length l) (sym {A = List ℕ} c.pass.ensures) le)

pub returns-in-Some-clause-asked : goal.returns-in-Some-clause-asked
returns-in-Some-clause-asked g c =
    let pending = c.args.self.now.pending.items in
    let block = c.requires.block in
    let is : IsHeader block.lines (take c.args.end c.deref.result.now) = subst (λ p. IsHeader block.lines (take c.args.end p)) (sym {A = List ℕ} c.deref.ensures.value) block.is in
    asks_rest (g.S.Stream.given c.args.input.now) pending c.pass.new.self.pending.items c.args.end c.in-Some.total block (c.in-Some.ensures block.lines is) c.pass.ensures (g.K.Sink.written c.args.out.now) (g.S.Stream.asked c.args.input.now) (g.S.Stream.asked c.read_rest.new.input) c.read_rest.ensures.asked

pub returns-in-Some-clause-lacks : goal.returns-in-Some-clause-lacks
returns-in-Some-clause-lacks g c =
    let pending = c.args.self.now.pending.items in
    let block = c.requires.block in
    let is : IsHeader block.lines (take c.args.end c.deref.result.now) = subst (λ p. IsHeader block.lines (take c.args.end p)) (sym {A = List ℕ} c.deref.ensures.value) block.is in
    lacks_rest (g.S.Stream.given c.args.input.now) pending c.pass.new.self.pending.items c.args.end c.in-Some.total block (c.in-Some.ensures block.lines is) c.pass.ensures Next _ (g.S.Stream.given c.read_rest.new.input) c.read_rest.result c.read_rest.ensures.lacks
