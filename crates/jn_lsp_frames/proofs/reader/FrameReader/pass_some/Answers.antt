use Rattle.std.proofs.Common.{◌≡◌, rules, true, length, min, take, subst}
use Rattle.jn_lsp_frames.specs.Reading.{StandsSome}
use Rattle.jn_lsp_frames.proofs.Taking.{some_front}
use Rattle.jn_lsp_frames.proofs.reader.FrameReader.pass_some.Goals as goal

pub returns-then-branch-clause-passed : goal.returns-then-branch-clause-passed
returns-then-branch-clause-passed g c =
    let ended = g.S.Stream.ended c.has_some.new.input in
    let mid = c.has_some.new.self.pending.items in
    let stands : StandsSome ended mid true = subst (λ b. StandsSome ended mid b) c.if-branch.true c.in_ok-has_some.ensures.some in
    let count : c.min-count.result ≡ min (length mid) c.args.most = search rules in
    (take c.min-count.result mid, some_front ended (g.S.Stream.given c.args.input.now) c.args.self.now.pending.items (g.S.Stream.given c.has_some.new.input) c.pass.new.self.pending.items c.args.most mid c.min-count.result c.in_ok-has_some.ensures.taken stands c.requires count c.pass.ensures)
