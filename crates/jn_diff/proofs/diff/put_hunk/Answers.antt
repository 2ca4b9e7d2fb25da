use Rattle.std.proofs.Common.{◌+◌, ◌++◌, ◌∙◌, ap, sym}
use Rattle.std.specs.Prelude.{drop}
use Rattle.jn_diff.specs.Diff.{hunks_text}
use Rattle.jn_diff.specs.Hunks.{hunks_from}
use Rattle.jn_diff.proofs.Showing.{hunk_put}
use Rattle.jn_diff.proofs.diff.put_hunk.Goals as goal

pub returns-clause-text : goal.returns-clause-text
returns-clause-text c =
    ap (λ k. c.extend_from_slice.new.self.items ++ hunks_text (c.args.back + k) (hunks_from (c.args.first + c.shown_count-count.result) 0 (drop c.shown_count-count.result c.args.lines.now))) c.added_count.ensures.is
    ∙ hunk_put c.args.text.now.items c.extend_from_slice.new.self.items c.in_ok-hunk.hunk.items c.args.back c.args.first c.shown_count-count.result c.args.lines.now (sym c.shown_count-count.ensures.is) c.if-count-eq0.false c.in_ok-hunk.ensures (c.in_ok-extend_from_slice.ensures.items ∙ ap (λ x. c.args.text.now.items ++ x) c.deref.ensures.value)
