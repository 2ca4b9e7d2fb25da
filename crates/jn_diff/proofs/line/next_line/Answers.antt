use Rattle.std.proofs.Common.{◌∷◌, ◌-◌, ap, sym, ◌∙◌}
use Rattle.jn_diff.specs.Lines.{against, is_added, paired_by}
use Rattle.jn_diff.proofs.Pairing.{added_some, less_new, next_added, next_both, shorter_rests}
use Rattle.jn_diff.proofs.line.next_line.Goals as goal

pub returns-then-is_added-clause-next : goal.returns-then-is_added-clause-next
returns-then-is_added-clause-next c =
    let tells = c.is_added.ensures ∙ ap (λ x. is_added c.args.extra x c.as_slice-2.result.now) (c.as_slice.ensures ∙ c.in_ok-old.ensures.line) ∙ ap (is_added c.args.extra _) (c.as_slice-2.ensures ∙ c.in_ok-new.ensures.line) in
    next_added c.args.extra c.args.olds.now c.args.news.now c.in_ok-new.new c.in_ok-new.others.now c.is_added.result c.requires.some c.in_ok-new.ensures.line c.in_ok-new.ensures.rest tells c.if-is_added.true
    ∙ ap (λ x. against x c.in_ok-new.new ∷ paired_by (c.args.extra - 1) c.args.olds.now c.in_ok-new.others.now) (sym c.new.ensures)

pub returns-then-is_added-clause-smaller : goal.returns-then-is_added-clause-smaller
returns-then-is_added-clause-smaller c =
    let tells = c.is_added.ensures ∙ ap (is_added c.args.extra c.as_slice.result.now) c.as_slice-2.ensures in
    less_new c.args.olds.now c.args.news.now c.in_ok-new.others.now (added_some c.args.extra c.as_slice.result.now c.args.news.now c.in_ok-new.new c.is_added.result c.in_ok-new.ensures.line tells c.if-is_added.true) c.in_ok-new.ensures.rest

pub returns-clause-next : goal.returns-clause-next
returns-clause-next c =
    let tells = c.is_added.ensures ∙ ap (λ x. is_added c.args.extra x c.as_slice-2.result.now) (c.as_slice.ensures ∙ c.in_ok-old.ensures.line) ∙ ap (is_added c.args.extra _) (c.as_slice-2.ensures ∙ c.in_ok-new.ensures.line) in
    next_both c.args.extra c.args.olds.now c.args.news.now c.in_ok-old.old c.in_ok-new.new c.in_ok-old.more.now c.in_ok-new.others.now c.is_added.result c.requires.some c.in_ok-old.ensures.line c.in_ok-new.ensures.line c.in_ok-old.ensures.rest c.in_ok-new.ensures.rest tells c.if-is_added.false

pub returns-clause-smaller : goal.returns-clause-smaller
returns-clause-smaller c = shorter_rests c.args.olds.now c.args.news.now c.in_ok-old.more.now c.in_ok-new.others.now c.requires.some c.in_ok-old.ensures.rest c.in_ok-new.ensures.rest
