use Rattle.std.proofs.Common.{drop, subst, arith, length-drop}
use Rattle.std.proofs.lemmas.List.{take_rest}
use Rattle.jn_lexer.specs.Found.{IsStep}
use Rattle.jn_lexer.specs.declared.shape.Step.TheVariants.{Of}
use Rattle.jn_lexer.proofs.Comments.{gap_more}
use Rattle.jn_lexer.proofs.gap.gap_len.Goals as goal

pub loop-count-preserved : goal.loop-count-preserved
loop-count-preserved c =
    let step : IsStep (drop c.loop-count.done c.args.text.now) c.blank_at.result = rw take_rest at c.blank_at.ensures in
    let of : IsStep (drop c.loop-count.done c.args.text.now) (Of c.in-Of.count) = subst (IsStep (drop c.loop-count.done c.args.text.now)) c.in-Of.is step in
    record {
      within = (let l = length-drop c.loop-count.done c.args.text.now in let w = c.loop-count.invariant.within in let f = of.2 in omega (arith, l, w, f));
      gap = gap_more c.args.text.now c.loop-count.done c.in-Of.count c.loop-count.invariant.within of.2 c.loop-count.invariant.gap of.0;
    }
