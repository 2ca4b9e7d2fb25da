use Rattle.std.proofs.Common.{subst}
use Rattle.jn_script.specs.Telling.{TakesLine}
use Rattle.jn_script.proofs.Standing.{read_more, read_none}
use Rattle.jn_script.proofs.script.read_script.Goals as goal

pub loop-rest-init : goal.loop-rest-init
loop-rest-init c = read_none c.args.script.now c.new-names.result.items c.new-steps.result.items c.new-names.ensures.items c.new-steps.ensures.items

pub loop-rest-preserved : goal.loop-rest-preserved
loop-rest-preserved c =
    let at = c.loop-rest in
    let text = c.line_in.result.0.now in
    let behind = c.line_in.result.1.now in
    let new = c.take_line.new.names.items in
    let more = c.take_line.new.steps.items in
    let took = subst (λ can. TakesLine at.names.items at.steps.items text can new more) c.in-Ok-true.field-0-test c.in-Ok-true.ensures in
    read_more c.args.script.now at.rest.now behind text at.names.items at.steps.items at.line at.invariant c.line_in.ensures.lines new more took.0 c.line_in.ensures.less took.1 took.2 took.3 took.4
