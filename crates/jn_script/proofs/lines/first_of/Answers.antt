use Rattle.jn_script.proofs.Cutting.{none_first}
use Rattle.jn_script.proofs.lines.first_of.Goals as goal

pub loop-at-init : goal.loop-at-init
loop-at-init c = none_first c.args.separator c.args.text.now
