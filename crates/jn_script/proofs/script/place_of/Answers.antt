use Rattle.jn_script.proofs.Standing.{not_first}
use Rattle.jn_script.proofs.script.place_of.Goals as goal

pub loop-at-init : goal.loop-at-init
loop-at-init c = not_first c.args.name.now c.args.names.now
