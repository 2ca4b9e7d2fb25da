use Rattle.jn_sites.proofs.Nearing.{all_near, kept_near}
use Rattle.jn_sites.proofs.near.overriders_at.Goals as goal

pub returns-in-None : goal.returns-in-None
returns-in-None c = all_near c.args.program.now c.args.span c.args.overriders.now c.requires.overriders

pub returns-in-Some : goal.returns-in-Some
returns-in-Some c = kept_near c.args.program.now c.args.span c.args.overriders.now c.in-Some.list.now c.requires.overriders (c.requires.sites c.args.span c.in-Some.list.now c.in-Some.ensures)
