use Rattle.jn_origins.proofs.Leads.{same_register}
use Rattle.jn_origins.proofs.registers.causes_by.Goals as goal

pub returns : goal.returns
returns c =
    let t = c.args.of.now in
    let lead = c.jumps_to-there.ensures in
    same_register t.program t.sig t.body t.table c.args.wanted.point.0 c.args.wanted.reg.0 c.args.wanted.bit lead.lists lead.jumps c.facts.ensures
    c.jumps_to-there.result.now c.new-list.result.items c.add_entered.new.list.items c.add_previous.new.list.items c.add_jumps.new.list.items
    lead.are c.new-list.ensures.items c.in_ok-add_entered.ensures c.in_ok-add_previous.ensures c.in_ok-add_jumps.ensures
