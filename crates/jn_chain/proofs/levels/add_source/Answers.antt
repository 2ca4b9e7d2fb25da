use Rattle.jn_chain.proofs.Loops.{added_seen, added_new, seen_new}
use Rattle.jn_chain.proofs.levels.add_source.Goals as goal

pub returns-then-contains-clause-added : goal.returns-then-contains-clause-added
returns-then-contains-clause-added c = added_seen c.args.levels.now c.args.source c.args.seen.now c.args.next.now.items c.requires.seen (c.contains.ensures.there c.if-contains.true)

pub returns-clause-seen : goal.returns-clause-seen
returns-clause-seen c = seen_new c.args.levels.now c.args.source c.args.seen.now c.put.new.self c.args.next.now.items c.push.new.list.items c.requires.seen c.in_ok-put.ensures c.in_ok-push.ensures

pub returns-clause-added : goal.returns-clause-added
returns-clause-added c = added_new c.args.levels.now c.args.source c.args.next.now.items c.push.new.list.items c.in_ok-push.ensures
