use Rattle.std.proofs.Common.{length, true, sym, ap, ◌∙◌}
use Rattle.jn_env.specs.Keys.{is_key}
use Rattle.jn_env.proofs.Firsts.{seen_step, first_step, marked_as}
use Rattle.jn_env.proofs.Written.{length-written}
use Rattle.jn_env.proofs.keys.take_first.Goals as goal

pub returns-then-get-clause-taken : goal.returns-then-get-clause-taken
returns-then-get-clause-taken c = seen_step c.args.list.now c.args.keys.now.items c.args.seen.now c.args.i (record { reg = 0; field = 0 }) c.requires.inside c.requires.long (sym c.if-get.true ∙ c.get.ensures)

pub returns-clause-long : goal.returns-clause-long
returns-clause-long c =
    let marks = marked_as c.args.list.now c.args.seen.now c.write_keys.new.bits c.at-key.result c.reg.result c.field.result c.reg.ensures c.field.ensures c.write_keys.ensures in
    ap length marks ∙ length-written (is_key c.at-key.result.reg c.at-key.result.field) true c.args.list.now c.args.seen.now ∙ c.requires.long

pub returns-clause-taken : goal.returns-clause-taken
returns-clause-taken c =
    let marks = marked_as c.args.list.now c.args.seen.now c.write_keys.new.bits c.at-key.result c.reg.result c.field.result c.reg.ensures c.field.ensures c.write_keys.ensures in
    first_step c.args.list.now c.args.keys.now.items c.push_key.new.keys.items c.args.seen.now c.write_keys.new.bits c.args.i c.at-key.result c.requires.inside c.requires.long (sym c.if-get.false ∙ c.get.ensures) c.at-key.ensures c.in_ok-push_key.ensures marks
