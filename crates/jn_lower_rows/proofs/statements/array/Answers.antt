use Rattle.jn_lower_rows.specs.Views.{setting_of}
use Rattle.std.proofs.Common.{◌∙◌, ap, eqb, length}
use Rattle.jn_lower_rows.proofs.Stepping.{array_walks}
use Rattle.jn_lower_rows.proofs.statements.array.Goals as goal

pub returns : goal.returns
returns c = array_walks c.args.place.now.program.now c.args.place.now.class.0 (setting_of c.args.place.now.at) c.args.tree.now _ _ c.args.names.now c.args.rows.now c.look.new.rows _ c.requires.kept c.in_ok-base.ensures.1 c.in_ok-base.ensures.0 (ap (λ n. eqb n c.len-start.result) c.len.ensures ∙ ap (λ n. eqb (length c.look.new.rows) n) c.len-start.ensures) c.in_ok-index_rows.ensures
