use Rattle.std.proofs.Common.{sym, ◌∙◌}
use Rattle.jn_declaration_rules.proofs.Strong.{below_more}
use Rattle.jn_declaration_rules.proofs.components.label_below.Goals as goal

pub returns-then-names_super : goal.returns-then-names_super
returns-then-names_super c = below_more c.args.program.now c.args.labels.now c.args.class c.args.parent c.number_at.result c.if-class-labels.true (sym c.names_super.ensures ∙ c.if-names_super.true) c.number_at.ensures c.requires
