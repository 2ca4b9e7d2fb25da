use Rattle.std.proofs.Common.{drop, sym, ap, ◌∙◌}
use Rattle.jn_trees.specs.declared.declaration.Member.{Member}
use Rattle.jn_trees.specs.View.{member_view}
use Rattle.jn_annotate.specs.Insertions.{fields_in}
use Rattle.jn_annotate.proofs.Walking.{field_drop}
use Rattle.jn_annotate.proofs.members.fields_behind.Goals as goal

pub returns-in-Field : goal.returns-in-Field
returns-in-Field c =
    field_drop c.args.fields.now c.items_behind.result.now c.items_behind-in-Field.result.now c.in-Field.more.items c.len.result c.items_behind.ensures (c.len.ensures ∙ c.in-Field.more.ok.0) c.items_behind-in-Field.ensures
    ∙ ap (λ (m : Member). drop (fields_in (member_view m)) c.args.fields.now) (sym c.in-Field.is)
