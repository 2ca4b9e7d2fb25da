use Rattle.jn_trees.specs.View.{marks, type_use_view, declarator_view, declarator_views, result_view, receiver_view, parameter_views, member_view}
use Rattle.jn_trees.specs.Pieces.{kinds}
use Rattle.jn_parse_decl.proofs.Ahead.{field_read, method_read}
use Rattle.jn_parse_decl.proofs.whole.whole_behind.Goals as goal

pub returns-in-Field : goal.returns-in-Field
returns-in-Field c =
    let f = c.in-Field.parts in
    let read = rw c.in-Field.is at c.requires in
    field_read c.args.owner (kinds c.args.tokens.now) (marks f.modifiers.items) (type_use_view f.type_use) (declarator_view f.first) (declarator_views f.more.items) (member_view c.field_of.result) (kinds c.args.rest.now) read c.field_of.ensures

pub returns-in-Method : goal.returns-in-Method
returns-in-Method c =
    let m = c.in-Method.head in
    let read = rw c.in-Method.is at c.requires in
    method_read c.args.owner (kinds c.args.tokens.now) (marks m.modifiers.items) (result_view m.result) m.name.name (receiver_view m.receiver) (parameter_views m.parameters.items) (member_view c.method_of.result) (kinds c.args.rest.now) read c.method_of.ensures
