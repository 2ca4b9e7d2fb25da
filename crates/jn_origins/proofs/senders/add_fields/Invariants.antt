use Rattle.std.proofs.Common.{take}
use Rattle.jn_origins.specs.Targets.{Added, fields_list}
use Rattle.jn_origins.proofs.senders.add_fields.Given as goal

abbrev pub invariant-loop-field : goal.invariant-loop-field
invariant-loop-field l = Added l.program l.body.0 (fields_list l.program (take l.field-index l.fields)) l.fn.lists.items l.lists.items
