use Rattle.std.proofs.Common.{◌≡◌, drop, map}
use Rattle.jn_lsp_hover.specs.Declarations.{declared_at, declared_field}
use Rattle.jn_lsp_hover.proofs.declared.in_fields.Given as goal

abbrev pub invariant-loop-field : goal.invariant-loop-field
invariant-loop-field l = declared_at l.file l.offset (map declared_field (drop l.field-index l.fields)) ≡ declared_at l.file l.offset (map declared_field l.fields)
