-- Heads without places and without what is written of nullness and initialization. Of an array's elements the annotations stay, which are part of its type, and of a field that it is monotonic.
use Rattle.std.specs.Prelude.{false, map, option_map}
use Rattle.jn_trees.specs.declared.expression.Identifier.{Identifier}
use Rattle.jn_trees.specs.declared.expression.Base.{Base}
use Rattle.jn_trees.specs.declared.expression.Base.TheVariants.{Class as ClassUse, Int as IntUse, Boolean as BooleanUse}
use Rattle.jn_heads.specs.declared.head.Notes.{Notes}
use Rattle.jn_heads.specs.declared.head.TypeHead.{TypeHead}
use Rattle.jn_heads.specs.declared.head.FieldHead.{FieldHead}
use Rattle.jn_heads.specs.declared.head.ParamHead.{ParamHead}
use Rattle.jn_heads.specs.declared.head.MethodHead.{MethodHead}
use Rattle.jn_heads.specs.declared.head.ClassHead.{ClassHead}
use Rattle.jn_heads.specs.Heads.{no_notes, no_span}

abbrev pub plain_name : Identifier → Identifier
plain_name n = record { name = n.name; span = no_span }

abbrev pub plain_use : Base → Base
plain_use (ClassUse n) = ClassUse (plain_name n)
plain_use (IntUse s) = IntUse no_span
plain_use (BooleanUse s) = BooleanUse no_span

abbrev pub plain_type : TypeHead → TypeHead
plain_type t = record { base = plain_use t.base; array = t.array; notes = no_notes; elements = t.elements }

abbrev pub only_monotonic : Notes → Notes
only_monotonic n = record { non_null = false; nullable = false; initialized = false; under = false; unknown = false; monotonic = n.monotonic }

-- the type of a field
abbrev pub plain_kind : TypeHead → TypeHead
plain_kind t = record { base = plain_use t.base; array = t.array; notes = only_monotonic t.notes; elements = t.elements }

abbrev pub plain_field : FieldHead → FieldHead
plain_field f = record { name = plain_name f.name; kind = plain_kind f.kind; is_static = f.is_static; is_final = f.is_final; is_private = f.is_private; first = f.first }

abbrev pub plain_param : ParamHead → ParamHead
plain_param p = record { name = plain_name p.name; kind = plain_type p.kind }

abbrev pub plain_method : MethodHead → MethodHead
plain_method m = record {
  name = plain_name m.name;
  result = option_map plain_type m.result;
  receiver = no_notes;
  params = map plain_param m.params;
  ctor = m.ctor;
  is_public = m.is_public;
  is_static = m.is_static;
  is_private = m.is_private;
  is_abstract = m.is_abstract;
  is_final = m.is_final;
  has_body = m.has_body;
  calls = m.calls;
}

abbrev pub plain_head : ClassHead → ClassHead
plain_head h = record {
  name = plain_name h.name;
  interface = h.interface;
  is_abstract = h.is_abstract;
  is_final = h.is_final;
  parent = option_map plain_name h.parent;
  interfaces = map plain_name h.interfaces;
  fields = map plain_field h.fields;
  methods = map plain_method h.methods;
}
