-- The declared types with Object and String before them, and how names find them. Object is class 0, String class 1.
use Rattle.std.specs.Prelude.{ℕ, true, false, eqb, List, [], ◌∷◌, Option, None}
use Rattle.jn_base.specs.declared.number.NameNo.{NameNo}
use Rattle.jn_base.specs.declared.place.Span.{Span}
use Rattle.jn_trees.specs.declared.expression.Identifier.{Identifier}
use Rattle.jn_heads.specs.declared.head.Notes.{Notes}
use Rattle.jn_heads.specs.declared.head.ClassHead.{ClassHead}
use Rattle.jn_heads.specs.declared.head.MethodHead.{MethodHead}
use Rattle.jn_points.specs.Members.{first_at}
use Rattle.jn_known.specs.Known.{object_name, string_name}

-- a position on which none of the six annotations stands
abbrev pub no_notes : Notes
no_notes = record { non_null = false; nullable = false; initialized = false; under = false; unknown = false; monotonic = false }

-- byte 0 of file 0
abbrev pub no_span : Span
no_span = record { file = record { 0 = 0 }; from = 0; to = 0 }

-- a name that is written in no file, at the place that stands for none
abbrev pub unplaced : NameNo → Identifier
unplaced n = record { name = n; span = no_span }

-- a constructor that isn't written: it has the name of its class, and stands there (JLS 8, 8.8.9)
abbrev pub unwritten_constructor : Identifier → MethodHead
unwritten_constructor n = record {
  name = n;
  result = None;
  receiver = no_notes;
  params = [];
  ctor = true;
  is_public = false;
  is_static = false;
  is_private = false;
  is_abstract = false;
  is_final = false;
  has_body = true;
  calls = None;
}

-- Object has a constructor without parameters, and no other member
abbrev pub object_head : ClassHead
object_head = record {
  name = unplaced (record { 0 = object_name });
  interface = false;
  is_abstract = false;
  is_final = false;
  parent = None;
  interfaces = [];
  fields = [];
  methods = unwritten_constructor (unplaced (record { 0 = object_name })) ∷ [];
}

-- String has no member, and nothing stands under it
abbrev pub string_head : ClassHead
string_head = record {
  name = unplaced (record { 0 = string_name });
  interface = false;
  is_abstract = false;
  is_final = true;
  parent = None;
  interfaces = [];
  fields = [];
  methods = [];
}

-- all classes, in the order of their numbers
abbrev pub all_heads : List ClassHead → List ClassHead
all_heads hs = object_head ∷ string_head ∷ hs

-- the number of the first class of a name
abbrev pub number : List ClassHead → NameNo → Option ℕ
number hs n = first_at (λ h. eqb h.name.name.0 n.0) 0 (all_heads hs)
