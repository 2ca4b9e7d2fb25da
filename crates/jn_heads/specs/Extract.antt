-- What the types of placed files declare: each type's head, its fields and the heads of its methods.
use Rattle.std.specs.Prelude.{ℕ, zero, suc, Bool, true, false, cond, ◌||◌, eqb, ltb, List, [], ◌∷◌, ◌++◌, flat_map, map, Option, Some, None, ℤ, pos, negsuc}
use Rattle.jn_known.specs.Known.{non_null_name, nullable_name, initialized_name, under_name, unknown_name, monotonic_name}
use Rattle.jn_points.specs.Members.{some_of}
use Rattle.jn_trees.specs.declared.expression.Annotation.{Annotation}
use Rattle.jn_trees.specs.declared.expression.Identifier.{Identifier}
use Rattle.jn_trees.specs.declared.expression.Base.{Base}
use Rattle.jn_trees.specs.declared.expression.Literal.{Literal}
use Rattle.jn_trees.specs.declared.expression.Literal.TheVariants.{Number, True}
use Rattle.jn_trees.specs.declared.expression.UnaryOperator.{UnaryOperator}
use Rattle.jn_trees.specs.declared.expression.UnaryOperator.TheVariants.{Minus}
use Rattle.jn_trees.specs.declared.statement.LocalModifier.{LocalModifier}
use Rattle.jn_trees.specs.declared.statement.LocalModifier.TheVariants.{Annotation as LocalNote}
use Rattle.jn_trees.specs.declared.declaration.Modifier.{Modifier}
use Rattle.jn_trees.specs.declared.declaration.Modifier.TheVariants.{Annotation as Note, Public, Private, Static, Final, Abstract}
use Rattle.jn_places.specs.Placed.{PlacedTree, PlacedTrees, PlacedLiteral, PlacedUnary, NoPlacedTrees, MorePlacedTrees, PlacedTypeUse, PlacedDeclarator, PlacedStatement, PlacedStatements, PlacedThisCall, NoPlacedStatements, MorePlacedStatements, PlacedParameter, PlacedReceiver, PlacedResult, PlacedVoid, PlacedValue, PlacedMember, PlacedFieldMember, PlacedMethod, PlacedConstructor, PlacedType, PlacedClass, PlacedInterface, PlacedFile}
use Rattle.jn_heads.specs.declared.head.Notes.{Notes}
use Rattle.jn_heads.specs.declared.notes.Word.{Word}
use Rattle.jn_heads.specs.declared.notes.Word.TheVariants.{Public as PublicWord, Private as PrivateWord, Static as StaticWord, Final as FinalWord, Abstract as AbstractWord}
use Rattle.jn_heads.specs.declared.head.TypeHead.{TypeHead}
use Rattle.jn_heads.specs.declared.head.FieldHead.{FieldHead}
use Rattle.jn_heads.specs.declared.head.ParamHead.{ParamHead}
use Rattle.jn_heads.specs.declared.head.MethodHead.{MethodHead}
use Rattle.jn_heads.specs.declared.head.ClassHead.{ClassHead}
use Rattle.jn_heads.specs.Heads.{no_notes, unwritten_constructor}

-- modifiers and annotations

-- whether a modifier is the word, one of the five on which something declared depends
abbrev pub is_word : Word → Modifier → Bool
is_word PublicWord (Public s) = true
is_word PrivateWord (Private s) = true
is_word StaticWord (Static s) = true
is_word FinalWord (Final s) = true
is_word AbstractWord (Abstract s) = true
is_word w m = false

-- whether the word is among modifiers
abbrev pub has_word : Word → List Modifier → Bool
has_word w ms = some_of (is_word w) ms

-- an annotation of the name
abbrev pub is_named : ℕ → Annotation → Bool
is_named n a = eqb a.name.0 n

-- whether a modifier of a type or a member is an annotation of the name
abbrev pub is_note : ℕ → Modifier → Bool
is_note n (Note a) = is_named n a
is_note n m = false

-- whether a modifier of a local variable or a parameter is an annotation of the name
abbrev pub is_local_note : ℕ → LocalModifier → Bool
is_local_note n (LocalNote a) = is_named n a
is_local_note n m = false

-- how many trees there are
abbrev pub count : PlacedTrees → ℕ
count NoPlacedTrees = 0
count (MorePlacedTrees t ts) = suc (count ts)

-- the value that a static field starts with: an int literal, `-` and one, or a truth value; 0 for anything else, which has a row of its own

-- a number with a minus before it
abbrev pub negated : ℕ → ℤ
negated zero = pos 0
negated (suc n) = negsuc n

-- the least int, -2147483648 (JLS 8, 4.2.1)
abbrev pub smallest : ℤ
smallest = negsuc 2147483647

-- the value of a literal: a number's own, but the least int for one above all ints; 1 for `true`; 0 for others
abbrev pub literal_value : Literal → ℤ
literal_value (Number n) = cond (ltb n 2147483648) (pos n) smallest
literal_value True = pos 1
literal_value l = pos 0

-- the value of `-` before a literal, where that is a number; 0 for others
abbrev pub negative_value : Literal → ℤ
negative_value (Number n) = cond (ltb n 2147483648) (negated n) smallest
negative_value l = pos 0

-- the value of `-` before an operand, where that is a number; 0 for others
abbrev pub negated_tree : PlacedTree → ℤ
negated_tree (PlacedLiteral l s) = negative_value l
negated_tree t = pos 0

-- the value of an operand with an operator before it, where that is `-`; 0 for others
abbrev pub signed_value : UnaryOperator → PlacedTree → ℤ
signed_value Minus t = negated_tree t
signed_value op t = pos 0

-- the value of an expression that is a literal, or `-` and one; 0 for others
abbrev pub tree_value : PlacedTree → ℤ
tree_value (PlacedLiteral l s) = literal_value l
tree_value (PlacedUnary op t s) = signed_value op t
tree_value t = pos 0

-- the value that a field starts with; 0 where the field isn't static or no value is written
abbrev pub first_value : Bool → Option PlacedTree → ℤ
first_value true (Some t) = tree_value t
first_value static value = pos 0

-- the number of arguments of `this(..)`, where a body begins with it (JLS 8, 8.8.7.1)

-- the number of arguments of a statement `this(..)`; none for any other statement
abbrev pub this_call : PlacedStatement → Option ℕ
this_call (PlacedThisCall ts s) = Some (count ts)
this_call s = None

-- the same of a body's first statement; none where the body is empty
abbrev pub first_call : PlacedStatements → Option ℕ
first_call NoPlacedStatements = None
first_call (MorePlacedStatements s ss) = this_call s

-- whether a method has a body, be it an empty one
abbrev pub has_statements : Option PlacedStatements → Bool
has_statements None = false
has_statements (Some ss) = true

-- whether a constructor is among a class's methods
abbrev pub has_constructor : List MethodHead → Bool
has_constructor ms = some_of (λ (m : MethodHead). m.ctor) ms

-- a class has a constructor, written or not
abbrev pub with_constructor : Identifier → List MethodHead → List MethodHead
with_constructor n ms = cond (has_constructor ms) ms (ms ++ unwritten_constructor n ∷ [])

-- the annotations on a position, where a test says of each of the six names whether it is there
abbrev pub notes_by : (ℕ → Bool) → Notes
notes_by has = record {
  non_null = has non_null_name;
  nullable = has nullable_name;
  initialized = has initialized_name;
  under = has under_name;
  unknown = has unknown_name;
  monotonic = has monotonic_name;
}

-- which of the six annotations are among these
abbrev pub notes_of : List Annotation → Notes
notes_of annotations = notes_by (λ n. some_of (is_named n) annotations)

-- which of the six are among the modifiers of a field or a method, where they stand for its type (JLS 8, 9.7.4)
abbrev pub modifier_notes : List Modifier → Notes
modifier_notes ms = notes_by (λ n. some_of (is_note n) ms)

-- which of the six are among the modifiers of a parameter, where they stand for its type (JLS 8, 9.7.4)
abbrev pub local_notes : List LocalModifier → Notes
local_notes ms = notes_by (λ n. some_of (is_local_note n) ms)

-- before an array type stand the annotations of its elements, before the brackets its own (JLS 8, 9.7.4)
abbrev pub type_head_of : Base → Notes → Option (List Annotation) → TypeHead
type_head_of base leading None = record { base = base; array = false; notes = leading; elements = no_notes }
type_head_of base leading (Some own) = record { base = base; array = true; notes = notes_of own; elements = leading }

-- a use of a type with the annotations that stand before it
abbrev pub type_head : Notes → PlacedTypeUse → TypeHead
type_head leading u = type_head_of u.base leading u.array

-- a field: its name and value are its declarator's, its modifiers and type those of the whole declaration (JLS 8, 8.3)
abbrev pub field_head : List Modifier → PlacedTypeUse → PlacedDeclarator → FieldHead
field_head ms u d = record {
  name = d.name;
  kind = type_head (modifier_notes ms) u;
  is_static = has_word StaticWord ms;
  is_final = has_word FinalWord ms;
  is_private = has_word PrivateWord ms;
  first = first_value (has_word StaticWord ms) d.value;
}

-- a parameter: its name, and its type with the annotations among its modifiers
abbrev pub param_head : PlacedParameter → ParamHead
param_head p = record { name = p.name; kind = type_head (local_notes p.marks) p.type_use }

-- the type of what a method gives, with the annotations among the method's modifiers; none for `void`
abbrev pub result_head : List Modifier → PlacedResult → Option TypeHead
result_head ms (PlacedVoid s) = None
result_head ms (PlacedValue u) = Some (type_head (modifier_notes ms) u)

-- the annotations of a method's receiver; none where no receiver parameter is written
abbrev pub receiver_notes : Option PlacedReceiver → Notes
receiver_notes None = no_notes
receiver_notes (Some r) = notes_of r.annotations

-- the fields that a member declares: one for each declarator, none for a method or a constructor
abbrev pub field_heads : PlacedMember → List FieldHead
field_heads (PlacedFieldMember ms u d ds s) = map (field_head ms u) (d ∷ ds)
field_heads m = []

-- a method of an interface is abstract; an interface has no constructor
abbrev pub method_heads : Bool → PlacedMember → List MethodHead
method_heads interface (PlacedMethod ms result n receiver ps body s) = record {
  name = n;
  result = result_head ms result;
  receiver = receiver_notes receiver;
  params = map param_head ps;
  ctor = false;
  is_public = has_word PublicWord ms;
  is_static = has_word StaticWord ms;
  is_private = has_word PrivateWord ms;
  is_abstract = interface || has_word AbstractWord ms;
  is_final = has_word FinalWord ms;
  has_body = has_statements body;
  calls = None;
} ∷ []
method_heads false (PlacedConstructor ms n ps body s) = record {
  name = n;
  result = None;
  receiver = no_notes;
  params = map param_head ps;
  ctor = true;
  is_public = has_word PublicWord ms;
  is_static = false;
  is_private = has_word PrivateWord ms;
  is_abstract = false;
  is_final = false;
  has_body = true;
  calls = first_call body;
} ∷ []
method_heads interface m = []

-- what a class or an interface declares; the interfaces that an interface extends are its interfaces, and it has no parent
abbrev pub class_head : PlacedType → ClassHead
class_head (PlacedClass ms n parent interfaces members s) = record {
  name = n;
  interface = false;
  is_abstract = has_word AbstractWord ms;
  is_final = has_word FinalWord ms;
  parent = parent;
  interfaces = interfaces;
  fields = flat_map field_heads members;
  methods = with_constructor n (flat_map (method_heads false) members);
}
class_head (PlacedInterface ms n parents members s) = record {
  name = n;
  interface = true;
  is_abstract = has_word AbstractWord ms;
  is_final = has_word FinalWord ms;
  parent = None;
  interfaces = parents;
  fields = flat_map field_heads members;
  methods = flat_map (method_heads true) members;
}

-- the declared types, by file and text
abbrev pub heads : List PlacedFile → List ClassHead
heads files = flat_map (λ (f : PlacedFile). map class_head f.types) files
