-- What points do that enter or leave no frame: constants and operators, texts, fields, arrays, casts, tests and branches (JLS 8, 15).
use Rattle.std.specs.Prelude.{ℕ, ◌+◌, Bool, true, false, cond, not, eqb, ltb, List, [], ◌∷◌, ◌++◌, length, replicate, ℤ, Option, Some, None, slice_get, slice_set, slice_index_or}
use Rattle.jn_points.specs.declared.point.Operator.{Operator}
use Rattle.jn_points.specs.declared.point.StrOperation.{StrOperation}
use Rattle.jn_points.specs.declared.point.Literal.{Literal}
use Rattle.jn_points.specs.declared.point.Literal.TheVariants.{Int, Truth as TruthOf, Str, Null}
use Rattle.jn_points.specs.declared.point.BaseType.{BaseType}
use Rattle.jn_points.specs.declared.point.BaseType.TheVariants.{Int as IntBase, Bool as BoolBase, Ref}
use Rattle.jn_points.specs.declared.program.Program.{Program}
use Rattle.jn_points.specs.Lookup.{elem_base}
use Rattle.jn_points.specs.Members.{sub, has_field}
use Rattle.jn_heap.specs.Values.{Prim, Number, Truth, Value, NullRef, Text, Plain, At, Thing, Object, Elems, Index, ClassCast, ArrayStore, Long, Got, Gives, Fails, Lacks, number_of, unary, binary, units, same, text_op, index, count, default_of}
use Rattle.jn_heap.specs.State.{State, Next, Goes, Ends, Stuck, got_of, got_plain, moves_to, holds_at, moves}

-- constants, operators and texts

-- a literal's value; that of a string is its text among all of the program (JLS 8, 15.8.1)
abbrev pub literal_value : List (List ℕ) → Literal → Value
literal_value names (Int i) = Plain (Number i)
literal_value names (TruthOf b) = Plain (Truth b)
literal_value names (Str n) = Text (slice_index_or names n.0 [])
literal_value names Null = NullRef

-- `-` of an int, or `!` of a boolean (JLS 8, 15.15.4, 15.15.6)
abbrev pub unary_of : Bool → Option Prim → Got Value
unary_of negate None = Lacks
unary_of negate (Some p) = got_plain (unary negate p)

-- an operator on two ints or booleans (JLS 8, 15.17, 15.18.2, 15.20.1, 15.21)
abbrev pub binary_of : Operator → Option Prim → Option Prim → Got Value
binary_of op None q = Lacks
binary_of op (Some p) None = Lacks
binary_of op (Some p) (Some q) = got_plain (binary op p q)

-- the text, where it isn't too long
abbrev pub text_or_long : List ℕ → Bool → Got Value
text_or_long t true = Fails Long
text_or_long t false = Gives (Text t)

-- `+` of two texts, which ends the run past the greatest number of units (JLS 8, 15.18.1)
abbrev pub concat_of : ℕ → Option (List ℕ) → Option (List ℕ) → Got Value
concat_of longest None u = Lacks
concat_of longest (Some t) None = Lacks
concat_of longest (Some t) (Some u) = text_or_long (t ++ u) (ltb longest (units (t ++ u)))

-- `==`, or `!=`, of two references (JLS 8, 15.21.3)
abbrev pub same_of : Bool → Option Value → Option Value → Got Value
same_of equal None w = Lacks
same_of equal (Some v) None = Lacks
same_of equal (Some v) (Some w) = Gives (Plain (Truth (cond equal (same v w) (not (same v w)))))

-- a method of class String on a text (java.lang.String)
abbrev pub str_op : StrOperation → Option Value → Option Value → Got Value
str_op op None v = Lacks
str_op op (Some NullRef) v = Lacks
str_op op (Some (Text t)) v = got_plain (text_op op t v)
str_op op (Some (Plain p)) v = Lacks
str_op op (Some (At o)) v = Lacks

-- the text and a line feed are printed (java.io.PrintStream)
abbrev pub print : State → Option (List ℕ) → Next
print st None = Stuck
print st (Some t) = Goes (record st { out = st.out ++ (t ++ 10 ∷ []); top = moves_to st.top (st.top.at + 1) })

-- branches

-- the run goes to the one point or the other
abbrev pub goes_by : State → Bool → ℕ → ℕ → Next
goes_by st true at_yes at_no = moves st at_yes
goes_by st false at_yes at_no = moves st at_no

-- a branch on a boolean (JLS 8, 14.9)
abbrev pub branch : State → ℕ → ℕ → Option Bool → Next
branch st at_yes at_no None = Stuck
branch st at_yes at_no (Some b) = goes_by st b at_yes at_no

-- a branch on whether a reference is null (JLS 8, 15.21.3)
abbrev pub test_null : State → ℕ → ℕ → Option Value → Next
test_null st at_null at_value None = Stuck
test_null st at_null at_value (Some NullRef) = moves st at_null
test_null st at_null at_value (Some (Text t)) = moves st at_value
test_null st at_null at_value (Some (Plain p)) = Stuck
test_null st at_null at_value (Some (At o)) = moves st at_value

-- static fields, and writes on the heap

-- an int or boolean into a static field (JLS 8, 15.26.1)
abbrev pub write_static : State → ℕ → Option Prim → Next
write_static st f None = Stuck
write_static st f (Some p) = Goes (record st { statics = slice_set st.statics f p; top = moves_to st.top (st.top.at + 1) })

-- a new thing after all others, which a register then refers to
abbrev pub allocates : State → ℕ → Thing → Next
allocates st dst x = Goes (record st { heap = st.heap ++ x ∷ []; top = holds_at st.top dst (At (length st.heap)) })

-- a thing in the place of another
abbrev pub put_thing : State → ℕ → Got Thing → Next
put_thing st o (Gives x) = Goes (record st { heap = slice_set st.heap o x; top = moves_to st.top (st.top.at + 1) })
put_thing st o (Fails e) = Ends e st
put_thing st o Lacks = Stuck

-- arrays

-- an element, where the index is one
abbrev pub item_at : List Value → Option ℕ → Option Value
item_at xs None = None
item_at xs (Some i) = slice_get xs i

-- the element, or an index that is none (JLS 8, 10.4)
abbrev pub item_or_index : Option Value → Got Value
item_or_index None = Fails Index
item_or_index (Some v) = Gives v

-- an element of a thing that is an array
abbrev pub elem_in : Option Thing → Option ℕ → Got Value
elem_in None i = Lacks
elem_in (Some (Object c fs)) i = Lacks
elem_in (Some (Elems b xs)) i = item_or_index (item_at xs i)

-- an array's element (JLS 8, 15.10.4)
abbrev pub read_elem : List Thing → Option ℕ → Option ℤ → Got Value
read_elem heap None i = Lacks
read_elem heap (Some o) None = Lacks
read_elem heap (Some o) (Some i) = elem_in (slice_get heap o) (index i)

-- the array with an element written, where the index is one and the array may hold the value (JLS 8, 10.4, 10.5)
abbrev pub stored : BaseType → List Value → ℕ → Value → Bool → Bool → Got Thing
stored b xs i v false may = Fails Index
stored b xs i v true false = Fails ArrayStore
stored b xs i v true true = Gives (Elems b (slice_set xs i v))

-- the length of a thing that is an array
abbrev pub length_in : Option Thing → Got Value
length_in None = Lacks
length_in (Some (Object c fs)) = Lacks
length_in (Some (Elems b xs)) = Gives (Plain (number_of (length xs)))

-- an array's `length` (JLS 8, 10.7)
abbrev pub array_len : List Thing → Option ℕ → Got Value
array_len heap None = Lacks
array_len heap (Some o) = length_in (slice_get heap o)

-- a number of elements, which is negative, too great, or as many (JLS 8, 15.10.2)
abbrev pub count_of : ℕ → Option ℤ → Got ℕ
count_of longest None = Lacks
count_of longest (Some n) = count longest n

-- a new array, each element at its default value (JLS 8, 15.10.2, 4.12.5)
abbrev pub new_array : State → ℕ → BaseType → Got ℕ → Next
new_array st dst b (Gives n) = allocates st dst (Elems b (replicate n (default_of (elem_base b))))
new_array st dst b (Fails e) = Ends e st
new_array st dst b Lacks = Stuck

-- a new array of these elements (JLS 8, 10.6)
abbrev pub array_of : State → ℕ → BaseType → Option (List Value) → Next
array_of st dst b None = Stuck
array_of st dst b (Some vs) = allocates st dst (Elems b vs)

-- the value, where it is of the cast's class
abbrev pub cast_as : Value → Bool → Got Value
cast_as v true = Gives v
cast_as v false = Fails ClassCast

module _ (P : Program) where
  -- classes of values

  -- whether a thing on the heap is of the class; an array is an Object
  abbrev pub thing_within : Option Thing → ℕ → Bool
  thing_within None c = false
  thing_within (Some (Object d fs)) c = sub P d c
  thing_within (Some (Elems b xs)) c = eqb c 0

  -- whether a value that isn't null is of the class
  abbrev pub is_within : List Thing → Value → ℕ → Bool
  is_within heap NullRef c = false
  is_within heap (Text t) c = sub P 1 c
  is_within heap (Plain p) c = false
  is_within heap (At o) c = thing_within (slice_get heap o) c

  -- a cast of a reference (JLS 8, 15.16)
  abbrev pub cast_of : List Thing → Option Value → ℕ → Got Value
  cast_of heap None c = Lacks
  cast_of heap (Some NullRef) c = Gives NullRef
  cast_of heap (Some (Text t)) c = cast_as (Text t) (is_within heap (Text t) c)
  cast_of heap (Some (Plain p)) c = Lacks
  cast_of heap (Some (At o)) c = cast_as (At o) (is_within heap (At o) c)

  -- a branch on `instanceof` (JLS 8, 15.20.2)
  abbrev pub test_inst : State → ℕ → ℕ → ℕ → Option Value → Next
  test_inst st c at_yes at_no None = Stuck
  test_inst st c at_yes at_no (Some NullRef) = moves st at_no
  test_inst st c at_yes at_no (Some (Text t)) = goes_by st (is_within st.heap (Text t) c) at_yes at_no
  test_inst st c at_yes at_no (Some (Plain p)) = Stuck
  test_inst st c at_yes at_no (Some (At o)) = goes_by st (is_within st.heap (At o) c) at_yes at_no

  -- fields of objects

  -- a field of a thing that is an object of a class with it
  abbrev pub field_in : Option Thing → ℕ → Option Value
  field_in None f = None
  field_in (Some (Object c fs)) f = cond (has_field P c f) (slice_get fs f) None
  field_in (Some (Elems b xs)) f = None

  -- a field of the thing at a place
  abbrev pub field_at : List Thing → ℕ → ℕ → Option Value
  field_at heap o f = field_in (slice_get heap o) f

  -- an object's field (JLS 8, 15.11.1)
  abbrev pub read_field : List Thing → Option ℕ → ℕ → Got Value
  read_field heap None f = Lacks
  read_field heap (Some o) f = got_of (field_at heap o f)

  -- the object with the field written
  abbrev pub write_in : Option Thing → ℕ → Value → Got Thing
  write_in None f v = Lacks
  write_in (Some (Object c fs)) f v = cond (has_field P c f) (Gives (Object c (slice_set fs f v))) Lacks
  write_in (Some (Elems b xs)) f v = Lacks

  -- a value into an object's field (JLS 8, 15.26.1)
  abbrev pub write_field : State → Option ℕ → ℕ → Option Value → Next
  write_field st None f v = Stuck
  write_field st (Some o) f None = Stuck
  write_field st (Some o) f (Some v) = put_thing st o (write_in (slice_get st.heap o) f v)

  -- elements of arrays

  -- whether an array may hold the value as an element (JLS 8, 10.5)
  abbrev pub may_hold : List Thing → BaseType → Value → Bool
  may_hold heap IntBase (Plain (Number n)) = true
  may_hold heap BoolBase (Plain (Truth b)) = true
  may_hold heap (Ref c) NullRef = true
  may_hold heap (Ref c) (Text t) = is_within heap (Text t) c.0
  may_hold heap (Ref c) (At o) = is_within heap (At o) c.0
  may_hold heap base v = false

  -- the array with the element written: the index is looked at first, then the kind of the element (JLS 8, 15.26.1)
  abbrev pub store_in : List Thing → Option Thing → Option ℕ → Value → Got Thing
  store_in heap None i v = Lacks
  store_in heap (Some (Object c fs)) i v = Lacks
  store_in heap (Some (Elems b xs)) None v = Fails Index
  store_in heap (Some (Elems b xs)) (Some i) v = stored b xs i v (ltb i (length xs)) (may_hold heap (elem_base b) v)

  -- a value into an array's element (JLS 8, 15.26.1)
  abbrev pub write_elem : State → Option ℕ → Option ℤ → Option Value → Next
  write_elem st None i v = Stuck
  write_elem st (Some o) None v = Stuck
  write_elem st (Some o) (Some i) None = Stuck
  write_elem st (Some o) (Some i) (Some v) = put_thing st o (store_in st.heap (slice_get st.heap o) (index i) v)
