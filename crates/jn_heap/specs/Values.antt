-- Values, things on the heap, and arithmetic and text operations on values. Numbers are 32 bits (JLS 8, 4.2.1).
use Rattle.std.specs.Prelude.{ℕ, ◌+◌, ◌%◌, ◌^◌, Bool, true, false, cond, not, ◌&&◌, nat_le, ltb, eqb, List, [], ◌∷◌, ℤ, pos, negsuc, codes, bytes_eq, Option, Some, None}
use Rattle.std.specs.Int.{cast_signed, int_wrapping_add, int_wrapping_sub, int_wrapping_mul, int_wrapping_div, int_wrapping_neg, w32}
use Rattle.std.specs.Int.RustNames.{int_lt, int_le, int_rem}
use Rattle.std.specs.Fmt.{signed_decimal}
use Rattle.jn_points.specs.declared.point.Operator.{Operator}
use Rattle.jn_points.specs.declared.point.Operator.TheVariants.{Add, Sub, Mul, Div, Rem, Less, LessEqual, Greater, GreaterEqual, Equal, NotEqual}
use Rattle.jn_points.specs.declared.point.StrOperation.{StrOperation}
use Rattle.jn_points.specs.declared.point.StrOperation.TheVariants.{Length, IsEmpty, Equals}
use Rattle.jn_points.specs.declared.point.BaseType.{BaseType}
use Rattle.jn_points.specs.declared.point.BaseType.TheVariants.{Int, Bool as BoolBase, Void, Null as NullBase, Ref, Array}
use Rattle.jn_points.specs.declared.program.Field.{Field}

-- an int or a boolean
pub data Prim : Type 0 where
  Number : (n : ℤ) → Prim
  Truth : (b : Bool) → Prim

-- null, a String as its UTF-8 bytes, an int or boolean, or the place of a thing on the heap
pub data Value : Type 0 where
  NullRef : Value
  Text : (bytes : List ℕ) → Value
  Plain : (prim : Prim) → Value
  At : (place : ℕ) → Value

-- an object with a value for each field of the program, or an array
pub data Thing : Type 0 where
  Object : (class : ℕ) (fields : List Value) → Thing
  Elems : (base : BaseType) (items : List Value) → Thing

-- how a run ends: main returned, an exception of Java by name, or a limit
pub data End : Type 0 where
  Done : End
  Arithmetic : End
  Index : End
  NegativeSize : End
  ClassCast : End
  ArrayStore : End
  Deep : End
  Long : End

-- an operation gives something or ends the run, or lacks a value that it needs
pub data Got (A : Type 0) : Type 0 where
  Gives : (value : A) → Got A
  Fails : (end : End) → Got A
  Lacks : Got A

-- the greatest number of frames, and that of elements of an array or of units of a text
pub record Limits : Type 0 where
  pub deepest : ℕ
  pub longest : ℕ

-- those of the interpreter
abbrev pub usual_limits : Limits
usual_limits = record { deepest = 4096; longest = 16777216 }

-- whether a number is 0, by which no int can be divided (JLS 8, 15.17.2)
abbrev pub is_zero : ℤ → Bool
is_zero (pos n) = eqb n 0
is_zero (negsuc n) = false

-- whether two numbers are equal (JLS 8, 15.21.1)
abbrev pub int_same : ℤ → ℤ → Bool
int_same a b = int_le a b && int_le b a

-- whether two booleans are equal (JLS 8, 15.21.2)
abbrev pub truth_same : Bool → Bool → Bool
truth_same true b = b
truth_same false b = not b

-- a count as an int, which wraps
abbrev pub number_of : ℕ → Prim
number_of n = Number (cast_signed w32 (n % 2 ^ 32))

-- JLS 8, 15.15.3 and 15.15.4
abbrev pub unary : Bool → Prim → Got Prim
unary true (Number n) = Gives (Number (int_wrapping_neg w32 n))
unary false (Number n) = Gives (Number n)
unary negate (Truth b) = Lacks

-- a quotient or a remainder; where the divisor is 0 an ArithmeticException (JLS 8, 15.17.2 and 15.17.3)
abbrev pub unless_zero : ℤ → ℤ → Got Prim
unless_zero divisor n = cond (is_zero divisor) (Fails Arithmetic) (Gives (Number n))

-- JLS 8, 15.17, 15.18.2, 15.20.1 and 15.21.1
abbrev pub of_numbers : Operator → ℤ → ℤ → Got Prim
of_numbers Add a b = Gives (Number (int_wrapping_add w32 a b))
of_numbers Sub a b = Gives (Number (int_wrapping_sub w32 a b))
of_numbers Mul a b = Gives (Number (int_wrapping_mul w32 a b))
of_numbers Div a b = unless_zero b (int_wrapping_div w32 a b)
of_numbers Rem a b = unless_zero b (int_rem a b)
of_numbers Less a b = Gives (Truth (int_lt a b))
of_numbers LessEqual a b = Gives (Truth (int_le a b))
of_numbers Greater a b = Gives (Truth (int_lt b a))
of_numbers GreaterEqual a b = Gives (Truth (int_le b a))
of_numbers Equal a b = Gives (Truth (int_same a b))
of_numbers NotEqual a b = Gives (Truth (not (int_same a b)))

-- JLS 8, 15.21.2
abbrev pub of_truths : Operator → Bool → Bool → Got Prim
of_truths Equal a b = Gives (Truth (truth_same a b))
of_truths NotEqual a b = Gives (Truth (not (truth_same a b)))
of_truths op a b = Lacks

-- an operator on two ints or on two booleans; on one of each it has no meaning
abbrev pub binary : Operator → Prim → Prim → Got Prim
binary op (Number a) (Number b) = of_numbers op a b
binary op (Number a) (Truth b) = Lacks
binary op (Truth a) (Number b) = Lacks
binary op (Truth a) (Truth b) = of_truths op a b

-- UTF-16 units that a byte of UTF-8 stands for: none where it continues a character, two where it begins one of four bytes
abbrev pub byte_units : ℕ → ℕ
byte_units byte = cond (nat_le 128 byte && nat_le byte 191) 0 (cond (nat_le 240 byte) 2 1)

-- the length of a String in UTF-16 units, which Java counts, from its bytes in UTF-8
abbrev pub units : List ℕ → ℕ
units [] = 0
units (byte ∷ bytes) = byte_units byte + units bytes

-- how a value is joined to a text (JLS 8, 5.1.11)
abbrev pub text_of : Value → Option (List ℕ)
text_of NullRef = Some (codes "null")
text_of (Text t) = Some t
text_of (Plain (Number n)) = Some (signed_decimal n)
text_of (Plain (Truth true)) = Some (codes "true")
text_of (Plain (Truth false)) = Some (codes "false")
text_of (At o) = None

-- JLS 8, 15.21.3: the same thing, or both null
abbrev pub same : Value → Value → Bool
same NullRef NullRef = true
same (At a) (At b) = eqb a b
same v w = false

-- whether a value is the String with this text, which null and objects are not
abbrev pub is_text : List ℕ → Value → Bool
is_text t (Text u) = bytes_eq t u
is_text t v = false

-- String's equals: whether what it is given is a String with the same text
abbrev pub text_equals : List ℕ → Option Value → Got Prim
text_equals t None = Lacks
text_equals t (Some v) = Gives (Truth (is_text t v))

-- whether a text has no byte
abbrev pub is_empty_text : List ℕ → Bool
is_empty_text [] = true
is_empty_text (byte ∷ bytes) = false

-- what String's length, isEmpty and equals give on this text
abbrev pub text_op : StrOperation → List ℕ → Option Value → Got Prim
text_op Length t v = Gives (number_of (units t))
text_op IsEmpty t v = Gives (Truth (is_empty_text t))
text_op Equals t v = text_equals t v

-- the place of an element
abbrev pub index : ℤ → Option ℕ
index (pos n) = Some n
index (negsuc n) = None

-- the length of a new array (JLS 8, 15.10.1)
abbrev pub count : ℕ → ℤ → Got ℕ
count longest (pos n) = cond (ltb longest n) (Fails Long) (Gives n)
count longest (negsuc n) = Fails NegativeSize

-- JLS 8, 4.12.5
abbrev pub default_of : BaseType → Value
default_of Int = Plain (Number (pos 0))
default_of BoolBase = Plain (Truth false)
default_of Void = Plain (Number (pos 0))
default_of NullBase = NullRef
default_of (Ref c) = NullRef
default_of (Array e nullable) = NullRef

-- a new object's value for each field (JLS 8, 4.12.5)
abbrev pub defaults : List Field → List Value
defaults [] = []
defaults (f ∷ fs) = default_of f.base ∷ defaults fs

-- a static field's initializer
abbrev pub first_of : BaseType → ℤ → Prim
first_of BoolBase n = Truth (not (is_zero n))
first_of base n = Number n

-- a first value for each field of the program, which counts where the field is static
abbrev pub statics_of : List Field → List Prim
statics_of [] = []
statics_of (f ∷ fs) = first_of f.base f.first ∷ statics_of fs
