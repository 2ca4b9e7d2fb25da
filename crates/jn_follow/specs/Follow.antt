-- What may follow: a stack of what may stand next, and what a token makes of it. It takes at least the well-formed files (JLS 7 to 9, 14 and 15).
use Rattle.std.specs.Prelude.{List, [], ◌∷◌, ◌++◌, Bool, true, false, not, ◌&&◌, cond, nat_eq, Option, Some, None}
use Rattle.jn_base.specs.declared.number.NameNo.{NameNo}
use Rattle.jn_trees.specs.declared.token.TokenKind.{TokenKind}
use Rattle.jn_trees.specs.declared.token.TokenKind.TheVariants.{Id, Str, Number, Abstract, Boolean, Break, Class, Continue, Do, Else as ElseWord, Extends, Final, For, If, Implements, Import, Instanceof, Int, Interface, New, Package, Private, Protected, Public, Return, Static, Super, This, Void, While, True, False, Null, LeftParen, RightParen, LeftBrace, RightBrace, LeftBracket, RightBracket, Semicolon, Comma, Dot, At, Assign, Greater, Less, Not, Question, Colon, EqualEqual, LessEqual, GreaterEqual, NotEqual, AndAnd, OrOr, PlusPlus, MinusMinus, Plus, Minus, Star, Slash, Percent, PlusAssign, MinusAssign, StarAssign, SlashAssign, PercentAssign}
use Rattle.jn_trees.specs.declared.context.Context.{Context}
use Rattle.jn_trees.specs.declared.context.Owner.{Owner}
use Rattle.jn_trees.specs.WellFormed.{under, in_block, loop_body, body_context}
use Rattle.jn_follow.specs.declared.frame.Mode.{Mode}
use Rattle.jn_follow.specs.declared.frame.Mode.TheVariants.{Effect, Whole, Part}
use Rattle.jn_follow.specs.declared.frame.Stage.{Stage}
use Rattle.jn_follow.specs.declared.frame.Stage.TheVariants.{Named, Element, Primary, Casting, Called, Array, Done}
use Rattle.jn_follow.specs.declared.frame.Frame.{Frame}
use Rattle.jn_follow.specs.declared.frame.Frame.TheVariants.{Start, Lines, Types, TypeMarked, ClassWord, InterfaceWord, ClassNamed, Extended, InterfaceNamed, Listed, Dotted, ImportDotted, ImportDot, Members, Marked, MemberNamed, MemberDeclared, MethodEnd, Parameters, Parameter, ParameterTyped, MoreParameters, TypeEnd, ArrayMarked, Declared, MoreDeclared, Body, Statement, Else, Returned, ThisFirst, SuperFirst, LocalMarked, NameFirst, BracketFirst, ForInit, ForDeclared, ForCondition, ForUpdate, MoreEffects, Operand, Operator, Inner, InnerNamed, Created, ArrayCreated, ClassCreated, Size, Items, MoreItems, Name, OpenParen, CloseParen, OpenBracket, CloseBracket, OpenBrace, End, Other, Point, Again}

-- what stands in place of the top frame after a token, or none where the token can't stand there
abbrev pub Next : Type 0
Next = Option (List Frame)

-- these stand below it
abbrev pub more : Next → List Frame → Next
more None behind = None
more (Some top) behind = Some (top ++ behind)

-- what stands next where the condition holds, else none
abbrev pub only : Bool → Next → Next
only b next = cond b next None

-- a statement or an update alone is no operand
abbrev pub free : Mode → Bool
free Effect = false
free _ = true

-- an operand alone is no assignment
abbrev pub assigns : Mode → Bool
assigns Part = false
assigns _ = true

-- what may be assigned
abbrev pub left : Stage → Bool
left Named = true
left Element = true
left _ = false

-- a dot may come after an expression that ends so; a step needs parentheses
abbrev pub dotted : Stage → Bool
dotted Done = false
dotted _ = true

-- an index may come after it: after a step and a new array none may (JLS 15.10.3)
abbrev pub indexed : Stage → Bool
indexed Done = false
indexed Array = false
indexed _ = true

-- what may be a whole statement
abbrev pub effective : Stage → Bool
effective Called = true
effective Done = true
effective _ = false

-- the expression may end after it
abbrev pub ends : Mode → Stage → Bool
ends Effect s = effective s
ends _ s = true

-- what may stand after an expression that ends
abbrev pub closes : TokenKind → Bool
closes RightParen = true
closes RightBracket = true
closes RightBrace = true
closes Semicolon = true
closes Comma = true
closes Colon = true
closes _ = false

-- the first token of an expression or an operand
abbrev pub operand : Mode → TokenKind → Next
operand m (Id n) = Some (Operator m Named ∷ [])
operand m (Number n) = Some (Operator m Primary ∷ [])
operand m (Str n) = Some (Operator m Primary ∷ [])
operand m True = Some (Operator m Primary ∷ [])
operand m False = Some (Operator m Primary ∷ [])
operand m Null = Some (Operator m Primary ∷ [])
operand m This = Some (Operator m Primary ∷ [])
operand m LeftParen = Some (Inner m ∷ [])
operand m Super = Some (Point ∷ Name ∷ OpenParen ∷ Items false ∷ Operator m Called ∷ [])
operand m New = Some (Created m ∷ [])
operand m PlusPlus = Some (Operand Part ∷ [])
operand m MinusMinus = Some (Operand Part ∷ [])
operand m Plus = only (free m) (Some (Operand Part ∷ []))
operand m Minus = only (free m) (Some (Operand Part ∷ []))
operand m Not = only (free m) (Some (Operand Part ∷ []))
operand m _ = None

-- an operand of a cast, after a name in parentheses
abbrev pub cast_operand : Mode → Stage → TokenKind → Next
cast_operand Effect s k = None
cast_operand m Casting k = operand Part k
cast_operand m s k = None

-- after `(` where an expression ends so: the arguments of a call by a name, or the operand of a cast
abbrev pub called : Mode → Stage → Next
called m Named = Some (Items false ∷ Operator m Called ∷ [])
called m s = cast_operand m s LeftParen

-- after an assigning operator: only a left side is assigned, and only where an assignment may stand
abbrev pub assigned : Mode → Stage → Next
assigned m s = only (assigns m && left s) (Some (Operand Whole ∷ []))

-- after `++` or `--`: only a left side is stepped
abbrev pub stepped : Mode → Stage → Next
stepped m s = only (left s) (Some (Operator m Done ∷ []))

-- after an operator between two operands: not in a statement, which is an effect
abbrev pub binary : Mode → Next
binary m = only (free m) (Some (Operand Part ∷ []))

-- what goes on with an expression that ends so
abbrev pub operator : Mode → Stage → TokenKind → Next
operator m s Dot = only (dotted s) (Some (Name ∷ Operator m Named ∷ []))
operator m s LeftBracket = only (indexed s) (Some (Operand Whole ∷ CloseBracket ∷ Operator m Element ∷ []))
operator m s LeftParen = called m s
operator m s PlusPlus = stepped m s
operator m s MinusMinus = stepped m s
operator m s Assign = assigned m s
operator m s PlusAssign = assigned m s
operator m s MinusAssign = assigned m s
operator m s StarAssign = assigned m s
operator m s SlashAssign = assigned m s
operator m s PercentAssign = assigned m s
operator m s Plus = binary m
operator m s Minus = binary m
operator m s Star = binary m
operator m s Slash = binary m
operator m s Percent = binary m
operator m s Less = binary m
operator m s Greater = binary m
operator m s LessEqual = binary m
operator m s GreaterEqual = binary m
operator m s EqualEqual = binary m
operator m s NotEqual = binary m
operator m s AndAnd = binary m
operator m s OrOr = binary m
operator m s Instanceof = only (free m) (Some (Name ∷ Operator m Done ∷ []))
operator m s Question = only (free m) (Some (Operand Whole ∷ Other ∷ Operand Part ∷ []))
operator m s (Id n) = cast_operand m s (Id n)
operator m s (Number n) = cast_operand m s (Number n)
operator m s (Str n) = cast_operand m s (Str n)
operator m s True = cast_operand m s True
operator m s False = cast_operand m s False
operator m s Null = cast_operand m s Null
operator m s This = cast_operand m s This
operator m s Super = cast_operand m s Super
operator m s New = cast_operand m s New
operator m s Not = cast_operand m s Not
operator m s _ = None

-- after `(`: an expression in parentheses, or a name, which may be that of a cast
abbrev pub inner : Mode → TokenKind → Next
inner m (Id n) = Some (InnerNamed m ∷ [])
inner m k = more (operand Whole k) (CloseParen ∷ Operator m Primary ∷ [])

-- after `(` and a name: `)`, after which it may be a cast, or what goes on with the name
abbrev pub inner_named : Mode → TokenKind → Next
inner_named m RightParen = Some (Operator m Casting ∷ [])
inner_named m k = more (operator Whole Named k) (CloseParen ∷ Operator m Primary ∷ [])

-- after `new`: an annotation, a class, or a plain type, of which only arrays are made
abbrev pub created : Mode → TokenKind → Next
created m At = Some (Name ∷ ArrayCreated m ∷ [])
created m (Id n) = Some (ClassCreated m ∷ [])
created m Int = Some (OpenBracket ∷ Size m ∷ [])
created m Boolean = Some (OpenBracket ∷ Size m ∷ [])
created m _ = None

-- after `new` and an annotation, only arrays are made
abbrev pub array_created : Mode → TokenKind → Next
array_created m At = Some (Name ∷ ArrayCreated m ∷ [])
array_created m (Id n) = Some (OpenBracket ∷ Size m ∷ [])
array_created m Int = Some (OpenBracket ∷ Size m ∷ [])
array_created m Boolean = Some (OpenBracket ∷ Size m ∷ [])
array_created m _ = None

-- after `new` and a class: arguments, or an array
abbrev pub class_created : Mode → TokenKind → Next
class_created m LeftParen = Some (Items false ∷ Operator m Called ∷ [])
class_created m LeftBracket = Some (Size m ∷ [])
class_created m _ = None

-- after the `[` of a new array: `]` and its elements, or its length
abbrev pub size : Mode → TokenKind → Next
size m RightBracket = Some (OpenBrace ∷ Items true ∷ Operator m Array ∷ [])
size m k = more (operand Whole k) (CloseBracket ∷ Operator m Array ∷ [])

-- one of several expressions
abbrev pub next_item : Bool → TokenKind → Next
next_item braces k = more (operand Whole k) (MoreItems braces ∷ [])

-- expressions through `)`, or through `}` where braces are around them; there may be none
abbrev pub items : Bool → TokenKind → Next
items false RightParen = Some []
items true RightBrace = Some []
items braces k = next_item braces k

-- after one of them
abbrev pub more_items : Bool → TokenKind → Next
more_items braces Comma = Some (Operand Whole ∷ MoreItems braces ∷ [])
more_items false RightParen = Some []
more_items true RightBrace = Some []
more_items braces _ = None

-- after a type without brackets; it may also end here
abbrev pub type_end : TokenKind → Next
type_end LeftBracket = Some (CloseBracket ∷ [])
type_end At = Some (Name ∷ ArrayMarked ∷ [])
type_end _ = None

-- after an annotation of an array
abbrev pub array_marked : TokenKind → Next
array_marked LeftBracket = Some (CloseBracket ∷ [])
array_marked At = Some (Name ∷ ArrayMarked ∷ [])
array_marked _ = None

-- after the name of a declarator: its value, or the next declarator
abbrev pub declared : TokenKind → Next
declared Assign = Some (Operand Whole ∷ MoreDeclared ∷ [])
declared Comma = Some (Name ∷ Declared ∷ [])
declared _ = None

-- after a declarator with a value
abbrev pub more_declared : TokenKind → Next
more_declared Comma = Some (Name ∷ Declared ∷ [])
more_declared _ = None

-- after the name of a local, of a `for` or not
abbrev pub local_end : Bool → List Frame
local_end true = ForDeclared ∷ []
local_end false = Declared ∷ End ∷ []

-- after an expression that might have been a local
abbrev pub effect_end : Bool → List Frame
effect_end true = MoreEffects ∷ End ∷ ForCondition ∷ []
effect_end false = End ∷ []

-- after an annotation or `final` of a local
abbrev pub local_marked : Bool → TokenKind → Next
local_marked f At = Some (Name ∷ LocalMarked f ∷ [])
local_marked f Final = Some (LocalMarked f ∷ [])
local_marked f (Id n) = Some (TypeEnd ∷ Name ∷ local_end f)
local_marked f Int = Some (TypeEnd ∷ Name ∷ local_end f)
local_marked f Boolean = Some (TypeEnd ∷ Name ∷ local_end f)
local_marked f _ = None

-- after a name that begins a statement: the name of a local of that type, an array of it, or what goes on with an effect
abbrev pub name_first : Bool → TokenKind → Next
name_first f (Id n) = Some (local_end f)
name_first f At = Some (Name ∷ ArrayMarked ∷ Name ∷ local_end f)
name_first f LeftBracket = Some (BracketFirst f ∷ [])
name_first f k = more (operator Effect Named k) (effect_end f)

-- after such a name and `[`: `]` of an array type, or an index
abbrev pub bracket_first : Bool → TokenKind → Next
bracket_first f RightBracket = Some (Name ∷ local_end f)
bracket_first f k = more (operand Whole k) (CloseBracket ∷ Operator Effect Element ∷ effect_end f)

-- after `for (`
abbrev pub for_init : TokenKind → Next
for_init Semicolon = Some (ForCondition ∷ [])
for_init At = Some (Name ∷ LocalMarked true ∷ [])
for_init Final = Some (LocalMarked true ∷ [])
for_init Int = Some (TypeEnd ∷ Name ∷ ForDeclared ∷ [])
for_init Boolean = Some (TypeEnd ∷ Name ∷ ForDeclared ∷ [])
for_init (Id n) = Some (NameFirst true ∷ [])
for_init k = more (operand Effect k) (effect_end true)

-- after type and name in a `for`: a colon, or what a declaration goes on with
abbrev pub for_declared : TokenKind → Next
for_declared Colon = Some (Operand Whole ∷ [])
for_declared Assign = Some (Operand Whole ∷ MoreDeclared ∷ End ∷ ForCondition ∷ [])
for_declared Comma = Some (Name ∷ Declared ∷ End ∷ ForCondition ∷ [])
for_declared Semicolon = Some (ForCondition ∷ [])
for_declared _ = None

-- after the first `;` of a `for`
abbrev pub for_condition : TokenKind → Next
for_condition Semicolon = Some (ForUpdate ∷ [])
for_condition k = more (operand Whole k) (End ∷ ForUpdate ∷ [])

-- after the second
abbrev pub for_update : TokenKind → Next
for_update k = more (operand Effect k) (MoreEffects ∷ [])

-- after an expression of the head of a `for`
abbrev pub more_effects : TokenKind → Next
more_effects Comma = Some (Operand Effect ∷ MoreEffects ∷ [])
more_effects _ = None

-- after `return`
abbrev pub returned : TokenKind → Next
returned Semicolon = Some []
returned k = more (operand Whole k) (End ∷ [])

-- `this(..)` and `super(..)` come first in a constructor
abbrev pub this_first : Bool → TokenKind → Next
this_first leading LeftParen = only leading (Some (Items false ∷ []))
this_first leading k = operator Effect Primary k

-- after `super` that begins a statement: the arguments of a constructor, or a method of the superclass
abbrev pub super_first : Bool → TokenKind → Next
super_first leading LeftParen = only leading (Some (Items false ∷ []))
super_first leading Dot = Some (Name ∷ OpenParen ∷ Items false ∷ Operator Effect Called ∷ [])
super_first leading _ = None

-- a name may begin a local directly in a block alone
abbrev pub named : Bool → Next
named true = Some (NameFirst false ∷ [])
named false = Some (Operator Effect Named ∷ End ∷ [])

-- the first token of a statement in this context
abbrev pub statement : Context → TokenKind → Next
statement c LeftBrace = Some (Body (in_block c) ∷ [])
statement c Semicolon = Some []
statement c Break = only c.in_loop (Some (End ∷ []))
statement c Continue = only c.in_loop (Some (End ∷ []))
statement c Return = Some (Returned ∷ [])
statement c At = only c.direct (Some (Name ∷ LocalMarked false ∷ []))
statement c Final = only c.direct (Some (LocalMarked false ∷ []))
statement c Int = only c.direct (Some (TypeEnd ∷ Name ∷ Declared ∷ End ∷ []))
statement c Boolean = only c.direct (Some (TypeEnd ∷ Name ∷ Declared ∷ End ∷ []))
statement c (Id n) = named c.direct
statement c If = Some (OpenParen ∷ Operand Whole ∷ CloseParen ∷ Statement (under c) ∷ Else (under c) ∷ [])
statement c While = Some (OpenParen ∷ Operand Whole ∷ CloseParen ∷ Statement loop_body ∷ [])
statement c Do = Some (Statement loop_body ∷ Again ∷ OpenParen ∷ Operand Whole ∷ CloseParen ∷ End ∷ [])
statement c For = Some (OpenParen ∷ ForInit ∷ CloseParen ∷ Statement loop_body ∷ [])
statement c This = Some (ThisFirst c.leading ∷ End ∷ [])
statement c Super = Some (SuperFirst c.leading ∷ End ∷ [])
statement c k = more (operand Effect k) (End ∷ [])

-- only the first statement leads
abbrev pub later : Context → Context
later c = record { in_loop = c.in_loop; direct = c.direct; leading = false }

-- statements through `}`
abbrev pub body : Context → TokenKind → Next
body c RightBrace = Some []
body c k = more (statement c k) (Body (later c) ∷ [])

-- after a statement under `if`: `else`, or what comes after the `if`
abbrev pub other : Context → TokenKind → Next
other c ElseWord = Some (Statement c ∷ [])
other c _ = None

-- one parameter; a receiver where it may be the first
abbrev pub parameter : Bool → TokenKind → Next
parameter r At = Some (Name ∷ Parameter r ∷ [])
parameter r Final = Some (Parameter false ∷ [])
parameter r (Id n) = Some (TypeEnd ∷ ParameterTyped r ∷ [])
parameter r Int = Some (TypeEnd ∷ Name ∷ [])
parameter r Boolean = Some (TypeEnd ∷ Name ∷ [])
parameter r _ = None

-- parameters through `)`; there may be none
abbrev pub parameters : Bool → TokenKind → Next
parameters r RightParen = Some []
parameters r k = more (parameter r k) (MoreParameters ∷ [])

-- after the type of a parameter: its name, or `this` of a receiver
abbrev pub parameter_typed : Bool → TokenKind → Next
parameter_typed r (Id n) = Some []
parameter_typed r This = only r (Some [])
parameter_typed r _ = None

-- after a parameter
abbrev pub more_parameters : TokenKind → Next
more_parameters Comma = Some (Parameter false ∷ MoreParameters ∷ [])
more_parameters RightParen = Some []
more_parameters _ = None

-- a constructor stands in a class and has its name
abbrev pub constructs : Owner → NameNo → Bool
constructs o n = not o.interface && nat_eq n.0 o.name.0

-- a member, or what is left of it after an annotation or a modifier
abbrev pub marked : Owner → TokenKind → Next
marked o At = Some (Name ∷ Marked o ∷ [])
marked o Public = Some (Marked o ∷ [])
marked o Protected = Some (Marked o ∷ [])
marked o Private = Some (Marked o ∷ [])
marked o Static = Some (Marked o ∷ [])
marked o Final = Some (Marked o ∷ [])
marked o Abstract = Some (Marked o ∷ [])
marked o (Id n) = Some (MemberNamed (constructs o n) o.interface ∷ [])
marked o Int = Some (TypeEnd ∷ Name ∷ MemberDeclared o.interface ∷ [])
marked o Boolean = Some (TypeEnd ∷ Name ∷ MemberDeclared o.interface ∷ [])
marked o Void = Some (Name ∷ OpenParen ∷ Parameters true ∷ MethodEnd o.interface ∷ [])
marked o _ = None

-- members through `}`
abbrev pub members : Owner → TokenKind → Next
members o RightBrace = Some []
members o k = more (marked o k) (Members o ∷ [])

-- after a name that begins a member: the parameters of a constructor, or the name of a field or method of that type
abbrev pub member_named : Bool → Bool → TokenKind → Next
member_named c i LeftParen = only c (Some (Parameters false ∷ OpenBrace ∷ Body (body_context true) ∷ []))
member_named c i (Id n) = Some (MemberDeclared i ∷ [])
member_named c i LeftBracket = Some (CloseBracket ∷ Name ∷ MemberDeclared i ∷ [])
member_named c i At = Some (Name ∷ ArrayMarked ∷ Name ∷ MemberDeclared i ∷ [])
member_named c i _ = None

-- after type and name of a member: the parameters of a method, or what a field goes on with
abbrev pub member_declared : Bool → TokenKind → Next
member_declared i LeftParen = Some (Parameters true ∷ MethodEnd i ∷ [])
member_declared i Assign = Some (Operand Whole ∷ MoreDeclared ∷ End ∷ [])
member_declared i Comma = Some (Name ∷ Declared ∷ End ∷ [])
member_declared i Semicolon = Some []
member_declared i _ = None

-- a method of an interface has no body
abbrev pub method_end : Bool → TokenKind → Next
method_end i Semicolon = Some []
method_end i LeftBrace = only (not i) (Some (Body (body_context false) ∷ []))
method_end i _ = None

-- a type, or what is left of its head after an annotation or a modifier
abbrev pub type_marked : TokenKind → Next
type_marked At = Some (Name ∷ TypeMarked ∷ [])
type_marked Public = Some (TypeMarked ∷ [])
type_marked Final = Some (TypeMarked ∷ [])
type_marked Abstract = Some (TypeMarked ∷ [])
type_marked Class = Some (ClassWord ∷ [])
type_marked Interface = Some (InterfaceWord ∷ [])
type_marked _ = None

-- after `class`
abbrev pub class_word : TokenKind → Next
class_word (Id n) = Some (ClassNamed n ∷ [])
class_word _ = None

-- after `interface`
abbrev pub interface_word : TokenKind → Next
interface_word (Id n) = Some (InterfaceNamed n ∷ [])
interface_word _ = None

-- the class of this name, as members see it
abbrev pub class_owner : NameNo → Owner
class_owner n = record { interface = false; name = n }

-- the interface of this name, as members see it
abbrev pub interface_owner : NameNo → Owner
interface_owner n = record { interface = true; name = n }

-- after the superclass of a class
abbrev pub extended : NameNo → TokenKind → Next
extended c Implements = Some (Name ∷ Listed (class_owner c) ∷ [])
extended c LeftBrace = Some (Members (class_owner c) ∷ [])
extended c _ = None

-- after the name of a class
abbrev pub class_named : NameNo → TokenKind → Next
class_named c Extends = Some (Name ∷ Extended c ∷ [])
class_named c k = extended c k

-- after the name of an interface
abbrev pub interface_named : NameNo → TokenKind → Next
interface_named c Extends = Some (Name ∷ Listed (interface_owner c) ∷ [])
interface_named c LeftBrace = Some (Members (interface_owner c) ∷ [])
interface_named c _ = None

-- after a name of a list in the head of a type
abbrev pub listed : Owner → TokenKind → Next
listed o Comma = Some (Name ∷ Listed o ∷ [])
listed o LeftBrace = Some (Members o ∷ [])
listed o _ = None

-- after a name of a package line
abbrev pub dots : TokenKind → Next
dots Dot = Some (Name ∷ Dotted ∷ [])
dots _ = None

-- after a name of an import
abbrev pub import_dotted : TokenKind → Next
import_dotted Dot = Some (ImportDot ∷ [])
import_dotted _ = None

-- after a dot of an import
abbrev pub import_dot : TokenKind → Next
import_dot (Id n) = Some (ImportDotted ∷ [])
import_dot Star = Some []
import_dot _ = None

-- types, through the end of the file
abbrev pub types : TokenKind → Next
types k = more (type_marked k) (Types ∷ [])

-- imports, and then types
abbrev pub lines : TokenKind → Next
lines Import = Some (Name ∷ ImportDotted ∷ End ∷ Lines ∷ [])
lines k = types k

-- the package line, and what comes after it
abbrev pub start : TokenKind → Next
start Package = Some (Name ∷ Dotted ∷ End ∷ Lines ∷ [])
start k = lines k

-- a name alone
abbrev pub a_name : TokenKind → Next
a_name (Id n) = Some []
a_name _ = None

-- `(` alone
abbrev pub open_paren : TokenKind → Next
open_paren LeftParen = Some []
open_paren _ = None

-- `)` alone
abbrev pub close_paren : TokenKind → Next
close_paren RightParen = Some []
close_paren _ = None

-- `[` alone
abbrev pub open_bracket : TokenKind → Next
open_bracket LeftBracket = Some []
open_bracket _ = None

-- `]` alone
abbrev pub close_bracket : TokenKind → Next
close_bracket RightBracket = Some []
close_bracket _ = None

-- `{` alone
abbrev pub open_brace : TokenKind → Next
open_brace LeftBrace = Some []
open_brace _ = None

-- `;` alone
abbrev pub an_end : TokenKind → Next
an_end Semicolon = Some []
an_end _ = None

-- `:` alone
abbrev pub a_colon : TokenKind → Next
a_colon Colon = Some []
a_colon _ = None

-- `.` alone
abbrev pub a_point : TokenKind → Next
a_point Dot = Some []
a_point _ = None

-- `while` alone
abbrev pub again : TokenKind → Next
again While = Some []
again _ = None

-- the table: what stands in place of a frame after a token
abbrev pub step : Frame → TokenKind → Next
step Start k = start k
step Lines k = lines k
step Types k = types k
step TypeMarked k = type_marked k
step ClassWord k = class_word k
step InterfaceWord k = interface_word k
step (ClassNamed n) k = class_named n k
step (Extended n) k = extended n k
step (InterfaceNamed n) k = interface_named n k
step (Listed o) k = listed o k
step Dotted k = dots k
step ImportDotted k = import_dotted k
step ImportDot k = import_dot k
step (Members o) k = members o k
step (Marked o) k = marked o k
step (MemberNamed c i) k = member_named c i k
step (MemberDeclared i) k = member_declared i k
step (MethodEnd i) k = method_end i k
step (Parameters r) k = parameters r k
step (Parameter r) k = parameter r k
step (ParameterTyped r) k = parameter_typed r k
step MoreParameters k = more_parameters k
step TypeEnd k = type_end k
step ArrayMarked k = array_marked k
step Declared k = declared k
step MoreDeclared k = more_declared k
step (Body c) k = body c k
step (Statement c) k = statement c k
step (Else c) k = other c k
step Returned k = returned k
step (ThisFirst leading) k = this_first leading k
step (SuperFirst leading) k = super_first leading k
step (LocalMarked f) k = local_marked f k
step (NameFirst f) k = name_first f k
step (BracketFirst f) k = bracket_first f k
step ForInit k = for_init k
step ForDeclared k = for_declared k
step ForCondition k = for_condition k
step ForUpdate k = for_update k
step MoreEffects k = more_effects k
step (Operand m) k = operand m k
step (Operator m s) k = operator m s k
step (Inner m) k = inner m k
step (InnerNamed m) k = inner_named m k
step (Created m) k = created m k
step (ArrayCreated m) k = array_created m k
step (ClassCreated m) k = class_created m k
step (Size m) k = size m k
step (Items braces) k = items braces k
step (MoreItems braces) k = more_items braces k
step Name k = a_name k
step OpenParen k = open_paren k
step CloseParen k = close_paren k
step OpenBracket k = open_bracket k
step CloseBracket k = close_bracket k
step OpenBrace k = open_brace k
step End k = an_end k
step Other k = a_colon k
step Point k = a_point k
step Again k = again k

-- what comes after the type of a parameter, a field or a local that has no brackets
abbrev pub is_typed : TokenKind → Bool
is_typed (Id n) = true
is_typed This = true
is_typed _ = false

-- what a declaration, a package line or an import ends with
abbrev pub is_end : TokenKind → Bool
is_end Semicolon = true
is_end _ = false

-- what the head of a `for` ends with
abbrev pub is_close : TokenKind → Bool
is_close RightParen = true
is_close _ = false

-- what the expressions of a `for` end with
abbrev pub is_effects_end : TokenKind → Bool
is_effects_end Semicolon = true
is_effects_end RightParen = true
is_effects_end _ = false

-- every other token than `else`
abbrev pub is_no_else : TokenKind → Bool
is_no_else ElseWord = false
is_no_else _ = true

-- the frame may be left out in front of this token, which the next frame then takes
abbrev pub passes : Frame → TokenKind → Bool
passes (Operator m s) k = closes k && ends m s
passes TypeEnd k = is_typed k
passes Declared k = is_end k
passes MoreDeclared k = is_end k
passes MoreEffects k = is_effects_end k
passes ForUpdate k = is_close k
passes Dotted k = is_end k
passes ImportDotted k = is_end k
passes (Else c) k = is_no_else k
passes _ k = false

-- the stack after a token, or none where no file of the subset goes on with it
abbrev pub follow : TokenKind → List Frame → Next
follow k [] = None
follow k (frame ∷ behind) = elim (passes frame k) [ true ↦ follow k behind | false ↦ more (step frame k) behind ]

-- what comes of the stack, where the tokens so far are taken
abbrev pub bind : Next → (List Frame → Next) → Next
bind None go = None
bind (Some stack) go = go stack

-- after all of them
abbrev pub run : List TokenKind → List Frame → Next
run [] stack = Some stack
run (k ∷ ks) stack = bind (follow k stack) (run ks)

-- a file may end here
abbrev pub may_end : List Frame → Bool
may_end (Start ∷ []) = true
may_end (Lines ∷ []) = true
may_end (Types ∷ []) = true
may_end _ = false
