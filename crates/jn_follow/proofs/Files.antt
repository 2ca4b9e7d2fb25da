-- Members, types and files are taken whole.
use Rattle.std.proofs.Common.{◌≡◌, ℕ, List, [], ◌∷◌, ◌++◌, refl, sym, ap, ◌∙◌, subst, arith, append_assoc, append-nil, Option, Some, None, Bool, true, false, not, ◌&&◌, nat_eq}
use Rattle.jn_base.specs.declared.number.NameNo.{NameNo}
use Rattle.jn_trees.specs.declared.token.TokenKind.{TokenKind}
use Rattle.jn_trees.specs.declared.token.TokenKind.TheVariants.{Id, Str, Number, Abstract, Boolean, Break, Class, Continue, Do, Else as ElseWord, Extends, Final, For, If, Implements, Import, Instanceof, Int, Interface, New, Package, Private, Protected, Public, Return, Static, Super, This, Void, While, True, False, Null, LeftParen, RightParen, LeftBrace, RightBrace, LeftBracket, RightBracket, Semicolon, Comma, Dot, At, Assign, Greater, Less, Not, Question, Colon, EqualEqual, LessEqual, GreaterEqual, NotEqual, AndAnd, OrOr, PlusPlus, MinusMinus, Plus, Minus, Star, Slash, Percent, PlusAssign, MinusAssign, StarAssign, SlashAssign, PercentAssign}
use Rattle.jn_follow.specs.declared.frame.Frame.{Frame}
use Rattle.jn_follow.specs.declared.frame.Frame.TheVariants.{Start, Lines, Types, TypeMarked, ClassWord, InterfaceWord, ClassNamed, Extended, InterfaceNamed, Listed, Dotted, ImportDotted, ImportDot, Members, Marked, MemberNamed, MemberDeclared, MethodEnd, Parameters, Parameter, ParameterTyped, MoreParameters, TypeEnd, ArrayMarked, Declared, MoreDeclared, Body, Statement as AStatement, Else, Returned, ThisFirst, SuperFirst, LocalMarked, NameFirst, BracketFirst, ForInit, ForDeclared, ForCondition, ForUpdate, MoreEffects, Operand, Operator, Inner, InnerNamed, Created, ArrayCreated, ClassCreated, Size, Items, MoreItems, Name, OpenParen, CloseParen, OpenBracket, CloseBracket, OpenBrace, End, Other, Point, Again}
use Rattle.jn_follow.specs.declared.frame.Mode.{Mode}
use Rattle.jn_follow.specs.declared.frame.Mode.TheVariants.{Effect, Whole, Part}
use Rattle.jn_follow.specs.declared.frame.Stage.{Stage}
use Rattle.jn_follow.specs.declared.frame.Stage.TheVariants.{Named, Element, Primary, Casting, Called, Array, Done}
use Rattle.jn_trees.specs.declared.context.Owner.{Owner}
use Rattle.jn_trees.specs.Trees.{BaseTree, ClassBase, IntBase, BooleanBase, Tree, LocalMark, AnnotationMark, FinalMark, TypeUseTree, DeclaratorTree, Statements, Mark, NoteMark, PublicMark, ProtectedMark, PrivateMark, StaticMark, ConstantMark, AbstractMark, ParameterTree, ReceiverTree, MemberTree, FieldMember, MethodMember, ConstructorMember, TypeDeclaration, ClassType, InterfaceType, DottedName, ImportTree, SourceTree}
use Rattle.jn_trees.specs.Spelling.{base_token, spell_annotations, spell, spell_marks, spell_brackets, spell_type_use, spell_value, spell_declarator, spell_more_declarators, spell_body, spell_mark, spell_all_marks, spell_parameter, spell_more_parameters, spell_parameters, spell_result, spell_method_head, spell_constructor_head, spell_method_body, spell_field, spell_member, spell_members, spell_more_names, spell_names, spell_parent, spell_class_head, spell_interface_head, spell_type, spell_types, spell_dots, spell_dotted, spell_star, spell_package, spell_package_line, spell_import, spell_imports, spell_file}
use Rattle.jn_trees.specs.WellFormed.{GoodOptional, GoodDeclarators, body_context, GoodBody, GoodMarks, every, marks_type, marks_interface, GoodField, GoodMethodBody, GoodMember, GoodMembers, GoodType, GoodTypes, GoodFile}
use Rattle.jn_follow.specs.Follow.{Next, more, only, bind, run, may_end, constructs, class_owner, interface_owner}
use Rattle.std.proofs.lemmas.Bool.{eq-eqb}
use Rattle.jn_follow.proofs.Steps.{both, Same, by_left, passed, run_append}
use Rattle.jn_follow.proofs.Bodies.{array_taken, brackets_taken, value_taken, more_declared_taken, local_value, body_taken}

not_true : {A : Type 0} → false ≡ true → A
not_true h = cc

-- fields
field_value : (i : Bool) (v : Option Tree) (ds : List DeclaratorTree) (ks : List TokenKind) (st : List Frame) → GoodOptional v → GoodDeclarators ds → run (spell_value v ++ (spell_more_declarators ds ++ Semicolon ∷ ks)) (MemberDeclared i ∷ st) ≡ run ks st
field_value i None [] ks st g h = refl
field_value i None (d ∷ ds) ks st g h = local_value None (d ∷ ds) ks st tt h
field_value i (Some e) ds ks st g h = local_value (Some e) ds ks st g h

member_typed : (o : Owner) (b : BaseTree) (a : Option (List NameNo)) (n : NameNo) (ks : List TokenKind) (st : List Frame) → run (base_token b ∷ (spell_brackets a ++ Id n ∷ ks)) (Marked o ∷ st) ≡ run ks (MemberDeclared o.interface ∷ st)
member_typed o IntBase a n ks st = brackets_taken a n ks (MemberDeclared o.interface ∷ st)
member_typed o BooleanBase a n ks st = brackets_taken a n ks (MemberDeclared o.interface ∷ st)
member_typed o (ClassBase c) None n ks st = refl
member_typed o (ClassBase c) (Some []) n ks st = refl
member_typed o (ClassBase c) (Some (x ∷ names)) n ks st = array_taken names (Id n ∷ ks) (Name ∷ MemberDeclared o.interface ∷ st)

marks_taken : (o : Owner) (ms : List Mark) (ks : List TokenKind) (st : List Frame) → run (spell_all_marks ms ++ ks) (Marked o ∷ st) ≡ run ks (Marked o ∷ st)
marks_taken o [] ks st = refl
marks_taken o (NoteMark n ∷ ms) ks st = marks_taken o ms ks st
marks_taken o (PublicMark ∷ ms) ks st = marks_taken o ms ks st
marks_taken o (ProtectedMark ∷ ms) ks st = marks_taken o ms ks st
marks_taken o (PrivateMark ∷ ms) ks st = marks_taken o ms ks st
marks_taken o (StaticMark ∷ ms) ks st = marks_taken o ms ks st
marks_taken o (ConstantMark ∷ ms) ks st = marks_taken o ms ks st
marks_taken o (AbstractMark ∷ ms) ks st = marks_taken o ms ks st

-- what stands after the marks of a member
pub data Typed : TokenKind → Type 0 where
  typed_name : (n : NameNo) → Typed (Id n)
  typed_int : Typed Int
  typed_boolean : Typed Boolean
  typed_void : Typed Void

member_front : (o : Owner) (ms : List Mark) (k : TokenKind) (ks : List TokenKind) (st : List Frame) → Typed k → Same (Members o ∷ st) (Marked o ∷ Members o ∷ st) (spell_all_marks ms ++ k ∷ ks)
member_front o [] k ks st (typed_name n) = refl
member_front o [] k ks st _ = refl
member_front o (NoteMark n ∷ ms) k ks st t = refl
member_front o (PublicMark ∷ ms) k ks st t = refl
member_front o (ProtectedMark ∷ ms) k ks st t = refl
member_front o (PrivateMark ∷ ms) k ks st t = refl
member_front o (StaticMark ∷ ms) k ks st t = refl
member_front o (ConstantMark ∷ ms) k ks st t = refl
member_front o (AbstractMark ∷ ms) k ks st t = refl

base_typed : (b : BaseTree) → Typed (base_token b)
base_typed (ClassBase n) = typed_name n
base_typed IntBase = typed_int
base_typed BooleanBase = typed_boolean

-- parameters
parameter_class : (r : Bool) (a : Option (List NameNo)) (n : NameNo) (ks : List TokenKind) (st : List Frame) → run (spell_brackets a ++ Id n ∷ ks) (TypeEnd ∷ ParameterTyped r ∷ st) ≡ run ks st
parameter_class r None n ks st = refl
parameter_class r (Some []) n ks st = refl
parameter_class r (Some (x ∷ names)) n ks st = array_taken names (Id n ∷ ks) (ParameterTyped r ∷ st)

parameter_typed : (r : Bool) (b : BaseTree) (a : Option (List NameNo)) (n : NameNo) (ks : List TokenKind) (st : List Frame) → run ((base_token b ∷ (spell_brackets a ++ Id n ∷ [])) ++ ks) (Parameter r ∷ st) ≡ run ks st
parameter_typed r (ClassBase c) a n ks st = by_left (spell_brackets a) (Id n ∷ []) ks (TypeEnd ∷ ParameterTyped r ∷ st) ∙ parameter_class r a n ks st
parameter_typed r IntBase a n ks st = by_left (spell_brackets a) (Id n ∷ []) ks (TypeEnd ∷ Name ∷ st) ∙ brackets_taken a n ks st
parameter_typed r BooleanBase a n ks st = by_left (spell_brackets a) (Id n ∷ []) ks (TypeEnd ∷ Name ∷ st) ∙ brackets_taken a n ks st

parameter_taken : (r : Bool) (ms : List LocalMark) (b : BaseTree) (a : Option (List NameNo)) (n : NameNo) (ks : List TokenKind) (st : List Frame) → run ((spell_marks ms ++ (base_token b ∷ (spell_brackets a ++ Id n ∷ []))) ++ ks) (Parameter r ∷ st) ≡ run ks st
parameter_taken r [] b a n ks st = parameter_typed r b a n ks st
parameter_taken r (AnnotationMark m ∷ ms) b a n ks st = parameter_taken r ms b a n ks st
parameter_taken r (FinalMark ∷ ms) b a n ks st = parameter_taken false ms b a n ks st

more_parameters_taken : (ps : List ParameterTree) (ks : List TokenKind) (st : List Frame) → run (spell_more_parameters ps ++ ks) (MoreParameters ∷ st) ≡ run ks st
more_parameters_taken [] ks st = refl
more_parameters_taken (p ∷ ps) ks st =
    by_left (spell_parameter p) (spell_more_parameters ps) ks (Parameter false ∷ MoreParameters ∷ st)
    ∙ parameter_taken false p.marks p.type_use.base p.type_use.array p.name (spell_more_parameters ps ++ ks) (MoreParameters ∷ st)
    ∙ more_parameters_taken ps ks st

parameter_front : (r : Bool) (ms : List LocalMark) (b : BaseTree) (xs ks : List TokenKind) (st : List Frame) → Same (Parameters r ∷ st) (Parameter r ∷ MoreParameters ∷ st) ((spell_marks ms ++ (base_token b ∷ xs)) ++ ks)
parameter_front r [] (ClassBase c) xs ks st = refl
parameter_front r [] IntBase xs ks st = refl
parameter_front r [] BooleanBase xs ks st = refl
parameter_front r (AnnotationMark m ∷ ms) b xs ks st = refl
parameter_front r (FinalMark ∷ ms) b xs ks st = refl

receiver_taken : (names : List NameNo) (c : NameNo) (ks : List TokenKind) (st : List Frame) → run ((spell_annotations names ++ Id c ∷ This ∷ []) ++ ks) (Parameter true ∷ st) ≡ run ks st
receiver_taken [] c ks st = refl
receiver_taken (n ∷ names) c ks st = receiver_taken names c ks st

receiver_front : (names : List NameNo) (c : NameNo) (ks : List TokenKind) (st : List Frame) → Same (Parameters true ∷ st) (Parameter true ∷ MoreParameters ∷ st) ((spell_annotations names ++ Id c ∷ This ∷ []) ++ ks)
receiver_front [] c ks st = refl
receiver_front (n ∷ names) c ks st = refl

receiver_group : (xs ys zs : List TokenKind) (c : NameNo) → (xs ++ Id c ∷ This ∷ ys) ++ zs ≡ (xs ++ Id c ∷ This ∷ []) ++ (ys ++ zs)
receiver_group xs ys zs c = simp append_assoc

parameters_taken : (r : Bool) (ps : List ParameterTree) (ks : List TokenKind) (st : List Frame) → run (spell_parameters None ps ++ ks) (Parameters r ∷ st) ≡ run ks st
parameters_taken r [] ks st = refl
parameters_taken r (p ∷ ps) ks st =
    by_left (spell_parameter p) (spell_more_parameters ps) ks (Parameters r ∷ st)
    ∙ parameter_front r p.marks p.type_use.base (spell_brackets p.type_use.array ++ Id p.name ∷ []) (spell_more_parameters ps ++ ks) st
    ∙ parameter_taken r p.marks p.type_use.base p.type_use.array p.name (spell_more_parameters ps ++ ks) (MoreParameters ∷ st)
    ∙ more_parameters_taken ps ks st

all_parameters_taken : (w : Option ReceiverTree) (ps : List ParameterTree) (ks : List TokenKind) (st : List Frame) → run (spell_parameters w ps ++ ks) (Parameters true ∷ st) ≡ run ks st
all_parameters_taken None ps ks st = parameters_taken true ps ks st
all_parameters_taken (Some w) ps ks st =
    ap (λ x. run x (Parameters true ∷ st)) (receiver_group (spell_annotations w.annotations) (spell_more_parameters ps) ks w.class)
    ∙ receiver_front w.annotations w.class (spell_more_parameters ps ++ ks) st
    ∙ receiver_taken w.annotations w.class (spell_more_parameters ps ++ ks) (MoreParameters ∷ st)
    ∙ more_parameters_taken ps ks st

-- members
method_body_taken : (i : Bool) (body : Option Statements) (ks : List TokenKind) (st : List Frame) → GoodMethodBody i body → run (spell_method_body body ++ ks) (MethodEnd i ∷ st) ≡ run ks st
method_body_taken i None ks st g = refl
method_body_taken true (Some ss) ks st g = not_true (sym g.0)
method_body_taken false (Some ss) ks st g = body_taken false ss ks st g.1

result_taken : (o : Owner) (u : Option TypeUseTree) (n : NameNo) (ks : List TokenKind) (st : List Frame) → run (spell_result u ++ Id n ∷ LeftParen ∷ ks) (Marked o ∷ st) ≡ run ks (Parameters true ∷ MethodEnd o.interface ∷ st)
result_taken o None n ks st = refl
result_taken o (Some u) n ks st = member_typed o u.base u.array n (LeftParen ∷ ks) st

result_front : (o : Owner) (ms : List Mark) (u : Option TypeUseTree) (ks : List TokenKind) (st : List Frame) → Same (Members o ∷ st) (Marked o ∷ Members o ∷ st) (spell_all_marks ms ++ (spell_result u ++ ks))
result_front o ms None ks st = member_front o ms Void ks st typed_void
result_front o ms (Some u) ks st = member_front o ms (base_token u.base) (spell_brackets u.array ++ ks) st (base_typed u.base)

field_group : (ms ts vs ds ks : List TokenKind) (n : NameNo) → (ms ++ (ts ++ ((Id n ∷ vs) ++ (ds ++ Semicolon ∷ [])))) ++ ks ≡ ms ++ (ts ++ Id n ∷ (vs ++ (ds ++ Semicolon ∷ ks)))
field_group ms ts vs ds ks n = simp append_assoc

method_group : (ms ts ps body ks : List TokenKind) (n : NameNo) → ((ms ++ (ts ++ Id n ∷ LeftParen ∷ ps)) ++ body) ++ ks ≡ ms ++ (ts ++ Id n ∷ LeftParen ∷ (ps ++ (body ++ ks)))
method_group ms ts ps body ks n = simp append_assoc

constructor_group : (ms ps body ks : List TokenKind) (n : NameNo) → ((ms ++ Id n ∷ LeftParen ∷ ps) ++ LeftBrace ∷ body) ++ ks ≡ ms ++ Id n ∷ LeftParen ∷ (ps ++ LeftBrace ∷ (body ++ ks))
constructor_group ms ps body ks n = simp append_assoc

same_name : (n m : NameNo) → n ≡ m → nat_eq n.0 m.0 ≡ true
same_name n m e = eq-eqb n.0 m.0 (ap (λ (x : NameNo). x.0) e)

constructs_own : (o : Owner) (n : NameNo) → o.interface ≡ false → n ≡ o.name → constructs o n ≡ true
constructs_own o n h e = both (not o.interface) (nat_eq n.0 o.name.0) (ap not h) (same_name n o.name e)

constructor_named : (o : Owner) (n : NameNo) (ks : List TokenKind) (st : List Frame) → o.interface ≡ false → n ≡ o.name → run (Id n ∷ LeftParen ∷ ks) (Marked o ∷ st) ≡ run ks (Parameters false ∷ OpenBrace ∷ Body (body_context true) ∷ st)
constructor_named o n ks st h e = ap (λ b. bind (more (only b (Some (Parameters false ∷ OpenBrace ∷ Body (body_context true) ∷ []))) st) (run ks)) (constructs_own o n h e)

member_taken : (o : Owner) (m : MemberTree) (ks : List TokenKind) (st : List Frame) → GoodMember o m → run (spell_member m ++ ks) (Members o ∷ st) ≡ run ks (Members o ∷ st)
member_taken o (FieldMember ms u d ds) ks st g =
    let rest : List TokenKind = spell_value d.value ++ (spell_more_declarators ds ++ Semicolon ∷ ks) in
    ap (λ x. run x (Members o ∷ st)) (field_group (spell_all_marks ms) (spell_type_use u) (spell_value d.value) (spell_more_declarators ds) ks d.name)
    ∙ member_front o ms (base_token u.base) (spell_brackets u.array ++ Id d.name ∷ rest) st (base_typed u.base)
    ∙ marks_taken o ms (spell_type_use u ++ Id d.name ∷ rest) (Members o ∷ st)
    ∙ member_typed o u.base u.array d.name rest (Members o ∷ st)
    ∙ field_value o.interface d.value ds ks (Members o ∷ st) g.1.0 g.1.1
member_taken o (MethodMember ms u n w ps body) ks st g =
    let rest : List TokenKind = spell_parameters w ps ++ (spell_method_body body ++ ks) in
    ap (λ x. run x (Members o ∷ st)) (method_group (spell_all_marks ms) (spell_result u) (spell_parameters w ps) (spell_method_body body) ks n)
    ∙ result_front o ms u (Id n ∷ LeftParen ∷ rest) st
    ∙ marks_taken o ms (spell_result u ++ Id n ∷ LeftParen ∷ rest) (Members o ∷ st)
    ∙ result_taken o u n rest (Members o ∷ st)
    ∙ all_parameters_taken w ps (spell_method_body body ++ ks) (MethodEnd o.interface ∷ Members o ∷ st)
    ∙ method_body_taken o.interface body ks (Members o ∷ st) g.1
member_taken o (ConstructorMember ms n ps ss) ks st g =
    let rest : List TokenKind = spell_parameters None ps ++ LeftBrace ∷ (spell_body ss ++ ks) in
    ap (λ x. run x (Members o ∷ st)) (constructor_group (spell_all_marks ms) (spell_parameters None ps) (spell_body ss) ks n)
    ∙ member_front o ms (Id n) (LeftParen ∷ rest) st (typed_name n)
    ∙ marks_taken o ms (Id n ∷ LeftParen ∷ rest) (Members o ∷ st)
    ∙ constructor_named o n rest (Members o ∷ st) g.0.1 g.0.2
    ∙ parameters_taken false ps (LeftBrace ∷ (spell_body ss ++ ks)) (OpenBrace ∷ Body (body_context true) ∷ Members o ∷ st)
    ∙ body_taken true ss ks (Members o ∷ st) g.1

members_taken : (o : Owner) (ms : List MemberTree) (ks : List TokenKind) (st : List Frame) → GoodMembers o ms → run (spell_members ms ++ ks) (Members o ∷ st) ≡ run ks st
members_taken o [] ks st g = refl
members_taken o (m ∷ ms) ks st g =
    by_left (spell_member m) (spell_members ms) ks (Members o ∷ st)
    ∙ member_taken o m (spell_members ms ++ ks) st g.0
    ∙ members_taken o ms ks st g.1

-- types
and_first : (a b : Bool) → (a && b) ≡ true → a ≡ true
and_first true b h = refl
and_first false b h = cc

and_second : (a b : Bool) → (a && b) ≡ true → b ≡ true
and_second true b h = h
and_second false b h = cc

type_marks : (may : Mark → Bool) → ((m : Mark) → may m ≡ true → marks_type m ≡ true) → (ms : List Mark) (ks : List TokenKind) (st : List Frame) → every may ms ≡ true → run (spell_all_marks ms ++ ks) (TypeMarked ∷ st) ≡ run ks (TypeMarked ∷ st)
type_marks may h [] ks st g = refl
type_marks may h (NoteMark n ∷ ms) ks st g = type_marks may h ms ks st (and_second (may (NoteMark n)) (every may ms) g)
type_marks may h (PublicMark ∷ ms) ks st g = type_marks may h ms ks st (and_second (may PublicMark) (every may ms) g)
type_marks may h (ProtectedMark ∷ ms) ks st g = not_true (h ProtectedMark (and_first (may ProtectedMark) (every may ms) g))
type_marks may h (PrivateMark ∷ ms) ks st g = not_true (h PrivateMark (and_first (may PrivateMark) (every may ms) g))
type_marks may h (StaticMark ∷ ms) ks st g = not_true (h StaticMark (and_first (may StaticMark) (every may ms) g))
type_marks may h (ConstantMark ∷ ms) ks st g = type_marks may h ms ks st (and_second (may ConstantMark) (every may ms) g)
type_marks may h (AbstractMark ∷ ms) ks st g = type_marks may h ms ks st (and_second (may AbstractMark) (every may ms) g)

interface_marks : (m : Mark) → marks_interface m ≡ true → marks_type m ≡ true
interface_marks ConstantMark h = refl
interface_marks (NoteMark n) h = refl
interface_marks PublicMark h = refl
interface_marks ProtectedMark h = h
interface_marks PrivateMark h = h
interface_marks StaticMark h = h
interface_marks AbstractMark h = refl

class_front : (ms : List Mark) (ks : List TokenKind) (st : List Frame) → Same (Types ∷ st) (TypeMarked ∷ Types ∷ st) (spell_all_marks ms ++ Class ∷ ks)
class_front [] ks st = refl
class_front (NoteMark n ∷ ms) ks st = refl
class_front (PublicMark ∷ ms) ks st = refl
class_front (ProtectedMark ∷ ms) ks st = refl
class_front (PrivateMark ∷ ms) ks st = refl
class_front (StaticMark ∷ ms) ks st = refl
class_front (ConstantMark ∷ ms) ks st = refl
class_front (AbstractMark ∷ ms) ks st = refl

interface_front : (ms : List Mark) (ks : List TokenKind) (st : List Frame) → Same (Types ∷ st) (TypeMarked ∷ Types ∷ st) (spell_all_marks ms ++ Interface ∷ ks)
interface_front [] ks st = refl
interface_front (NoteMark n ∷ ms) ks st = refl
interface_front (PublicMark ∷ ms) ks st = refl
interface_front (ProtectedMark ∷ ms) ks st = refl
interface_front (PrivateMark ∷ ms) ks st = refl
interface_front (StaticMark ∷ ms) ks st = refl
interface_front (ConstantMark ∷ ms) ks st = refl
interface_front (AbstractMark ∷ ms) ks st = refl

listed_taken : (o : Owner) (ns : List NameNo) (ks : List TokenKind) (st : List Frame) → run (spell_more_names ns ++ LeftBrace ∷ ks) (Listed o ∷ st) ≡ run ks (Members o ∷ st)
listed_taken o [] ks st = refl
listed_taken o (n ∷ ns) ks st = listed_taken o ns ks st

implements_taken : (c : NameNo) (ns : List NameNo) (ks : List TokenKind) (st : List Frame) → run (spell_names Implements ns ++ LeftBrace ∷ ks) (Extended c ∷ st) ≡ run ks (Members (class_owner c) ∷ st)
implements_taken c [] ks st = refl
implements_taken c (n ∷ ns) ks st = listed_taken (class_owner c) ns ks st

parent_taken : (c : NameNo) (parent : Option NameNo) (ns : List NameNo) (ks : List TokenKind) (st : List Frame) → run (spell_parent parent ++ (spell_names Implements ns ++ LeftBrace ∷ ks)) (ClassNamed c ∷ st) ≡ run ks (Members (class_owner c) ∷ st)
parent_taken c None [] ks st = refl
parent_taken c None (n ∷ ns) ks st = listed_taken (class_owner c) ns ks st
parent_taken c (Some n) ns ks st = implements_taken c ns ks st

parents_taken : (c : NameNo) (ns : List NameNo) (ks : List TokenKind) (st : List Frame) → run (spell_names Extends ns ++ LeftBrace ∷ ks) (InterfaceNamed c ∷ st) ≡ run ks (Members (interface_owner c) ∷ st)
parents_taken c [] ks st = refl
parents_taken c (n ∷ ns) ks st = listed_taken (interface_owner c) ns ks st

class_group : (ms ps is body ks : List TokenKind) (n : NameNo) → ((ms ++ Class ∷ Id n ∷ (ps ++ (is ++ LeftBrace ∷ []))) ++ body) ++ ks ≡ ms ++ Class ∷ Id n ∷ (ps ++ (is ++ LeftBrace ∷ (body ++ ks)))
class_group ms ps is body ks n = simp append_assoc

interface_group : (ms ps body ks : List TokenKind) (n : NameNo) → ((ms ++ Interface ∷ Id n ∷ (ps ++ LeftBrace ∷ [])) ++ body) ++ ks ≡ ms ++ Interface ∷ Id n ∷ (ps ++ LeftBrace ∷ (body ++ ks))
interface_group ms ps body ks n = simp append_assoc

type_taken : (t : TypeDeclaration) (ks : List TokenKind) → GoodType t → run (spell_type t ++ ks) (Types ∷ []) ≡ run ks (Types ∷ [])
type_taken (ClassType ms n parent interfaces members) ks g =
    let rest : List TokenKind = Id n ∷ (spell_parent parent ++ (spell_names Implements interfaces ++ LeftBrace ∷ (spell_members members ++ ks))) in
    ap (λ x. run x (Types ∷ [])) (class_group (spell_all_marks ms) (spell_parent parent) (spell_names Implements interfaces) (spell_members members) ks n)
    ∙ class_front ms rest []
    ∙ type_marks marks_type (λ m h. h) ms (Class ∷ rest) (Types ∷ []) g.0.0
    ∙ parent_taken n parent interfaces (spell_members members ++ ks) (Types ∷ [])
    ∙ members_taken (class_owner n) members ks (Types ∷ []) g.1
type_taken (InterfaceType ms n parents members) ks g =
    let rest : List TokenKind = Id n ∷ (spell_names Extends parents ++ LeftBrace ∷ (spell_members members ++ ks)) in
    ap (λ x. run x (Types ∷ [])) (interface_group (spell_all_marks ms) (spell_names Extends parents) (spell_members members) ks n)
    ∙ interface_front ms rest []
    ∙ type_marks marks_interface interface_marks ms (Interface ∷ rest) (Types ∷ []) g.0.0
    ∙ parents_taken n parents (spell_members members ++ ks) (Types ∷ [])
    ∙ members_taken (interface_owner n) members ks (Types ∷ []) g.1

types_taken : (ts : List TypeDeclaration) → GoodTypes ts → run (spell_types ts) (Types ∷ []) ≡ Some (Types ∷ [])
types_taken [] g = refl
types_taken (t ∷ ts) g = type_taken t (spell_types ts) g.0 ∙ types_taken ts g.1

-- files
dots_taken : (ns : List NameNo) (ks : List TokenKind) (st : List Frame) → run (spell_dots ns ++ Semicolon ∷ ks) (Dotted ∷ st) ≡ run (Semicolon ∷ ks) st
dots_taken [] ks st = refl
dots_taken (n ∷ ns) ks st = dots_taken ns ks st

import_dots_taken : (ns : List NameNo) (all : Bool) (ks : List TokenKind) (st : List Frame) → run (spell_dots ns ++ (spell_star all ++ Semicolon ∷ ks)) (ImportDotted ∷ st) ≡ run (Semicolon ∷ ks) st
import_dots_taken [] true ks st = refl
import_dots_taken [] false ks st = refl
import_dots_taken (n ∷ ns) all ks st = import_dots_taken ns all ks st

import_group : (ds ss ks : List TokenKind) (n : NameNo) → ((Id n ∷ ds) ++ (ss ++ Semicolon ∷ [])) ++ ks ≡ Id n ∷ (ds ++ (ss ++ Semicolon ∷ ks))
import_group ds ss ks n = simp append_assoc

-- the tokens are taken, and a file may end after them
abbrev pub Through : List TokenKind → List Frame → Type 0
Through ts st = (end : List Frame) × (run ts st ≡ Some end) × (may_end end ≡ true)

-- where lines may stand, and where a file starts, a type begins as where types stand
types_front : (t : TypeDeclaration) (ks : List TokenKind) → Same (Lines ∷ []) (Types ∷ []) (spell_type t ++ ks) × Same (Start ∷ []) (Types ∷ []) (spell_type t ++ ks)
types_front (ClassType [] n parent interfaces members) ks = (refl, refl)
types_front (ClassType (NoteMark m ∷ ms) n parent interfaces members) ks = (refl, refl)
types_front (ClassType (PublicMark ∷ ms) n parent interfaces members) ks = (refl, refl)
types_front (ClassType (ProtectedMark ∷ ms) n parent interfaces members) ks = (refl, refl)
types_front (ClassType (PrivateMark ∷ ms) n parent interfaces members) ks = (refl, refl)
types_front (ClassType (StaticMark ∷ ms) n parent interfaces members) ks = (refl, refl)
types_front (ClassType (ConstantMark ∷ ms) n parent interfaces members) ks = (refl, refl)
types_front (ClassType (AbstractMark ∷ ms) n parent interfaces members) ks = (refl, refl)
types_front (InterfaceType [] n parents members) ks = (refl, refl)
types_front (InterfaceType (NoteMark m ∷ ms) n parents members) ks = (refl, refl)
types_front (InterfaceType (PublicMark ∷ ms) n parents members) ks = (refl, refl)
types_front (InterfaceType (ProtectedMark ∷ ms) n parents members) ks = (refl, refl)
types_front (InterfaceType (PrivateMark ∷ ms) n parents members) ks = (refl, refl)
types_front (InterfaceType (StaticMark ∷ ms) n parents members) ks = (refl, refl)
types_front (InterfaceType (ConstantMark ∷ ms) n parents members) ks = (refl, refl)
types_front (InterfaceType (AbstractMark ∷ ms) n parents members) ks = (refl, refl)

lines_types : (ts : List TypeDeclaration) → GoodTypes ts → Through (spell_types ts) (Lines ∷ [])
lines_types [] g = (Lines ∷ [], refl, refl)
lines_types (t ∷ ts) g = (Types ∷ [], (types_front t (spell_types ts)).0 ∙ types_taken (t ∷ ts) g, refl)

start_types : (ts : List TypeDeclaration) → GoodTypes ts → Through (spell_types ts) (Start ∷ [])
start_types [] g = (Start ∷ [], refl, refl)
start_types (t ∷ ts) g = (Types ∷ [], (types_front t (spell_types ts)).1 ∙ types_taken (t ∷ ts) g, refl)

through : (ts us : List TokenKind) (a b : List Frame) → run ts a ≡ run us b → Through us b → Through ts a
through ts us a b e h = (h.0, e ∙ h.1, h.2)

import_taken : (i : ImportTree) (ks : List TokenKind) → run (spell_import i ++ ks) (Lines ∷ []) ≡ run ks (Lines ∷ [])
import_taken i ks =
    ap (λ x. run x (Name ∷ ImportDotted ∷ End ∷ Lines ∷ [])) (import_group (spell_dots i.name.more) (spell_star i.all) ks i.name.first)
    ∙ import_dots_taken i.name.more i.all ks (End ∷ Lines ∷ [])

lines_taken : (is : List ImportTree) (ts : List TypeDeclaration) → GoodTypes ts → Through (spell_imports is ++ spell_types ts) (Lines ∷ [])
lines_taken [] ts g = lines_types ts g
lines_taken (i ∷ is) ts g =
    through ((spell_import i ++ spell_imports is) ++ spell_types ts) (spell_imports is ++ spell_types ts) (Lines ∷ []) (Lines ∷ [])
    (by_left (spell_import i) (spell_imports is) (spell_types ts) (Lines ∷ []) ∙ import_taken i (spell_imports is ++ spell_types ts))
    (lines_taken is ts g)

start_lines : (is : List ImportTree) (ts : List TypeDeclaration) → GoodTypes ts → Through (spell_imports is ++ spell_types ts) (Start ∷ [])
start_lines [] ts g = start_types ts g
start_lines (i ∷ is) ts g = through ((spell_import i ++ spell_imports is) ++ spell_types ts) ((spell_import i ++ spell_imports is) ++ spell_types ts) (Start ∷ []) (Lines ∷ []) refl (lines_taken (i ∷ is) ts g)

package_group : (ds ks : List TokenKind) (n : NameNo) → ((Id n ∷ ds) ++ Semicolon ∷ []) ++ ks ≡ Id n ∷ (ds ++ Semicolon ∷ ks)
package_group ds ks n = simp append_assoc

package_taken : (q : DottedName) (ks : List TokenKind) → run (spell_package q ++ ks) (Start ∷ []) ≡ run ks (Lines ∷ [])
package_taken q ks =
    ap (λ x. run x (Name ∷ Dotted ∷ End ∷ Lines ∷ [])) (package_group (spell_dots q.more) ks q.first)
    ∙ dots_taken q.more ks (End ∷ Lines ∷ [])

file_through : (p : Option DottedName) (is : List ImportTree) (ts : List TypeDeclaration) → GoodTypes ts → Through (spell_package_line p ++ (spell_imports is ++ spell_types ts)) (Start ∷ [])
file_through None is ts g = start_lines is ts g
file_through (Some q) is ts g = through (spell_package q ++ (spell_imports is ++ spell_types ts)) (spell_imports is ++ spell_types ts) (Start ∷ []) (Lines ∷ []) (package_taken q (spell_imports is ++ spell_types ts)) (lines_taken is ts g)

pub file_taken : (f : SourceTree) → GoodFile f → Through (spell_file f) (Start ∷ [])
file_taken f g = file_through f.package_line f.imports f.types g
