-- The piece that the front of tokens has, where this stands around (JLS 7 to 9): each part is read once, and marks, names and dots as far as they go.
use Rattle.std.specs.Prelude.{ℕ, zero, suc, List, [], ◌∷◌, length, Bool, true, false, not, cond, nat_eq, ◌&&◌, Option, Some, None}
use Rattle.jn_base.specs.declared.number.NameNo.{NameNo}
use Rattle.jn_trees.specs.declared.token.TokenKind.{TokenKind}
use Rattle.jn_trees.specs.declared.token.TokenKind.TheVariants.{Id, Abstract, Class, Extends, Final, Implements, Import, Interface, Package, Private, Protected, Public, Static, This, Void, LeftParen, RightParen, LeftBrace, RightBrace, Semicolon, Comma, Dot, At, Star}
use Rattle.jn_trees.specs.declared.context.Owner.{Owner}
use Rattle.jn_trees.specs.Trees.{ClassBase, LocalMark, AnnotationMark, FinalMark, TypeUseTree, DeclaratorTree, Mark, NoteMark, PublicMark, ProtectedMark, PrivateMark, StaticMark, ConstantMark, AbstractMark, ParameterTree, ReceiverTree}
use Rattle.jn_trees.specs.WellFormed.{final_once, every, no_clash, marks_type, marks_interface, marks_field, marks_method, marks_interface_method, marks_constructor, has_static, deepest, body_context}
use Rattle.jn_trees.specs.Longest.{TryStatement}
use Rattle.jn_trees.specs.Pieces.{Piece, PackagePiece, ImportPiece, ClassHead, InterfaceHead, FieldPiece, MethodPiece, MethodHead, ConstructorHead, StatementPiece, BodyEnd, TypeEnd, Around, AtStart, BehindLines, BehindTypes, InType, InBody}
use Rattle.jn_parse_expr_law.specs.Reader.{reader}
use Rattle.jn_parse_stmt_law.specs.Parts.{read_marks, read_type_use, read_declarators}
use Rattle.jn_parse_stmt_law.specs.StatementReader.{statement_reader}

-- a piece and the tokens after it, or none
abbrev pub TryPiece : Type 0
TryPiece = Option (Piece × List TokenKind)

-- the piece, where it is well formed
abbrev pub checked : Bool → Piece → List TokenKind → TryPiece
checked b p ts = cond b (Some (p, ts)) None

-- a mark before others
abbrev pub add_mark : Mark → List Mark × List TokenKind → List Mark × List TokenKind
add_mark m r = (m ∷ r.0, r.1)

-- all marks that come first
abbrev pub read_all_marks : List TokenKind → List Mark × List TokenKind
read_all_marks (At ∷ Id n ∷ ts) = add_mark (NoteMark n) (read_all_marks ts)
read_all_marks (Public ∷ ts) = add_mark PublicMark (read_all_marks ts)
read_all_marks (Protected ∷ ts) = add_mark ProtectedMark (read_all_marks ts)
read_all_marks (Private ∷ ts) = add_mark PrivateMark (read_all_marks ts)
read_all_marks (Static ∷ ts) = add_mark StaticMark (read_all_marks ts)
read_all_marks (Final ∷ ts) = add_mark ConstantMark (read_all_marks ts)
read_all_marks (Abstract ∷ ts) = add_mark AbstractMark (read_all_marks ts)
read_all_marks ts = ([], ts)

-- GoodMarks, as a test
abbrev pub good_marks : (Mark → Bool) → List Mark → Bool
good_marks may ms = every may ms && no_clash ms

-- a name before others
abbrev pub add_name : NameNo → List NameNo × List TokenKind → List NameNo × List TokenKind
add_name n r = (n ∷ r.0, r.1)

-- all `, Id` that come first
abbrev pub read_more_names : List TokenKind → List NameNo × List TokenKind
read_more_names (Comma ∷ Id n ∷ ts) = add_name n (read_more_names ts)
read_more_names ts = ([], ts)

-- all `. Id` that come first
abbrev pub read_dots : List TokenKind → List NameNo × List TokenKind
read_dots (Dot ∷ Id n ∷ ts) = add_name n (read_dots ts)
read_dots ts = ([], ts)

-- `implements` and names
abbrev pub read_implements : List TokenKind → List NameNo × List TokenKind
read_implements (Implements ∷ Id n ∷ ts) = add_name n (read_more_names ts)
read_implements ts = ([], ts)

-- `extends` and names
abbrev pub read_extends : List TokenKind → List NameNo × List TokenKind
read_extends (Extends ∷ Id n ∷ ts) = add_name n (read_more_names ts)
read_extends ts = ([], ts)

-- `extends` and one name
abbrev pub read_parent : List TokenKind → Option NameNo × List TokenKind
read_parent (Extends ∷ Id n ∷ ts) = (Some n, ts)
read_parent ts = (None, ts)

-- a package line, where the semicolon follows
abbrev pub package_end : NameNo → List NameNo → List TokenKind → TryPiece
package_end n more (Semicolon ∷ ts) = Some (PackagePiece (record { first = n; more = more }), ts)
package_end n more _ = None

-- after `package`
abbrev pub read_package : List TokenKind → TryPiece
read_package (Id n ∷ ts) = package_end n (read_dots ts).0 (read_dots ts).1
read_package _ = None

-- an import, where the semicolon follows, or `.*` and the semicolon
abbrev pub import_end : NameNo → List NameNo → List TokenKind → TryPiece
import_end n more (Semicolon ∷ ts) = Some (ImportPiece (record { name = record { first = n; more = more }; all = false }), ts)
import_end n more (Dot ∷ Star ∷ Semicolon ∷ ts) = Some (ImportPiece (record { name = record { first = n; more = more }; all = true }), ts)
import_end n more _ = None

-- after `import`
abbrev pub read_import : List TokenKind → TryPiece
read_import (Id n ∷ ts) = import_end n (read_dots ts).0 (read_dots ts).1
read_import _ = None

-- a head of a class, where the brace follows and the marks may stand there
abbrev pub class_end : List Mark → NameNo → Option NameNo → List NameNo → List TokenKind → TryPiece
class_end ms n parent interfaces (LeftBrace ∷ ts) = checked (good_marks marks_type ms) (ClassHead ms n parent interfaces) ts
class_end ms n parent interfaces _ = None

-- after `class Id extends Id`
abbrev pub class_interfaces : List Mark → NameNo → Option NameNo → List TokenKind → TryPiece
class_interfaces ms n parent ts = class_end ms n parent (read_implements ts).0 (read_implements ts).1

-- after `class`
abbrev pub read_class : List Mark → List TokenKind → TryPiece
read_class ms (Id n ∷ ts) = class_interfaces ms n (read_parent ts).0 (read_parent ts).1
read_class ms _ = None

-- a head of an interface, where the brace follows and the marks may stand there
abbrev pub interface_end : List Mark → NameNo → List NameNo → List TokenKind → TryPiece
interface_end ms n parents (LeftBrace ∷ ts) = checked (good_marks marks_interface ms) (InterfaceHead ms n parents) ts
interface_end ms n parents _ = None

-- after `interface`
abbrev pub read_interface : List Mark → List TokenKind → TryPiece
read_interface ms (Id n ∷ ts) = interface_end ms n (read_extends ts).0 (read_extends ts).1
read_interface ms _ = None

-- after the marks
abbrev pub type_behind : List Mark → List TokenKind → TryPiece
type_behind ms (Class ∷ ts) = read_class ms ts
type_behind ms (Interface ∷ ts) = read_interface ms ts
type_behind ms _ = None

-- a head of a class or interface, with its marks (JLS 8.1, 9.1)
abbrev pub read_type_head : List TokenKind → TryPiece
read_type_head ts = type_behind (read_all_marks ts).0 (read_all_marks ts).1

-- what may stand after the package line
abbrev pub read_line : List TokenKind → TryPiece
read_line (Import ∷ ts) = read_import ts
read_line ts = read_type_head ts

-- what may stand first in a file
abbrev pub read_first : List TokenKind → TryPiece
read_first (Package ∷ ts) = read_package ts
read_first ts = read_line ts

-- parameters and the tokens after them, or none
abbrev pub TryParameters : Type 0
TryParameters = Option (List ParameterTree × List TokenKind)

-- a receiver or none, and the parameters after it
abbrev pub TryAllParameters : Type 0
TryAllParameters = Option (Option ReceiverTree × List ParameterTree × List TokenKind)

-- what follows a type use, if one was read
abbrev pub after_type : {A : Type 0} → (TypeUseTree → List TokenKind → Option A) → Option (TypeUseTree × List TokenKind) → Option A
after_type f None = None
after_type f (Some r) = f r.0 r.1

-- a parameter before others
abbrev pub add_parameter : ParameterTree → TryParameters → TryParameters
add_parameter p None = None
add_parameter p (Some r) = Some (p ∷ r.0, r.1)

-- the name of a parameter, and those after it
abbrev pub parameter_end : (List TokenKind → TryParameters) → List LocalMark → TypeUseTree → List TokenKind → TryParameters
parameter_end more ms u (Id n ∷ ts) = add_parameter (record { marks = ms; type_use = u; name = n }) (more ts)
parameter_end more ms u _ = None

-- a parameter and those after it
abbrev pub parameter_from : (List TokenKind → TryParameters) → List TokenKind → TryParameters
parameter_from more ts = after_type (parameter_end more (read_marks ts).0) (read_type_use (read_marks ts).1)

-- at most n parameters after others, and the closing parenthesis
abbrev pub more_parameters_from : ℕ → List TokenKind → TryParameters
more_parameters_from zero ts = None
more_parameters_from (suc n) (RightParen ∷ ts) = Some ([], ts)
more_parameters_from (suc n) (Comma ∷ ts) = parameter_from (more_parameters_from n) ts
more_parameters_from (suc n) _ = None

-- the parameters after the first or the receiver, and the closing parenthesis
unfoldable pub read_more_parameters : List TokenKind → TryParameters
read_more_parameters ts = more_parameters_from (suc (length ts)) ts

-- the names of annotations alone
abbrev pub annotation_names_of : List LocalMark → Option (List NameNo)
annotation_names_of [] = Some []
annotation_names_of (AnnotationMark n ∷ ms) = elim (annotation_names_of ms) as (λ _. Option (List NameNo)) [ None ↦ None | Some ns ↦ Some (n ∷ ns) ]
annotation_names_of (FinalMark ∷ ms) = None

-- a class without brackets
abbrev pub class_of : TypeUseTree → Option NameNo
class_of u = elim u.base as (λ _. Option NameNo) [ ClassBase n ↦ elim u.array as (λ _. Option NameNo) [ None ↦ Some n | Some ns ↦ None ] | _ ↦ None ]

-- a receiver of these annotations and this class
abbrev pub receiver_of : Option (List NameNo) → Option NameNo → Option ReceiverTree
receiver_of (Some ns) (Some c) = Some (record { annotations = ns; class = c })
receiver_of _ _ = None

-- parameters without a receiver
abbrev pub without_receiver : TryParameters → TryAllParameters
without_receiver None = None
without_receiver (Some r) = Some (None, r.0, r.1)

-- a receiver, and the parameters after it
abbrev pub with_receiver : Option ReceiverTree → TryParameters → TryAllParameters
with_receiver (Some r) (Some q) = Some (Some r, q.0, q.1)
with_receiver _ _ = None

-- what stands after the marks and the type of the first parameter or of the receiver
abbrev pub first_end : List LocalMark → TypeUseTree → List TokenKind → TryAllParameters
first_end ms u (This ∷ ts) = with_receiver (receiver_of (annotation_names_of ms) (class_of u)) (read_more_parameters ts)
first_end ms u ts = without_receiver (parameter_end read_more_parameters ms u ts)

-- all after the opening parenthesis, through the closing one
abbrev pub read_parameters : List TokenKind → TryAllParameters
read_parameters (RightParen ∷ ts) = Some (None, [], ts)
read_parameters ts = after_type (first_end (read_marks ts).0) (read_type_use (read_marks ts).1)

-- whether two names are one
abbrev pub same_name : NameNo → NameNo → Bool
same_name a b = nat_eq a.0 b.0

-- GoodParameters, as a test
abbrev pub good_parameters : List ParameterTree → Bool
good_parameters [] = true
good_parameters (p ∷ ps) = final_once p.marks && good_parameters ps

-- GoodReceiver, as a test
abbrev pub good_receiver : NameNo → List Mark → Option ReceiverTree → Bool
good_receiver owner ms None = true
good_receiver owner ms (Some r) = not (has_static ms) && same_name r.class owner

-- GoodMethodMarks, as a test
abbrev pub good_method_marks : Bool → List Mark → Bool
good_method_marks true ms = good_marks marks_interface_method ms
good_method_marks false ms = good_marks marks_method ms

-- GoodMethodHead, as a test
abbrev pub good_method_head : Owner → List Mark → Option ReceiverTree → List ParameterTree → Bool
good_method_head o ms r ps = good_method_marks o.interface ms && (good_receiver o.name ms r && good_parameters ps)

-- whether there is no receiver
abbrev pub is_no_receiver : Option ReceiverTree → Bool
is_no_receiver None = true
is_no_receiver (Some r) = false

-- GoodConstructorHead, as a test, and that no receiver stands there
abbrev pub good_constructor_head : Owner → List Mark → NameNo → Option ReceiverTree → List ParameterTree → Bool
good_constructor_head o ms n r ps = good_marks marks_constructor ms && (not o.interface && (same_name n o.name && (is_no_receiver r && good_parameters ps)))

-- what follows parameters, if they were read
abbrev pub after_parameters : (Option ReceiverTree → List ParameterTree → List TokenKind → TryPiece) → TryAllParameters → TryPiece
after_parameters f None = None
after_parameters f (Some r) = f r.0 r.1 r.2

-- a head of a constructor, where the brace follows (JLS 8.8)
abbrev pub constructor_end : Owner → List Mark → NameNo → Option ReceiverTree → List ParameterTree → List TokenKind → TryPiece
constructor_end o ms n r ps (LeftBrace ∷ ts) = checked (good_constructor_head o ms n r ps) (ConstructorHead ms n ps) ts
constructor_end o ms n r ps _ = None

-- what stands after the parameters of a method: a body, but not in an interface, or a semicolon
abbrev pub method_end : Owner → List Mark → Option TypeUseTree → NameNo → Option ReceiverTree → List ParameterTree → List TokenKind → TryPiece
method_end o ms u n r ps (LeftBrace ∷ ts) = checked (not o.interface && good_method_head o ms r ps) (MethodHead ms u n r ps) ts
method_end o ms u n r ps (Semicolon ∷ ts) = checked (good_method_head o ms r ps) (MethodPiece ms u n r ps) ts
method_end o ms u n r ps _ = None

-- a field, where the semicolon follows and the marks may stand there (JLS 8.3)
abbrev pub field_end : List Mark → TypeUseTree → DeclaratorTree → List DeclaratorTree → List TokenKind → TryPiece
field_end ms u d ds (Semicolon ∷ ts) = checked (good_marks marks_field ms) (FieldPiece ms u d ds) ts
field_end ms u d ds _ = None

-- the longest declarators of nesting at most `deepest`
unfoldable pub read_field_declarators : List TokenKind → Option ((DeclaratorTree × List DeclaratorTree) × List TokenKind)
read_field_declarators ts = read_declarators (reader deepest).whole ts

-- what follows declarators, if they were read
abbrev pub after_declarators : (DeclaratorTree → List DeclaratorTree → List TokenKind → TryPiece) → Option ((DeclaratorTree × List DeclaratorTree) × List TokenKind) → TryPiece
after_declarators f None = None
after_declarators f (Some r) = f r.0.0 r.0.1 r.1

-- after marks and a type: a method, or a field
abbrev pub typed_member : Owner → List Mark → TypeUseTree → List TokenKind → TryPiece
typed_member o ms u (Id n ∷ LeftParen ∷ ts) = after_parameters (method_end o ms (Some u) n) (read_parameters ts)
typed_member o ms u ts = after_declarators (field_end ms u) (read_field_declarators ts)

-- after `void`
abbrev pub void_method : Owner → List Mark → List TokenKind → TryPiece
void_method o ms (Id n ∷ LeftParen ∷ ts) = after_parameters (method_end o ms None n) (read_parameters ts)
void_method o ms _ = None

-- after the marks
abbrev pub member_behind : Owner → List Mark → List TokenKind → TryPiece
member_behind o ms (Void ∷ ts) = void_method o ms ts
member_behind o ms (Id n ∷ LeftParen ∷ ts) = after_parameters (constructor_end o ms n) (read_parameters ts)
member_behind o ms ts = after_type (typed_member o ms) (read_type_use ts)

-- the end of a type, or what may begin a member (JLS 8.2)
abbrev pub read_member : Owner → List TokenKind → TryPiece
read_member o (RightBrace ∷ ts) = Some (TypeEnd, ts)
read_member o ts = member_behind o (read_all_marks ts).0 (read_all_marks ts).1

-- the longest statement of nesting at most `deepest` of a body, first in a constructor or not
unfoldable pub read_body_statement : Bool → List TokenKind → TryStatement
read_body_statement leading ts = statement_reader deepest (body_context leading) ts

-- the statement as a piece
abbrev pub statement_piece : TryStatement → TryPiece
statement_piece None = None
statement_piece (Some r) = Some (StatementPiece r.0, r.1)

-- the end of a body, or a statement
abbrev pub read_in_body : Bool → List TokenKind → TryPiece
read_in_body leading (RightBrace ∷ ts) = Some (BodyEnd, ts)
read_in_body leading ts = statement_piece (read_body_statement leading ts)

-- the piece that is read where this stands around
abbrev pub piece_reader : Around → List TokenKind → TryPiece
piece_reader AtStart ts = read_first ts
piece_reader BehindLines ts = read_line ts
piece_reader BehindTypes ts = read_type_head ts
piece_reader (InType o) ts = read_member o ts
piece_reader (InBody o leading) ts = read_in_body leading ts
