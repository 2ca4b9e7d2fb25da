-- What has been read of a file: what is closed, and the open type and member.
use Rattle.std.specs.Prelude.{List, [], ◌∷◌, ◌++◌, Option, Some, None}
use Rattle.jn_base.specs.declared.number.NameNo.{NameNo}
use Rattle.jn_trees.specs.Trees.{Statement, Statements, NoStatements, MoreStatements, Mark, TypeUseTree, ReceiverTree, ParameterTree, MemberTree, FieldMember, MethodMember, ConstructorMember, TypeDeclaration, ClassType, InterfaceType, DottedName, ImportTree, SourceTree}
use Rattle.jn_trees.specs.Pieces.{Piece, PackagePiece, ImportPiece, ClassHead, InterfaceHead, FieldPiece, MethodPiece, MethodHead, ConstructorHead, StatementPiece, BodyEnd, TypeEnd}

-- what stands before the brace of a type
pub data TypeOpening : Type 0 where
  ClassOpening : (marks : List Mark) (name : NameNo) (parent : Option NameNo) (interfaces : List NameNo) → TypeOpening
  InterfaceOpening : (marks : List Mark) (name : NameNo) (parents : List NameNo) → TypeOpening

-- what stands before the brace of a body
pub data MemberOpening : Type 0 where
  MethodOpening : (marks : List Mark) (result : Option TypeUseTree) (name : NameNo) (receiver : Option ReceiverTree) (parameters : List ParameterTree) → MemberOpening
  ConstructorOpening : (marks : List Mark) (name : NameNo) (parameters : List ParameterTree) → MemberOpening

-- a member whose body is open, and the statements of it that are read
pub record OpenMember : Type 0 where
  pub head : MemberOpening
  pub statements : List Statement

-- the members of it that are closed, and the one that is open
pub record OpenType : Type 0 where
  pub head : TypeOpening
  pub members : List MemberTree
  pub body : Option OpenMember

-- what is closed of a file, and the type that is open
pub record Built : Type 0 where
  pub package_line : Option DottedName
  pub imports : List ImportTree
  pub types : List TypeDeclaration
  pub inside : Option OpenType

-- before the first piece
abbrev pub nothing : Built
nothing = record { package_line = None; imports = []; types = []; inside = None }

-- statements in a row, as those of a body
abbrev pub all_statements : List Statement → Statements
all_statements [] = NoStatements
all_statements (s ∷ ss) = MoreStatements s (all_statements ss)

-- a member whose body has ended
abbrev pub member_of : MemberOpening → List Statement → MemberTree
member_of (MethodOpening ms u n r ps) ss = MethodMember ms u n r ps (Some (all_statements ss))
member_of (ConstructorOpening ms n ps) ss = ConstructorMember ms n ps (all_statements ss)

-- a type that has ended
abbrev pub type_of : TypeOpening → List MemberTree → TypeDeclaration
type_of (ClassOpening ms n parent interfaces) members = ClassType ms n parent interfaces members
type_of (InterfaceOpening ms n parents) members = InterfaceType ms n parents members

-- a type begins
abbrev pub open_type : TypeOpening → Option OpenType
open_type head = Some (record { head = head; members = []; body = None })

-- a member more in the open type
abbrev pub with_member : MemberTree → Option OpenType → Option OpenType
with_member m None = None
with_member m (Some o) = Some (record o { members = o.members ++ m ∷ [] })

-- a body begins
abbrev pub open_body : MemberOpening → Option OpenType → Option OpenType
open_body head None = None
open_body head (Some o) = Some (record o { body = Some (record { head = head; statements = [] }) })

-- a statement more in the open body
abbrev pub longer_body : Statement → Option OpenMember → Option OpenMember
longer_body s None = None
longer_body s (Some m) = Some (record m { statements = m.statements ++ s ∷ [] })

-- a statement more in the open member of the open type
abbrev pub with_statement : Statement → Option OpenType → Option OpenType
with_statement s None = None
with_statement s (Some o) = Some (record o { body = longer_body s o.body })

-- the open member after the others
abbrev pub members_with : List MemberTree → Option OpenMember → List MemberTree
members_with ms None = ms
members_with ms (Some m) = ms ++ member_of m.head m.statements ∷ []

-- a body ends
abbrev pub close_body : Option OpenType → Option OpenType
close_body None = None
close_body (Some o) = Some (record o { members = members_with o.members o.body; body = None })

-- a type ends, and stands after the others
abbrev pub types_with : List TypeDeclaration → Option OpenType → List TypeDeclaration
types_with ts None = ts
types_with ts (Some o) = ts ++ type_of o.head o.members ∷ []

-- one piece more
abbrev pub add : Built → Piece → Built
add b (PackagePiece q) = record b { package_line = Some q }
add b (ImportPiece i) = record b { imports = b.imports ++ i ∷ [] }
add b (ClassHead ms n parent interfaces) = record b { inside = open_type (ClassOpening ms n parent interfaces) }
add b (InterfaceHead ms n parents) = record b { inside = open_type (InterfaceOpening ms n parents) }
add b (FieldPiece ms u d ds) = record b { inside = with_member (FieldMember ms u d ds) b.inside }
add b (MethodPiece ms u n r ps) = record b { inside = with_member (MethodMember ms u n r ps None) b.inside }
add b (MethodHead ms u n r ps) = record b { inside = open_body (MethodOpening ms u n r ps) b.inside }
add b (ConstructorHead ms n ps) = record b { inside = open_body (ConstructorOpening ms n ps) b.inside }
add b (StatementPiece s) = record b { inside = with_statement s b.inside }
add b BodyEnd = record b { inside = close_body b.inside }
add b TypeEnd = record b { types = types_with b.types b.inside; inside = None }

-- one piece after another
abbrev pub add_all : Built → List Piece → Built
add_all b [] = b
add_all b (p ∷ ps) = add_all (add b p) ps

-- this file, where no type is open
abbrev pub tree_if_closed : SourceTree → Option OpenType → Option SourceTree
tree_if_closed t None = Some t
tree_if_closed t (Some o) = None

-- the file, where nothing is open
abbrev pub finished : Built → Option SourceTree
finished b = tree_if_closed (record { package_line = b.package_line; imports = b.imports; types = b.types }) b.inside
