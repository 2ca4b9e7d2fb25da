-- The pieces of a file, in order.
use Rattle.std.specs.Prelude.{List, [], ◌∷◌, ◌++◌, Option, Some, None}
use Rattle.jn_trees.specs.Trees.{Statements, NoStatements, MoreStatements, MemberTree, FieldMember, MethodMember, ConstructorMember, TypeDeclaration, ClassType, InterfaceType, DottedName, ImportTree, SourceTree}
use Rattle.jn_trees.specs.Pieces.{Piece, PackagePiece, ImportPiece, ClassHead, InterfaceHead, FieldPiece, MethodPiece, MethodHead, ConstructorHead, StatementPiece, BodyEnd, TypeEnd}

-- a body through its closing brace
abbrev pub body_pieces : Statements → List Piece
body_pieces NoStatements = BodyEnd ∷ []
body_pieces (MoreStatements s ss) = StatementPiece s ∷ body_pieces ss

-- a field or a method without body is one piece; else the head and the body
abbrev pub member_pieces : MemberTree → List Piece
member_pieces (FieldMember ms u d ds) = FieldPiece ms u d ds ∷ []
member_pieces (MethodMember ms u n r ps None) = MethodPiece ms u n r ps ∷ []
member_pieces (MethodMember ms u n r ps (Some ss)) = MethodHead ms u n r ps ∷ body_pieces ss
member_pieces (ConstructorMember ms n ps ss) = ConstructorHead ms n ps ∷ body_pieces ss

-- without the closing brace of their type
abbrev pub members_pieces : List MemberTree → List Piece
members_pieces [] = []
members_pieces (m ∷ ms) = member_pieces m ++ members_pieces ms

-- a head, the members, and the closing brace
abbrev pub type_pieces : TypeDeclaration → List Piece
type_pieces (ClassType ms n parent interfaces members) = ClassHead ms n parent interfaces ∷ (members_pieces members ++ TypeEnd ∷ [])
type_pieces (InterfaceType ms n parents members) = InterfaceHead ms n parents ∷ (members_pieces members ++ TypeEnd ∷ [])

-- one type after another
abbrev pub types_pieces : List TypeDeclaration → List Piece
types_pieces [] = []
types_pieces (t ∷ ts) = type_pieces t ++ types_pieces ts

-- the package line, if there is one
abbrev pub package_pieces : Option DottedName → List Piece
package_pieces None = []
package_pieces (Some q) = PackagePiece q ∷ []

-- one import after another
abbrev pub import_pieces : List ImportTree → List Piece
import_pieces [] = []
import_pieces (i ∷ is) = ImportPiece i ∷ import_pieces is

-- the lines and types of a file (JLS 7.3)
abbrev pub tree_pieces : SourceTree → List Piece
tree_pieces f = package_pieces f.package_line ++ (import_pieces f.imports ++ types_pieces f.types)
