-- Members of a type that are read ahead of its end.
use Rattle.std.specs.Prelude.{◌≡◌, ◌<◌, ◌≤◌, List, [], ◌∷◌, ◌++◌, length, map, Bool, true, false, Option, Some, None, Vec}
use Rattle.std.specs.Borrow.{Bor}
use Rattle.std.specs.declared.alloc.Global.{Global}
use Rattle.jn_trees.specs.declared.context.Owner.{Owner}
use Rattle.jn_trees.specs.declared.declaration.Member.{Member}
use Rattle.jn_trees.specs.declared.statement.Stmt.{Stmt}
use Rattle.jn_trees.specs.declared.token.Token.{Token}
use Rattle.jn_trees.specs.declared.token.TokenKind.{TokenKind}
use Rattle.jn_trees.specs.Trees.{Statement, MemberTree}
use Rattle.jn_trees.specs.View.{member_view, statement_view}
use Rattle.jn_trees.specs.Pieces.{Piece, MethodHead, ConstructorHead, StatementPiece, BodyEnd, Around, InType, InBody, pieces, kinds}
use Rattle.jn_parse_decl_law.specs.Runs.{ReadsRow}
use Rattle.jn_parse_decl_law.specs.Built.{TypeOpening, MemberOpening, MethodOpening, ConstructorOpening, OpenMember, OpenType, Built, add_all}
use Rattle.jn_parse_decl_law.specs.PieceReader.{TryPiece, read_member, piece_reader}
use Rattle.jn_parse_decl_law.specs.Progress.{IsReached}

-- what is built, with this open in place of what is
abbrev pub inside : Built → Option OpenType → Built
inside b i = record { package_line = b.package_line; imports = b.imports; types = b.types; inside = i }

-- a type that is open, with these members and this one open
abbrev pub open_type : TypeOpening → List MemberTree → Option OpenMember → Option OpenType
open_type head members body = Some (record { head = head; members = members; body = body })

-- pieces read in turn in a type with this owner lead from these tokens to those, and put these members after those of the type
pub record AreMembers (owner : Owner) (from : List TokenKind) (members : List MemberTree) (to : List TokenKind) : Type 0 where
  pub row : List Piece
  pub read : ReadsRow pieces piece_reader (InType owner) from row (InType owner) to
  pub made : (b : Built) (head : TypeOpening) (before : List MemberTree) → add_all (inside b (open_type head before None)) row ≡ inside b (open_type head (before ++ members) None)

-- a member that is read whole takes tokens
abbrev pub IsMemberRead : Owner → List TokenKind → Option (Member × Bor (List Token)) → Type 0
IsMemberRead owner from None = Unit {0}
IsMemberRead owner from (Some r) = AreMembers owner from (member_view r.0 ∷ []) (kinds r.1.now) × (length (kinds r.1.now) < length from)

-- the piece that comes first in a type, which proofs don't compute
unfoldable pub first_member : Owner → List TokenKind → TryPiece
first_member owner ts = read_member owner ts

-- the piece that begins a member with a body
abbrev pub head_piece : MemberOpening → Piece
head_piece (MethodOpening ms u n r ps) = MethodHead ms u n r ps
head_piece (ConstructorOpening ms n ps) = ConstructorHead ms n ps

-- whether the first statement of the body may call a constructor
abbrev pub may_lead : MemberOpening → Bool
may_lead (MethodOpening ms u n r ps) = false
may_lead (ConstructorOpening ms n ps) = true

-- statements read in turn in a body lead from these tokens to those
abbrev pub AreStatements : Owner → Bool → List TokenKind → List Statement → Bool → List TokenKind → Type 0
AreStatements owner leading from statements then to = ReadsRow pieces piece_reader (InBody owner leading) from (map StatementPiece statements) (InBody owner then) to

-- these are all statements of a body, and its end stands before those tokens
abbrev pub IsBody : Owner → Bool → List TokenKind → List Statement → List TokenKind → Type 0
IsBody owner leading from statements to = ReadsRow pieces piece_reader (InBody owner leading) from (map StatementPiece statements ++ BodyEnd ∷ []) (InType owner) to

-- a body that is read
abbrev pub IsBodyRead : Owner → Bool → List TokenKind → Option (Vec Stmt Global × Bor (List Token)) → Type 0
IsBodyRead owner leading from None = Unit {0}
IsBodyRead owner leading from (Some r) = IsBody owner leading from (map statement_view r.0.items) (kinds r.1.now)

-- what is built is changed so that what is reached before these tokens is reached before those
abbrev pub IsBehind : Around → Built → List TokenKind → Built → List TokenKind → Type 0
IsBehind around b from c to = (length to ≤ length from) × ((ts : List TokenKind) → IsReached ts b around from → IsReached ts c around to)

-- the same of what is inside, in a type with this owner
abbrev pub GoesOn : Owner → Option OpenType → List TokenKind → Option OpenType → List TokenKind → Type 0
GoesOn owner i from j to = (length to ≤ length from) × ((ts : List TokenKind) (b : Built) → IsReached ts (inside b i) (InType owner) from → IsReached ts (inside b j) (InType owner) to)
