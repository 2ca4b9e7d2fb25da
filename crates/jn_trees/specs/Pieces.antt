-- Files as pieces in order, and the place of a syntax fault: the greatest one before which the tokens are well-formed pieces in an order that begins a file.
use Rattle.std.specs.Prelude.{◌≡◌, ◌⊎◌, ℕ, ◌+◌, ◌-◌, ◌≤◌, ◌<◌, List, [], ◌∷◌, ◌++◌, length, take, Bool, true, false, Option, Some, None, map, slice_get}
use Rattle.jn_base.specs.declared.number.NameNo.{NameNo}
use Rattle.jn_base.specs.declared.number.FileNo.{FileNo}
use Rattle.jn_base.specs.declared.place.Span.{Span}
use Rattle.jn_base.specs.declared.place.Row.{Row}
use Rattle.jn_base.specs.declared.code.Code.TheVariants.{S1, S2}
use Rattle.jn_trees.specs.declared.token.Token.{Token}
use Rattle.jn_trees.specs.declared.token.TokenKind.{TokenKind}
use Rattle.jn_trees.specs.declared.token.TokenKind.TheVariants.{LeftParen, RightParen, LeftBrace, RightBrace, LeftBracket, RightBracket, Semicolon}
use Rattle.jn_trees.specs.Trees.{Statement, Mark, TypeUseTree, DeclaratorTree, ReceiverTree, ParameterTree, DottedName, ImportTree, SourceTree}
use Rattle.jn_trees.specs.Spelling.{spell_package, spell_import, spell_class_head, spell_interface_head, spell_field, spell_method_head, spell_constructor_head, spell_statement, spell_file}
use Rattle.jn_trees.specs.declared.context.Owner.{Owner}
use Rattle.jn_trees.specs.WellFormed.{GoodMarks, marks_type, marks_interface, GoodField, GoodMethodHead, GoodConstructorHead, GoodStatement, GoodFile, body_context, nesting_statement, deepest}

-- what stands around, the pieces, and which piece may stand where
pub record Language : Type 1 where
  pub State : Type 0
  pub Piece : Type 0
  pub spelling : Piece → List TokenKind
  -- the piece is well formed there
  pub May : State → Piece → Type 0
  pub next : State → Piece → State

-- the tokens of all the pieces, in their order
abbrev pub spell_pieces : (L : Language) → List L.Piece → List TokenKind
spell_pieces L [] = []
spell_pieces L (p ∷ ps) = L.spelling p ++ spell_pieces L ps

-- each piece may stand where it stands, when `s` is around the first and each piece changes what is around the next
abbrev pub InOrder : (L : Language) → L.State → List L.Piece → Type 0
InOrder L s [] = Unit {0}
InOrder L s (p ∷ ps) = L.May s p × InOrder L (L.next s p) ps

-- the tokens before place n are pieces in order
pub record Begins (L : Language) (s : L.State) (ts : List TokenKind) (n : ℕ) : Type 0 where
  pub pieces : List L.Piece
  pub rest : List TokenKind
  pub ordered : InOrder L s pieces
  pub spelled : ts ≡ spell_pieces L pieces ++ rest
  pub place : n ≡ length (spell_pieces L pieces)

-- n is the greatest place before which the tokens are pieces in order
pub record IsPlace (L : Language) (s : L.State) (ts : List TokenKind) (n : ℕ) : Type 0 where
  pub reached : Begins L s ts n
  pub greatest : (m : ℕ) → Begins L s ts m → m ≤ n

-- the pieces of a file: lines, heads through the opening brace, fields, methods without body, top statements of bodies, and the braces that end bodies and types
pub data Piece : Type 0 where
  PackagePiece : (name : DottedName) → Piece
  ImportPiece : (line : ImportTree) → Piece
  ClassHead : (marks : List Mark) (name : NameNo) (parent : Option NameNo) (interfaces : List NameNo) → Piece
  InterfaceHead : (marks : List Mark) (name : NameNo) (parents : List NameNo) → Piece
  FieldPiece : (marks : List Mark) (type_use : TypeUseTree) (first : DeclaratorTree) (more : List DeclaratorTree) → Piece
  MethodPiece : (marks : List Mark) (result : Option TypeUseTree) (name : NameNo) (receiver : Option ReceiverTree) (parameters : List ParameterTree) → Piece
  MethodHead : (marks : List Mark) (result : Option TypeUseTree) (name : NameNo) (receiver : Option ReceiverTree) (parameters : List ParameterTree) → Piece
  ConstructorHead : (marks : List Mark) (name : NameNo) (parameters : List ParameterTree) → Piece
  StatementPiece : (statement : Statement) → Piece
  BodyEnd : Piece
  TypeEnd : Piece

-- the tokens that spell a piece: a line or a member through its semicolon, a head through its opening brace
abbrev pub spell_piece : Piece → List TokenKind
spell_piece (PackagePiece q) = spell_package q
spell_piece (ImportPiece i) = spell_import i
spell_piece (ClassHead ms n parent interfaces) = spell_class_head ms n parent interfaces
spell_piece (InterfaceHead ms n parents) = spell_interface_head ms n parents
spell_piece (FieldPiece ms u d ds) = spell_field ms u d ds
spell_piece (MethodPiece ms u n r ps) = spell_method_head ms u n r ps ++ Semicolon ∷ []
spell_piece (MethodHead ms u n r ps) = spell_method_head ms u n r ps ++ LeftBrace ∷ []
spell_piece (ConstructorHead ms n ps) = spell_constructor_head ms n ps ++ LeftBrace ∷ []
spell_piece (StatementPiece s) = spell_statement s
spell_piece BodyEnd = RightBrace ∷ []
spell_piece TypeEnd = RightBrace ∷ []

-- where a piece stands: first in the file, after a package line or an import, after a type, in a type, or in a body of a type's member, where the next statement may be the first of a constructor
pub data Around : Type 0 where
  AtStart : Around
  BehindLines : Around
  BehindTypes : Around
  InType : (owner : Owner) → Around
  InBody : (owner : Owner) (leading : Bool) → Around

-- the piece is the head of a class or an interface with modifiers that may stand before it (JLS 8, 7.6)
abbrev pub MayHead : Piece → Type 0
MayHead (ClassHead ms n parent interfaces) = GoodMarks marks_type ms
MayHead (InterfaceHead ms n parents) = GoodMarks marks_interface ms
MayHead _ = ⊥

-- the piece may stand in this type: a field, a method or constructor up to its body, or the brace that ends it (JLS 8, 8.1.6 and 9.1.4)
abbrev pub MayMember : Owner → Piece → Type 0
MayMember o (FieldPiece ms u d ds) = GoodField ms d ds
MayMember o (MethodPiece ms u n r ps) = GoodMethodHead o ms r ps
MayMember o (MethodHead ms u n r ps) = (o.interface ≡ false) × GoodMethodHead o ms r ps
MayMember o (ConstructorHead ms n ps) = GoodConstructorHead o ms n ps
MayMember o TypeEnd = Unit {0}
MayMember o _ = ⊥

-- the piece may stand in a body: a well-formed statement that is not nested too deep, or the brace that ends the body
abbrev pub MayStatement : Bool → Piece → Type 0
MayStatement leading (StatementPiece s) = GoodStatement (body_context leading) s × (nesting_statement s ≤ deepest)
MayStatement leading BodyEnd = Unit {0}
MayStatement leading _ = ⊥

-- the piece may stand after the package line or an import: an import, or the head of a type (JLS 8, 7.5)
abbrev pub MayImport : Piece → Type 0
MayImport (ImportPiece i) = Unit {0}
MayImport p = MayHead p

-- the piece may be the first of a file: the package line, an import, or the head of a type (JLS 8, 7.3)
abbrev pub MayPackage : Piece → Type 0
MayPackage (PackagePiece q) = Unit {0}
MayPackage p = MayImport p

-- the piece is well formed and may stand there, by what is around it
abbrev pub May : Around → Piece → Type 0
May AtStart p = MayPackage p
May BehindLines p = MayImport p
May BehindTypes p = MayHead p
May (InType o) p = MayMember o p
May (InBody o leading) p = MayStatement leading p

-- what stands around the piece after this one
abbrev pub behind_member : Owner → Piece → Around
behind_member o (MethodHead ms u n r ps) = InBody o false
behind_member o (ConstructorHead ms n ps) = InBody o true
behind_member o TypeEnd = BehindTypes
behind_member o _ = InType o

-- what is around the next piece of a body: the type again where this piece ends the body, else the body, where no statement is the first now
abbrev pub behind_statement : Owner → Piece → Around
behind_statement o BodyEnd = InType o
behind_statement o _ = InBody o false

-- what is around the piece after this one outside of types: the type whose head this is, or else the lines that begin a file
abbrev pub behind_outer : Piece → Around
behind_outer (ClassHead ms n parent interfaces) = InType (record { interface = false; name = n })
behind_outer (InterfaceHead ms n parents) = InType (record { interface = true; name = n })
behind_outer _ = BehindLines

-- what is around the next piece, by what is around this one and which it is
abbrev pub behind : Around → Piece → Around
behind (InType o) p = behind_member o p
behind (InBody o leading) p = behind_statement o p
behind _ p = behind_outer p

-- the language of source files: their pieces, how each is spelled, and where each may stand
abbrev pub pieces : Language
pieces = record { State = Around; Piece = Piece; spelling = spell_piece; May = May; next = behind }

-- the brackets open after these tokens; what closes none counts nothing
abbrev pub opened : ℕ → TokenKind → ℕ
opened n LeftParen = n + 1
opened n LeftBracket = n + 1
opened n LeftBrace = n + 1
opened n RightParen = n - 1
opened n RightBracket = n - 1
opened n RightBrace = n - 1
opened n _ = n

-- how many brackets are open after the tokens, when n are open before them
abbrev pub opened_from : ℕ → List TokenKind → ℕ
opened_from n [] = n
opened_from n (k ∷ ks) = opened_from (opened n k) ks

-- how many brackets may be open at once
abbrev pub most_open : ℕ
most_open = 200

-- the first token at which too many brackets are open
pub record IsTooDeep (ts : List TokenKind) (n : ℕ) : Type 0 where
  pub inside : n < length ts
  pub passes : most_open < opened_from 0 (take (n + 1) ts)
  pub first : (m : ℕ) → m < n → opened_from 0 (take (m + 1) ts) ≤ most_open

-- no token is one at which too many brackets are open
abbrev pub Shallow : List TokenKind → Type 0
Shallow ts = (m : ℕ) → m < length ts → opened_from 0 (take (m + 1) ts) ≤ most_open

-- the tokens without their places
abbrev pub kinds : List Token → List TokenKind
kinds tokens = map (λ (t : Token). t.kind) tokens

-- the place of a token, or the end of the text after the last
abbrev pub place_from : FileNo → ℕ → Option Token → Span
place_from file end None = record { file = file; from = end; to = end }
place_from file end (Some t) = t.span

-- the place of token n, counted from 0, or the end of the text where there is no such token
abbrev pub token_place : FileNo → ℕ → List Token → ℕ → Span
token_place file end tokens n = place_from file end (slice_get tokens n)

-- a well-formed tree, and the tokens are its spelling
abbrev pub IsFile : List Token → SourceTree → Type 0
IsFile tokens tree = GoodFile tree × (kinds tokens ≡ spell_file tree) × Shallow (kinds tokens)

-- too many brackets open
pub record IsDeepFault (file : FileNo) (end : ℕ) (tokens : List Token) (row : Row) : Type 0 where
  pub place : ℕ
  pub deep : IsTooDeep (kinds tokens) place
  pub is : row ≡ record { span = token_place file end tokens place; code = S2 }

-- no well-formed file, at the place where the pieces end
pub record IsSyntaxFault (file : FileNo) (end : ℕ) (tokens : List Token) (row : Row) : Type 0 where
  pub place : ℕ
  pub shallow : Shallow (kinds tokens)
  pub no_tree : (tree : SourceTree) → GoodFile tree → kinds tokens ≡ spell_file tree → ⊥
  pub ends : IsPlace pieces AtStart (kinds tokens) place
  pub is : row ≡ record { span = token_place file end tokens place; code = S1 }

-- the row reports the syntax fault of the tokens: too many brackets open, or else no well-formed file
abbrev pub IsSyntaxRow : FileNo → ℕ → List Token → Row → Type 0
IsSyntaxRow file end tokens row = IsDeepFault file end tokens row ⊎ IsSyntaxFault file end tokens row
