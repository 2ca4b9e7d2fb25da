-- What was read, without its places, and the tokens that follow it.
use Rattle.std.specs.Prelude.{List, map, Option, Some, None, Vec}
use Rattle.std.specs.Borrow.{Bor}
use Rattle.std.specs.declared.alloc.Global.{Global}
use Rattle.jn_base.specs.declared.number.NameNo.{NameNo}
use Rattle.jn_trees.specs.declared.expression.Annotation.{Annotation}
use Rattle.jn_trees.specs.declared.token.Token.{Token}
use Rattle.jn_trees.specs.declared.token.TokenKind.{TokenKind}
use Rattle.jn_trees.specs.declared.declaration.Parameter.{Parameter}
use Rattle.jn_trees.specs.Trees.{ParameterTree}
use Rattle.jn_trees.specs.View.{marks, annotation_names, identifier_names, parent_view, type_use_view, declarator_view, declarator_views, result_view, receiver_view, parameter_view, parameter_views, statement_view, dotted_view, package_view, import_view, member_views, type_view}
use Rattle.jn_trees.specs.Pieces as trees
use Rattle.jn_trees.specs.Pieces.{kinds, PackagePiece, ImportPiece, ClassHead, InterfaceHead, FieldPiece, MethodPiece, ConstructorHead, StatementPiece}
use Rattle.jn_parse_decl_law.specs.PieceReader.{TryPiece, TryParameters, TryAllParameters}
use Rattle.jn_parse_decl_law.specs.Built as law
use Rattle.jn_parse_decl_law.specs.Built.{ClassOpening, InterfaceOpening, MethodOpening, ConstructorOpening}
use Rattle.jn_parse_decl.specs.declared.piece.TypeHead.{TypeHead}
use Rattle.jn_parse_decl.specs.declared.piece.TypeHead.TheVariants.{Class, Interface}
use Rattle.jn_parse_decl.specs.declared.piece.Piece.{Piece}
use Rattle.jn_parse_decl.specs.declared.piece.Piece.TheVariants.{Package, Import, TypeHead as HeadOf, Field, Method, MethodHead as MethodHeadOf, ConstructorHead as ConstructorHeadOf, Statement as StatementOf, BodyEnd, TypeEnd}
use Rattle.jn_parse_decl.specs.declared.piece.Around.{Around}
use Rattle.jn_parse_decl.specs.declared.piece.Around.TheVariants.{AtStart, BehindLines, BehindTypes, InType, InBody}
use Rattle.jn_parse_decl.specs.declared.building.MemberHead.{MemberHead}
use Rattle.jn_parse_decl.specs.declared.building.MemberHead.TheVariants.{Method as OfMethod, Constructor as OfConstructor}
use Rattle.jn_parse_decl.specs.declared.building.OpenMember.{OpenMember}
use Rattle.jn_parse_decl.specs.declared.building.OpenType.{OpenType}
use Rattle.jn_parse_decl.specs.declared.building.Built.{Built}
use Rattle.jn_parse_decl.specs.declared.parameters.Parameters.{Parameters}

abbrev pub head_piece : TypeHead → trees.Piece
head_piece (Class ms n parent interfaces) = ClassHead (marks ms.items) n.name (parent_view parent) (identifier_names interfaces.items)
head_piece (Interface ms n parents) = InterfaceHead (marks ms.items) n.name (identifier_names parents.items)

abbrev pub piece_view : Piece → trees.Piece
piece_view (Package l) = PackagePiece (dotted_view l.name)
piece_view (Import i) = ImportPiece (import_view i)
piece_view (HeadOf h) = head_piece h
piece_view (Field f) = FieldPiece (marks f.modifiers.items) (type_use_view f.type_use) (declarator_view f.first) (declarator_views f.more.items)
piece_view (Method m) = MethodPiece (marks m.modifiers.items) (result_view m.result) m.name.name (receiver_view m.receiver) (parameter_views m.parameters.items)
piece_view (MethodHeadOf m) = trees.MethodHead (marks m.modifiers.items) (result_view m.result) m.name.name (receiver_view m.receiver) (parameter_views m.parameters.items)
piece_view (ConstructorHeadOf c) = ConstructorHead (marks c.modifiers.items) c.name.name (parameter_views c.parameters.items)
piece_view (StatementOf s) = StatementPiece (statement_view s)
piece_view BodyEnd = trees.BodyEnd
piece_view TypeEnd = trees.TypeEnd

abbrev pub around_view : Around → trees.Around
around_view AtStart = trees.AtStart
around_view BehindLines = trees.BehindLines
around_view BehindTypes = trees.BehindTypes
around_view (InType o) = trees.InType o
around_view (InBody o leading) = trees.InBody o leading

-- a piece and what follows it
abbrev pub seen_piece : Option (Piece × Bor (List Token)) → TryPiece
seen_piece None = None
seen_piece (Some r) = Some (piece_view r.0, kinds r.1.now)

abbrev pub seen_parameter : Option (Parameter × Bor (List Token)) → Option (ParameterTree × List TokenKind)
seen_parameter None = None
seen_parameter (Some r) = Some (parameter_view r.0, kinds r.1.now)

abbrev pub seen_row : Option (Vec Parameter Global × Bor (List Token)) → TryParameters
seen_row None = None
seen_row (Some r) = Some (parameter_views r.0.items, kinds r.1.now)

abbrev pub names_seen : Option (Vec Annotation Global) → Option (List NameNo)
names_seen None = None
names_seen (Some v) = Some (annotation_names v.items)

abbrev pub seen_parameters : Option (Parameters × Bor (List Token)) → TryAllParameters
seen_parameters None = None
seen_parameters (Some r) = Some (receiver_view r.0.receiver, parameter_views r.0.parameters.items, kinds r.1.now)

-- what has been built
abbrev pub opening : TypeHead → law.TypeOpening
opening (Class ms n parent interfaces) = ClassOpening (marks ms.items) n.name (parent_view parent) (identifier_names interfaces.items)
opening (Interface ms n parents) = InterfaceOpening (marks ms.items) n.name (identifier_names parents.items)

abbrev pub member_opening : MemberHead → law.MemberOpening
member_opening (OfMethod m) = MethodOpening (marks m.modifiers.items) (result_view m.result) m.name.name (receiver_view m.receiver) (parameter_views m.parameters.items)
member_opening (OfConstructor c) = ConstructorOpening (marks c.modifiers.items) c.name.name (parameter_views c.parameters.items)

abbrev pub body_of : Option OpenMember → Option law.OpenMember
body_of None = None
body_of (Some m) = Some (record { head = member_opening m.head; statements = map statement_view m.statements.items })

abbrev pub inside_of : Option OpenType → Option law.OpenType
inside_of None = None
inside_of (Some o) = Some (record { head = opening o.head; members = member_views o.members.items; body = body_of o.body })

abbrev pub built_view : Built → law.Built
built_view b = record { package_line = package_view b.package; imports = map import_view b.imports.items; types = map type_view b.types.items; inside = inside_of b.inside }
