-- The tokens that spell a tree (JLS 8, 7 to 9, 14 and 15).
use Rattle.std.specs.Prelude.{List, [], ◌∷◌, ◌++◌, Bool, true, false, Option, Some, None}
use Rattle.jn_base.specs.declared.number.NameNo.{NameNo}
use Rattle.jn_trees.specs.declared.token.TokenKind.{TokenKind}
use Rattle.jn_trees.specs.declared.token.TokenKind.TheVariants.{Id, Str, Number, Abstract, Boolean, Break, Class, Continue, Do, Else, Extends, Final, For, If, Implements, Import, Instanceof, Int, Interface, New, Package, Private, Protected, Public, Return, Static, Super, This, Void, While, True, False, Null, LeftParen, RightParen, LeftBrace, RightBrace, LeftBracket, RightBracket, Semicolon, Comma, Dot, At, Assign, Greater, Less, Not, Question, Colon, EqualEqual, LessEqual, GreaterEqual, NotEqual, AndAnd, OrOr, PlusPlus, MinusMinus, Plus, Minus, Star, Slash, Percent, PlusAssign, MinusAssign, StarAssign, SlashAssign, PercentAssign}
use Rattle.jn_trees.specs.declared.expression.Literal.{Literal}
use Rattle.jn_trees.specs.declared.expression.Literal.TheVariants.{Number as NumberLiteral, Str as StrLiteral, True as TrueLiteral, False as FalseLiteral, Null as NullLiteral}
use Rattle.jn_trees.specs.declared.expression.UnaryOperator.{UnaryOperator}
use Rattle.jn_trees.specs.declared.expression.UnaryOperator.TheVariants.{Plus as PlusSign, Minus as MinusSign, Not as NotSign}
use Rattle.jn_trees.specs.declared.expression.Step.{Step}
use Rattle.jn_trees.specs.declared.expression.Step.TheVariants.{Increment, Decrement}
use Rattle.jn_trees.specs.declared.expression.BinaryOperator.{BinaryOperator}
use Rattle.jn_trees.specs.declared.expression.BinaryOperator.TheVariants.{Multiply, Divide, Remainder, Add, Subtract, Less as LessThan, Greater as GreaterThan, LessEqual as AtMost, GreaterEqual as AtLeast, Equal, NotEqual as Unequal, And, Or}
use Rattle.jn_trees.specs.declared.expression.AssignOperator.{AssignOperator}
use Rattle.jn_trees.specs.declared.expression.AssignOperator.TheVariants.{Assign as Simple, Add as AddTo, Subtract as SubtractFrom, Multiply as MultiplyBy, Divide as DivideBy, Remainder as RemainderBy}
use Rattle.jn_trees.specs.Trees.{BaseTree, ClassBase, IntBase, BooleanBase, Tree, Trees, LiteralTree, NameTree, ThisTree, ParenTree, FieldTree, CallTree, OwnCallTree, SuperCallTree, IndexTree, NewTree, NewArrayTree, ArrayOfTree, PostfixTree, PrefixTree, UnaryTree, CastTree, BinaryTree, InstanceOfTree, ConditionalTree, AssignTree, NoTrees, MoreTrees, LocalMark, AnnotationMark, FinalMark, TypeUseTree, DeclaratorTree, LocalTree, InitTree, ExpressionsInit, DeclarationInit, Statement, Statements, BlockStatement, EmptyStatement, ExpressionStatement, BreakStatement, ContinueStatement, ReturnStatement, LocalStatement, IfStatement, IfElseStatement, WhileStatement, DoStatement, ForStatement, ForEachStatement, ThisCallStatement, SuperCallStatement, NoStatements, MoreStatements, Mark, NoteMark, PublicMark, ProtectedMark, PrivateMark, StaticMark, ConstantMark, AbstractMark, ParameterTree, ReceiverTree, MemberTree, FieldMember, MethodMember, ConstructorMember, TypeDeclaration, ClassType, InterfaceType, DottedName, ImportTree, SourceTree}

-- the token that spells a literal: a number, a string, `true`, `false` or `null` (JLS 8, 3.10)
abbrev pub literal_token : Literal → TokenKind
literal_token (NumberLiteral n) = Number n
literal_token (StrLiteral n) = Str n
literal_token TrueLiteral = True
literal_token FalseLiteral = False
literal_token NullLiteral = Null

-- the token of a sign before its operand: `+`, `-` or `!` (JLS 8, 15.15)
abbrev pub sign_token : UnaryOperator → TokenKind
sign_token PlusSign = Plus
sign_token MinusSign = Minus
sign_token NotSign = Not

-- the token of a step, `++` or `--`, before or after its target (JLS 8, 15.14 and 15.15)
abbrev pub step_token : Step → TokenKind
step_token Increment = PlusPlus
step_token Decrement = MinusMinus

-- the token that stands between the operands of a binary operator (JLS 8, 15.17 to 15.24)
abbrev pub operator_token : BinaryOperator → TokenKind
operator_token Multiply = Star
operator_token Divide = Slash
operator_token Remainder = Percent
operator_token Add = Plus
operator_token Subtract = Minus
operator_token LessThan = Less
operator_token GreaterThan = Greater
operator_token AtMost = LessEqual
operator_token AtLeast = GreaterEqual
operator_token Equal = EqualEqual
operator_token Unequal = NotEqual
operator_token And = AndAnd
operator_token Or = OrOr

-- the token of an assignment: `=`, or one that computes as well, such as `+=` (JLS 8, 15.26)
abbrev pub assign_token : AssignOperator → TokenKind
assign_token Simple = Assign
assign_token AddTo = PlusAssign
assign_token SubtractFrom = MinusAssign
assign_token MultiplyBy = StarAssign
assign_token DivideBy = SlashAssign
assign_token RemainderBy = PercentAssign

-- the token of a type without brackets: the name of a class, `int` or `boolean`
abbrev pub base_token : BaseTree → TokenKind
base_token (ClassBase n) = Id n
base_token IntBase = Int
base_token BooleanBase = Boolean

-- annotations without arguments, `@` and a name for each (JLS 8, 9.7.2)
abbrev pub spell_annotations : List NameNo → List TokenKind
spell_annotations [] = []
spell_annotations (n ∷ names) = At ∷ Id n ∷ spell_annotations names

-- spell_list and spell_more: the expressions of a list from the first or a later one on, through the token that closes it
abbrev mutual
  -- the tokens that spell an expression, with parentheses just where the tree has them (JLS 8, 15)
  pub spell : Tree → List TokenKind
  spell (LiteralTree l) = literal_token l ∷ []
  spell (NameTree n) = Id n ∷ []
  spell ThisTree = This ∷ []
  spell (ParenTree e) = LeftParen ∷ (spell e ++ RightParen ∷ [])
  spell (FieldTree p n) = spell p ++ Dot ∷ Id n ∷ []
  spell (CallTree p n es) = spell p ++ Dot ∷ Id n ∷ LeftParen ∷ spell_list RightParen es
  spell (OwnCallTree n es) = Id n ∷ LeftParen ∷ spell_list RightParen es
  spell (SuperCallTree n es) = Super ∷ Dot ∷ Id n ∷ LeftParen ∷ spell_list RightParen es
  spell (IndexTree p e) = spell p ++ LeftBracket ∷ (spell e ++ RightBracket ∷ [])
  spell (NewTree n es) = New ∷ Id n ∷ LeftParen ∷ spell_list RightParen es
  spell (NewArrayTree ns b e) = New ∷ (spell_annotations ns ++ base_token b ∷ LeftBracket ∷ (spell e ++ RightBracket ∷ []))
  spell (ArrayOfTree ns b es) = New ∷ (spell_annotations ns ++ base_token b ∷ LeftBracket ∷ RightBracket ∷ LeftBrace ∷ spell_list RightBrace es)
  spell (PostfixTree p s) = spell p ++ step_token s ∷ []
  spell (PrefixTree s p) = step_token s ∷ spell p
  spell (UnaryTree o e) = sign_token o ∷ spell e
  spell (CastTree n e) = LeftParen ∷ Id n ∷ RightParen ∷ spell e
  spell (BinaryTree l o r) = spell l ++ operator_token o ∷ spell r
  spell (InstanceOfTree e n) = spell e ++ Instanceof ∷ Id n ∷ []
  spell (ConditionalTree c a b) = spell c ++ Question ∷ (spell a ++ Colon ∷ spell b)
  spell (AssignTree l o r) = spell l ++ assign_token o ∷ spell r

  -- the expressions of a list from the first on, with commas between them, through the token that closes it
  pub spell_list : TokenKind → Trees → List TokenKind
  spell_list end NoTrees = end ∷ []
  spell_list end (MoreTrees t ts) = spell t ++ spell_more end ts

  -- the expressions of a list from a later one on, each with its comma before, through the token that closes it
  pub spell_more : TokenKind → Trees → List TokenKind
  spell_more end NoTrees = end ∷ []
  spell_more end (MoreTrees t ts) = Comma ∷ (spell t ++ spell_more end ts)

-- the modifiers of a local or a parameter, annotations and `final`, in their order (JLS 8, 8.4.1 and 14.4)
abbrev pub spell_marks : List LocalMark → List TokenKind
spell_marks [] = []
spell_marks (AnnotationMark n ∷ marks) = At ∷ Id n ∷ spell_marks marks
spell_marks (FinalMark ∷ marks) = Final ∷ spell_marks marks

-- the brackets of an array with the annotations before them, or nothing where the type is no array
abbrev pub spell_brackets : Option (List NameNo) → List TokenKind
spell_brackets None = []
spell_brackets (Some names) = spell_annotations names ++ LeftBracket ∷ RightBracket ∷ []

-- a type where it is used: its base, and its brackets where it is an array
abbrev pub spell_type_use : TypeUseTree → List TokenKind
spell_type_use u = base_token u.base ∷ spell_brackets u.array

-- `=` and the initial value of a variable, or nothing where it has none
abbrev pub spell_value : Option Tree → List TokenKind
spell_value None = []
spell_value (Some e) = Assign ∷ spell e

-- the name of a variable with its initial value, where it has one (JLS 8, 8.3 and 14.4)
abbrev pub spell_declarator : DeclaratorTree → List TokenKind
spell_declarator d = Id d.name ∷ spell_value d.value

-- the variables of a declaration after the first, each with its comma before
abbrev pub spell_more_declarators : List DeclaratorTree → List TokenKind
spell_more_declarators [] = []
spell_more_declarators (d ∷ ds) = Comma ∷ (spell_declarator d ++ spell_more_declarators ds)

-- without what ends it
abbrev pub spell_local : LocalTree → List TokenKind
spell_local l = spell_marks l.marks ++ (spell_type_use l.type_use ++ (spell_declarator l.first ++ spell_more_declarators l.more))

-- through the semicolon
abbrev pub spell_init : InitTree → List TokenKind
spell_init (ExpressionsInit es) = spell_list Semicolon es
spell_init (DeclarationInit l) = spell_local l ++ Semicolon ∷ []

-- an expression that may be left out, as the value of a `return` or the condition of a `for`
abbrev pub spell_optional : Option Tree → List TokenKind
spell_optional None = []
spell_optional (Some e) = spell e

-- spell_body: the statements of a block or body through its closing brace
abbrev mutual
  -- the tokens that spell a statement, with the semicolon or the brace that ends it (JLS 8, 14)
  pub spell_statement : Statement → List TokenKind
  spell_statement (BlockStatement ss) = LeftBrace ∷ spell_body ss
  spell_statement EmptyStatement = Semicolon ∷ []
  spell_statement (ExpressionStatement e) = spell e ++ Semicolon ∷ []
  spell_statement BreakStatement = Break ∷ Semicolon ∷ []
  spell_statement ContinueStatement = Continue ∷ Semicolon ∷ []
  spell_statement (ReturnStatement e) = Return ∷ (spell_optional e ++ Semicolon ∷ [])
  spell_statement (LocalStatement l) = spell_local l ++ Semicolon ∷ []
  spell_statement (IfStatement c s) = If ∷ LeftParen ∷ (spell c ++ RightParen ∷ spell_statement s)
  spell_statement (IfElseStatement c s u) = If ∷ LeftParen ∷ (spell c ++ RightParen ∷ (spell_statement s ++ Else ∷ spell_statement u))
  spell_statement (WhileStatement c s) = While ∷ LeftParen ∷ (spell c ++ RightParen ∷ spell_statement s)
  spell_statement (DoStatement s c) = Do ∷ (spell_statement s ++ While ∷ LeftParen ∷ (spell c ++ RightParen ∷ Semicolon ∷ []))
  spell_statement (ForStatement i c us s) = For ∷ LeftParen ∷ (spell_init i ++ (spell_optional c ++ Semicolon ∷ (spell_list RightParen us ++ spell_statement s)))
  spell_statement (ForEachStatement ms u n e s) = For ∷ LeftParen ∷ (spell_marks ms ++ (spell_type_use u ++ Id n ∷ Colon ∷ (spell e ++ RightParen ∷ spell_statement s)))
  spell_statement (ThisCallStatement es) = This ∷ LeftParen ∷ (spell_list RightParen es ++ Semicolon ∷ [])
  spell_statement (SuperCallStatement es) = Super ∷ LeftParen ∷ (spell_list RightParen es ++ Semicolon ∷ [])

  -- the statements of a block or a body, in their order, through its closing brace
  pub spell_body : Statements → List TokenKind
  spell_body NoStatements = RightBrace ∷ []
  spell_body (MoreStatements s ss) = spell_statement s ++ spell_body ss

-- a modifier of a type or a member: an annotation, or one of six words
abbrev pub spell_mark : Mark → List TokenKind
spell_mark (NoteMark n) = At ∷ Id n ∷ []
spell_mark PublicMark = Public ∷ []
spell_mark ProtectedMark = Protected ∷ []
spell_mark PrivateMark = Private ∷ []
spell_mark StaticMark = Static ∷ []
spell_mark ConstantMark = Final ∷ []
spell_mark AbstractMark = Abstract ∷ []

-- the modifiers of a type or a member, in their order
abbrev pub spell_all_marks : List Mark → List TokenKind
spell_all_marks [] = []
spell_all_marks (m ∷ ms) = spell_mark m ++ spell_all_marks ms

-- a parameter of a method or a constructor: its modifiers, its type and its name (JLS 8, 8.4.1)
abbrev pub spell_parameter : ParameterTree → List TokenKind
spell_parameter p = spell_marks p.marks ++ (spell_type_use p.type_use ++ Id p.name ∷ [])

-- those after the first, or after the receiver, through the closing parenthesis
abbrev pub spell_more_parameters : List ParameterTree → List TokenKind
spell_more_parameters [] = RightParen ∷ []
spell_more_parameters (p ∷ ps) = Comma ∷ (spell_parameter p ++ spell_more_parameters ps)

-- the receiver, where there is one, and the parameters, through the closing parenthesis (JLS 8, 8.4.1)
abbrev pub spell_parameters : Option ReceiverTree → List ParameterTree → List TokenKind
spell_parameters None [] = RightParen ∷ []
spell_parameters None (p ∷ ps) = spell_parameter p ++ spell_more_parameters ps
spell_parameters (Some r) ps = spell_annotations r.annotations ++ Id r.class ∷ This ∷ spell_more_parameters ps

-- `void`, or the type of what a method returns (JLS 8, 8.4.5)
abbrev pub spell_result : Option TypeUseTree → List TokenKind
spell_result None = Void ∷ []
spell_result (Some u) = spell_type_use u

-- a head goes through the closing parenthesis
abbrev pub spell_method_head : List Mark → Option TypeUseTree → NameNo → Option ReceiverTree → List ParameterTree → List TokenKind
spell_method_head ms u n r ps = spell_all_marks ms ++ (spell_result u ++ Id n ∷ LeftParen ∷ spell_parameters r ps)

-- the modifiers, the name and the parameters of a constructor, through the closing parenthesis (JLS 8, 8.8)
abbrev pub spell_constructor_head : List Mark → NameNo → List ParameterTree → List TokenKind
spell_constructor_head ms n ps = spell_all_marks ms ++ Id n ∷ LeftParen ∷ spell_parameters None ps

-- the body of a method in its braces, or a semicolon where it has none (JLS 8, 8.4.7)
abbrev pub spell_method_body : Option Statements → List TokenKind
spell_method_body None = Semicolon ∷ []
spell_method_body (Some ss) = LeftBrace ∷ spell_body ss

-- the modifiers, the type and the variables of a field declaration, through its semicolon (JLS 8, 8.3)
abbrev pub spell_field : List Mark → TypeUseTree → DeclaratorTree → List DeclaratorTree → List TokenKind
spell_field ms u d ds = spell_all_marks ms ++ (spell_type_use u ++ (spell_declarator d ++ (spell_more_declarators ds ++ Semicolon ∷ [])))

-- a member of a type, through its semicolon or the closing brace of its body
abbrev pub spell_member : MemberTree → List TokenKind
spell_member (FieldMember ms u d ds) = spell_field ms u d ds
spell_member (MethodMember ms u n r ps body) = spell_method_head ms u n r ps ++ spell_method_body body
spell_member (ConstructorMember ms n ps ss) = spell_constructor_head ms n ps ++ LeftBrace ∷ spell_body ss

-- through the closing brace of the type
abbrev pub spell_members : List MemberTree → List TokenKind
spell_members [] = RightBrace ∷ []
spell_members (m ∷ ms) = spell_member m ++ spell_members ms

-- the names of a list after the first, each with its comma before
abbrev pub spell_more_names : List NameNo → List TokenKind
spell_more_names [] = []
spell_more_names (n ∷ ns) = Comma ∷ Id n ∷ spell_more_names ns

-- the names after a word, or nothing where there are none
abbrev pub spell_names : TokenKind → List NameNo → List TokenKind
spell_names word [] = []
spell_names word (n ∷ ns) = word ∷ Id n ∷ spell_more_names ns

-- `extends` and the superclass, or nothing where none is named (JLS 8, 8.1.4)
abbrev pub spell_parent : Option NameNo → List TokenKind
spell_parent None = []
spell_parent (Some n) = Extends ∷ Id n ∷ []

-- a head goes through the opening brace
abbrev pub spell_class_head : List Mark → NameNo → Option NameNo → List NameNo → List TokenKind
spell_class_head ms n parent interfaces = spell_all_marks ms ++ Class ∷ Id n ∷ (spell_parent parent ++ (spell_names Implements interfaces ++ LeftBrace ∷ []))

-- the modifiers, the name and the superinterfaces of an interface, through its opening brace (JLS 8, 9.1)
abbrev pub spell_interface_head : List Mark → NameNo → List NameNo → List TokenKind
spell_interface_head ms n parents = spell_all_marks ms ++ Interface ∷ Id n ∷ (spell_names Extends parents ++ LeftBrace ∷ [])

-- a class or an interface, from its modifiers through its closing brace (JLS 8, 8.1 and 9.1)
abbrev pub spell_type : TypeDeclaration → List TokenKind
spell_type (ClassType ms n parent interfaces members) = spell_class_head ms n parent interfaces ++ spell_members members
spell_type (InterfaceType ms n parents members) = spell_interface_head ms n parents ++ spell_members members

-- the types of a file, in their order
abbrev pub spell_types : List TypeDeclaration → List TokenKind
spell_types [] = []
spell_types (t ∷ ts) = spell_type t ++ spell_types ts

-- the names after the first in a name with dots, each with its dot before
abbrev pub spell_dots : List NameNo → List TokenKind
spell_dots [] = []
spell_dots (n ∷ ns) = Dot ∷ Id n ∷ spell_dots ns

-- a name with dots between its parts, such as a package's
abbrev pub spell_dotted : DottedName → List TokenKind
spell_dotted q = Id q.first ∷ spell_dots q.more

-- the `.*` of an import of all types, or nothing where one type is imported (JLS 8, 7.5.1 and 7.5.2)
abbrev pub spell_star : Bool → List TokenKind
spell_star true = Dot ∷ Star ∷ []
spell_star false = []

-- a package line, from `package` through its semicolon (JLS 8, 7.4)
abbrev pub spell_package : DottedName → List TokenKind
spell_package q = Package ∷ (spell_dotted q ++ Semicolon ∷ [])

-- the package line of a file, or nothing where it has none (JLS 8, 7.4)
abbrev pub spell_package_line : Option DottedName → List TokenKind
spell_package_line None = []
spell_package_line (Some q) = spell_package q

-- an import of one type or of all, from `import` through its semicolon (JLS 8, 7.5)
abbrev pub spell_import : ImportTree → List TokenKind
spell_import i = Import ∷ (spell_dotted i.name ++ (spell_star i.all ++ Semicolon ∷ []))

-- the imports of a file, in their order
abbrev pub spell_imports : List ImportTree → List TokenKind
spell_imports [] = []
spell_imports (i ∷ rest) = spell_import i ++ spell_imports rest

-- the tokens that spell a whole file: its package line, its imports and its types (JLS 8, 7.3)
abbrev pub spell_file : SourceTree → List TokenKind
spell_file f = spell_package_line f.package_line ++ (spell_imports f.imports ++ spell_types f.types)
