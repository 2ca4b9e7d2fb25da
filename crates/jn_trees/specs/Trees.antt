-- Trees without the places where they stand (JLS 8, 7 to 9, 14 and 15). Names are by number.
use Rattle.std.specs.Prelude.{List, Bool, Option}
use Rattle.jn_base.specs.declared.number.NameNo.{NameNo}
use Rattle.jn_trees.specs.declared.expression.Literal.{Literal}
use Rattle.jn_trees.specs.declared.expression.UnaryOperator.{UnaryOperator}
use Rattle.jn_trees.specs.declared.expression.Step.{Step}
use Rattle.jn_trees.specs.declared.expression.BinaryOperator.{BinaryOperator}
use Rattle.jn_trees.specs.declared.expression.AssignOperator.{AssignOperator}

-- a type without brackets
pub data BaseTree : Type 0 where
  ClassBase : (name : NameNo) → BaseTree
  IntBase : BaseTree
  BooleanBase : BaseTree

-- expressions, and lists of them
mutual
  -- an expression, where parentheses are kept as they stand (JLS 8, 15)
  pub data Tree : Type 0 where
    LiteralTree : (literal : Literal) → Tree
    NameTree : (name : NameNo) → Tree
    ThisTree : Tree
    ParenTree : (inner : Tree) → Tree
    FieldTree : (target : Tree) (name : NameNo) → Tree
    CallTree : (target : Tree) (name : NameNo) (arguments : Trees) → Tree
    OwnCallTree : (name : NameNo) (arguments : Trees) → Tree
    SuperCallTree : (name : NameNo) (arguments : Trees) → Tree
    IndexTree : (array : Tree) (index : Tree) → Tree
    NewTree : (class : NameNo) (arguments : Trees) → Tree
    NewArrayTree : (annotations : List NameNo) (base : BaseTree) (size : Tree) → Tree
    ArrayOfTree : (annotations : List NameNo) (base : BaseTree) (elements : Trees) → Tree
    PostfixTree : (target : Tree) (step : Step) → Tree
    PrefixTree : (step : Step) (target : Tree) → Tree
    UnaryTree : (operator : UnaryOperator) (operand : Tree) → Tree
    CastTree : (class : NameNo) (operand : Tree) → Tree
    BinaryTree : (left : Tree) (operator : BinaryOperator) (right : Tree) → Tree
    InstanceOfTree : (operand : Tree) (class : NameNo) → Tree
    ConditionalTree : (condition : Tree) (first : Tree) (second : Tree) → Tree
    AssignTree : (target : Tree) (operator : AssignOperator) (value : Tree) → Tree

  -- a list of expressions: arguments, elements of an array, or parts of a `for`
  pub data Trees : Type 0 where
    NoTrees : Trees
    MoreTrees : (first : Tree) (rest : Trees) → Trees

-- what may stand before the type of a local or a parameter
pub data LocalMark : Type 0 where
  AnnotationMark : (name : NameNo) → LocalMark
  FinalMark : LocalMark

-- a use of a type; for an array the annotations before its brackets
pub record TypeUseTree : Type 0 where
  pub base : BaseTree
  pub array : Option (List NameNo)

-- a variable that a declaration names, with its initial value where it has one (JLS 8, 8.3 and 14.4)
pub record DeclaratorTree : Type 0 where
  pub name : NameNo
  pub value : Option Tree

-- a declaration of one or more locals of one type (JLS 8, 14.4)
pub record LocalTree : Type 0 where
  pub marks : List LocalMark
  pub type_use : TypeUseTree
  pub first : DeclaratorTree
  pub more : List DeclaratorTree

-- what a `for` begins with
pub data InitTree : Type 0 where
  ExpressionsInit : (expressions : Trees) → InitTree
  DeclarationInit : (declaration : LocalTree) → InitTree

-- statements, and lists of them
mutual
  -- a statement, also a constructor's call of another by `this` or `super` (JLS 8, 14 and 8.8.7.1)
  pub data Statement : Type 0 where
    BlockStatement : (body : Statements) → Statement
    EmptyStatement : Statement
    ExpressionStatement : (expression : Tree) → Statement
    BreakStatement : Statement
    ContinueStatement : Statement
    ReturnStatement : (value : Option Tree) → Statement
    LocalStatement : (declaration : LocalTree) → Statement
    IfStatement : (condition : Tree) (body : Statement) → Statement
    IfElseStatement : (condition : Tree) (body : Statement) (other : Statement) → Statement
    WhileStatement : (condition : Tree) (body : Statement) → Statement
    DoStatement : (body : Statement) (condition : Tree) → Statement
    ForStatement : (init : InitTree) (condition : Option Tree) (update : Trees) (body : Statement) → Statement
    ForEachStatement : (marks : List LocalMark) (type_use : TypeUseTree) (name : NameNo) (array : Tree) (body : Statement) → Statement
    ThisCallStatement : (arguments : Trees) → Statement
    SuperCallStatement : (arguments : Trees) → Statement

  -- a list of statements, as in a block or a body
  pub data Statements : Type 0 where
    NoStatements : Statements
    MoreStatements : (first : Statement) (rest : Statements) → Statements

-- what may stand before a type or a member
pub data Mark : Type 0 where
  NoteMark : (name : NameNo) → Mark
  PublicMark : Mark
  ProtectedMark : Mark
  PrivateMark : Mark
  StaticMark : Mark
  ConstantMark : Mark
  AbstractMark : Mark

-- a parameter of a method or a constructor: its modifiers, its type and its name (JLS 8, 8.4.1)
pub record ParameterTree : Type 0 where
  pub marks : List LocalMark
  pub type_use : TypeUseTree
  pub name : NameNo

-- the parameter `this` that a method may begin with: its annotations and the class it names (JLS 8, 8.4.1)
pub record ReceiverTree : Type 0 where
  pub annotations : List NameNo
  pub class : NameNo

-- a field, a method with its result or none, a constructor
pub data MemberTree : Type 0 where
  FieldMember : (marks : List Mark) (type_use : TypeUseTree) (first : DeclaratorTree) (more : List DeclaratorTree) → MemberTree
  MethodMember : (marks : List Mark) (result : Option TypeUseTree) (name : NameNo) (receiver : Option ReceiverTree) (parameters : List ParameterTree) (body : Option Statements) → MemberTree
  ConstructorMember : (marks : List Mark) (name : NameNo) (parameters : List ParameterTree) (body : Statements) → MemberTree

-- a class or an interface with its modifiers, the types it extends and implements, and its members (JLS 8, 8.1 and 9.1)
pub data TypeDeclaration : Type 0 where
  ClassType : (marks : List Mark) (name : NameNo) (parent : Option NameNo) (interfaces : List NameNo) (members : List MemberTree) → TypeDeclaration
  InterfaceType : (marks : List Mark) (name : NameNo) (parents : List NameNo) (members : List MemberTree) → TypeDeclaration

-- a name with dots
pub record DottedName : Type 0 where
  pub first : NameNo
  pub more : List NameNo

-- an import: its name, and whether `.*` stands after (JLS 8, 7.5)
pub record ImportTree : Type 0 where
  pub name : DottedName
  pub all : Bool

-- a source file: its package line where it has one, its imports and its types (JLS 8, 7.3)
pub record SourceTree : Type 0 where
  pub package_line : Option DottedName
  pub imports : List ImportTree
  pub types : List TypeDeclaration
