-- The tree of what lies in memory, without its places.
use Rattle.std.specs.Prelude.{List, [], ◌∷◌, map, Option, Some, None, Vec}
use Rattle.std.specs.declared.alloc.Global.{Global}
use Rattle.std.specs.Global.{Box}
use Rattle.jn_base.specs.declared.number.NameNo.{NameNo}
use Rattle.jn_trees.specs.declared.expression.Annotation.{Annotation}
use Rattle.jn_trees.specs.declared.expression.Identifier.{Identifier}
use Rattle.jn_trees.specs.declared.expression.Base.{Base}
use Rattle.jn_trees.specs.declared.expression.Base.TheVariants.{Class as ClassUse, Int as IntUse, Boolean as BooleanUse}
use Rattle.jn_trees.specs.declared.expression.Expr.{Expr, Literal, Name, This, Paren', Field', Call', OwnCall', SuperCall', Index', New', NewArray', ArrayOf', Postfix', Prefix', Unary', Cast', Binary', InstanceOf', Conditional', Assign', Row_of-Expr, end_of-Expr, more_of-Expr}
use Rattle.jn_trees.specs.declared.statement.LocalModifier.{LocalModifier}
use Rattle.jn_trees.specs.declared.statement.LocalModifier.TheVariants.{Annotation as LocalAnnotation, Final as LocalFinal}
use Rattle.jn_trees.specs.declared.statement.TypeUse.{TypeUse}
use Rattle.jn_trees.specs.declared.statement.Declarator.{Declarator}
use Rattle.jn_trees.specs.declared.statement.LocalDeclaration.{LocalDeclaration}
use Rattle.jn_trees.specs.declared.statement.ForInit.{ForInit}
use Rattle.jn_trees.specs.declared.statement.ForInit.TheVariants.{Expressions, Declaration}
use Rattle.jn_trees.specs.declared.statement.ForHead.{ForHead}
use Rattle.jn_trees.specs.declared.statement.Stmt.{Stmt, Block', Empty, Expression, Break, Continue, Return, Local, If', IfElse', While', Do', For', ForEach', ThisCall, SuperCall, Row_of-Stmt, end_of-Stmt, more_of-Stmt}
use Rattle.jn_trees.specs.declared.declaration.Modifier.{Modifier}
use Rattle.jn_trees.specs.declared.declaration.Modifier.TheVariants.{Annotation as NoteOf, Public, Protected, Private, Static, Final, Abstract}
use Rattle.jn_trees.specs.declared.declaration.Parameter.{Parameter}
use Rattle.jn_trees.specs.declared.declaration.Receiver.{Receiver}
use Rattle.jn_trees.specs.declared.declaration.ResultUse.{ResultUse}
use Rattle.jn_trees.specs.declared.declaration.ResultUse.TheVariants.{Void, Value}
use Rattle.jn_trees.specs.declared.declaration.Member.{Member}
use Rattle.jn_trees.specs.declared.declaration.Member.TheVariants.{Field as FieldOf, Method, Constructor}
use Rattle.jn_trees.specs.declared.declaration.TypeTree.{TypeTree}
use Rattle.jn_trees.specs.declared.declaration.TypeTree.TheVariants.{Class, Interface}
use Rattle.jn_trees.specs.declared.declaration.QualifiedName.{QualifiedName}
use Rattle.jn_trees.specs.declared.declaration.PackageLine.{PackageLine}
use Rattle.jn_trees.specs.declared.declaration.Import.{Import}
use Rattle.jn_trees.specs.declared.declaration.FileTree.{FileTree}
use Rattle.jn_trees.specs.Trees.{BaseTree, ClassBase, IntBase, BooleanBase, Tree, Trees, LiteralTree, NameTree, ThisTree, ParenTree, FieldTree, CallTree, OwnCallTree, SuperCallTree, IndexTree, NewTree, NewArrayTree, ArrayOfTree, PostfixTree, PrefixTree, UnaryTree, CastTree, BinaryTree, InstanceOfTree, ConditionalTree, AssignTree, NoTrees, MoreTrees, LocalMark, AnnotationMark, FinalMark, TypeUseTree, DeclaratorTree, LocalTree, InitTree, ExpressionsInit, DeclarationInit, Statement, Statements, BlockStatement, EmptyStatement, ExpressionStatement, BreakStatement, ContinueStatement, ReturnStatement, LocalStatement, IfStatement, IfElseStatement, WhileStatement, DoStatement, ForStatement, ForEachStatement, ThisCallStatement, SuperCallStatement, NoStatements, MoreStatements, Mark, NoteMark, PublicMark, ProtectedMark, PrivateMark, StaticMark, ConstantMark, AbstractMark, ParameterTree, ReceiverTree, MemberTree, FieldMember, MethodMember, ConstructorMember, TypeDeclaration, ClassType, InterfaceType, DottedName, ImportTree, SourceTree}

-- the names of annotations, by number, in their order
abbrev pub annotation_names : List Annotation → List NameNo
annotation_names annotations = map (λ (a : Annotation). a.name) annotations

-- the names of identifiers, by number, in their order
abbrev pub identifier_names : List Identifier → List NameNo
identifier_names names = map (λ (n : Identifier). n.name) names

-- a type without brackets: a class by its name's number, `int` or `boolean`
abbrev pub base_view : Base → BaseTree
base_view (ClassUse n) = ClassBase n.name
base_view (IntUse s) = IntBase
base_view (BooleanUse s) = BooleanBase

-- an expression
abbrev mutual
  -- the tree of an expression in memory: what it says, without the places where its parts stand
  pub view : Expr → Tree
  view (Literal l s) = LiteralTree l
  view (Name n) = NameTree n.name
  view (This s) = ThisTree
  view (Paren' p e s) = ParenTree (view e)
  view (Field' p e n s) = FieldTree (view e) n.name
  view (Call' p e n shape es s) = CallTree (view e) n.name (view_row es)
  view (OwnCall' n shape es s) = OwnCallTree n.name (view_row es)
  view (SuperCall' n shape es s) = SuperCallTree n.name (view_row es)
  view (Index' p a q b s) = IndexTree (view a) (view b)
  view (New' n shape es s) = NewTree n.name (view_row es)
  view (NewArray' t p e s) = NewArrayTree (annotation_names t.value.annotations.items) (base_view t.value.base) (view e)
  view (ArrayOf' t shape es s) = ArrayOfTree (annotation_names t.value.annotations.items) (base_view t.value.base) (view_row es)
  view (Postfix' p e step s) = PostfixTree (view e) step
  view (Prefix' step p e s) = PrefixTree step (view e)
  view (Unary' o p e s) = UnaryTree o (view e)
  view (Cast' n p e s) = CastTree n.name (view e)
  view (Binary' p a o q b s) = BinaryTree (view a) o (view b)
  view (InstanceOf' p e n s) = InstanceOfTree (view e) n.name
  view (Conditional' p a q b r c s) = ConditionalTree (view a) (view b) (view c)
  view (Assign' p a o q b s) = AssignTree (view a) o (view b)

  -- the trees of the row of arguments or elements that an expression holds
  pub view_row : {m : _} → Row_of-Expr m → Trees
  view_row end_of-Expr = NoTrees
  view_row (more_of-Expr e rest) = MoreTrees (view e) (view_row rest)

-- the trees of a list of expressions, as the head of a `for` or the call of another constructor holds it
abbrev pub views : List Expr → Trees
views [] = NoTrees
views (e ∷ es) = MoreTrees (view e) (views es)

-- the tree of an expression that may be left out, or none where it is
abbrev pub optional_view : Option (Box Expr) → Option Tree
optional_view None = None
optional_view (Some e) = Some (view e.value)

-- a modifier of a local or a parameter: `final`, or an annotation by its name's number
abbrev pub local_mark : LocalModifier → LocalMark
local_mark (LocalAnnotation a) = AnnotationMark a.name
local_mark (LocalFinal s) = FinalMark

-- the modifiers of a local or a parameter, in their order
abbrev pub local_marks : List LocalModifier → List LocalMark
local_marks ms = map local_mark ms

-- the names of the annotations before the brackets of an array, or none where the type is no array
abbrev pub brackets_view : Option (Vec Annotation Global) → Option (List NameNo)
brackets_view None = None
brackets_view (Some v) = Some (annotation_names v.items)

-- a type where it is used: its base, and its brackets where it is an array
abbrev pub type_use_view : TypeUse → TypeUseTree
type_use_view u = record { base = base_view u.base; array = brackets_view u.array }

-- a variable of a declaration: its name's number, and its initial value where it has one
abbrev pub declarator_view : Declarator → DeclaratorTree
declarator_view d = record { name = d.name.name; value = optional_view d.value }

-- the variables of a declaration, in their order
abbrev pub declarator_views : List Declarator → List DeclaratorTree
declarator_views ds = map declarator_view ds

-- a declaration of locals: their modifiers, their type, and the variables with their initial values
abbrev pub local_view : LocalDeclaration → LocalTree
local_view l = record { marks = local_marks l.modifiers.items; type_use = type_use_view l.type_use; first = declarator_view l.first; more = declarator_views l.more.items }

-- what a `for` begins with: expressions, or a declaration of locals
abbrev pub init_view : ForInit → InitTree
init_view (Expressions es) = ExpressionsInit (views es.items)
init_view (Declaration l) = DeclarationInit (local_view l.value)

-- a statement
abbrev mutual
  -- the tree of a statement in memory: what it says, without the places where its parts stand
  pub statement_view : Stmt → Statement
  statement_view (Block' shape ss s) = BlockStatement (statement_row ss)
  statement_view (Empty s) = EmptyStatement
  statement_view (Expression e s) = ExpressionStatement (view e.value)
  statement_view (Break s) = BreakStatement
  statement_view (Continue s) = ContinueStatement
  statement_view (Return e s) = ReturnStatement (optional_view e)
  statement_view (Local l s) = LocalStatement (local_view l.value)
  statement_view (If' c p b s) = IfStatement (view c.value) (statement_view b)
  statement_view (IfElse' c p b q o s) = IfElseStatement (view c.value) (statement_view b) (statement_view o)
  statement_view (While' c p b s) = WhileStatement (view c.value) (statement_view b)
  statement_view (Do' p b c s) = DoStatement (statement_view b) (view c.value)
  statement_view (For' h p b s) = ForStatement (init_view h.value.init) (optional_view h.value.condition) (views h.value.update.items) (statement_view b)
  statement_view (ForEach' v e p b s) = ForEachStatement (local_marks v.value.modifiers.items) (type_use_view v.value.type_use) v.value.name.name (view e.value) (statement_view b)
  statement_view (ThisCall es s) = ThisCallStatement (views es.items)
  statement_view (SuperCall es s) = SuperCallStatement (views es.items)

  -- the trees of the row of statements that a block holds
  pub statement_row : {m : _} → Row_of-Stmt m → Statements
  statement_row end_of-Stmt = NoStatements
  statement_row (more_of-Stmt s rest) = MoreStatements (statement_view s) (statement_row rest)

-- the trees of a list of statements, as the body of a method or a constructor holds it
abbrev pub statement_views : List Stmt → Statements
statement_views [] = NoStatements
statement_views (s ∷ ss) = MoreStatements (statement_view s) (statement_views ss)

-- a modifier of a type or a member: its word, or an annotation by its name's number
abbrev pub mark : Modifier → Mark
mark (NoteOf a) = NoteMark a.name
mark (Public s) = PublicMark
mark (Protected s) = ProtectedMark
mark (Private s) = PrivateMark
mark (Static s) = StaticMark
mark (Final s) = ConstantMark
mark (Abstract s) = AbstractMark

-- the modifiers of a type or a member, in their order
abbrev pub marks : List Modifier → List Mark
marks ms = map mark ms

-- a parameter of a method or a constructor: its modifiers, its type and its name's number
abbrev pub parameter_view : Parameter → ParameterTree
parameter_view p = record { marks = local_marks p.modifiers.items; type_use = type_use_view p.type_use; name = p.name.name }

-- the parameters of a method or a constructor, in their order
abbrev pub parameter_views : List Parameter → List ParameterTree
parameter_views ps = map parameter_view ps

-- the parameter `this` with its annotations and its class, or none where the method has none written
abbrev pub receiver_view : Option Receiver → Option ReceiverTree
receiver_view None = None
receiver_view (Some r) = Some (record { annotations = annotation_names r.annotations.items; class = r.class.name })

-- the type of what a method returns, or none for `void`
abbrev pub result_view : ResultUse → Option TypeUseTree
result_view (Void s) = None
result_view (Value u) = Some (type_use_view u)

-- the statements of a method's body, or none where a semicolon stands for it
abbrev pub body_view : Option (Vec Stmt Global) → Option Statements
body_view None = None
body_view (Some v) = Some (statement_views v.items)

-- a field declaration, a method or a constructor with all that it holds
abbrev pub member_view : Member → MemberTree
member_view (FieldOf ms u d ds s) = FieldMember (marks ms.items) (type_use_view u) (declarator_view d) (declarator_views ds.items)
member_view (Method ms u n r ps body s) = MethodMember (marks ms.items) (result_view u) n.name (receiver_view r) (parameter_views ps.items) (body_view body)
member_view (Constructor ms n ps body s) = ConstructorMember (marks ms.items) n.name (parameter_views ps.items) (statement_views body.items)

-- the members of a type, in their order
abbrev pub member_views : List Member → List MemberTree
member_views ms = map member_view ms

-- the number of the superclass's name, or none where no `extends` stands
abbrev pub parent_view : Option Identifier → Option NameNo
parent_view None = None
parent_view (Some n) = Some n.name

-- a class or an interface: its modifiers, its name, the types it extends and implements, and its members
abbrev pub type_view : TypeTree → TypeDeclaration
type_view (Class ms n parent interfaces members s) = ClassType (marks ms.items) n.name (parent_view parent) (identifier_names interfaces.items) (member_views members.items)
type_view (Interface ms n parents members s) = InterfaceType (marks ms.items) n.name (identifier_names parents.items) (member_views members.items)

-- a name with dots, by the numbers of its parts
abbrev pub dotted_view : QualifiedName → DottedName
dotted_view q = record { first = q.first.name; more = identifier_names q.more.items }

-- the name in the package line, or none where the file has no such line
abbrev pub package_view : Option PackageLine → Option DottedName
package_view None = None
package_view (Some p) = Some (dotted_view p.name)

-- an import: its name by numbers, and whether `.*` stands after
abbrev pub import_view : Import → ImportTree
import_view i = record { name = dotted_view i.name; all = i.all }

-- a file
abbrev pub file_view : FileTree → SourceTree
file_view f = record { package_line = package_view f.package; imports = map import_view f.imports.items; types = map type_view f.types.items }
