-- A tree without places whose names have other numbers: each by its entry in a list of numbers.
use Rattle.std.specs.Prelude.{List, map, Option, Some, None}
use Rattle.jn_base.specs.declared.number.NameNo.{NameNo}
use Rattle.jn_trees.specs.Trees.{BaseTree, ClassBase, IntBase, BooleanBase, Tree, Trees, LiteralTree, NameTree, ThisTree, ParenTree, FieldTree, CallTree, OwnCallTree, SuperCallTree, IndexTree, NewTree, NewArrayTree, ArrayOfTree, PostfixTree, PrefixTree, UnaryTree, CastTree, BinaryTree, InstanceOfTree, ConditionalTree, AssignTree, NoTrees, MoreTrees, LocalMark, AnnotationMark, FinalMark, TypeUseTree, DeclaratorTree, LocalTree, InitTree, ExpressionsInit, DeclarationInit, Statement, Statements, BlockStatement, EmptyStatement, ExpressionStatement, BreakStatement, ContinueStatement, ReturnStatement, LocalStatement, IfStatement, IfElseStatement, WhileStatement, DoStatement, ForStatement, ForEachStatement, ThisCallStatement, SuperCallStatement, NoStatements, MoreStatements, Mark, NoteMark, PublicMark, ProtectedMark, PrivateMark, StaticMark, ConstantMark, AbstractMark, ParameterTree, ReceiverTree, MemberTree, FieldMember, MethodMember, ConstructorMember, TypeDeclaration, ClassType, InterfaceType, DottedName, ImportTree, SourceTree}
use Rattle.jn_renumber.specs.Names.{entry, renumbered_literal}

abbrev pub entries : List NameNo → List NameNo → List NameNo
entries ns names = map (entry ns) names

abbrev pub base_by : List NameNo → BaseTree → BaseTree
base_by ns (ClassBase n) = ClassBase (entry ns n)
base_by ns IntBase = IntBase
base_by ns BooleanBase = BooleanBase

-- an expression
abbrev mutual
  pub tree_by : List NameNo → Tree → Tree
  tree_by ns (LiteralTree l) = LiteralTree (renumbered_literal ns l)
  tree_by ns (NameTree n) = NameTree (entry ns n)
  tree_by ns ThisTree = ThisTree
  tree_by ns (ParenTree e) = ParenTree (tree_by ns e)
  tree_by ns (FieldTree e n) = FieldTree (tree_by ns e) (entry ns n)
  tree_by ns (CallTree e n es) = CallTree (tree_by ns e) (entry ns n) (trees_by ns es)
  tree_by ns (OwnCallTree n es) = OwnCallTree (entry ns n) (trees_by ns es)
  tree_by ns (SuperCallTree n es) = SuperCallTree (entry ns n) (trees_by ns es)
  tree_by ns (IndexTree a b) = IndexTree (tree_by ns a) (tree_by ns b)
  tree_by ns (NewTree n es) = NewTree (entry ns n) (trees_by ns es)
  tree_by ns (NewArrayTree notes b e) = NewArrayTree (entries ns notes) (base_by ns b) (tree_by ns e)
  tree_by ns (ArrayOfTree notes b es) = ArrayOfTree (entries ns notes) (base_by ns b) (trees_by ns es)
  tree_by ns (PostfixTree e step) = PostfixTree (tree_by ns e) step
  tree_by ns (PrefixTree step e) = PrefixTree step (tree_by ns e)
  tree_by ns (UnaryTree o e) = UnaryTree o (tree_by ns e)
  tree_by ns (CastTree n e) = CastTree (entry ns n) (tree_by ns e)
  tree_by ns (BinaryTree a o b) = BinaryTree (tree_by ns a) o (tree_by ns b)
  tree_by ns (InstanceOfTree e n) = InstanceOfTree (tree_by ns e) (entry ns n)
  tree_by ns (ConditionalTree a b c) = ConditionalTree (tree_by ns a) (tree_by ns b) (tree_by ns c)
  tree_by ns (AssignTree a o b) = AssignTree (tree_by ns a) o (tree_by ns b)

  pub trees_by : List NameNo → Trees → Trees
  trees_by ns NoTrees = NoTrees
  trees_by ns (MoreTrees e rest) = MoreTrees (tree_by ns e) (trees_by ns rest)

abbrev pub optional_by : List NameNo → Option Tree → Option Tree
optional_by ns None = None
optional_by ns (Some e) = Some (tree_by ns e)

abbrev pub local_mark_by : List NameNo → LocalMark → LocalMark
local_mark_by ns (AnnotationMark n) = AnnotationMark (entry ns n)
local_mark_by ns FinalMark = FinalMark

abbrev pub local_marks_by : List NameNo → List LocalMark → List LocalMark
local_marks_by ns marks = map (local_mark_by ns) marks

abbrev pub brackets_by : List NameNo → Option (List NameNo) → Option (List NameNo)
brackets_by ns None = None
brackets_by ns (Some notes) = Some (entries ns notes)

abbrev pub type_use_by : List NameNo → TypeUseTree → TypeUseTree
type_use_by ns u = record { base = base_by ns u.base; array = brackets_by ns u.array }

abbrev pub declarator_by : List NameNo → DeclaratorTree → DeclaratorTree
declarator_by ns d = record { name = entry ns d.name; value = optional_by ns d.value }

abbrev pub declarators_by : List NameNo → List DeclaratorTree → List DeclaratorTree
declarators_by ns ds = map (declarator_by ns) ds

abbrev pub local_by : List NameNo → LocalTree → LocalTree
local_by ns l = record { marks = local_marks_by ns l.marks; type_use = type_use_by ns l.type_use; first = declarator_by ns l.first; more = declarators_by ns l.more }

abbrev pub init_by : List NameNo → InitTree → InitTree
init_by ns (ExpressionsInit es) = ExpressionsInit (trees_by ns es)
init_by ns (DeclarationInit l) = DeclarationInit (local_by ns l)

-- a statement
abbrev mutual
  pub statement_by : List NameNo → Statement → Statement
  statement_by ns (BlockStatement ss) = BlockStatement (statements_by ns ss)
  statement_by ns EmptyStatement = EmptyStatement
  statement_by ns (ExpressionStatement e) = ExpressionStatement (tree_by ns e)
  statement_by ns BreakStatement = BreakStatement
  statement_by ns ContinueStatement = ContinueStatement
  statement_by ns (ReturnStatement e) = ReturnStatement (optional_by ns e)
  statement_by ns (LocalStatement l) = LocalStatement (local_by ns l)
  statement_by ns (IfStatement c b) = IfStatement (tree_by ns c) (statement_by ns b)
  statement_by ns (IfElseStatement c b o) = IfElseStatement (tree_by ns c) (statement_by ns b) (statement_by ns o)
  statement_by ns (WhileStatement c b) = WhileStatement (tree_by ns c) (statement_by ns b)
  statement_by ns (DoStatement b c) = DoStatement (statement_by ns b) (tree_by ns c)
  statement_by ns (ForStatement i c us b) = ForStatement (init_by ns i) (optional_by ns c) (trees_by ns us) (statement_by ns b)
  statement_by ns (ForEachStatement ms u n e b) = ForEachStatement (local_marks_by ns ms) (type_use_by ns u) (entry ns n) (tree_by ns e) (statement_by ns b)
  statement_by ns (ThisCallStatement es) = ThisCallStatement (trees_by ns es)
  statement_by ns (SuperCallStatement es) = SuperCallStatement (trees_by ns es)

  pub statements_by : List NameNo → Statements → Statements
  statements_by ns NoStatements = NoStatements
  statements_by ns (MoreStatements s rest) = MoreStatements (statement_by ns s) (statements_by ns rest)

abbrev pub mark_by : List NameNo → Mark → Mark
mark_by ns (NoteMark n) = NoteMark (entry ns n)
mark_by ns PublicMark = PublicMark
mark_by ns ProtectedMark = ProtectedMark
mark_by ns PrivateMark = PrivateMark
mark_by ns StaticMark = StaticMark
mark_by ns ConstantMark = ConstantMark
mark_by ns AbstractMark = AbstractMark

abbrev pub marks_by : List NameNo → List Mark → List Mark
marks_by ns marks = map (mark_by ns) marks

abbrev pub parameter_by : List NameNo → ParameterTree → ParameterTree
parameter_by ns p = record { marks = local_marks_by ns p.marks; type_use = type_use_by ns p.type_use; name = entry ns p.name }

abbrev pub parameters_by : List NameNo → List ParameterTree → List ParameterTree
parameters_by ns ps = map (parameter_by ns) ps

abbrev pub receiver_by : List NameNo → Option ReceiverTree → Option ReceiverTree
receiver_by ns None = None
receiver_by ns (Some r) = Some (record { annotations = entries ns r.annotations; class = entry ns r.class })

abbrev pub result_by : List NameNo → Option TypeUseTree → Option TypeUseTree
result_by ns None = None
result_by ns (Some u) = Some (type_use_by ns u)

abbrev pub body_by : List NameNo → Option Statements → Option Statements
body_by ns None = None
body_by ns (Some ss) = Some (statements_by ns ss)

abbrev pub member_by : List NameNo → MemberTree → MemberTree
member_by ns (FieldMember ms u d ds) = FieldMember (marks_by ns ms) (type_use_by ns u) (declarator_by ns d) (declarators_by ns ds)
member_by ns (MethodMember ms u n r ps body) = MethodMember (marks_by ns ms) (result_by ns u) (entry ns n) (receiver_by ns r) (parameters_by ns ps) (body_by ns body)
member_by ns (ConstructorMember ms n ps body) = ConstructorMember (marks_by ns ms) (entry ns n) (parameters_by ns ps) (statements_by ns body)

abbrev pub members_by : List NameNo → List MemberTree → List MemberTree
members_by ns ms = map (member_by ns) ms

abbrev pub parent_by : List NameNo → Option NameNo → Option NameNo
parent_by ns None = None
parent_by ns (Some n) = Some (entry ns n)

abbrev pub type_by : List NameNo → TypeDeclaration → TypeDeclaration
type_by ns (ClassType ms n parent interfaces members) = ClassType (marks_by ns ms) (entry ns n) (parent_by ns parent) (entries ns interfaces) (members_by ns members)
type_by ns (InterfaceType ms n parents members) = InterfaceType (marks_by ns ms) (entry ns n) (entries ns parents) (members_by ns members)

abbrev pub dotted_by : List NameNo → DottedName → DottedName
dotted_by ns q = record { first = entry ns q.first; more = entries ns q.more }

abbrev pub package_by : List NameNo → Option DottedName → Option DottedName
package_by ns None = None
package_by ns (Some q) = Some (dotted_by ns q)

abbrev pub import_by : List NameNo → ImportTree → ImportTree
import_by ns i = record { name = dotted_by ns i.name; all = i.all }

-- a file
abbrev pub file_by : List NameNo → SourceTree → SourceTree
file_by ns f = record { package_line = package_by ns f.package_line; imports = map (import_by ns) f.imports; types = map (type_by ns) f.types }
