-- A renumbered tree is spelled by the renumbered tokens.
use Rattle.std.proofs.Common.{◌≡◌, List, [], ◌∷◌, ◌++◌, Bool, true, false, Option, Some, None, map, refl, ap, sym, ◌∙◌}
use Rattle.std.proofs.lemmas.List.{map-append}
use Rattle.jn_base.specs.declared.number.NameNo.{NameNo}
use Rattle.jn_trees.specs.declared.token.TokenKind.{TokenKind}
use Rattle.jn_trees.specs.declared.token.TokenKind.TheVariants.{RightParen, RightBrace, Semicolon, Implements, Extends}
use Rattle.jn_trees.specs.declared.expression.Literal.{Literal}
use Rattle.jn_trees.specs.declared.expression.Literal.TheVariants.{Number, Str, True, False, Null}
use Rattle.jn_trees.specs.declared.expression.UnaryOperator.{UnaryOperator}
use Rattle.jn_trees.specs.declared.expression.UnaryOperator.TheVariants.{Plus as PlusSign, Minus as MinusSign, Not as NotSign}
use Rattle.jn_trees.specs.declared.expression.Step.{Step}
use Rattle.jn_trees.specs.declared.expression.Step.TheVariants.{Increment, Decrement}
use Rattle.jn_trees.specs.declared.expression.BinaryOperator.{BinaryOperator}
use Rattle.jn_trees.specs.declared.expression.BinaryOperator.TheVariants.{Multiply, Divide, Remainder, Add, Subtract, Less as LessThan, Greater as GreaterThan, LessEqual as AtMost, GreaterEqual as AtLeast, Equal, NotEqual as Unequal, And, Or}
use Rattle.jn_trees.specs.declared.expression.AssignOperator.{AssignOperator}
use Rattle.jn_trees.specs.declared.expression.AssignOperator.TheVariants.{Assign as Simple, Add as AddTo, Subtract as SubtractFrom, Multiply as MultiplyBy, Divide as DivideBy, Remainder as RemainderBy}
use Rattle.jn_trees.specs.Trees.{BaseTree, ClassBase, IntBase, BooleanBase, Tree, Trees, LiteralTree, NameTree, ThisTree, ParenTree, FieldTree, CallTree, OwnCallTree, SuperCallTree, IndexTree, NewTree, NewArrayTree, ArrayOfTree, PostfixTree, PrefixTree, UnaryTree, CastTree, BinaryTree, InstanceOfTree, ConditionalTree, AssignTree, NoTrees, MoreTrees, LocalMark, AnnotationMark, FinalMark, TypeUseTree, DeclaratorTree, LocalTree, InitTree, ExpressionsInit, DeclarationInit, Statement, Statements, BlockStatement, EmptyStatement, ExpressionStatement, BreakStatement, ContinueStatement, ReturnStatement, LocalStatement, IfStatement, IfElseStatement, WhileStatement, DoStatement, ForStatement, ForEachStatement, ThisCallStatement, SuperCallStatement, NoStatements, MoreStatements, Mark, NoteMark, PublicMark, ProtectedMark, PrivateMark, StaticMark, ConstantMark, AbstractMark, ParameterTree, ReceiverTree, MemberTree, FieldMember, MethodMember, ConstructorMember, TypeDeclaration, ClassType, InterfaceType, DottedName, ImportTree, SourceTree}
use Rattle.jn_trees.specs.Spelling.{literal_token, sign_token, step_token, operator_token, assign_token, base_token, spell_annotations, spell, spell_list, spell_more, spell_marks, spell_brackets, spell_type_use, spell_value, spell_declarator, spell_more_declarators, spell_local, spell_init, spell_optional, spell_statement, spell_body, spell_mark, spell_all_marks, spell_parameter, spell_more_parameters, spell_parameters, spell_result, spell_method_body, spell_field, spell_method_head, spell_constructor_head, spell_class_head, spell_interface_head, spell_member, spell_members, spell_more_names, spell_names, spell_parent, spell_type, spell_types, spell_dots, spell_star, spell_package_line, spell_import, spell_imports, spell_file}
use Rattle.jn_renumber.specs.Names.{entry, renumbered_literal}
use Rattle.jn_renumber.specs.ByNumbers.{entries, base_by, tree_by, trees_by, optional_by, local_marks_by, brackets_by, type_use_by, declarator_by, declarators_by, local_by, init_by, statement_by, statements_by, mark_by, marks_by, parameter_by, parameters_by, receiver_by, result_by, body_by, member_by, members_by, parent_by, type_by, package_by, import_by, file_by}
use Rattle.jn_renumber.specs.Tokens.{kind_by}

module _ (ns : List NameNo) where
  abbrev by : List TokenKind → List TokenKind
  by ks = map (kind_by ns) ks

  pub two_parts : (ks ls ms os : List TokenKind) → ks ≡ by ms → ls ≡ by os → ks ++ ls ≡ by (ms ++ os)
  two_parts ks ls ms os p q = ap (λ r. r ++ ls) p ∙ ap (λ r. by ms ++ r) q ∙ sym (map-append (kind_by ns) ms os)

  literal_spelled : (l : Literal) → literal_token (renumbered_literal ns l) ≡ kind_by ns (literal_token l)
  literal_spelled (Number n) = refl
  literal_spelled (Str n) = refl
  literal_spelled True = refl
  literal_spelled False = refl
  literal_spelled Null = refl

  pub sign_spelled : (o : UnaryOperator) → kind_by ns (sign_token o) ≡ sign_token o
  sign_spelled PlusSign = refl
  sign_spelled MinusSign = refl
  sign_spelled NotSign = refl

  pub step_spelled : (s : Step) → kind_by ns (step_token s) ≡ step_token s
  step_spelled Increment = refl
  step_spelled Decrement = refl

  pub operator_spelled : (o : BinaryOperator) → kind_by ns (operator_token o) ≡ operator_token o
  operator_spelled Multiply = refl
  operator_spelled Divide = refl
  operator_spelled Remainder = refl
  operator_spelled Add = refl
  operator_spelled Subtract = refl
  operator_spelled LessThan = refl
  operator_spelled GreaterThan = refl
  operator_spelled AtMost = refl
  operator_spelled AtLeast = refl
  operator_spelled Equal = refl
  operator_spelled Unequal = refl
  operator_spelled And = refl
  operator_spelled Or = refl

  pub assign_spelled : (o : AssignOperator) → kind_by ns (assign_token o) ≡ assign_token o
  assign_spelled Simple = refl
  assign_spelled AddTo = refl
  assign_spelled SubtractFrom = refl
  assign_spelled MultiplyBy = refl
  assign_spelled DivideBy = refl
  assign_spelled RemainderBy = refl

  pub base_spelled : (b : BaseTree) → base_token (base_by ns b) ≡ kind_by ns (base_token b)
  base_spelled (ClassBase n) = refl
  base_spelled IntBase = refl
  base_spelled BooleanBase = refl

  pub notes_spelled : (names : List NameNo) → spell_annotations (entries ns names) ≡ by (spell_annotations names)
  notes_spelled [] = refl
  notes_spelled (n ∷ names) = simp (notes_spelled names)

  mutual
    pub spelled : (e : Tree) → spell (tree_by ns e) ≡ by (spell e)
    spelled (LiteralTree l) = simp (literal_spelled l)
    spelled (NameTree n) = refl
    spelled ThisTree = refl
    spelled (ParenTree e) = simp (spelled e, map-append)
    spelled (FieldTree e n) = simp (spelled e, map-append)
    spelled (CallTree e n es) = simp (spelled e, list_spelled RightParen refl es, map-append)
    spelled (OwnCallTree n es) = simp (list_spelled RightParen refl es)
    spelled (SuperCallTree n es) = simp (list_spelled RightParen refl es)
    spelled (IndexTree a b) = simp (spelled a, spelled b, map-append)
    spelled (NewTree n es) = simp (list_spelled RightParen refl es)
    spelled (NewArrayTree notes b e) = simp (notes_spelled notes, base_spelled b, spelled e, map-append)
    spelled (ArrayOfTree notes b es) = simp (notes_spelled notes, base_spelled b, list_spelled RightBrace refl es, map-append)
    spelled (PostfixTree e s) = simp (spelled e, step_spelled s, map-append)
    spelled (PrefixTree s e) = simp (spelled e, step_spelled s)
    spelled (UnaryTree o e) = simp (spelled e, sign_spelled o)
    spelled (CastTree n e) = simp (spelled e)
    spelled (BinaryTree a o b) = simp (spelled a, spelled b, operator_spelled o, map-append)
    spelled (InstanceOfTree e n) = simp (spelled e, map-append)
    spelled (ConditionalTree a b c) = simp (spelled a, spelled b, spelled c, map-append)
    spelled (AssignTree a o b) = simp (spelled a, spelled b, assign_spelled o, map-append)

    pub list_spelled : (end : TokenKind) → kind_by ns end ≡ end → (es : Trees) → spell_list end (trees_by ns es) ≡ by (spell_list end es)
    list_spelled end fixed NoTrees = simp fixed
    list_spelled end fixed (MoreTrees e rest) = simp (spelled e, more_spelled end fixed rest, map-append)

    more_spelled : (end : TokenKind) → kind_by ns end ≡ end → (es : Trees) → spell_more end (trees_by ns es) ≡ by (spell_more end es)
    more_spelled end fixed NoTrees = simp fixed
    more_spelled end fixed (MoreTrees e rest) = simp (spelled e, more_spelled end fixed rest, map-append)

  pub local_marks_spelled : (ms : List LocalMark) → spell_marks (local_marks_by ns ms) ≡ by (spell_marks ms)
  local_marks_spelled [] = refl
  local_marks_spelled (AnnotationMark n ∷ ms) = simp (local_marks_spelled ms)
  local_marks_spelled (FinalMark ∷ ms) = simp (local_marks_spelled ms)

  brackets_spelled : (b : Option (List NameNo)) → spell_brackets (brackets_by ns b) ≡ by (spell_brackets b)
  brackets_spelled None = refl
  brackets_spelled (Some notes) = simp (notes_spelled notes, map-append)

  pub type_use_spelled : (u : TypeUseTree) → spell_type_use (type_use_by ns u) ≡ by (spell_type_use u)
  type_use_spelled u = simp (base_spelled u.base, brackets_spelled u.array)

  value_spelled : (e : Option Tree) → spell_value (optional_by ns e) ≡ by (spell_value e)
  value_spelled None = refl
  value_spelled (Some e) = simp (spelled e)

  pub declarator_spelled : (d : DeclaratorTree) → spell_declarator (declarator_by ns d) ≡ by (spell_declarator d)
  declarator_spelled d = simp (value_spelled d.value)

  pub declarators_spelled : (ds : List DeclaratorTree) → spell_more_declarators (declarators_by ns ds) ≡ by (spell_more_declarators ds)
  declarators_spelled [] = refl
  declarators_spelled (d ∷ ds) = simp (value_spelled d.value, declarators_spelled ds, map-append)

  pub local_spelled : (l : LocalTree) → spell_local (local_by ns l) ≡ by (spell_local l)
  local_spelled l = simp (local_marks_spelled l.marks, base_spelled l.type_use.base, brackets_spelled l.type_use.array, value_spelled l.first.value, declarators_spelled l.more, map-append)

  pub init_spelled : (i : InitTree) → spell_init (init_by ns i) ≡ by (spell_init i)
  init_spelled (ExpressionsInit es) = list_spelled Semicolon refl es
  init_spelled (DeclarationInit l) = simp (local_spelled l, map-append)

  pub optional_spelled : (e : Option Tree) → spell_optional (optional_by ns e) ≡ by (spell_optional e)
  optional_spelled None = refl
  optional_spelled (Some e) = spelled e

  mutual
    pub statement_spelled : (s : Statement) → spell_statement (statement_by ns s) ≡ by (spell_statement s)
    statement_spelled (BlockStatement ss) = simp (body_spelled ss)
    statement_spelled EmptyStatement = refl
    statement_spelled (ExpressionStatement e) = simp (spelled e, map-append)
    statement_spelled BreakStatement = refl
    statement_spelled ContinueStatement = refl
    statement_spelled (ReturnStatement e) = simp (optional_spelled e, map-append)
    statement_spelled (LocalStatement l) = simp (local_spelled l, map-append)
    statement_spelled (IfStatement c s) = simp (spelled c, statement_spelled s, map-append)
    statement_spelled (IfElseStatement c s u) = simp (spelled c, statement_spelled s, statement_spelled u, map-append)
    statement_spelled (WhileStatement c s) = simp (spelled c, statement_spelled s, map-append)
    statement_spelled (DoStatement s c) = simp (spelled c, statement_spelled s, map-append)
    statement_spelled (ForStatement i c us s) = simp (init_spelled i, optional_spelled c, list_spelled RightParen refl us, statement_spelled s, map-append)
    statement_spelled (ForEachStatement ms u n e s) = simp (local_marks_spelled ms, base_spelled u.base, brackets_spelled u.array, spelled e, statement_spelled s, map-append)
    statement_spelled (ThisCallStatement es) = simp (list_spelled RightParen refl es, map-append)
    statement_spelled (SuperCallStatement es) = simp (list_spelled RightParen refl es, map-append)

    pub body_spelled : (ss : Statements) → spell_body (statements_by ns ss) ≡ by (spell_body ss)
    body_spelled NoStatements = refl
    body_spelled (MoreStatements s ss) = simp (statement_spelled s, body_spelled ss, map-append)

  pub mark_spelled : (m : Mark) → spell_mark (mark_by ns m) ≡ by (spell_mark m)
  mark_spelled (NoteMark n) = refl
  mark_spelled PublicMark = refl
  mark_spelled ProtectedMark = refl
  mark_spelled PrivateMark = refl
  mark_spelled StaticMark = refl
  mark_spelled ConstantMark = refl
  mark_spelled AbstractMark = refl

  pub marks_spelled : (ms : List Mark) → spell_all_marks (marks_by ns ms) ≡ by (spell_all_marks ms)
  marks_spelled [] = refl
  marks_spelled (m ∷ ms) = simp (mark_spelled m, marks_spelled ms, map-append)

  pub parameter_spelled : (p : ParameterTree) → spell_parameter (parameter_by ns p) ≡ by (spell_parameter p)
  parameter_spelled p = simp (local_marks_spelled p.marks, base_spelled p.type_use.base, brackets_spelled p.type_use.array, map-append)

  pub more_parameters_spelled : (ps : List ParameterTree) → spell_more_parameters (parameters_by ns ps) ≡ by (spell_more_parameters ps)
  more_parameters_spelled [] = refl
  more_parameters_spelled (p ∷ ps) = simp (parameter_spelled p, more_parameters_spelled ps, map-append)

  pub parameters_spelled : (r : Option ReceiverTree) (ps : List ParameterTree) → spell_parameters (receiver_by ns r) (parameters_by ns ps) ≡ by (spell_parameters r ps)
  parameters_spelled None [] = refl
  parameters_spelled None (p ∷ ps) = simp (parameter_spelled p, more_parameters_spelled ps, map-append)
  parameters_spelled (Some r) ps = simp (notes_spelled r.annotations, more_parameters_spelled ps, map-append)

  pub result_spelled : (u : Option TypeUseTree) → spell_result (result_by ns u) ≡ by (spell_result u)
  result_spelled None = refl
  result_spelled (Some u) = type_use_spelled u

  method_body_spelled : (b : Option Statements) → spell_method_body (body_by ns b) ≡ by (spell_method_body b)
  method_body_spelled None = refl
  method_body_spelled (Some ss) = simp (body_spelled ss)

  pub field_spelled : (ms : List Mark) (u : TypeUseTree) (d : DeclaratorTree) (ds : List DeclaratorTree) → spell_field (marks_by ns ms) (type_use_by ns u) (declarator_by ns d) (declarators_by ns ds) ≡ by (spell_field ms u d ds)
  field_spelled ms u d ds = simp (marks_spelled ms, base_spelled u.base, brackets_spelled u.array, value_spelled d.value, declarators_spelled ds, map-append)

  pub method_head_spelled : (ms : List Mark) (u : Option TypeUseTree) (n : NameNo) (r : Option ReceiverTree) (ps : List ParameterTree) → spell_method_head (marks_by ns ms) (result_by ns u) (entry ns n) (receiver_by ns r) (parameters_by ns ps) ≡ by (spell_method_head ms u n r ps)
  method_head_spelled ms u n r ps = simp (marks_spelled ms, result_spelled u, parameters_spelled r ps, map-append)

  pub constructor_head_spelled : (ms : List Mark) (n : NameNo) (ps : List ParameterTree) → spell_constructor_head (marks_by ns ms) (entry ns n) (parameters_by ns ps) ≡ by (spell_constructor_head ms n ps)
  constructor_head_spelled ms n ps = simp (marks_spelled ms, parameters_spelled None ps, map-append)

  pub member_spelled : (m : MemberTree) → spell_member (member_by ns m) ≡ by (spell_member m)
  member_spelled (FieldMember ms u d ds) = simp (marks_spelled ms, base_spelled u.base, brackets_spelled u.array, value_spelled d.value, declarators_spelled ds, map-append)
  member_spelled (MethodMember ms u n r ps body) = simp (marks_spelled ms, result_spelled u, parameters_spelled r ps, method_body_spelled body, map-append)
  member_spelled (ConstructorMember ms n ps ss) = simp (marks_spelled ms, parameters_spelled None ps, body_spelled ss, map-append)

  pub members_spelled : (ms : List MemberTree) → spell_members (members_by ns ms) ≡ by (spell_members ms)
  members_spelled [] = refl
  members_spelled (m ∷ ms) = simp (member_spelled m, members_spelled ms, map-append)

  more_names_spelled : (names : List NameNo) → spell_more_names (entries ns names) ≡ by (spell_more_names names)
  more_names_spelled [] = refl
  more_names_spelled (n ∷ names) = simp (more_names_spelled names)

  pub names_spelled : (word : TokenKind) → kind_by ns word ≡ word → (names : List NameNo) → spell_names word (entries ns names) ≡ by (spell_names word names)
  names_spelled word fixed [] = refl
  names_spelled word fixed (n ∷ names) = simp (fixed, more_names_spelled names)

  pub parent_spelled : (p : Option NameNo) → spell_parent (parent_by ns p) ≡ by (spell_parent p)
  parent_spelled None = refl
  parent_spelled (Some n) = refl

  pub class_head_spelled : (ms : List Mark) (n : NameNo) (parent : Option NameNo) (interfaces : List NameNo) → spell_class_head (marks_by ns ms) (entry ns n) (parent_by ns parent) (entries ns interfaces) ≡ by (spell_class_head ms n parent interfaces)
  class_head_spelled ms n parent interfaces = simp (marks_spelled ms, parent_spelled parent, names_spelled Implements refl interfaces, map-append)

  pub interface_head_spelled : (ms : List Mark) (n : NameNo) (parents : List NameNo) → spell_interface_head (marks_by ns ms) (entry ns n) (entries ns parents) ≡ by (spell_interface_head ms n parents)
  interface_head_spelled ms n parents = simp (marks_spelled ms, names_spelled Extends refl parents, map-append)

  pub type_spelled : (t : TypeDeclaration) → spell_type (type_by ns t) ≡ by (spell_type t)
  type_spelled (ClassType ms n parent interfaces members) = simp (marks_spelled ms, parent_spelled parent, names_spelled Implements refl interfaces, members_spelled members, map-append)
  type_spelled (InterfaceType ms n parents members) = simp (marks_spelled ms, names_spelled Extends refl parents, members_spelled members, map-append)

  types_spelled : (ts : List TypeDeclaration) → spell_types (map (type_by ns) ts) ≡ by (spell_types ts)
  types_spelled [] = refl
  types_spelled (t ∷ ts) = simp (type_spelled t, types_spelled ts, map-append)

  dots_spelled : (names : List NameNo) → spell_dots (entries ns names) ≡ by (spell_dots names)
  dots_spelled [] = refl
  dots_spelled (n ∷ names) = simp (dots_spelled names)

  star_spelled : (all : Bool) → by (spell_star all) ≡ spell_star all
  star_spelled true = refl
  star_spelled false = refl

  pub package_spelled : (p : Option DottedName) → spell_package_line (package_by ns p) ≡ by (spell_package_line p)
  package_spelled None = refl
  package_spelled (Some q) = simp (dots_spelled q.more, map-append)

  pub import_spelled : (i : ImportTree) → spell_import (import_by ns i) ≡ by (spell_import i)
  import_spelled i = simp (dots_spelled i.name.more, star_spelled i.all, map-append)

  pub imports_spelled : (is : List ImportTree) → spell_imports (map (import_by ns) is) ≡ by (spell_imports is)
  imports_spelled [] = refl
  imports_spelled (i ∷ is) = two_parts (spell_import (import_by ns i)) (spell_imports (map (import_by ns) is)) (spell_import i) (spell_imports is) (import_spelled i) (imports_spelled is)

  pub file_spelled : (f : SourceTree) → spell_file (file_by ns f) ≡ by (spell_file f)
  file_spelled f = simp (package_spelled f.package_line, imports_spelled f.imports, types_spelled f.types, map-append)
