-- A renumbered well-formed tree is well formed.
use Rattle.std.proofs.Common.{◌≡◌, ℕ, ◌+◌, ◌≤◌, ◌<◌, List, [], ◌∷◌, Bool, true, false, Option, Some, None, map, refl, ap, sym, ◌∙◌, subst}
use Rattle.jn_base.specs.declared.number.NameNo.{NameNo}
use Rattle.jn_trees.specs.declared.expression.Literal.{Literal}
use Rattle.jn_trees.specs.declared.expression.Literal.TheVariants.{Number, Str, True, False, Null}
use Rattle.jn_trees.specs.declared.expression.UnaryOperator.TheVariants.{Plus, Minus, Not}
use Rattle.jn_trees.specs.declared.context.Context.{Context}
use Rattle.jn_trees.specs.declared.context.Owner.{Owner}
use Rattle.jn_trees.specs.Trees.{Tree, Trees, LiteralTree, NameTree, ThisTree, ParenTree, FieldTree, CallTree, OwnCallTree, SuperCallTree, IndexTree, NewTree, NewArrayTree, ArrayOfTree, PostfixTree, PrefixTree, UnaryTree, CastTree, BinaryTree, InstanceOfTree, ConditionalTree, AssignTree, NoTrees, MoreTrees, LocalMark, AnnotationMark, FinalMark, DeclaratorTree, LocalTree, InitTree, ExpressionsInit, DeclarationInit, Statement, Statements, BlockStatement, EmptyStatement, ExpressionStatement, BreakStatement, ContinueStatement, ReturnStatement, LocalStatement, IfStatement, IfElseStatement, WhileStatement, DoStatement, ForStatement, ForEachStatement, ThisCallStatement, SuperCallStatement, NoStatements, MoreStatements, Mark, NoteMark, PublicMark, ProtectedMark, PrivateMark, StaticMark, ConstantMark, AbstractMark, ParameterTree, ReceiverTree, MemberTree, FieldMember, MethodMember, ConstructorMember, TypeDeclaration, ClassType, InterfaceType, SourceTree}
use Rattle.jn_trees.specs.WellFormed.{nesting, nesting_all, rank, is_left_side, is_indexable, is_least_literal, is_least_number, GoodLiteral, is_castable, Good, AllGood, is_effect, GoodEffects, GoodOptional, nesting_optional, no_final, final_once, GoodDeclarators, nesting_declarators, GoodLocal, nesting_local, GoodInit, nesting_init, nesting_statement, nesting_body, ends_open, under, in_block, loop_body, body_context, GoodStatement, GoodStatements, GoodBody, is_access, clashes, clashes_none, no_clash, marks_type, marks_interface, marks_field, marks_method, marks_interface_method, marks_constructor, every, GoodMarks, has_static, is_static_mark, GoodParameters, GoodReceiver, GoodMethodMarks, GoodMethodHead, GoodConstructorHead, GoodField, GoodMethodBody, GoodMember, GoodMembers, GoodType, GoodTypes, GoodFile, primary_rank, unary_rank, relational_rank, disjunction_rank, conditional_rank}
use Rattle.jn_renumber.specs.Names.{entry, renumbered_literal}
use Rattle.jn_renumber.specs.ByNumbers.{tree_by, trees_by, optional_by, local_marks_by, declarator_by, declarators_by, local_by, init_by, statement_by, statements_by, mark_by, marks_by, parameters_by, receiver_by, body_by, member_by, members_by, type_by, file_by}

-- what stands at two trees' heads is of one kind
record Alike (e f : Tree) : Type 0 where
  rank : rank e ≡ rank f
  left : is_left_side e ≡ is_left_side f
  indexable : is_indexable e ≡ is_indexable f
  castable : is_castable e ≡ is_castable f
  least : is_least_number e ≡ is_least_number f
  effect : is_effect e ≡ is_effect f

module _ (ns : List NameNo) where
  least_literal : (l : Literal) → is_least_literal (renumbered_literal ns l) ≡ is_least_literal l
  least_literal (Number n) = refl
  least_literal (Str n) = refl
  least_literal True = refl
  least_literal False = refl
  least_literal Null = refl

  good_literal : (l : Literal) → GoodLiteral l → GoodLiteral (renumbered_literal ns l)
  good_literal (Number n) g = g
  good_literal (Str n) g = g
  good_literal True g = g
  good_literal False g = g
  good_literal Null g = g

  alike : (e : Tree) → Alike (tree_by ns e) e
  alike (LiteralTree l) = record { rank = refl; left = refl; indexable = refl; castable = refl; least = least_literal l; effect = refl }
  alike (NameTree n) = record { rank = refl; left = refl; indexable = refl; castable = refl; least = refl; effect = refl }
  alike ThisTree = record { rank = refl; left = refl; indexable = refl; castable = refl; least = refl; effect = refl }
  alike (ParenTree e) = record { rank = refl; left = refl; indexable = refl; castable = refl; least = refl; effect = refl }
  alike (FieldTree e n) = record { rank = refl; left = refl; indexable = refl; castable = refl; least = refl; effect = refl }
  alike (CallTree e n es) = record { rank = refl; left = refl; indexable = refl; castable = refl; least = refl; effect = refl }
  alike (OwnCallTree n es) = record { rank = refl; left = refl; indexable = refl; castable = refl; least = refl; effect = refl }
  alike (SuperCallTree n es) = record { rank = refl; left = refl; indexable = refl; castable = refl; least = refl; effect = refl }
  alike (IndexTree a b) = record { rank = refl; left = refl; indexable = refl; castable = refl; least = refl; effect = refl }
  alike (NewTree n es) = record { rank = refl; left = refl; indexable = refl; castable = refl; least = refl; effect = refl }
  alike (NewArrayTree notes b e) = record { rank = refl; left = refl; indexable = refl; castable = refl; least = refl; effect = refl }
  alike (ArrayOfTree notes b es) = record { rank = refl; left = refl; indexable = refl; castable = refl; least = refl; effect = refl }
  alike (PostfixTree e s) = record { rank = refl; left = refl; indexable = refl; castable = refl; least = refl; effect = refl }
  alike (PrefixTree s e) = record { rank = refl; left = refl; indexable = refl; castable = refl; least = refl; effect = refl }
  alike (CastTree n e) = record { rank = refl; left = refl; indexable = refl; castable = refl; least = refl; effect = refl }
  alike (BinaryTree a o b) = record { rank = refl; left = refl; indexable = refl; castable = refl; least = refl; effect = refl }
  alike (InstanceOfTree e n) = record { rank = refl; left = refl; indexable = refl; castable = refl; least = refl; effect = refl }
  alike (ConditionalTree a b c) = record { rank = refl; left = refl; indexable = refl; castable = refl; least = refl; effect = refl }
  alike (AssignTree a o b) = record { rank = refl; left = refl; indexable = refl; castable = refl; least = refl; effect = refl }
  alike (UnaryTree Plus e) = record { rank = refl; left = refl; indexable = refl; castable = refl; least = refl; effect = refl }
  alike (UnaryTree Minus e) = record { rank = refl; left = refl; indexable = refl; castable = refl; least = refl; effect = refl }
  alike (UnaryTree Not e) = record { rank = refl; left = refl; indexable = refl; castable = refl; least = refl; effect = refl }

  mutual
    nested : (e : Tree) → nesting (tree_by ns e) ≡ nesting e
    nested (LiteralTree l) = refl
    nested (NameTree n) = refl
    nested ThisTree = refl
    nested (ParenTree e) = simp (nested e)
    nested (FieldTree e n) = simp (nested e)
    nested (CallTree e n es) = simp (nested e, all_nested es)
    nested (OwnCallTree n es) = simp (all_nested es)
    nested (SuperCallTree n es) = simp (all_nested es)
    nested (IndexTree a b) = simp (nested a, nested b)
    nested (NewTree n es) = simp (all_nested es)
    nested (NewArrayTree notes b e) = simp (nested e)
    nested (ArrayOfTree notes b es) = simp (all_nested es)
    nested (PostfixTree e s) = simp (nested e)
    nested (PrefixTree s e) = simp (nested e)
    nested (UnaryTree o e) = simp (nested e)
    nested (CastTree n e) = simp (nested e)
    nested (BinaryTree a o b) = simp (nested a, nested b)
    nested (InstanceOfTree e n) = simp (nested e)
    nested (ConditionalTree a b c) = simp (nested a, nested b, nested c)
    nested (AssignTree a o b) = simp (nested a, nested b)

    all_nested : (es : Trees) → nesting_all (trees_by ns es) ≡ nesting_all es
    all_nested NoTrees = refl
    all_nested (MoreTrees e rest) = simp (nested e, all_nested rest)

  low : (n : ℕ) (e : Tree) → rank e ≤ n → rank (tree_by ns e) ≤ n
  low n e le = subst (λ r. r ≤ n) (sym (alike e).rank) le

  lower : (n : ℕ) (e : Tree) → rank e < n → rank (tree_by ns e) < n
  lower n e lt = subst (λ r. r < n) (sym (alike e).rank) lt

  mutual
    good : (e : Tree) → Good e → Good (tree_by ns e)
    good (LiteralTree l) g = good_literal l g
    good (NameTree n) g = g
    good ThisTree g = g
    good (ParenTree e) g = good e g
    good (FieldTree e n) g = (good e g.0, low primary_rank e g.1)
    good (CallTree e n es) g = (good e g.0, low primary_rank e g.1, all_good es g.2)
    good (OwnCallTree n es) g = all_good es g
    good (SuperCallTree n es) g = all_good es g
    good (IndexTree a b) g = (good a g.0, low primary_rank a g.1, (alike a).indexable ∙ g.2, good b g.3)
    good (NewTree n es) g = all_good es g
    good (NewArrayTree notes b e) g = good e g
    good (ArrayOfTree notes b es) g = all_good es g
    good (PostfixTree e s) g = (good e g.0, (alike e).left ∙ g.1)
    good (PrefixTree s e) g = (good e g.0, (alike e).left ∙ g.1)
    good (UnaryTree Plus e) g = (good e g.0, low unary_rank e g.1)
    good (UnaryTree Not e) g = (good e g.0, low unary_rank e g.1)
    good (UnaryTree Minus e) g = signed (is_least_number e) (is_least_number (tree_by ns e)) (alike e).least (Good e × (rank e ≤ unary_rank)) (Good (tree_by ns e) × (rank (tree_by ns e) ≤ unary_rank)) (λ h. (good e h.0, low unary_rank e h.1)) g
      where
        signed : (a b : Bool) → b ≡ a → (P Q : Type 0) → (P → Q) → elim a as (λ _. Type 0) [ true ↦ Unit {0} | false ↦ P ] → elim b as (λ _. Type 0) [ true ↦ Unit {0} | false ↦ Q ]
        signed true true e P Q f x = x
        signed false false e P Q f x = f x
        signed true false e P Q f x = absurd (cc)
        signed false true e P Q f x = absurd (cc)
    good (CastTree n e) g = (good e g.0, (alike e).castable ∙ g.1)
    good (BinaryTree a o b) g = (good a g.0, low _ a g.1, good b g.2, lower _ b g.3)
    good (InstanceOfTree e n) g = (good e g.0, low relational_rank e g.1)
    good (ConditionalTree a b c) g = (good a g.0, low disjunction_rank a g.1, good b g.2, good c g.3, low conditional_rank c g.4)
    good (AssignTree a o b) g = (good a g.0, (alike a).left ∙ g.1, good b g.2)

    all_good : (es : Trees) → AllGood es → AllGood (trees_by ns es)
    all_good NoTrees g = g
    all_good (MoreTrees e rest) g = (good e g.0, all_good rest g.1)

  good_effects : (es : Trees) → GoodEffects es → GoodEffects (trees_by ns es)
  good_effects NoTrees g = g
  good_effects (MoreTrees e rest) g = (good e g.0, (alike e).effect ∙ g.1, good_effects rest g.2)

  good_optional : (e : Option Tree) → GoodOptional e → GoodOptional (optional_by ns e)
  good_optional None g = g
  good_optional (Some e) g = good e g

  optional_nested : (e : Option Tree) → nesting_optional (optional_by ns e) ≡ nesting_optional e
  optional_nested None = refl
  optional_nested (Some e) = nested e

  no_final_kept : (ms : List LocalMark) → no_final (local_marks_by ns ms) ≡ no_final ms
  no_final_kept [] = refl
  no_final_kept (AnnotationMark n ∷ ms) = no_final_kept ms
  no_final_kept (FinalMark ∷ ms) = refl

  final_kept : (ms : List LocalMark) → final_once (local_marks_by ns ms) ≡ final_once ms
  final_kept [] = refl
  final_kept (AnnotationMark n ∷ ms) = final_kept ms
  final_kept (FinalMark ∷ ms) = no_final_kept ms

  good_declarators : (ds : List DeclaratorTree) → GoodDeclarators ds → GoodDeclarators (declarators_by ns ds)
  good_declarators [] g = g
  good_declarators (d ∷ ds) g = (good_optional d.value g.0, good_declarators ds g.1)

  declarators_nested : (ds : List DeclaratorTree) → nesting_declarators (declarators_by ns ds) ≡ nesting_declarators ds
  declarators_nested [] = refl
  declarators_nested (d ∷ ds) = simp (optional_nested d.value, declarators_nested ds)

  good_local : (l : LocalTree) → GoodLocal l → GoodLocal (local_by ns l)
  good_local l g = (final_kept l.marks ∙ g.0, good_declarators (l.first ∷ l.more) g.1)

  local_nested : (l : LocalTree) → nesting_local (local_by ns l) ≡ nesting_local l
  local_nested l = declarators_nested (l.first ∷ l.more)

  good_init : (i : InitTree) → GoodInit i → GoodInit (init_by ns i)
  good_init (ExpressionsInit es) g = good_effects es g
  good_init (DeclarationInit l) g = good_local l g

  init_nested : (i : InitTree) → nesting_init (init_by ns i) ≡ nesting_init i
  init_nested (ExpressionsInit es) = all_nested es
  init_nested (DeclarationInit l) = local_nested l

  mutual
    pub statement_nested : (s : Statement) → nesting_statement (statement_by ns s) ≡ nesting_statement s
    statement_nested (BlockStatement ss) = simp (body_nested ss)
    statement_nested EmptyStatement = refl
    statement_nested (ExpressionStatement e) = simp (nested e)
    statement_nested BreakStatement = refl
    statement_nested ContinueStatement = refl
    statement_nested (ReturnStatement e) = simp (optional_nested e)
    statement_nested (LocalStatement l) = ap (λ n. n + 1) (local_nested l)
    statement_nested (IfStatement c s) = simp (nested c, statement_nested s)
    statement_nested (IfElseStatement c s u) = simp (nested c, statement_nested s, statement_nested u)
    statement_nested (WhileStatement c s) = simp (nested c, statement_nested s)
    statement_nested (DoStatement s c) = simp (nested c, statement_nested s)
    statement_nested (ForStatement i c us s) = simp (init_nested i, optional_nested c, all_nested us, statement_nested s)
    statement_nested (ForEachStatement ms u n e s) = simp (nested e, statement_nested s)
    statement_nested (ThisCallStatement es) = simp (all_nested es)
    statement_nested (SuperCallStatement es) = simp (all_nested es)

    body_nested : (ss : Statements) → nesting_body (statements_by ns ss) ≡ nesting_body ss
    body_nested NoStatements = refl
    body_nested (MoreStatements s ss) = simp (statement_nested s, body_nested ss)

  open_kept : (s : Statement) → ends_open (statement_by ns s) ≡ ends_open s
  open_kept (BlockStatement ss) = refl
  open_kept EmptyStatement = refl
  open_kept (ExpressionStatement e) = refl
  open_kept BreakStatement = refl
  open_kept ContinueStatement = refl
  open_kept (ReturnStatement e) = refl
  open_kept (LocalStatement l) = refl
  open_kept (IfStatement c s) = refl
  open_kept (IfElseStatement c s u) = open_kept u
  open_kept (WhileStatement c s) = open_kept s
  open_kept (DoStatement s c) = refl
  open_kept (ForStatement i c us s) = open_kept s
  open_kept (ForEachStatement ms u n e s) = open_kept s
  open_kept (ThisCallStatement es) = refl
  open_kept (SuperCallStatement es) = refl

  mutual
    pub good_statement : (c : Context) (s : Statement) → GoodStatement c s → GoodStatement c (statement_by ns s)
    good_statement c (BlockStatement ss) g = good_statements (in_block c) ss g
    good_statement c EmptyStatement g = g
    good_statement c (ExpressionStatement e) g = (good e g.0, (alike e).effect ∙ g.1)
    good_statement c BreakStatement g = g
    good_statement c ContinueStatement g = g
    good_statement c (ReturnStatement e) g = good_optional e g
    good_statement c (LocalStatement l) g = (good_local l g.0, g.1)
    good_statement c (IfStatement e s) g = (good e g.0, good_statement (under c) s g.1)
    good_statement c (IfElseStatement e s u) g = (good e g.0, good_statement (under c) s g.1, open_kept s ∙ g.2, good_statement (under c) u g.3)
    good_statement c (WhileStatement e s) g = (good e g.0, good_statement loop_body s g.1)
    good_statement c (DoStatement s e) g = (good_statement loop_body s g.0, good e g.1)
    good_statement c (ForStatement i e us s) g = (good_init i g.0, good_optional e g.1, good_effects us g.2, good_statement loop_body s g.3)
    good_statement c (ForEachStatement ms u n e s) g = (final_kept ms ∙ g.0, good e g.1, good_statement loop_body s g.2)
    good_statement c (ThisCallStatement es) g = (all_good es g.0, g.1)
    good_statement c (SuperCallStatement es) g = (all_good es g.0, g.1)

    good_statements : (c : Context) (ss : Statements) → GoodStatements c ss → GoodStatements c (statements_by ns ss)
    good_statements c NoStatements g = g
    good_statements c (MoreStatements s ss) g = (good_statement c s g.0, good_statements c ss g.1)

  good_body : (leading : Bool) (ss : Statements) → GoodBody leading ss → GoodBody leading (statements_by ns ss)
  good_body leading NoStatements g = g
  good_body leading (MoreStatements s ss) g = (good_statement (body_context leading) s g.0, subst (λ n. n ≤ 500) (sym (statement_nested s)) g.1, good_statements (body_context false) ss g.2, subst (λ n. n ≤ 500) (sym (body_nested ss)) g.3)

  access_kept : (m : Mark) → is_access (mark_by ns m) ≡ is_access m
  access_kept (NoteMark n) = refl
  access_kept PublicMark = refl
  access_kept ProtectedMark = refl
  access_kept PrivateMark = refl
  access_kept StaticMark = refl
  access_kept ConstantMark = refl
  access_kept AbstractMark = refl

  clash_kept : (m k : Mark) → clashes (mark_by ns m) (mark_by ns k) ≡ clashes m k
  clash_kept (NoteMark n) k = refl
  clash_kept PublicMark k = access_kept k
  clash_kept ProtectedMark k = access_kept k
  clash_kept PrivateMark k = access_kept k
  clash_kept StaticMark (NoteMark n) = refl
  clash_kept StaticMark PublicMark = refl
  clash_kept StaticMark ProtectedMark = refl
  clash_kept StaticMark PrivateMark = refl
  clash_kept StaticMark StaticMark = refl
  clash_kept StaticMark ConstantMark = refl
  clash_kept StaticMark AbstractMark = refl
  clash_kept ConstantMark (NoteMark n) = refl
  clash_kept ConstantMark PublicMark = refl
  clash_kept ConstantMark ProtectedMark = refl
  clash_kept ConstantMark PrivateMark = refl
  clash_kept ConstantMark StaticMark = refl
  clash_kept ConstantMark ConstantMark = refl
  clash_kept ConstantMark AbstractMark = refl
  clash_kept AbstractMark (NoteMark n) = refl
  clash_kept AbstractMark PublicMark = refl
  clash_kept AbstractMark ProtectedMark = refl
  clash_kept AbstractMark PrivateMark = refl
  clash_kept AbstractMark StaticMark = refl
  clash_kept AbstractMark ConstantMark = refl
  clash_kept AbstractMark AbstractMark = refl

  none_kept : (m : Mark) (ks : List Mark) → clashes_none (mark_by ns m) (marks_by ns ks) ≡ clashes_none m ks
  none_kept m [] = refl
  none_kept m (k ∷ ks) = simp (clash_kept m k, none_kept m ks)

  no_clash_kept : (ms : List Mark) → no_clash (marks_by ns ms) ≡ no_clash ms
  no_clash_kept [] = refl
  no_clash_kept (m ∷ ms) = simp (none_kept m ms, no_clash_kept ms)

  every_kept : (may : Mark → Bool) → ((m : Mark) → may (mark_by ns m) ≡ may m) → (ms : List Mark) → every may (marks_by ns ms) ≡ every may ms
  every_kept may same [] = refl
  every_kept may same (m ∷ ms) = simp (same m, every_kept may same ms)

  good_marks : (may : Mark → Bool) → ((m : Mark) → may (mark_by ns m) ≡ may m) → (ms : List Mark) → GoodMarks may ms → GoodMarks may (marks_by ns ms)
  good_marks may same ms g = (every_kept may same ms ∙ g.0, no_clash_kept ms ∙ g.1)

  type_kept : (m : Mark) → marks_type (mark_by ns m) ≡ marks_type m
  type_kept (NoteMark n) = refl
  type_kept PublicMark = refl
  type_kept ProtectedMark = refl
  type_kept PrivateMark = refl
  type_kept StaticMark = refl
  type_kept ConstantMark = refl
  type_kept AbstractMark = refl

  interface_kept : (m : Mark) → marks_interface (mark_by ns m) ≡ marks_interface m
  interface_kept (NoteMark n) = refl
  interface_kept PublicMark = refl
  interface_kept ProtectedMark = refl
  interface_kept PrivateMark = refl
  interface_kept StaticMark = refl
  interface_kept ConstantMark = refl
  interface_kept AbstractMark = refl

  field_kept : (m : Mark) → marks_field (mark_by ns m) ≡ marks_field m
  field_kept (NoteMark n) = refl
  field_kept PublicMark = refl
  field_kept ProtectedMark = refl
  field_kept PrivateMark = refl
  field_kept StaticMark = refl
  field_kept ConstantMark = refl
  field_kept AbstractMark = refl

  method_kept : (m : Mark) → marks_method (mark_by ns m) ≡ marks_method m
  method_kept (NoteMark n) = refl
  method_kept PublicMark = refl
  method_kept ProtectedMark = refl
  method_kept PrivateMark = refl
  method_kept StaticMark = refl
  method_kept ConstantMark = refl
  method_kept AbstractMark = refl

  interface_method_kept : (m : Mark) → marks_interface_method (mark_by ns m) ≡ marks_interface_method m
  interface_method_kept (NoteMark n) = refl
  interface_method_kept PublicMark = refl
  interface_method_kept ProtectedMark = refl
  interface_method_kept PrivateMark = refl
  interface_method_kept StaticMark = refl
  interface_method_kept ConstantMark = refl
  interface_method_kept AbstractMark = refl

  constructor_kept : (m : Mark) → marks_constructor (mark_by ns m) ≡ marks_constructor m
  constructor_kept (NoteMark n) = refl
  constructor_kept PublicMark = refl
  constructor_kept ProtectedMark = refl
  constructor_kept PrivateMark = refl
  constructor_kept StaticMark = refl
  constructor_kept ConstantMark = refl
  constructor_kept AbstractMark = refl

  static_kept : (m : Mark) → is_static_mark (mark_by ns m) ≡ is_static_mark m
  static_kept (NoteMark n) = refl
  static_kept PublicMark = refl
  static_kept ProtectedMark = refl
  static_kept PrivateMark = refl
  static_kept StaticMark = refl
  static_kept ConstantMark = refl
  static_kept AbstractMark = refl

  has_static_kept : (ms : List Mark) → has_static (marks_by ns ms) ≡ has_static ms
  has_static_kept [] = refl
  has_static_kept (m ∷ ms) = simp (static_kept m, has_static_kept ms)

  good_parameters : (ps : List ParameterTree) → GoodParameters ps → GoodParameters (parameters_by ns ps)
  good_parameters [] g = g
  good_parameters (p ∷ ps) g = (final_kept p.marks ∙ g.0, good_parameters ps g.1)

  good_receiver : (owner : NameNo) (ms : List Mark) (r : Option ReceiverTree) → GoodReceiver owner ms r → GoodReceiver (entry ns owner) (marks_by ns ms) (receiver_by ns r)
  good_receiver owner ms None g = g
  good_receiver owner ms (Some r) g = (has_static_kept ms ∙ g.0, ap (entry ns) g.1)

  good_method_marks : (interface : Bool) (ms : List Mark) → GoodMethodMarks interface ms → GoodMethodMarks interface (marks_by ns ms)
  good_method_marks true ms g = good_marks marks_interface_method interface_method_kept ms g
  good_method_marks false ms g = good_marks marks_method method_kept ms g

  good_method_body : (interface : Bool) (body : Option Statements) → GoodMethodBody interface body → GoodMethodBody interface (body_by ns body)
  good_method_body interface None g = g
  good_method_body interface (Some ss) g = (g.0, good_body false ss g.1)

  pub good_field : (ms : List Mark) (d : DeclaratorTree) (ds : List DeclaratorTree) → GoodField ms d ds → GoodField (marks_by ns ms) (declarator_by ns d) (declarators_by ns ds)
  good_field ms d ds g = (good_marks marks_field field_kept ms g.0, good_declarators (d ∷ ds) g.1, subst (λ n. n ≤ 500) (sym (declarators_nested (d ∷ ds))) g.2)

  -- the type that a member stands in
  abbrev pub owner_by : Owner → Owner
  owner_by o = record { interface = o.interface; name = entry ns o.name }

  pub good_method_head : (o : Owner) (ms : List Mark) (r : Option ReceiverTree) (ps : List ParameterTree) → GoodMethodHead o ms r ps → GoodMethodHead (owner_by o) (marks_by ns ms) (receiver_by ns r) (parameters_by ns ps)
  good_method_head o ms r ps g = (good_method_marks o.interface ms g.0, good_receiver o.name ms r g.1, good_parameters ps g.2)

  pub good_constructor_head : (o : Owner) (ms : List Mark) (n : NameNo) (ps : List ParameterTree) → GoodConstructorHead o ms n ps → GoodConstructorHead (owner_by o) (marks_by ns ms) (entry ns n) (parameters_by ns ps)
  good_constructor_head o ms n ps g = (good_marks marks_constructor constructor_kept ms g.0, g.1, ap (entry ns) g.2, good_parameters ps g.3)

  good_member : (o : Owner) (m : MemberTree) → GoodMember o m → GoodMember (owner_by o) (member_by ns m)
  good_member o (FieldMember ms u d ds) g = good_field ms d ds g
  good_member o (MethodMember ms u n r ps body) g = (good_method_head o ms r ps g.0, good_method_body o.interface body g.1)
  good_member o (ConstructorMember ms n ps ss) g = (good_constructor_head o ms n ps g.0, good_body true ss g.1)

  good_members : (o : Owner) (ms : List MemberTree) → GoodMembers o ms → GoodMembers (owner_by o) (members_by ns ms)
  good_members o [] g = g
  good_members o (m ∷ ms) g = (good_member o m g.0, good_members o ms g.1)

  pub good_class_marks : (ms : List Mark) → GoodMarks marks_type ms → GoodMarks marks_type (marks_by ns ms)
  good_class_marks ms g = good_marks marks_type type_kept ms g

  pub good_interface_marks : (ms : List Mark) → GoodMarks marks_interface ms → GoodMarks marks_interface (marks_by ns ms)
  good_interface_marks ms g = good_marks marks_interface interface_kept ms g

  good_type : (t : TypeDeclaration) → GoodType t → GoodType (type_by ns t)
  good_type (ClassType ms n parent interfaces members) g = (good_class_marks ms g.0, good_members (record { interface = false; name = n }) members g.1)
  good_type (InterfaceType ms n parents members) g = (good_interface_marks ms g.0, good_members (record { interface = true; name = n }) members g.1)

  good_types : (ts : List TypeDeclaration) → GoodTypes ts → GoodTypes (map (type_by ns) ts)
  good_types [] g = g
  good_types (t ∷ ts) g = (good_type t g.0, good_types ts g.1)

  pub good_file : (f : SourceTree) → GoodFile f → GoodFile (file_by ns f)
  good_file f g = good_types f.types g
