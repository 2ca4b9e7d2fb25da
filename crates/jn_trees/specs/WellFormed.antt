-- Which trees are well formed: levels of operators, left sides, contexts of statements, modifiers, nesting (JLS 8, 8.1.1, 8.3.1, 8.4.3, 8.8.7, 14 and 15).
use Rattle.std.specs.Prelude.{◌≡◌, ℕ, ◌+◌, ◌≤◌, ◌<◌, max, List, [], ◌∷◌, Bool, true, false, not, nat_eq, Option, Some, None, ◌&&◌, ◌||◌}
use Rattle.jn_base.specs.declared.number.NameNo.{NameNo}
use Rattle.jn_trees.specs.declared.expression.Literal.{Literal}
use Rattle.jn_trees.specs.declared.expression.Literal.TheVariants.{Number}
use Rattle.jn_trees.specs.declared.expression.UnaryOperator.{UnaryOperator}
use Rattle.jn_trees.specs.declared.expression.UnaryOperator.TheVariants.{Minus, Not}
use Rattle.jn_trees.specs.declared.expression.BinaryOperator.{BinaryOperator}
use Rattle.jn_trees.specs.declared.expression.BinaryOperator.TheVariants.{Multiply, Divide, Remainder, Add, Subtract, Less, Greater, LessEqual, GreaterEqual, Equal, NotEqual, And, Or}
use Rattle.jn_trees.specs.declared.context.Context.{Context}
use Rattle.jn_trees.specs.declared.context.Owner.{Owner}
use Rattle.jn_trees.specs.Trees.{Tree, Trees, LiteralTree, NameTree, ThisTree, ParenTree, FieldTree, CallTree, OwnCallTree, SuperCallTree, IndexTree, NewTree, NewArrayTree, ArrayOfTree, PostfixTree, PrefixTree, UnaryTree, CastTree, BinaryTree, InstanceOfTree, ConditionalTree, AssignTree, NoTrees, MoreTrees, LocalMark, AnnotationMark, FinalMark, DeclaratorTree, LocalTree, InitTree, ExpressionsInit, DeclarationInit, Statement, Statements, BlockStatement, EmptyStatement, ExpressionStatement, BreakStatement, ContinueStatement, ReturnStatement, LocalStatement, IfStatement, IfElseStatement, WhileStatement, DoStatement, ForStatement, ForEachStatement, ThisCallStatement, SuperCallStatement, NoStatements, MoreStatements, Mark, NoteMark, PublicMark, ProtectedMark, PrivateMark, StaticMark, ConstantMark, AbstractMark, ParameterTree, ReceiverTree, MemberTree, FieldMember, MethodMember, ConstructorMember, TypeDeclaration, ClassType, InterfaceType, SourceTree}

-- each tree inside another adds one
abbrev mutual
  -- how deep trees stand one inside another in this one, itself counted
  pub nesting : Tree → ℕ
  nesting (LiteralTree l) = 1
  nesting (NameTree n) = 1
  nesting ThisTree = 1
  nesting (ParenTree e) = nesting e + 1
  nesting (FieldTree p n) = nesting p + 1
  nesting (CallTree p n es) = max (nesting p) (nesting_all es) + 1
  nesting (OwnCallTree n es) = nesting_all es + 1
  nesting (SuperCallTree n es) = nesting_all es + 1
  nesting (IndexTree p e) = max (nesting p) (nesting e) + 1
  nesting (NewTree n es) = nesting_all es + 1
  nesting (NewArrayTree ns b e) = nesting e + 1
  nesting (ArrayOfTree ns b es) = nesting_all es + 1
  nesting (PostfixTree p s) = nesting p + 1
  nesting (PrefixTree s p) = nesting p + 1
  nesting (UnaryTree o e) = nesting e + 1
  nesting (CastTree n e) = nesting e + 1
  nesting (BinaryTree l o r) = max (nesting l) (nesting r) + 1
  nesting (InstanceOfTree e n) = nesting e + 1
  nesting (ConditionalTree c a b) = max (nesting c) (max (nesting a) (nesting b)) + 1
  nesting (AssignTree l o r) = max (nesting l) (nesting r) + 1

  -- the greatest nesting of the expressions in a list, 0 where it is empty
  pub nesting_all : Trees → ℕ
  nesting_all NoTrees = 0
  nesting_all (MoreTrees t ts) = max (nesting t) (nesting_all ts)

-- the power of `*`, `/` and `%`, which bind most strongly; each of the next powers is one more (JLS 15.17)
abbrev pub multiplicative : ℕ
multiplicative = 1

-- the power of `+` and `-` between operands (JLS 15.18)
abbrev pub additive : ℕ
additive = multiplicative + 1

-- the power of `<`, `>`, `<=`, `>=` and `instanceof` (JLS 15.20)
abbrev pub relational : ℕ
relational = additive + 1

-- the power of `==` and `!=` (JLS 15.21)
abbrev pub equality : ℕ
equality = relational + 1

-- the power of `&&` (JLS 15.23)
abbrev pub conjunction : ℕ
conjunction = equality + 1

-- the power of `||` (JLS 15.24)
abbrev pub disjunction : ℕ
disjunction = conjunction + 1

-- the power of the operators that bind least strongly
abbrev pub loosest_power : ℕ
loosest_power = disjunction

-- how weakly an operator binds
abbrev pub power : BinaryOperator → ℕ
power Multiply = multiplicative
power Divide = multiplicative
power Remainder = multiplicative
power Add = additive
power Subtract = additive
power Less = relational
power Greater = relational
power LessEqual = relational
power GreaterEqual = relational
power Equal = equality
power NotEqual = equality
power And = conjunction
power Or = disjunction

-- the rank of what stands by itself (JLS 15.8)
abbrev pub primary_rank : ℕ
primary_rank = 1

-- the rank of what has a step after (JLS 15.14)
abbrev pub postfix_rank : ℕ
postfix_rank = primary_rank + 1

-- the rank of what has a sign, a step or a cast before (JLS 15.15, 15.16)
abbrev pub unary_rank : ℕ
unary_rank = postfix_rank + 1

-- the rank of what has an operator of this power between operands; of an operand without one where the power is 0
abbrev pub operator_rank : ℕ → ℕ
operator_rank n = n + unary_rank

-- the rank of a comparison by `<` or `instanceof` (JLS 15.20)
abbrev pub relational_rank : ℕ
relational_rank = operator_rank relational

-- the rank of `||`, the weakest of the operators between two operands (JLS 15.24)
abbrev pub disjunction_rank : ℕ
disjunction_rank = operator_rank loosest_power

-- the rank of a conditional (JLS 15.25)
abbrev pub conditional_rank : ℕ
conditional_rank = disjunction_rank + 1

-- the rank of an assignment, which no tree exceeds (JLS 15.26)
abbrev pub assignment_rank : ℕ
assignment_rank = conditional_rank + 1

-- above the ranks of all trees
abbrev pub no_rank : ℕ
no_rank = assignment_rank + 1

-- how weakly a tree binds
abbrev pub rank : Tree → ℕ
rank (PostfixTree p s) = postfix_rank
rank (PrefixTree s p) = unary_rank
rank (UnaryTree o e) = unary_rank
rank (CastTree n e) = unary_rank
rank (BinaryTree l o r) = operator_rank (power o)
rank (InstanceOfTree e n) = relational_rank
rank (ConditionalTree c a b) = conditional_rank
rank (AssignTree l o r) = assignment_rank
rank _ = primary_rank

-- what can be assigned: a name, a field, an element
abbrev pub is_left_side : Tree → Bool
is_left_side (NameTree n) = true
is_left_side (FieldTree p n) = true
is_left_side (IndexTree p e) = true
is_left_side _ = false

-- what an index may stand after: all but a new array (JLS 15.10.3)
abbrev pub is_indexable : Tree → Bool
is_indexable (NewArrayTree ns b e) = false
is_indexable (ArrayOfTree ns b es) = false
is_indexable _ = true

-- the number that stands after a minus sign alone (JLS 3.10.1)
abbrev pub is_least_literal : Literal → Bool
is_least_literal (Number n) = nat_eq n 2147483648
is_least_literal _ = false

-- the expression is the literal 2147483648, which is good only as the operand of a minus sign (JLS 8, 3.10.1)
abbrev pub is_least_number : Tree → Bool
is_least_number (LiteralTree l) = is_least_literal l
is_least_number _ = false

-- a number is at most the greatest `int`; other literals are good as they stand (JLS 8, 3.10.1)
abbrev pub GoodLiteral : Literal → Type 0
GoodLiteral (Number n) = n < 2147483648
GoodLiteral _ = Unit {0}

-- what a cast may stand before: `!e`, a cast, and what binds at least as strongly as a step after (JLS 15.16)
abbrev pub is_castable : Tree → Bool
is_castable (UnaryTree Not e) = true
is_castable (UnaryTree o e) = false
is_castable (PrefixTree s p) = false
is_castable (BinaryTree l o r) = false
is_castable (InstanceOfTree e n) = false
is_castable (ConditionalTree c a b) = false
is_castable (AssignTree l o r) = false
is_castable _ = true

-- the operand of a sign: the least number stands after a minus alone (JLS 8, 3.10.1); `good` is what is asked of any other operand
abbrev pub GoodSigned : UnaryOperator → Tree → Type 0 → Type 0
GoodSigned Minus e good = elim (is_least_number e) as (λ _. Type 0) [ true ↦ Unit {0} | false ↦ good ]
GoodSigned o e good = good

abbrev mutual
  -- the expression is well formed: operands bind strongly enough, and what is assigned, indexed or cast may be so (JLS 8, 15)
  pub Good : Tree → Type 0
  Good (LiteralTree l) = GoodLiteral l
  Good (NameTree n) = Unit {0}
  Good ThisTree = Unit {0}
  Good (ParenTree e) = Good e
  Good (FieldTree p n) = Good p × (rank p ≤ primary_rank)
  Good (CallTree p n es) = Good p × (rank p ≤ primary_rank) × AllGood es
  Good (OwnCallTree n es) = AllGood es
  Good (SuperCallTree n es) = AllGood es
  Good (IndexTree p e) = Good p × (rank p ≤ primary_rank) × (is_indexable p ≡ true) × Good e
  Good (NewTree n es) = AllGood es
  Good (NewArrayTree ns b e) = Good e
  Good (ArrayOfTree ns b es) = AllGood es
  Good (PostfixTree p s) = Good p × (is_left_side p ≡ true)
  Good (PrefixTree s p) = Good p × (is_left_side p ≡ true)
  Good (UnaryTree o e) = GoodSigned o e (Good e × (rank e ≤ unary_rank))
  Good (CastTree n e) = Good e × (is_castable e ≡ true)
  Good (BinaryTree l o r) = Good l × (rank l ≤ operator_rank (power o)) × Good r × (rank r < operator_rank (power o))
  Good (InstanceOfTree e n) = Good e × (rank e ≤ relational_rank)
  Good (ConditionalTree c a b) = Good c × (rank c ≤ disjunction_rank) × Good a × Good b × (rank b ≤ conditional_rank)
  Good (AssignTree l o r) = Good l × (is_left_side l ≡ true) × Good r

  -- each expression of the list is well formed
  pub AllGood : Trees → Type 0
  AllGood NoTrees = Unit {0}
  AllGood (MoreTrees t ts) = Good t × AllGood ts

-- what can stand as a statement (JLS 14.8)
abbrev pub is_effect : Tree → Bool
is_effect (CallTree p n es) = true
is_effect (OwnCallTree n es) = true
is_effect (SuperCallTree n es) = true
is_effect (NewTree n es) = true
is_effect (PostfixTree p s) = true
is_effect (PrefixTree s p) = true
is_effect (AssignTree l o r) = true
is_effect _ = false

-- each expression is well formed and can stand as a statement, as those in the head of a `for` must (JLS 8, 14.14.1)
abbrev pub GoodEffects : Trees → Type 0
GoodEffects NoTrees = Unit {0}
GoodEffects (MoreTrees e es) = Good e × (is_effect e ≡ true) × GoodEffects es

-- the expression is left out or well formed
abbrev pub GoodOptional : Option Tree → Type 0
GoodOptional None = Unit {0}
GoodOptional (Some e) = Good e

-- the nesting of an expression, 0 where it is left out
abbrev pub nesting_optional : Option Tree → ℕ
nesting_optional None = 0
nesting_optional (Some e) = nesting e

-- the modifier is `final`, and no annotation
abbrev pub is_final_mark : LocalMark → Bool
is_final_mark FinalMark = true
is_final_mark (AnnotationMark n) = false

-- `final` is not among the modifiers
abbrev pub no_final : List LocalMark → Bool
no_final [] = true
no_final (m ∷ ms) = not (is_final_mark m) && no_final ms

-- `final` stands at most once
abbrev pub final_once : List LocalMark → Bool
final_once [] = true
final_once (AnnotationMark n ∷ ms) = final_once ms
final_once (FinalMark ∷ ms) = no_final ms

-- the initial value of each variable is left out or well formed
abbrev pub GoodDeclarators : List DeclaratorTree → Type 0
GoodDeclarators [] = Unit {0}
GoodDeclarators (d ∷ ds) = GoodOptional d.value × GoodDeclarators ds

-- the greatest nesting of the variables' initial values, 0 where there is none
abbrev pub nesting_declarators : List DeclaratorTree → ℕ
nesting_declarators [] = 0
nesting_declarators (d ∷ ds) = max (nesting_optional d.value) (nesting_declarators ds)

-- the declaration of locals is well formed: `final` at most once, and good initial values (JLS 8, 14.4)
abbrev pub GoodLocal : LocalTree → Type 0
GoodLocal l = (final_once l.marks ≡ true) × GoodDeclarators (l.first ∷ l.more)

-- the greatest nesting of the initial values of the locals, 0 where there is none
abbrev pub nesting_local : LocalTree → ℕ
nesting_local l = nesting_declarators (l.first ∷ l.more)

-- what a `for` begins with is well formed: expressions that can stand as statements, or a declaration (JLS 8, 14.14.1)
abbrev pub GoodInit : InitTree → Type 0
GoodInit (ExpressionsInit es) = GoodEffects es
GoodInit (DeclarationInit l) = GoodLocal l

-- the greatest nesting of an expression in what a `for` begins with, 0 where there is none
abbrev pub nesting_init : InitTree → ℕ
nesting_init (ExpressionsInit es) = nesting_all es
nesting_init (DeclarationInit l) = nesting_local l

abbrev mutual
  -- how deep statements and expressions stand one inside another in this statement, itself counted
  pub nesting_statement : Statement → ℕ
  nesting_statement (BlockStatement ss) = nesting_body ss + 1
  nesting_statement EmptyStatement = 1
  nesting_statement (ExpressionStatement e) = nesting e + 1
  nesting_statement BreakStatement = 1
  nesting_statement ContinueStatement = 1
  nesting_statement (ReturnStatement e) = nesting_optional e + 1
  nesting_statement (LocalStatement l) = nesting_local l + 1
  nesting_statement (IfStatement c s) = max (nesting c) (nesting_statement s) + 1
  nesting_statement (IfElseStatement c s u) = max (nesting c) (max (nesting_statement s) (nesting_statement u)) + 1
  nesting_statement (WhileStatement c s) = max (nesting c) (nesting_statement s) + 1
  nesting_statement (DoStatement s c) = max (nesting_statement s) (nesting c) + 1
  nesting_statement (ForStatement i c us s) = max (max (nesting_init i) (nesting_optional c)) (max (nesting_all us) (nesting_statement s)) + 1
  nesting_statement (ForEachStatement ms u n e s) = max (nesting e) (nesting_statement s) + 1
  nesting_statement (ThisCallStatement es) = nesting_all es + 1
  nesting_statement (SuperCallStatement es) = nesting_all es + 1

  -- the greatest nesting of the statements, 0 where there are none
  pub nesting_body : Statements → ℕ
  nesting_body NoStatements = 0
  nesting_body (MoreStatements s ss) = max (nesting_statement s) (nesting_body ss)

-- it ends with an `if` that has no `else`
abbrev pub ends_open : Statement → Bool
ends_open (IfStatement c s) = true
ends_open (IfElseStatement c s u) = ends_open u
ends_open (WhileStatement c s) = ends_open s
ends_open (ForStatement i c us s) = ends_open s
ends_open (ForEachStatement ms u n e s) = ends_open s
ends_open _ = false

-- inside an `if` or an `else`
abbrev pub under : Context → Context
under c = record { in_loop = c.in_loop; direct = false; leading = false }

-- inside a block: locals may be declared there, no constructor may be called by `this` or `super`, and a loop around stays around
abbrev pub in_block : Context → Context
in_block c = record { in_loop = c.in_loop; direct = true; leading = false }

-- what is around the body of a loop: `break` and `continue` may stand there, a declaration of locals may not (JLS 8, 14.15 and 14.16)
abbrev pub loop_body : Context
loop_body = record { in_loop = true; direct = false; leading = false }

-- a statement of a body, first in a constructor or not
abbrev pub body_context : Bool → Context
body_context leading = record { in_loop = false; direct = true; leading = leading }

abbrev mutual
  -- the statement is well formed and may stand there, by what is around it (JLS 8, 14)
  pub GoodStatement : Context → Statement → Type 0
  GoodStatement c (BlockStatement ss) = GoodStatements (in_block c) ss
  GoodStatement c EmptyStatement = Unit {0}
  GoodStatement c (ExpressionStatement e) = Good e × (is_effect e ≡ true)
  GoodStatement c BreakStatement = c.in_loop ≡ true
  GoodStatement c ContinueStatement = c.in_loop ≡ true
  GoodStatement c (ReturnStatement e) = GoodOptional e
  GoodStatement c (LocalStatement l) = GoodLocal l × (c.direct ≡ true)
  GoodStatement c (IfStatement e s) = Good e × GoodStatement (under c) s
  GoodStatement c (IfElseStatement e s u) = Good e × GoodStatement (under c) s × (ends_open s ≡ false) × GoodStatement (under c) u
  GoodStatement c (WhileStatement e s) = Good e × GoodStatement loop_body s
  GoodStatement c (DoStatement s e) = GoodStatement loop_body s × Good e
  GoodStatement c (ForStatement i e us s) = GoodInit i × GoodOptional e × GoodEffects us × GoodStatement loop_body s
  GoodStatement c (ForEachStatement ms u n e s) = (final_once ms ≡ true) × Good e × GoodStatement loop_body s
  GoodStatement c (ThisCallStatement es) = AllGood es × (c.leading ≡ true)
  GoodStatement c (SuperCallStatement es) = AllGood es × (c.leading ≡ true)

  -- each stands as said; none of them leads
  pub GoodStatements : Context → Statements → Type 0
  GoodStatements c NoStatements = Unit {0}
  GoodStatements c (MoreStatements s ss) = GoodStatement c s × GoodStatements c ss

-- the greatest nesting of a statement or an initializer
abbrev pub deepest : ℕ
deepest = 500

-- a whole body: its first statement leads where it is a constructor's
abbrev pub GoodBody : Bool → Statements → Type 0
GoodBody leading NoStatements = Unit {0}
GoodBody leading (MoreStatements s ss) = GoodStatement (body_context leading) s × (nesting_statement s ≤ deepest) × GoodStatements (body_context false) ss × (nesting_body ss ≤ deepest)

-- the modifier is an access word: `public`, `protected` or `private` (JLS 8, 6.6)
abbrev pub is_access : Mark → Bool
is_access PublicMark = true
is_access ProtectedMark = true
is_access PrivateMark = true
is_access _ = false

-- the two are one modifier twice, or two access words
abbrev pub clashes : Mark → Mark → Bool
clashes PublicMark m = is_access m
clashes ProtectedMark m = is_access m
clashes PrivateMark m = is_access m
clashes StaticMark StaticMark = true
clashes ConstantMark ConstantMark = true
clashes AbstractMark AbstractMark = true
clashes _ m = false

-- the modifier clashes with none of these
abbrev pub clashes_none : Mark → List Mark → Bool
clashes_none m [] = true
clashes_none m (k ∷ ks) = not (clashes m k) && clashes_none m ks

-- no word stands twice among the modifiers, and at most one of them is an access word
abbrev pub no_clash : List Mark → Bool
no_clash [] = true
no_clash (m ∷ ms) = clashes_none m ms && no_clash ms

-- what may stand before a class: annotations, `public`, `final` and `abstract` (JLS 8, 8.1.1)
abbrev pub marks_type : Mark → Bool
marks_type ProtectedMark = false
marks_type PrivateMark = false
marks_type StaticMark = false
marks_type _ = true

-- what may stand before an interface: annotations, `public` and `abstract` (JLS 8, 9.1.1)
abbrev pub marks_interface : Mark → Bool
marks_interface ConstantMark = false
marks_interface m = marks_type m

-- what may stand before a field: all modifiers but `abstract` (JLS 8, 8.3.1)
abbrev pub marks_field : Mark → Bool
marks_field AbstractMark = false
marks_field _ = true

-- what may stand before a method of a class: all modifiers (JLS 8, 8.4.3)
abbrev pub marks_method : Mark → Bool
marks_method _ = true

-- what may stand before a method of an interface: annotations, `public` and `abstract` (JLS 8, 9.4)
abbrev pub marks_interface_method : Mark → Bool
marks_interface_method (NoteMark n) = true
marks_interface_method PublicMark = true
marks_interface_method AbstractMark = true
marks_interface_method _ = false

-- what may stand before a constructor: annotations and access words (JLS 8, 8.8.3)
abbrev pub marks_constructor : Mark → Bool
marks_constructor (NoteMark n) = true
marks_constructor m = is_access m

-- each of the modifiers is one that may stand there
abbrev pub every : (Mark → Bool) → List Mark → Bool
every may [] = true
every may (m ∷ ms) = may m && every may ms

-- each of them may stand there, and no two clash
abbrev pub GoodMarks : (Mark → Bool) → List Mark → Type 0
GoodMarks may ms = (every may ms ≡ true) × (no_clash ms ≡ true)

-- the modifier is `static`
abbrev pub is_static_mark : Mark → Bool
is_static_mark StaticMark = true
is_static_mark _ = false

-- `static` is among the modifiers
abbrev pub has_static : List Mark → Bool
has_static [] = false
has_static (m ∷ ms) = is_static_mark m || has_static ms

-- no parameter has `final` more than once (JLS 8, 8.4.1)
abbrev pub GoodParameters : List ParameterTree → Type 0
GoodParameters [] = Unit {0}
GoodParameters (p ∷ ps) = (final_once p.marks ≡ true) × GoodParameters ps

-- a receiver stands in a method that is not static, and has its type's name
abbrev pub GoodReceiver : NameNo → List Mark → Option ReceiverTree → Type 0
GoodReceiver owner ms None = Unit {0}
GoodReceiver owner ms (Some r) = (has_static ms ≡ false) × (r.class ≡ owner)

-- the modifiers may stand before a method, of an interface where the first argument is true, else of a class, and no two clash
abbrev pub GoodMethodMarks : Bool → List Mark → Type 0
GoodMethodMarks true ms = GoodMarks marks_interface_method ms
GoodMethodMarks false ms = GoodMarks marks_method ms

-- all of a method but its body
abbrev pub GoodMethodHead : Owner → List Mark → Option ReceiverTree → List ParameterTree → Type 0
GoodMethodHead o ms r ps = GoodMethodMarks o.interface ms × GoodReceiver o.name ms r × GoodParameters ps

-- a constructor stands in a class and has its name
abbrev pub GoodConstructorHead : Owner → List Mark → NameNo → List ParameterTree → Type 0
GoodConstructorHead o ms n ps = GoodMarks marks_constructor ms × (o.interface ≡ false) × (n ≡ o.name) × GoodParameters ps

-- the field declaration is well formed: good modifiers, and good initial values that are not nested too deep (JLS 8, 8.3)
abbrev pub GoodField : List Mark → DeclaratorTree → List DeclaratorTree → Type 0
GoodField ms d ds = GoodMarks marks_field ms × GoodDeclarators (d ∷ ds) × (nesting_declarators (d ∷ ds) ≤ deepest)

-- a method of an interface has no body
abbrev pub GoodMethodBody : Bool → Option Statements → Type 0
GoodMethodBody interface None = Unit {0}
GoodMethodBody interface (Some ss) = (interface ≡ false) × GoodBody false ss

-- the member is well formed and may stand in this type
abbrev pub GoodMember : Owner → MemberTree → Type 0
GoodMember o (FieldMember ms u d ds) = GoodField ms d ds
GoodMember o (MethodMember ms u n r ps body) = GoodMethodHead o ms r ps × GoodMethodBody o.interface body
GoodMember o (ConstructorMember ms n ps ss) = GoodConstructorHead o ms n ps × GoodBody true ss

-- each of the members is well formed and may stand in this type
abbrev pub GoodMembers : Owner → List MemberTree → Type 0
GoodMembers o [] = Unit {0}
GoodMembers o (m ∷ ms) = GoodMember o m × GoodMembers o ms

-- the type is well formed: its modifiers may stand before it, and its members in it (JLS 8, 8.1 and 9.1)
abbrev pub GoodType : TypeDeclaration → Type 0
GoodType (ClassType ms n parent interfaces members) = GoodMarks marks_type ms × GoodMembers (record { interface = false; name = n }) members
GoodType (InterfaceType ms n parents members) = GoodMarks marks_interface ms × GoodMembers (record { interface = true; name = n }) members

-- each of the types is well formed
abbrev pub GoodTypes : List TypeDeclaration → Type 0
GoodTypes [] = Unit {0}
GoodTypes (t ∷ ts) = GoodType t × GoodTypes ts

-- the file is well formed: each of its types is, and nothing more is asked of its package line and its imports
abbrev pub GoodFile : SourceTree → Type 0
GoodFile f = GoodTypes f.types
