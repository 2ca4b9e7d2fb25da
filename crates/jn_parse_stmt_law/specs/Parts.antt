-- What stands at the front of tokens: annotations, marks, type uses, parameters, declarators, lists of expressions (JLS 8, 9.7, 10.1, 14.4). Each reads as far as it goes, once.
use Rattle.std.specs.Prelude.{ℕ, zero, suc, List, [], ◌∷◌, length, Bool, true, ◌&&◌, Option, Some, None, cond}
use Rattle.jn_base.specs.declared.number.NameNo.{NameNo}
use Rattle.jn_trees.specs.declared.token.TokenKind.{TokenKind}
use Rattle.jn_trees.specs.declared.token.TokenKind.TheVariants.{Id, Final, RightParen, LeftBracket, RightBracket, Semicolon, Comma, At, Assign}
use Rattle.jn_trees.specs.Trees.{BaseTree, Tree, Trees, NoTrees, MoreTrees, LocalMark, AnnotationMark, FinalMark, TypeUseTree, DeclaratorTree, LocalTree, ParameterTree}
use Rattle.jn_trees.specs.WellFormed.{is_effect, final_once}
use Rattle.jn_trees.specs.Longest.{Try}
use Rattle.jn_parse_expr_law.specs.Reader.{annotations, base_of, all_items}

-- what is read, and the tokens after it
abbrev pub Behind : Type 0 → Type 0
Behind A = A × List TokenKind

-- or none
abbrev pub Read : Type 0 → Type 0
Read A = Option (Behind A)

abbrev pub then_read : {A B : Type 0} → Read A → (A → List TokenKind → Read B) → Read B
then_read None f = None
then_read (Some r) f = f r.0 r.1

-- this, where a semicolon follows
abbrev pub ended : {A : Type 0} → A → List TokenKind → Read A
ended a (Semicolon ∷ ts) = Some (a, ts)
ended a _ = None

-- this, where a closing parenthesis follows
abbrev pub closed : {A : Type 0} → A → List TokenKind → Read A
closed a (RightParen ∷ ts) = Some (a, ts)
closed a _ = None

-- one more in front
abbrev pub put : {A : Type 0} → A → Behind (List A) → Behind (List A)
put a r = (a ∷ r.0, r.1)

-- annotations in a row
abbrev pub read_annotations : List TokenKind → Behind (List NameNo)
read_annotations = annotations

-- annotations and `final` in a row
abbrev pub read_marks : List TokenKind → Behind (List LocalMark)
read_marks (At ∷ Id n ∷ ts) = put (AnnotationMark n) (read_marks ts)
read_marks (Final ∷ ts) = put FinalMark (read_marks ts)
read_marks ts = ([], ts)

-- both brackets after these annotations; where they don't stand there, what stood before the annotations follows
abbrev pub brackets_or : List TokenKind → List NameNo → List TokenKind → Behind (Option (List NameNo))
brackets_or us names (LeftBracket ∷ RightBracket ∷ ts) = (Some names, ts)
brackets_or us names _ = (None, us)

abbrev pub read_brackets : List TokenKind → Behind (Option (List NameNo))
read_brackets ts = brackets_or ts (read_annotations ts).0 (read_annotations ts).1

abbrev pub use_of : BaseTree → Behind (Option (List NameNo)) → Behind TypeUseTree
use_of b r = (record { base = b; array = r.0 }, r.1)

abbrev pub type_use_from : Option BaseTree → List TokenKind → Read TypeUseTree
type_use_from None ts = None
type_use_from (Some b) ts = Some (use_of b (read_brackets ts))

-- a type use
abbrev pub read_type_use : List TokenKind → Read TypeUseTree
read_type_use [] = None
read_type_use (k ∷ ts) = type_use_from (base_of k) ts

-- this type use, where a name follows
abbrev pub named : List LocalMark → TypeUseTree → List TokenKind → Read ParameterTree
named ms u (Id n ∷ ts) = Some (record { marks = ms; type_use = u; name = n }, ts)
named ms u _ = None

abbrev pub parameter_from : List LocalMark → List TokenKind → Read ParameterTree
parameter_from ms ts = cond (final_once ms) (then_read (read_type_use ts) (named ms)) None

-- marks, a type use and a name: a parameter, and what a declaration of locals and a for-each begin with
abbrev pub read_parameter : List TokenKind → Read ParameterTree
read_parameter ts = parameter_from (read_marks ts).0 (read_marks ts).1

-- the value after `=`; where none can be read, `=` follows
abbrev pub value_or : List TokenKind → Try → Behind (Option Tree)
value_or us None = (None, us)
value_or us (Some r) = (Some r.0, r.1)

abbrev pub read_value : (List TokenKind → Try) → List TokenKind → Behind (Option Tree)
read_value whole (Assign ∷ ts) = value_or (Assign ∷ ts) (whole ts)
read_value whole ts = (None, ts)

abbrev pub declarator : NameNo → Behind (Option Tree) → Behind DeclaratorTree
declarator n v = (record { name = n; value = v.0 }, v.1)

-- a declarator from what stands after its name
abbrev pub declarator_behind : (List TokenKind → Try) → NameNo → List TokenKind → Behind DeclaratorTree
declarator_behind whole n ts = declarator n (read_value whole ts)

abbrev pub put_before : {A : Type 0} → Behind A → (List TokenKind → Behind (List A)) → Behind (List A)
put_before r f = put r.0 (f r.1)

-- at most n declarators, each with its comma before it
abbrev pub more_declarators : (List TokenKind → Try) → ℕ → List TokenKind → Behind (List DeclaratorTree)
more_declarators whole zero ts = ([], ts)
more_declarators whole (suc n) (Comma ∷ Id x ∷ ts) = put_before (declarator_behind whole x ts) (more_declarators whole n)
more_declarators whole (suc n) ts = ([], ts)

-- all of them
unfoldable pub all_declarators : (List TokenKind → Try) → List TokenKind → Behind (List DeclaratorTree)
all_declarators whole ts = more_declarators whole (length ts) ts

abbrev pub first_and_more : Behind DeclaratorTree → (List TokenKind → Behind (List DeclaratorTree)) → Behind (DeclaratorTree × List DeclaratorTree)
first_and_more r f = ((r.0, (f r.1).0), (f r.1).1)

-- declarators from what stands after the first name
abbrev pub declarators_behind : (List TokenKind → Try) → NameNo → List TokenKind → Behind (DeclaratorTree × List DeclaratorTree)
declarators_behind whole n ts = first_and_more (declarator_behind whole n ts) (all_declarators whole)

-- declarators, where there is a name
abbrev pub read_declarators : (List TokenKind → Try) → List TokenKind → Read (DeclaratorTree × List DeclaratorTree)
read_declarators whole (Id n ∷ ts) = Some (declarators_behind whole n ts)
read_declarators whole _ = None

abbrev pub local_of : ParameterTree → Behind (DeclaratorTree × List DeclaratorTree) → Behind LocalTree
local_of p r = (record { marks = p.marks; type_use = p.type_use; first = r.0.0; more = r.0.1 }, r.1)

-- a declaration of locals from what stands after its first name
abbrev pub local_behind : (List TokenKind → Try) → ParameterTree → List TokenKind → Behind LocalTree
local_behind whole p ts = local_of p (declarators_behind whole p.name ts)

-- a declaration of locals, without what ends it
abbrev pub read_local : (List TokenKind → Try) → List TokenKind → Read LocalTree
read_local whole ts = then_read (read_parameter ts) (λ p us. Some (local_behind whole p us))

-- expressions with commas between them, or none, through the semicolon
abbrev pub read_initial : (List TokenKind → Try) → List TokenKind → Read Trees
read_initial whole (Semicolon ∷ ts) = Some (NoTrees, ts)
read_initial whole ts = then_read (all_items whole ts) ended

abbrev pub are_effects : Trees → Bool
are_effects NoTrees = true
are_effects (MoreTrees e es) = is_effect e && are_effects es

-- all of them can stand as statements
abbrev pub if_effects : Trees → List TokenKind → Read Trees
if_effects es ts = cond (are_effects es) (Some (es, ts)) None

-- an expression before a semicolon, or the semicolon alone
abbrev pub read_optional : (List TokenKind → Try) → List TokenKind → Read (Option Tree)
read_optional whole (Semicolon ∷ ts) = Some (None, ts)
read_optional whole ts = then_read (whole ts) (λ e us. ended (Some e) us)
