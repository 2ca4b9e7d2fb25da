-- Three whole files under both choices of members that are inferred, by computation.
use Rattle.std.proofs.Common.{◌≡◌, ℕ, Bool, true, false, List, [], ◌∷◌, Some, None, refl}
use Rattle.std.specs.Prelude.{codes}
use Rattle.jn_base.specs.declared.infer.Infer.{Infer}
use Rattle.jn_base.specs.declared.infer.Infer.TheVariants.{Private as PrivateAlone, Package}
use Rattle.jn_quals.specs.Qualifier.{Qualifier}
use Rattle.jn_quals.specs.Order.{null_or_committed, committed_only, null_only}
use Rattle.jn_trees.specs.declared.token.Token.{Token}
use Rattle.jn_trees.specs.declared.token.TokenKind.TheVariants.{Id, Str, Number, Class, Private, Static, Void, Int, If, Return, This, Null, Assign, NotEqual, Dot, Semicolon, LeftParen, RightParen, LeftBrace, RightBrace}
use Rattle.jn_trees.specs.declared.expression.AssignOperator.TheVariants.{Assign as PlainAssign}
use Rattle.jn_trees.specs.declared.expression.BinaryOperator.TheVariants.{NotEqual as Unequal}
use Rattle.jn_trees.specs.declared.expression.Literal.TheVariants.{Null as NullLiteral, Number as NumberLiteral, Str as Text}
use Rattle.jn_trees.specs.Trees.{IntBase, Tree, LiteralTree, NameTree, ThisTree, FieldTree, CallTree, OwnCallTree, BinaryTree, AssignTree, NoTrees, MoreTrees, Statement, Statements, ExpressionStatement, IfStatement, ReturnStatement, NoStatements, MoreStatements, PrivateMark, StaticMark, FieldMember, MethodMember, ConstructorMember, ParameterTree, SourceTree}
use Rattle.jn_places.specs.Places.{place_file}
use Rattle.jn_program_law.specs.FileProgram.{inferring}
use Rattle.jn_annotate.specs.Imports.{with_lines}
use Rattle.jn_annotate.specs.Annotated.{annotated, has_no_spelling}
use Rattle.jn_annotate.specs.Chosen.{chosen_slots}
use Rattle.jn_annotate_law.proofs.Rows.{n, one_class, tk, use_of}

abbrev texts_by : Bool → Infer → List ℕ → List Token → SourceTree → List Qualifier → List (List ℕ)
texts_by terse infer text ts f s = let P = inferring infer (place_file ts f ∷ []) in annotated false (chosen_slots terse P s) P s (text ∷ []) (ts ∷ []) (f ∷ [])

abbrev new_texts : Infer → List ℕ → List Token → SourceTree → List Qualifier → List (List ℕ)
new_texts = texts_by false

abbrev one : Statement → Statements
one x = MoreStatements x NoStatements

abbrev of_this : ℕ → Tree
of_this i = FieldTree ThisTree (n i)

abbrev parameter : ℕ → ParameterTree
parameter i = record { marks = []; type_use = use_of 0 None; name = n i }

-- ---- a private field that one constructor leaves null: its words change no row

abbrev k_text : List ℕ
k_text = codes "class K {\n  private String s;\n  K() { }\n  K(String t) { this.s = t; }\n  int n() {\n    if (s != null) return s.length();\n    return 0;\n  }\n}\n"

abbrev k_tokens : List Token
k_tokens = tk Class 0 5 ∷ tk (Id (n 30)) 6 7 ∷ tk LeftBrace 8 9 ∷ tk Private 12 19 ∷ tk (Id (n 0)) 20 26 ∷ tk (Id (n 31)) 27 28 ∷ tk Semicolon 28 29 ∷ tk (Id (n 30)) 32 33 ∷ tk LeftParen 33 34 ∷ tk RightParen 34 35 ∷ tk LeftBrace 36 37 ∷ tk RightBrace 38 39 ∷ tk (Id (n 30)) 42 43 ∷ tk LeftParen 43 44 ∷ tk (Id (n 0)) 44 50 ∷ tk (Id (n 32)) 51 52 ∷ tk RightParen 52 53 ∷ tk LeftBrace 54 55 ∷ tk This 56 60 ∷ tk Dot 60 61 ∷ tk (Id (n 31)) 61 62 ∷ tk Assign 63 64 ∷ tk (Id (n 32)) 65 66 ∷ tk Semicolon 66 67 ∷ tk RightBrace 68 69 ∷ tk Int 72 75 ∷ tk (Id (n 33)) 76 77 ∷ tk LeftParen 77 78 ∷ tk RightParen 78 79 ∷ tk LeftBrace 80 81 ∷ tk If 86 88 ∷ tk LeftParen 89 90 ∷ tk (Id (n 31)) 90 91 ∷ tk NotEqual 92 94 ∷ tk Null 95 99 ∷ tk RightParen 99 100 ∷ tk Return 101 107 ∷ tk (Id (n 31)) 108 109 ∷ tk Dot 109 110 ∷ tk (Id (n 4)) 110 116 ∷ tk LeftParen 116 117 ∷ tk RightParen 117 118 ∷ tk Semicolon 118 119 ∷ tk Return 124 130 ∷ tk (Number 0) 131 132 ∷ tk Semicolon 132 133 ∷ tk RightBrace 136 137 ∷ tk RightBrace 138 139 ∷ []

abbrev k_tree : SourceTree
k_tree = one_class
    (FieldMember (PrivateMark ∷ []) (use_of 0 None) (record { name = n 31; value = None }) []
    ∷ ConstructorMember [] (n 30) [] NoStatements
    ∷ ConstructorMember [] (n 30) (parameter 32 ∷ []) (one (ExpressionStatement (AssignTree (of_this 31) PlainAssign (NameTree (n 32)))))
    ∷ MethodMember [] (Some (record { base = IntBase; array = None })) (n 33) None []
    (Some (MoreStatements (IfStatement (BinaryTree (NameTree (n 31)) Unequal (LiteralTree NullLiteral)) (ReturnStatement (Some (CallTree (NameTree (n 31)) (n 4) NoTrees)))) (one (ReturnStatement (Some (LiteralTree (NumberLiteral 0)))))))
    ∷ [])

-- the slots of `s`, `t` and the receiver of `n`
abbrev k_signature : List Qualifier
k_signature = null_or_committed ∷ committed_only ∷ committed_only ∷ []

k_private : new_texts PrivateAlone k_text k_tokens k_tree k_signature ≡ codes "class K {\n  private @Nullable String s;\n  K() { }\n  K(String t) { this.s = t; }\n  int n() {\n    if (s != null) return s.length();\n    return 0;\n  }\n}\n" ∷ []
unfolding with_lines
k_private = refl

k_package : new_texts Package k_text k_tokens k_tree k_signature ≡ codes "class K {\n  private @Nullable String s;\n  K() { }\n  K(@NonNull @Initialized String t) { this.s = t; }\n  int n(@Initialized K this) {\n    if (s != null) return s.length();\n    return 0;\n  }\n}\n" ∷ []
unfolding with_lines
k_package = refl

-- words that say the default are left out
k_terse : texts_by true Package k_text k_tokens k_tree k_signature ≡ codes "class K {\n  private @Nullable String s;\n  K() { }\n  K(String t) { this.s = t; }\n  int n() {\n    if (s != null) return s.length();\n    return 0;\n  }\n}\n" ∷ []
unfolding with_lines
k_terse = refl

-- ---- a receiver under construction

abbrev p_text : List ℕ
p_text = codes "class P {\n  private String x;\n  P() { this.show(); this.x = \"a\"; }\n  private void show() { this.x.length(); }\n  void go() { this.show(); }\n}\n"

abbrev p_tokens : List Token
p_tokens = tk Class 0 5 ∷ tk (Id (n 30)) 6 7 ∷ tk LeftBrace 8 9 ∷ tk Private 12 19 ∷ tk (Id (n 0)) 20 26 ∷ tk (Id (n 31)) 27 28 ∷ tk Semicolon 28 29 ∷ tk (Id (n 30)) 32 33 ∷ tk LeftParen 33 34 ∷ tk RightParen 34 35 ∷ tk LeftBrace 36 37 ∷ tk This 38 42 ∷ tk Dot 42 43 ∷ tk (Id (n 32)) 43 47 ∷ tk LeftParen 47 48 ∷ tk RightParen 48 49 ∷ tk Semicolon 49 50 ∷ tk This 51 55 ∷ tk Dot 55 56 ∷ tk (Id (n 31)) 56 57 ∷ tk Assign 58 59 ∷ tk (Str (n 40)) 60 63 ∷ tk Semicolon 63 64 ∷ tk RightBrace 65 66 ∷ tk Private 69 76 ∷ tk Void 77 81 ∷ tk (Id (n 32)) 82 86 ∷ tk LeftParen 86 87 ∷ tk RightParen 87 88 ∷ tk LeftBrace 89 90 ∷ tk This 91 95 ∷ tk Dot 95 96 ∷ tk (Id (n 31)) 96 97 ∷ tk Dot 97 98 ∷ tk (Id (n 4)) 98 104 ∷ tk LeftParen 104 105 ∷ tk RightParen 105 106 ∷ tk Semicolon 106 107 ∷ tk RightBrace 108 109 ∷ tk Void 112 116 ∷ tk (Id (n 33)) 117 119 ∷ tk LeftParen 119 120 ∷ tk RightParen 120 121 ∷ tk LeftBrace 122 123 ∷ tk This 124 128 ∷ tk Dot 128 129 ∷ tk (Id (n 32)) 129 133 ∷ tk LeftParen 133 134 ∷ tk RightParen 134 135 ∷ tk Semicolon 135 136 ∷ tk RightBrace 137 138 ∷ tk RightBrace 139 140 ∷ []

abbrev p_tree : SourceTree
p_tree = one_class
    (FieldMember (PrivateMark ∷ []) (use_of 0 None) (record { name = n 31; value = None }) []
    ∷ ConstructorMember [] (n 30) [] (MoreStatements (ExpressionStatement (CallTree ThisTree (n 32) NoTrees)) (one (ExpressionStatement (AssignTree (of_this 31) PlainAssign (LiteralTree (Text (n 40)))))))
    ∷ MethodMember (PrivateMark ∷ []) None (n 32) None [] (Some (one (ExpressionStatement (CallTree (of_this 31) (n 4) NoTrees))))
    ∷ MethodMember [] None (n 33) None [] (Some (one (ExpressionStatement (CallTree ThisTree (n 32) NoTrees))))
    ∷ [])

-- the slots of `x` and of the receivers of `show` and `go`
abbrev p_signature : List Qualifier
p_signature = committed_only ∷ record { null = false; committed = true; free = true } ∷ committed_only ∷ []

p_private : new_texts PrivateAlone p_text p_tokens p_tree p_signature ≡ codes "class P {\n  private @NonNull String x;\n  P() { this.show(); this.x = \"a\"; }\n  private void show(@UnknownInitialization P this) { this.x.length(); }\n  void go() { this.show(); }\n}\n" ∷ []
unfolding with_lines
p_private = refl

p_package : new_texts Package p_text p_tokens p_tree p_signature ≡ codes "class P {\n  private @NonNull String x;\n  P() { this.show(); this.x = \"a\"; }\n  private void show(@UnknownInitialization P this) { this.x.length(); }\n  void go(@Initialized P this) { this.show(); }\n}\n" ∷ []
unfolding with_lines
p_package = refl

-- ---- a parameter that is only ever null has no spelling: class A { private static void f(String s) { } void g() { f(null); } }

abbrev a_tokens : List Token
a_tokens = tk Class 0 5 ∷ tk (Id (n 30)) 6 7 ∷ tk LeftBrace 8 9 ∷ tk Private 10 17 ∷ tk Static 18 24 ∷ tk Void 25 29 ∷ tk (Id (n 31)) 30 31 ∷ tk LeftParen 31 32 ∷ tk (Id (n 0)) 32 38 ∷ tk (Id (n 32)) 39 40 ∷ tk RightParen 40 41 ∷ tk LeftBrace 42 43 ∷ tk RightBrace 44 45 ∷ tk Void 46 50 ∷ tk (Id (n 33)) 51 52 ∷ tk LeftParen 52 53 ∷ tk RightParen 53 54 ∷ tk LeftBrace 55 56 ∷ tk (Id (n 31)) 57 58 ∷ tk LeftParen 58 59 ∷ tk Null 59 63 ∷ tk RightParen 63 64 ∷ tk Semicolon 64 65 ∷ tk RightBrace 66 67 ∷ tk RightBrace 68 69 ∷ []

abbrev a_tree : SourceTree
a_tree = one_class
    (MethodMember (PrivateMark ∷ StaticMark ∷ []) None (n 31) None (parameter 32 ∷ []) (Some NoStatements)
    ∷ MethodMember [] None (n 33) None [] (Some (one (ExpressionStatement (OwnCallTree (n 31) (MoreTrees (LiteralTree NullLiteral) NoTrees)))))
    ∷ [])

abbrev unspelled : Infer → ℕ → Bool
unspelled infer = has_no_spelling (inferring infer (place_file a_tokens a_tree ∷ [])) (null_only ∷ committed_only ∷ [])

a_private : unspelled PrivateAlone 0 ≡ true
a_private = refl

a_package : unspelled Package 0 ≡ true
a_package = refl

a_spelled : unspelled Package 1 ≡ false
a_spelled = refl

-- it is left as it is, and the others get their words
abbrev a_text : List ℕ
a_text = codes "class A { private static void f(String s) { } void g() { f(null); } }"

a_left : new_texts Package a_text a_tokens a_tree (null_only ∷ committed_only ∷ []) ≡ codes "class A { private static void f(String s) { } void g(@Initialized A this) { f(null); } }" ∷ []
unfolding with_lines
a_left = refl
