-- What the definitions give for small files, by computation.
use Rattle.std.proofs.Common.{◌≡◌, ℕ, true, false, List, [], ◌∷◌, Option, Some, None, refl}
use Rattle.std.specs.Prelude.{codes}
use Rattle.jn_base.specs.declared.number.NameNo.{NameNo}
use Rattle.jn_quals.specs.Qualifier.{Qualifier}
use Rattle.jn_quals.specs.Order.{null_or_committed, committed_only, null_only}
use Rattle.jn_points.specs.declared.program.Program.{Program}
use Rattle.jn_trees.specs.declared.token.Token.{Token}
use Rattle.jn_trees.specs.declared.token.TokenKind.{TokenKind}
use Rattle.jn_trees.specs.declared.token.TokenKind.TheVariants.{Package as PackageWord, Id, Class, Private, Final, Void, Semicolon, LeftParen, RightParen, LeftBrace, RightBrace, LeftBracket, RightBracket}
use Rattle.jn_trees.specs.Trees.{ClassBase, TypeUseTree, FinalMark, PrivateMark, StaticMark, MemberTree, FieldMember, MethodMember, ClassType, NoStatements, SourceTree}
use Rattle.jn_places.specs.Places.{place_file}
use Rattle.jn_heads.specs.Extract.{heads}
use Rattle.jn_classtable.specs.Table.{table}
use Rattle.jn_annotate.specs.Imports.{with_lines}
use Rattle.jn_annotate.specs.Annotated.{annotated, has_no_spelling, has_shared_type}

abbrev pub n : ℕ → NameNo
n i = record { 0 = i }

abbrev pub tk : TokenKind → ℕ → ℕ → Token
tk k from to = record { kind = k; span = record { file = record { 0 = 0 }; from = from; to = to } }

abbrev pub one_class : List MemberTree → SourceTree
one_class members = record { package_line = None; imports = []; types = ClassType [] (n 30) None [] members ∷ [] }

abbrev table_of : List Token → SourceTree → Program
table_of ts f = table (heads (place_file ts f ∷ []))

abbrev new_text : List ℕ → List Token → SourceTree → List Qualifier → List (List ℕ)
new_text text ts f s = annotated false (table_of ts f).slots (table_of ts f) s (text ∷ []) (ts ∷ []) (f ∷ [])

abbrev pub use_of : ℕ → Option (List NameNo) → TypeUseTree
use_of i array = record { base = ClassBase (n i); array = array }

-- a field that may be null
abbrev field_text : List ℕ
field_text = codes "class K { private String s; }"

abbrev field_tokens : List Token
field_tokens = tk Class 0 5 ∷ tk (Id (n 30)) 6 7 ∷ tk LeftBrace 8 9 ∷ tk Private 10 17 ∷ tk (Id (n 0)) 18 24 ∷ tk (Id (n 31)) 25 26 ∷ tk Semicolon 26 27 ∷ tk RightBrace 28 29 ∷ []

abbrev field_tree : SourceTree
field_tree = one_class (FieldMember (PrivateMark ∷ []) (use_of 0 None) (record { name = n 31; value = None }) [] ∷ [])

a_field : new_text field_text field_tokens field_tree (null_or_committed ∷ []) ≡ codes "class K { private @Nullable String s; }" ∷ []
unfolding with_lines
a_field = refl

-- with an import, at the file's first byte
a_first_line : annotated true (table_of field_tokens field_tree).slots (table_of field_tokens field_tree) (null_or_committed ∷ []) (field_text ∷ []) (field_tokens ∷ []) (field_tree ∷ []) ≡ codes "import org.checkerframework.checker.nullness.qual.*;\nclass K { private @Nullable String s; }" ∷ []
unfolding with_lines
a_first_line = refl

-- after a package line, in a text of lines that end with CR LF
abbrev lined_text : List ℕ
lined_text = codes "package p;\r\nclass K { private String s; }"

abbrev lined_tokens : List Token
lined_tokens = tk PackageWord 0 7 ∷ tk (Id (n 32)) 8 9 ∷ tk Semicolon 9 10 ∷ tk Class 12 17 ∷ tk (Id (n 30)) 18 19 ∷ tk LeftBrace 20 21 ∷ tk Private 22 29 ∷ tk (Id (n 0)) 30 36 ∷ tk (Id (n 31)) 37 38 ∷ tk Semicolon 38 39 ∷ tk RightBrace 40 41 ∷ []

abbrev lined_tree : SourceTree
lined_tree = record { package_line = Some (record { first = n 32; more = [] }); imports = []; types = field_tree.types }

a_line_behind : annotated true (table_of lined_tokens lined_tree).slots (table_of lined_tokens lined_tree) (null_or_committed ∷ []) (lined_text ∷ []) (lined_tokens ∷ []) (lined_tree ∷ []) ≡ codes "package p;\r\nimport org.checkerframework.checker.nullness.qual.*;\r\nclass K { private @Nullable String s; }" ∷ []
unfolding with_lines
a_line_behind = refl

-- a receiver that isn't named
abbrev show_text : List ℕ
show_text = codes "class P { private void show() { } }"

abbrev show_tokens : List Token
show_tokens = tk Class 0 5 ∷ tk (Id (n 30)) 6 7 ∷ tk LeftBrace 8 9 ∷ tk Private 10 17 ∷ tk Void 18 22 ∷ tk (Id (n 31)) 23 27 ∷ tk LeftParen 27 28 ∷ tk RightParen 28 29 ∷ tk LeftBrace 30 31 ∷ tk RightBrace 32 33 ∷ tk RightBrace 34 35 ∷ []

abbrev show_tree : SourceTree
show_tree = one_class (MethodMember (PrivateMark ∷ []) None (n 31) None [] (Some NoStatements) ∷ [])

a_receiver : new_text show_text show_tokens show_tree (record { null = false; committed = true; free = true } ∷ []) ≡ codes "class P { private void show(@UnknownInitialization P this) { } }" ∷ []
unfolding with_lines
a_receiver = refl

-- a receiver, and a parameter of an array's type after `final`; the slot of the elements is none
abbrev array_text : List ℕ
array_text = codes "class P { private void f(final String[] a) { } }"

abbrev array_tokens : List Token
array_tokens = tk Class 0 5 ∷ tk (Id (n 30)) 6 7 ∷ tk LeftBrace 8 9 ∷ tk Private 10 17 ∷ tk Void 18 22 ∷ tk (Id (n 31)) 23 24 ∷ tk LeftParen 24 25 ∷ tk Final 25 30 ∷ tk (Id (n 0)) 31 37 ∷ tk LeftBracket 37 38 ∷ tk RightBracket 38 39 ∷ tk (Id (n 32)) 40 41 ∷ tk RightParen 41 42 ∷ tk LeftBrace 43 44 ∷ tk RightBrace 45 46 ∷ tk RightBrace 47 48 ∷ []

abbrev array_tree : SourceTree
array_tree = one_class (MethodMember (PrivateMark ∷ []) None (n 31) None (record { marks = FinalMark ∷ []; type_use = use_of 0 (Some []); name = n 32 } ∷ []) (Some NoStatements) ∷ [])

an_array : new_text array_text array_tokens array_tree (committed_only ∷ null_or_committed ∷ []) ≡ codes "class P { private void f(@Initialized P this, final String @Nullable @Initialized [] a) { } }" ∷ []
unfolding with_lines
an_array = refl

-- class A { private static void f(String s) { } void g() { .. } }, where the slot of `s` is {N}
abbrev static_tree : SourceTree
static_tree = one_class
    (MethodMember (PrivateMark ∷ StaticMark ∷ []) None (n 31) None (record { marks = []; type_use = use_of 0 None; name = n 32 } ∷ []) (Some NoStatements)
    ∷ MethodMember [] None (n 33) None [] (Some NoStatements) ∷ [])

no_spelling : has_no_spelling (table_of [] static_tree) (null_only ∷ committed_only ∷ []) 0 ≡ true
no_spelling = refl

-- `private String x, y;` where the second may be null
abbrev shared_tree : SourceTree
shared_tree = one_class (FieldMember (PrivateMark ∷ []) (use_of 0 None) (record { name = n 31; value = None }) (record { name = n 32; value = None } ∷ []) ∷ [])

not_shared : has_shared_type (table_of [] shared_tree) (committed_only ∷ null_or_committed ∷ []) (shared_tree ∷ []) 0 ≡ false
not_shared = refl

shared : has_shared_type (table_of [] shared_tree) (committed_only ∷ null_or_committed ∷ []) (shared_tree ∷ []) 1 ≡ true
shared = refl
