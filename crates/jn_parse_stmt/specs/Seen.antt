-- What was read, without the places in memory.
use Rattle.std.specs.Prelude.{List, [], ◌∷◌, Option, Some, None, Vec}
use Rattle.std.specs.Borrow.{Bor}
use Rattle.std.specs.declared.alloc.Global.{Global}
use Rattle.std.specs.Global.{Box}
use Rattle.jn_trees.specs.declared.token.Token.{Token}
use Rattle.jn_trees.specs.declared.token.TokenKind.{TokenKind}
use Rattle.jn_trees.specs.declared.expression.Expr.{Expr}
use Rattle.jn_trees.specs.declared.statement.Stmt.{Stmt}
use Rattle.jn_trees.specs.declared.statement.Declarator.{Declarator}
use Rattle.jn_trees.specs.declared.token.TokenKind.TheVariants.{Id, Final, At}
use Rattle.jn_trees.specs.Trees.{Tree, Trees, Statement, Statements, BaseTree, DeclaratorTree, LocalMark, AnnotationMark, FinalMark}
use Rattle.jn_trees.specs.View.{view, views, statement_view, statement_views, declarator_view, declarator_views}
use Rattle.jn_trees.specs.Pieces.{kinds}
use Rattle.jn_parse_expr_law.specs.Reader.{base_of}
use Rattle.jn_parse_stmt_law.specs.Parts.{Behind, Read}

-- what was read and the tokens after it, or none
abbrev pub seen_as : {A B : Type 0} → (A → B) → Option (A × Bor (List Token)) → Read B
seen_as v None = None
seen_as v (Some r) = Some (v r.0, kinds r.1.now)

abbrev pub all_views : Vec Expr Global → Trees
all_views v = views v.items

abbrev pub boxed_view : Box Stmt → Statement
boxed_view b = statement_view b.value

abbrev pub body_views : Vec Stmt Global → Statements
body_views v = statement_views v.items

abbrev pub seen_declarators : Declarator × Vec Declarator Global × Bor (List Token) → Behind (DeclaratorTree × List DeclaratorTree)
seen_declarators r = ((declarator_view r.0, declarator_views r.1.items), kinds r.2.now)

abbrev pub maybe_declarators : Option (Declarator × Vec Declarator Global × Bor (List Token)) → Read (DeclaratorTree × List DeclaratorTree)
maybe_declarators None = None
maybe_declarators (Some r) = Some (seen_declarators r)

abbrev pub base_behind : Option BaseTree → List TokenKind → Read BaseTree
base_behind None ts = None
base_behind (Some b) ts = Some (b, ts)

-- the type without brackets that stands first
abbrev pub read_base : List TokenKind → Read BaseTree
read_base [] = None
read_base (k ∷ ts) = base_behind (base_of k) ts

-- a mark before these tokens
abbrev pub mark_tokens : LocalMark → List TokenKind → List TokenKind
mark_tokens (AnnotationMark n) ts = At ∷ Id n ∷ ts
mark_tokens FinalMark ts = Final ∷ ts
