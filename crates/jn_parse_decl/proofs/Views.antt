-- Views of lists with one item more.
use Rattle.std.proofs.Common.{◌≡◌, Option, List, [], ◌∷◌, ◌++◌, map, refl, ap, ◌∙◌}
use Rattle.jn_trees.specs.declared.statement.Stmt.{Stmt}
use Rattle.jn_trees.specs.Trees.{MoreStatements}
use Rattle.jn_trees.specs.View.{statement_view, statement_views}
use Rattle.jn_parse_decl_law.specs.Built.{Built, OpenType, open_type, add, all_statements}
use Rattle.jn_parse_decl.specs.declared.piece.TypeHead.{TypeHead}
use Rattle.jn_parse_decl.specs.declared.piece.TypeHead.TheVariants.{Class, Interface}
use Rattle.jn_parse_decl.specs.Seen.{head_piece, opening}

map_push : {A B : Type 0} (f : A → B) (xs : List A) (x : A) → map f (xs ++ x ∷ []) ≡ map f xs ++ f x ∷ []
map_push f [] x = refl
map_push f (y ∷ xs) x = ap (λ zs. f y ∷ zs) (map_push f xs x)

pub more : {A B : Type 0} (f : A → B) (xs all : List A) (x : A) → all ≡ xs ++ x ∷ [] → map f all ≡ map f xs ++ f x ∷ []
more f xs all x e = ap (map f) e ∙ map_push f xs x

map_both : {A B : Type 0} (f : A → B) (xs ys : List A) → map f (xs ++ ys) ≡ map f xs ++ map f ys
map_both f [] ys = refl
map_both f (x ∷ xs) ys = ap (λ zs. f x ∷ zs) (map_both f xs ys)

pub both : {A B : Type 0} (f : A → B) (xs ys all : List A) → all ≡ xs ++ ys → map f all ≡ map f xs ++ map f ys
both f xs ys all e = ap (map f) e ∙ map_both f xs ys

pub same_statements : (ss : List Stmt) → statement_views ss ≡ all_statements (map statement_view ss)
same_statements [] = refl
same_statements (s ∷ ss) = ap (λ us. MoreStatements (statement_view s) us) (same_statements ss)

-- a type begins
pub add_head : (b : Built) (h : TypeHead) (i : Option OpenType) → i ≡ open_type (opening h) → ◌≡◌ {A = Built} (record { package_line = b.package_line; imports = b.imports; types = b.types; inside = i }) (add b (head_piece h))
add_head b (Class ms n parent interfaces) i e = ap (λ (x : Option OpenType). let r : Built = record { package_line = b.package_line; imports = b.imports; types = b.types; inside = x } in r) e
add_head b (Interface ms n parents) i e = ap (λ (x : Option OpenType). let r : Built = record { package_line = b.package_line; imports = b.imports; types = b.types; inside = x } in r) e
