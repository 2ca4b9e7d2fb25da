-- The pieces of a well-formed file are in order, spell it, and build it.
use Rattle.std.proofs.Common.{◌≡◌, ◌≤◌, List, [], ◌∷◌, ◌++◌, refl, sym, ap, ◌∙◌, subst, arith, append_assoc, append-nil, Option, Some, None, Bool, true, false}
use Rattle.jn_trees.specs.declared.token.TokenKind.{TokenKind}
use Rattle.jn_trees.specs.declared.token.TokenKind.TheVariants.{LeftBrace, Semicolon}
use Rattle.jn_trees.specs.declared.context.Owner.{Owner}
use Rattle.jn_trees.specs.Trees.{Statement, Statements, NoStatements, MoreStatements, MemberTree, FieldMember, MethodMember, ConstructorMember, TypeDeclaration, ClassType, InterfaceType, DottedName, ImportTree, SourceTree}
use Rattle.jn_trees.specs.Spelling.{spell_package_line, spell_import, spell_imports, spell_types, spell_type, spell_members, spell_member, spell_body, spell_statement, spell_field, spell_method_head, spell_constructor_head, spell_class_head, spell_interface_head, spell_file}
use Rattle.jn_trees.specs.WellFormed.{GoodBody, GoodStatements, nesting_body, GoodMember, GoodMembers, GoodType, GoodTypes, GoodFile, body_context, deepest}
use Rattle.jn_trees.specs.Pieces.{spell_pieces, InOrder, Piece, TypeEnd, spell_piece, Around, AtStart, BehindLines, BehindTypes, InType, InBody, pieces}
use Rattle.jn_parse_decl_law.specs.Built.{TypeOpening, ClassOpening, InterfaceOpening, MemberOpening, MethodOpening, ConstructorOpening, Built, nothing, all_statements, member_of, type_of, add, add_all, finished}
use Rattle.jn_parse_decl_law.specs.TreePieces.{body_pieces, member_pieces, members_pieces, type_pieces, types_pieces, package_pieces, import_pieces, tree_pieces}

abbrev pub spelled : List Piece → List TokenKind
spelled ps = spell_pieces pieces ps

pub spelled_both : (ps qs : List Piece) → spelled (ps ++ qs) ≡ spelled ps ++ spelled qs
spelled_both [] qs = refl
spelled_both (p ∷ ps) qs = ap (λ x. spell_piece p ++ x) (spelled_both ps qs) ∙ sym (append_assoc (spell_piece p) (spelled ps) (spelled qs))

-- they spell it
body_spelled : (ss : Statements) → spelled (body_pieces ss) ≡ spell_body ss
body_spelled NoStatements = refl
body_spelled (MoreStatements s ss) = ap (λ x. spell_statement s ++ x) (body_spelled ss)

member_spelled : (m : MemberTree) → spelled (member_pieces m) ≡ spell_member m
member_spelled (FieldMember ms u d ds) = append-nil (spell_field ms u d ds)
member_spelled (MethodMember ms u n r ps None) = append-nil (spell_method_head ms u n r ps ++ Semicolon ∷ [])
member_spelled (MethodMember ms u n r ps (Some ss)) = append_assoc (spell_method_head ms u n r ps) (LeftBrace ∷ []) (spelled (body_pieces ss)) ∙ ap (λ x. spell_method_head ms u n r ps ++ LeftBrace ∷ x) (body_spelled ss)
member_spelled (ConstructorMember ms n ps ss) = append_assoc (spell_constructor_head ms n ps) (LeftBrace ∷ []) (spelled (body_pieces ss)) ∙ ap (λ x. spell_constructor_head ms n ps ++ LeftBrace ∷ x) (body_spelled ss)

members_spelled : (ms : List MemberTree) → spelled (members_pieces ms ++ TypeEnd ∷ []) ≡ spell_members ms
members_spelled [] = refl
members_spelled (m ∷ ms) =
    ap spelled (append_assoc (member_pieces m) (members_pieces ms) (TypeEnd ∷ []))
    ∙ spelled_both (member_pieces m) (members_pieces ms ++ TypeEnd ∷ [])
    ∙ ap (λ x. x ++ spelled (members_pieces ms ++ TypeEnd ∷ [])) (member_spelled m)
    ∙ ap (λ x. spell_member m ++ x) (members_spelled ms)

type_spelled : (t : TypeDeclaration) → spelled (type_pieces t) ≡ spell_type t
type_spelled (ClassType ms n parent interfaces members) = ap (λ x. spell_class_head ms n parent interfaces ++ x) (members_spelled members)
type_spelled (InterfaceType ms n parents members) = ap (λ x. spell_interface_head ms n parents ++ x) (members_spelled members)

types_spelled : (ts : List TypeDeclaration) → spelled (types_pieces ts) ≡ spell_types ts
types_spelled [] = refl
types_spelled (t ∷ ts) = spelled_both (type_pieces t) (types_pieces ts) ∙ ap (λ x. x ++ spelled (types_pieces ts)) (type_spelled t) ∙ ap (λ x. spell_type t ++ x) (types_spelled ts)

imports_spelled : (is : List ImportTree) (qs : List Piece) → spelled (import_pieces is ++ qs) ≡ spell_imports is ++ spelled qs
imports_spelled [] qs = refl
imports_spelled (i ∷ is) qs = ap (λ x. spell_import i ++ x) (imports_spelled is qs) ∙ sym (append_assoc (spell_import i) (spell_imports is) (spelled qs))

package_spelled : (q : Option DottedName) (qs : List Piece) → spelled (package_pieces q ++ qs) ≡ spell_package_line q ++ spelled qs
package_spelled None qs = refl
package_spelled (Some q) qs = refl

pub tree_spelled : (f : SourceTree) → spelled (tree_pieces f) ≡ spell_file f
tree_spelled f =
    package_spelled f.package_line (import_pieces f.imports ++ types_pieces f.types)
    ∙ ap (λ x. spell_package_line f.package_line ++ x) (imports_spelled f.imports (types_pieces f.types) ∙ ap (λ x. spell_imports f.imports ++ x) (types_spelled f.types))

-- they are in order
abbrev Ordered : Around → List Piece → Type 0
Ordered s ps = InOrder pieces s ps

rest_ordered : (o : Owner) (ss : Statements) (qs : List Piece) → GoodStatements (body_context false) ss → nesting_body ss ≤ deepest → Ordered (InType o) qs → Ordered (InBody o false) (body_pieces ss ++ qs)
rest_ordered o NoStatements qs g m h = (tt, h)
rest_ordered o (MoreStatements s ss) qs g m h = ((g.0, omega (arith, m)), rest_ordered o ss qs g.1 (omega (arith, m)) h)

body_ordered : (o : Owner) (leading : Bool) (ss : Statements) (qs : List Piece) → GoodBody leading ss → Ordered (InType o) qs → Ordered (InBody o leading) (body_pieces ss ++ qs)
body_ordered o leading NoStatements qs g h = (tt, h)
body_ordered o leading (MoreStatements s ss) qs g h = ((g.0, g.1), rest_ordered o ss qs g.2 g.3 h)

member_ordered : (o : Owner) (m : MemberTree) (qs : List Piece) → GoodMember o m → Ordered (InType o) qs → Ordered (InType o) (member_pieces m ++ qs)
member_ordered o (FieldMember ms u d ds) qs g h = (g, h)
member_ordered o (MethodMember ms u n r ps None) qs g h = (g.0, h)
member_ordered o (MethodMember ms u n r ps (Some ss)) qs g h = ((g.1.0, g.0), body_ordered o false ss qs g.1.1 h)
member_ordered o (ConstructorMember ms n ps ss) qs g h = (g.0, body_ordered o true ss qs g.1 h)

members_ordered : (o : Owner) (ms : List MemberTree) (qs : List Piece) → GoodMembers o ms → Ordered (InType o) qs → Ordered (InType o) (members_pieces ms ++ qs)
members_ordered o [] qs g h = h
members_ordered o (m ∷ ms) qs g h =
    subst (λ x. Ordered (InType o) x) (sym (append_assoc (member_pieces m) (members_pieces ms) qs)) (member_ordered o m (members_pieces ms ++ qs) g.0 (members_ordered o ms qs g.1 h))

-- where no type is open
abbrev IsOuter : Around → Type 0
IsOuter (InType o) = ⊥
IsOuter (InBody o leading) = ⊥
IsOuter _ = Unit {0}

inside_ordered : (o : Owner) (ms : List MemberTree) (qs : List Piece) → GoodMembers o ms → Ordered BehindTypes qs → Ordered (InType o) ((members_pieces ms ++ TypeEnd ∷ []) ++ qs)
inside_ordered o ms qs g h = subst (λ x. Ordered (InType o) x) (sym (append_assoc (members_pieces ms) (TypeEnd ∷ []) qs)) (members_ordered o ms (TypeEnd ∷ qs) g (tt, h))

type_ordered : (s : Around) (t : TypeDeclaration) (qs : List Piece) → IsOuter s → GoodType t → Ordered BehindTypes qs → Ordered s (type_pieces t ++ qs)
type_ordered AtStart (ClassType ms n parent interfaces members) qs i g h = (g.0, inside_ordered (record { interface = false; name = n }) members qs g.1 h)
type_ordered BehindLines (ClassType ms n parent interfaces members) qs i g h = (g.0, inside_ordered (record { interface = false; name = n }) members qs g.1 h)
type_ordered BehindTypes (ClassType ms n parent interfaces members) qs i g h = (g.0, inside_ordered (record { interface = false; name = n }) members qs g.1 h)
type_ordered AtStart (InterfaceType ms n parents members) qs i g h = (g.0, inside_ordered (record { interface = true; name = n }) members qs g.1 h)
type_ordered BehindLines (InterfaceType ms n parents members) qs i g h = (g.0, inside_ordered (record { interface = true; name = n }) members qs g.1 h)
type_ordered BehindTypes (InterfaceType ms n parents members) qs i g h = (g.0, inside_ordered (record { interface = true; name = n }) members qs g.1 h)
type_ordered (InType o) t qs i g h = absurd i
type_ordered (InBody o leading) t qs i g h = absurd i

types_ordered : (s : Around) (ts : List TypeDeclaration) → IsOuter s → GoodTypes ts → Ordered s (types_pieces ts)
types_ordered s [] i g = tt
types_ordered s (t ∷ ts) i g = type_ordered s t (types_pieces ts) i g.0 (types_ordered BehindTypes ts tt g.1)

lines_ordered : (is : List ImportTree) (ts : List TypeDeclaration) → GoodTypes ts → Ordered BehindLines (import_pieces is ++ types_pieces ts)
lines_ordered [] ts g = types_ordered BehindLines ts tt g
lines_ordered (i ∷ is) ts g = (tt, lines_ordered is ts g)

imports_ordered : (is : List ImportTree) (ts : List TypeDeclaration) → GoodTypes ts → Ordered AtStart (import_pieces is ++ types_pieces ts)
imports_ordered [] ts g = types_ordered AtStart ts tt g
imports_ordered (i ∷ is) ts g = (tt, lines_ordered is ts g)

file_ordered : (q : Option DottedName) (is : List ImportTree) (ts : List TypeDeclaration) → GoodTypes ts → Ordered AtStart (package_pieces q ++ (import_pieces is ++ types_pieces ts))
file_ordered None is ts g = imports_ordered is ts g
file_ordered (Some q) is ts g = (tt, lines_ordered is ts g)

pub tree_ordered : (f : SourceTree) → GoodFile f → InOrder pieces AtStart (tree_pieces f)
tree_ordered f g = file_ordered f.package_line f.imports f.types g

-- they build it
pub add_both : (b : Built) (ps qs : List Piece) → add_all b (ps ++ qs) ≡ add_all (add_all b ps) qs
add_both b [] qs = refl
add_both b (p ∷ ps) qs = add_both (add b p) ps qs

abbrev pub statement_list : Statements → List Statement
statement_list NoStatements = []
statement_list (MoreStatements s ss) = s ∷ statement_list ss

list_statements : (ss : Statements) → all_statements (statement_list ss) ≡ ss
list_statements NoStatements = refl
list_statements (MoreStatements s ss) = ap (λ x. MoreStatements s x) (list_statements ss)

module _ (q : Option DottedName) (is : List ImportTree) (ts : List TypeDeclaration) (head : TypeOpening) where
  -- with this type open, and its closed members
  abbrev in_type : List MemberTree → Built
  in_type ms = record { package_line = q; imports = is; types = ts; inside = Some (record { head = head; members = ms; body = None }) }

  -- and this member open
  abbrev in_body : List MemberTree → MemberOpening → List Statement → Built
  in_body ms m ss = record { package_line = q; imports = is; types = ts; inside = Some (record { head = head; members = ms; body = Some (record { head = m; statements = ss }) }) }

  body_built : (ms : List MemberTree) (m : MemberOpening) (done : List Statement) (ss : Statements) → add_all (in_body ms m done) (body_pieces ss) ≡ in_type (ms ++ member_of m (done ++ statement_list ss) ∷ [])
  body_built ms m done NoStatements = ap (λ x. in_type (ms ++ member_of m x ∷ [])) (sym (append-nil done))
  body_built ms m done (MoreStatements s ss) = body_built ms m (done ++ s ∷ []) ss ∙ ap (λ x. in_type (ms ++ member_of m x ∷ [])) (append_assoc done (s ∷ []) (statement_list ss))

  member_built : (done : List MemberTree) (m : MemberTree) → add_all (in_type done) (member_pieces m) ≡ in_type (done ++ m ∷ [])
  member_built done (FieldMember ms u d ds) = refl
  member_built done (MethodMember ms u n r ps None) = refl
  member_built done (MethodMember ms u n r ps (Some ss)) = body_built done (MethodOpening ms u n r ps) [] ss ∙ ap (λ x. in_type (done ++ MethodMember ms u n r ps (Some x) ∷ [])) (list_statements ss)
  member_built done (ConstructorMember ms n ps ss) = body_built done (ConstructorOpening ms n ps) [] ss ∙ ap (λ x. in_type (done ++ ConstructorMember ms n ps x ∷ [])) (list_statements ss)

  members_built : (done ms : List MemberTree) → add_all (in_type done) (members_pieces ms) ≡ in_type (done ++ ms)
  members_built done [] = ap in_type (sym (append-nil done))
  members_built done (m ∷ ms) =
      add_both (in_type done) (member_pieces m) (members_pieces ms) ∙ ap (λ b. add_all b (members_pieces ms)) (member_built done m)
      ∙ members_built (done ++ m ∷ []) ms ∙ ap in_type (append_assoc done (m ∷ []) ms)

  inside_built : (ms : List MemberTree) → add_all (in_type []) (members_pieces ms ++ TypeEnd ∷ []) ≡ record { package_line = q; imports = is; types = ts ++ type_of head ms ∷ []; inside = None }
  inside_built ms = add_both (in_type []) (members_pieces ms) (TypeEnd ∷ []) ∙ ap (λ b. add b TypeEnd) (members_built [] ms)

abbrev closed : Option DottedName → List ImportTree → List TypeDeclaration → Built
closed q is ts = record { package_line = q; imports = is; types = ts; inside = None }

type_built : (q : Option DottedName) (is : List ImportTree) (ts : List TypeDeclaration) (t : TypeDeclaration) → add_all (closed q is ts) (type_pieces t) ≡ closed q is (ts ++ t ∷ [])
type_built q is ts (ClassType ms n parent interfaces members) = inside_built q is ts (ClassOpening ms n parent interfaces) members
type_built q is ts (InterfaceType ms n parents members) = inside_built q is ts (InterfaceOpening ms n parents) members

types_built : (q : Option DottedName) (is : List ImportTree) (done ts : List TypeDeclaration) → add_all (closed q is done) (types_pieces ts) ≡ closed q is (done ++ ts)
types_built q is done [] = ap (closed q is) (sym (append-nil done))
types_built q is done (t ∷ ts) =
    add_both (closed q is done) (type_pieces t) (types_pieces ts) ∙ ap (λ b. add_all b (types_pieces ts)) (type_built q is done t)
    ∙ types_built q is (done ++ t ∷ []) ts ∙ ap (closed q is) (append_assoc done (t ∷ []) ts)

imports_built : (q : Option DottedName) (done is : List ImportTree) (ps : List Piece) → add_all (closed q done []) (import_pieces is ++ ps) ≡ add_all (closed q (done ++ is) []) ps
imports_built q done [] ps = ap (λ x. add_all (closed q x []) ps) (sym (append-nil done))
imports_built q done (i ∷ is) ps = imports_built q (done ++ i ∷ []) is ps ∙ ap (λ x. add_all (closed q x []) ps) (append_assoc done (i ∷ []) is)

package_built : (q : Option DottedName) (ps : List Piece) → add_all nothing (package_pieces q ++ ps) ≡ add_all (closed q [] []) ps
package_built None ps = refl
package_built (Some q) ps = refl

pub tree_built : (f : SourceTree) → finished (add_all nothing (tree_pieces f)) ≡ Some f
tree_built f =
    ap finished (package_built f.package_line (import_pieces f.imports ++ types_pieces f.types) ∙ imports_built f.package_line [] f.imports (types_pieces f.types) ∙ types_built f.package_line f.imports [] f.types)
