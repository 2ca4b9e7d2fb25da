-- What pieces in order build is well formed, and its pieces are these.
use Rattle.std.proofs.Common.{◌≡◌, ◌≤◌, List, [], ◌∷◌, ◌++◌, refl, sym, ap, ◌∙◌, subst, arith, append_assoc, append-nil, Option, Some, None, Bool, true, false}
use Rattle.jn_trees.specs.declared.context.Owner.{Owner}
use Rattle.jn_trees.specs.Trees.{Statement, MemberTree, FieldMember, MethodMember, TypeDeclaration, DottedName, ImportTree, SourceTree}
use Rattle.jn_trees.specs.WellFormed.{GoodMarks, marks_type, marks_interface, GoodMethodHead, GoodConstructorHead, GoodBody, GoodStatement, GoodStatements, nesting_body, nesting_statement, GoodMember, GoodMembers, GoodType, GoodTypes, GoodFile, body_context, deepest}
use Rattle.jn_trees.specs.Pieces.{InOrder, Piece, PackagePiece, ImportPiece, ClassHead, InterfaceHead, FieldPiece, MethodPiece, MethodHead, ConstructorHead, StatementPiece, BodyEnd, TypeEnd, Around, AtStart, BehindLines, BehindTypes, InType, InBody, May, MayPackage, MayImport, MayHead, MayMember, MayStatement, behind, behind_member, behind_statement, behind_outer, pieces}
use Rattle.jn_parse_decl_law.specs.Built.{TypeOpening, ClassOpening, InterfaceOpening, MemberOpening, MethodOpening, ConstructorOpening, OpenMember, OpenType, Built, nothing, all_statements, member_of, type_of, add, add_all, tree_if_closed, finished}
use Rattle.jn_parse_decl_law.specs.TreePieces.{body_pieces, member_pieces, members_pieces, type_pieces, types_pieces, package_pieces, import_pieces, tree_pieces}
use Rattle.jn_parse_decl_law.proofs.Places.{last_state}

-- the pieces of what is built
abbrev type_opening_piece : TypeOpening → Piece
type_opening_piece (ClassOpening ms n parent interfaces) = ClassHead ms n parent interfaces
type_opening_piece (InterfaceOpening ms n parents) = InterfaceHead ms n parents

abbrev member_opening_piece : MemberOpening → Piece
member_opening_piece (MethodOpening ms u n r ps) = MethodHead ms u n r ps
member_opening_piece (ConstructorOpening ms n ps) = ConstructorHead ms n ps

abbrev statement_row : List Statement → List Piece
statement_row [] = []
statement_row (s ∷ ss) = StatementPiece s ∷ statement_row ss

abbrev open_member_pieces : Option OpenMember → List Piece
open_member_pieces None = []
open_member_pieces (Some m) = member_opening_piece m.head ∷ statement_row m.statements

abbrev open_type_pieces : Option OpenType → List Piece
open_type_pieces None = []
open_type_pieces (Some t) = type_opening_piece t.head ∷ (members_pieces t.members ++ open_member_pieces t.body)

abbrev built_pieces : Built → List Piece
built_pieces b = package_pieces b.package_line ++ (import_pieces b.imports ++ (types_pieces b.types ++ open_type_pieces b.inside))

-- what stands around, and what has been built
abbrev owner_of : TypeOpening → Owner
owner_of (ClassOpening ms n parent interfaces) = record { interface = false; name = n }
owner_of (InterfaceOpening ms n parents) = record { interface = true; name = n }

abbrev GoodTypeOpening : TypeOpening → Type 0
GoodTypeOpening (ClassOpening ms n parent interfaces) = GoodMarks marks_type ms
GoodTypeOpening (InterfaceOpening ms n parents) = GoodMarks marks_interface ms

abbrev GoodMemberOpening : Owner → MemberOpening → Type 0
GoodMemberOpening o (MethodOpening ms u n r ps) = (o.interface ≡ false) × GoodMethodHead o ms r ps
GoodMemberOpening o (ConstructorOpening ms n ps) = GoodConstructorHead o ms n ps

abbrev is_constructor : MemberOpening → Bool
is_constructor (MethodOpening ms u n r ps) = false
is_constructor (ConstructorOpening ms n ps) = true

-- whether the next statement is the first of a constructor
abbrev leads : Bool → List Statement → Bool
leads constructor [] = constructor
leads constructor (s ∷ ss) = false

abbrev FitsMember : Owner → Bool → MemberOpening → List Statement → Type 0
FitsMember o leading head ss = GoodMemberOpening o head × GoodBody (is_constructor head) (all_statements ss) × (leading ≡ leads (is_constructor head) ss)

abbrev FitsType : Owner → TypeOpening → List MemberTree → Type 0
FitsType o head ms = (owner_of head ≡ o) × GoodTypeOpening head × GoodMembers o ms

abbrev FitsOpen : Around → TypeOpening → List MemberTree → Option OpenMember → Type 0
FitsOpen (InType o) head ms None = FitsType o head ms
FitsOpen (InBody o leading) head ms (Some m) = FitsType o head ms × FitsMember o leading m.head m.statements
FitsOpen _ head ms body = ⊥

abbrev FitsInside : Around → List TypeDeclaration → Option OpenType → Type 0
FitsInside AtStart [] None = Unit {0}
FitsInside BehindLines [] None = Unit {0}
FitsInside BehindTypes ts None = GoodTypes ts
FitsInside (InType o) ts (Some t) = GoodTypes ts × FitsOpen (InType o) t.head t.members t.body
FitsInside (InBody o leading) ts (Some t) = GoodTypes ts × FitsOpen (InBody o leading) t.head t.members t.body
FitsInside s ts i = ⊥

-- and before the first piece nothing has been built
abbrev Fits : Around → Built → Type 0
Fits AtStart b = FitsInside AtStart b.types b.inside × (b.package_line ≡ None) × (b.imports ≡ [])
Fits s b = FitsInside s b.types b.inside

abbrev Kept : Around → Built → Built → Piece → Type 0
Kept s old new p = Fits s new × (built_pieces new ≡ built_pieces old ++ p ∷ [])

-- one more at the end
types_more : (ts : List TypeDeclaration) (t : TypeDeclaration) → types_pieces (ts ++ t ∷ []) ≡ types_pieces ts ++ type_pieces t
types_more [] t = append-nil (type_pieces t)
types_more (u ∷ ts) t = ap (λ x. type_pieces u ++ x) (types_more ts t) ∙ sym (append_assoc (type_pieces u) (types_pieces ts) (type_pieces t))

members_more : (ms : List MemberTree) (m : MemberTree) → members_pieces (ms ++ m ∷ []) ≡ members_pieces ms ++ member_pieces m
members_more [] m = append-nil (member_pieces m)
members_more (k ∷ ms) m = ap (λ x. member_pieces k ++ x) (members_more ms m) ∙ sym (append_assoc (member_pieces k) (members_pieces ms) (member_pieces m))

imports_more : (is : List ImportTree) (i : ImportTree) → import_pieces (is ++ i ∷ []) ≡ import_pieces is ++ ImportPiece i ∷ []
imports_more [] i = refl
imports_more (k ∷ is) i = ap (λ x. ImportPiece k ∷ x) (imports_more is i)

row_more : (ss : List Statement) (s : Statement) → statement_row (ss ++ s ∷ []) ≡ statement_row ss ++ StatementPiece s ∷ []
row_more [] s = refl
row_more (k ∷ ss) s = ap (λ x. StatementPiece k ∷ x) (row_more ss s)

row_body : (ss : List Statement) → body_pieces (all_statements ss) ≡ statement_row ss ++ BodyEnd ∷ []
row_body [] = refl
row_body (s ∷ ss) = ap (λ x. StatementPiece s ∷ x) (row_body ss)

member_of_pieces : (head : MemberOpening) (ss : List Statement) → member_pieces (member_of head ss) ≡ member_opening_piece head ∷ (statement_row ss ++ BodyEnd ∷ [])
member_of_pieces (MethodOpening ms u n r ps) ss = ap (λ x. MethodHead ms u n r ps ∷ x) (row_body ss)
member_of_pieces (ConstructorOpening ms n ps) ss = ap (λ x. ConstructorHead ms n ps ∷ x) (row_body ss)

type_of_pieces : (head : TypeOpening) (ms : List MemberTree) → type_pieces (type_of head ms) ≡ type_opening_piece head ∷ (members_pieces ms ++ TypeEnd ∷ [])
type_of_pieces (ClassOpening ms n parent interfaces) members = refl
type_of_pieces (InterfaceOpening ms n parents) members = refl

good_types_more : (ts : List TypeDeclaration) (t : TypeDeclaration) → GoodTypes ts → GoodType t → GoodTypes (ts ++ t ∷ [])
good_types_more [] t g h = (h, tt)
good_types_more (u ∷ ts) t g h = (g.0, good_types_more ts t g.1 h)

good_members_more : (o : Owner) (ms : List MemberTree) (m : MemberTree) → GoodMembers o ms → GoodMember o m → GoodMembers o (ms ++ m ∷ [])
good_members_more o [] m g h = (h, tt)
good_members_more o (k ∷ ms) m g h = (g.0, good_members_more o ms m g.1 h)

good_type_of : (head : TypeOpening) (ms : List MemberTree) → GoodTypeOpening head → GoodMembers (owner_of head) ms → GoodType (type_of head ms)
good_type_of (ClassOpening ms n parent interfaces) members g h = (g, h)
good_type_of (InterfaceOpening ms n parents) members g h = (g, h)

good_member_of : (o : Owner) (head : MemberOpening) (ss : List Statement) → GoodMemberOpening o head → GoodBody (is_constructor head) (all_statements ss) → GoodMember o (member_of head ss)
good_member_of o (MethodOpening ms u n r ps) ss g h = (g.1, (g.0, h))
good_member_of o (ConstructorOpening ms n ps) ss g h = (g, h)

rest_more : (ss : List Statement) (s : Statement) → GoodStatements (body_context false) (all_statements ss) → GoodStatement (body_context false) s → GoodStatements (body_context false) (all_statements (ss ++ s ∷ []))
rest_more [] s g h = (h, tt)
rest_more (k ∷ ss) s g h = (g.0, rest_more ss s g.1 h)

nesting_more : (ss : List Statement) (s : Statement) → nesting_body (all_statements ss) ≤ deepest → nesting_statement s ≤ deepest → nesting_body (all_statements (ss ++ s ∷ [])) ≤ deepest
nesting_more [] s g h = omega (arith, h)
nesting_more (k ∷ ss) s g h = let ih = nesting_more ss s (omega (arith, g)) h in omega (arith, ih, g)

body_more : (constructor : Bool) (ss : List Statement) (s : Statement) → GoodBody constructor (all_statements ss) → GoodStatement (body_context (leads constructor ss)) s → nesting_statement s ≤ deepest → GoodBody constructor (all_statements (ss ++ s ∷ []))
body_more constructor [] s g h m = (h, m, tt, omega arith)
body_more constructor (k ∷ ss) s g h m = (g.0, g.1, rest_more ss s g.2 h, nesting_more ss s g.3 m)

leads_no_more : (constructor : Bool) (ss : List Statement) (s : Statement) → false ≡ leads constructor (ss ++ s ∷ [])
leads_no_more constructor [] s = refl
leads_no_more constructor (k ∷ ss) s = refl

-- a piece more inside
inside_more : (q : Option DottedName) (is : List ImportTree) (ts : List TypeDeclaration) (i j : Option OpenType) (p : Piece) → open_type_pieces j ≡ open_type_pieces i ++ p ∷ [] → built_pieces (record { package_line = q; imports = is; types = ts; inside = j }) ≡ built_pieces (record { package_line = q; imports = is; types = ts; inside = i }) ++ p ∷ []
inside_more q is ts i j p e =
    ap (λ x. package_pieces q ++ (import_pieces is ++ (types_pieces ts ++ x))) e ∙ regroup (package_pieces q) (import_pieces is) (types_pieces ts) (open_type_pieces i) (p ∷ [])
  where
    regroup : (a b c d e : List Piece) → a ++ (b ++ (c ++ (d ++ e))) ≡ (a ++ (b ++ (c ++ d))) ++ e
    regroup a b c d e = simp append_assoc

member_inside : (head : TypeOpening) (ms : List MemberTree) (m : MemberTree) (p : Piece) → member_pieces m ≡ p ∷ [] → type_opening_piece head ∷ (members_pieces (ms ++ m ∷ []) ++ []) ≡ (type_opening_piece head ∷ (members_pieces ms ++ [])) ++ p ∷ []
member_inside head ms m p e =
    ap (λ x. type_opening_piece head ∷ (x ++ [])) (members_more ms m ∙ ap (λ x. members_pieces ms ++ x) e) ∙ regroup (type_opening_piece head) (members_pieces ms) p
  where
    regroup : (k : Piece) (a : List Piece) (p : Piece) → k ∷ ((a ++ p ∷ []) ++ []) ≡ (k ∷ (a ++ [])) ++ p ∷ []
    regroup k a p = simp (append_assoc, append-nil)

-- pieces in a type
in_type : (q : Option DottedName) (is : List ImportTree) (ts : List TypeDeclaration) (head : TypeOpening) (ms : List MemberTree) (body : Option OpenMember) (o : Owner) (p : Piece) → GoodTypes ts → FitsOpen (InType o) head ms body → MayMember o p
    → (let b : Built = record { package_line = q; imports = is; types = ts; inside = Some (record { head = head; members = ms; body = body }) } in Kept (behind_member o p) b (add b p) p)
in_type q is ts head ms (Some m) o p t f may = absurd f
in_type q is ts head ms None o (FieldPiece ks u d ds) t f may =
    let m = FieldMember ks u d ds in
    ((t, (f.0, f.1, good_members_more o ms m f.2 may)), inside_more q is ts (Some (record { head = head; members = ms; body = None })) (Some (record { head = head; members = ms ++ m ∷ []; body = None })) (FieldPiece ks u d ds) (member_inside head ms m (FieldPiece ks u d ds) refl))
in_type q is ts head ms None o (MethodPiece ks u n r ps) t f may =
    let m = MethodMember ks u n r ps None in
    ((t, (f.0, f.1, good_members_more o ms m f.2 (may, tt))), inside_more q is ts (Some (record { head = head; members = ms; body = None })) (Some (record { head = head; members = ms ++ m ∷ []; body = None })) (MethodPiece ks u n r ps) (member_inside head ms m (MethodPiece ks u n r ps) refl))
in_type q is ts head ms None o (MethodHead ks u n r ps) t f may = (
  (t, (f, (may, tt, refl))),
  inside_more q is ts (Some (record { head = head; members = ms; body = None })) (Some (record { head = head; members = ms; body = Some (record { head = MethodOpening ks u n r ps; statements = [] }) })) (MethodHead ks u n r ps)
      (ap (λ x. type_opening_piece head ∷ (x ++ MethodHead ks u n r ps ∷ [])) (sym (append-nil (members_pieces ms)))),
)
in_type q is ts head ms None o (ConstructorHead ks n ps) t f may = (
  (t, (f, (may, tt, refl))),
  inside_more q is ts (Some (record { head = head; members = ms; body = None })) (Some (record { head = head; members = ms; body = Some (record { head = ConstructorOpening ks n ps; statements = [] }) })) (ConstructorHead ks n ps)
      (ap (λ x. type_opening_piece head ∷ (x ++ ConstructorHead ks n ps ∷ [])) (sym (append-nil (members_pieces ms)))),
)
in_type q is ts head ms None o TypeEnd t f may = (
  good_types_more ts (type_of head ms) t (good_type_of head ms f.1 (subst (λ x. GoodMembers x ms) (sym f.0) f.2)),
  ap (λ x. package_pieces q ++ (import_pieces is ++ (x ++ []))) (types_more ts (type_of head ms) ∙ ap (λ x. types_pieces ts ++ x) (type_of_pieces head ms)) ∙ regroup (package_pieces q) (import_pieces is) (types_pieces ts) (type_opening_piece head) (members_pieces ms) TypeEnd,
)
  where
    regroup : (a b c : List Piece) (k : Piece) (d : List Piece) (p : Piece) → a ++ (b ++ ((c ++ k ∷ (d ++ p ∷ [])) ++ [])) ≡ (a ++ (b ++ (c ++ k ∷ (d ++ [])))) ++ p ∷ []
    regroup a b c k d p = simp (append_assoc, append-nil)
in_type q is ts head ms None o _ t f may = absurd may

-- pieces in a body
in_member : (q : Option DottedName) (is : List ImportTree) (ts : List TypeDeclaration) (head : TypeOpening) (ms : List MemberTree) (m : MemberOpening) (ss : List Statement) (o : Owner) (leading : Bool) (p : Piece) → GoodTypes ts → FitsType o head ms → FitsMember o leading m ss → MayStatement leading p
    → (let b : Built = record { package_line = q; imports = is; types = ts; inside = Some (record { head = head; members = ms; body = Some (record { head = m; statements = ss }) }) } in Kept (behind_statement o p) b (add b p) p)
in_member q is ts head ms m ss o leading (StatementPiece s) t f g may = (
  (t, (f, (g.0, body_more (is_constructor m) ss s g.1 (subst (λ x. GoodStatement (body_context x) s) g.2 may.0) may.1, leads_no_more (is_constructor m) ss s))),
  inside_more q is ts (Some (record { head = head; members = ms; body = Some (record { head = m; statements = ss }) })) (Some (record { head = head; members = ms; body = Some (record { head = m; statements = ss ++ s ∷ [] }) })) (StatementPiece s)
      (ap (λ x. type_opening_piece head ∷ (members_pieces ms ++ member_opening_piece m ∷ x)) (row_more ss s) ∙ ap (λ x. type_opening_piece head ∷ x) (sym (append_assoc (members_pieces ms) (member_opening_piece m ∷ statement_row ss) (StatementPiece s ∷ [])))),
)
in_member q is ts head ms m ss o leading BodyEnd t f g may =
    let k = member_of m ss in (
      (t, (f.0, f.1, good_members_more o ms k f.2 (good_member_of o m ss g.0 g.1))),
      inside_more q is ts (Some (record { head = head; members = ms; body = Some (record { head = m; statements = ss }) })) (Some (record { head = head; members = ms ++ k ∷ []; body = None })) BodyEnd
          (ap (λ x. type_opening_piece head ∷ (x ++ [])) (members_more ms k ∙ ap (λ x. members_pieces ms ++ x) (member_of_pieces m ss)) ∙ regroup (type_opening_piece head) (members_pieces ms) (member_opening_piece m) (statement_row ss) BodyEnd),
    )
  where
    regroup : (h : Piece) (a : List Piece) (k : Piece) (b : List Piece) (p : Piece) → h ∷ ((a ++ k ∷ (b ++ p ∷ [])) ++ []) ≡ (h ∷ (a ++ k ∷ b)) ++ p ∷ []
    regroup h a k b p = simp (append_assoc, append-nil)
in_member q is ts head ms m ss o leading _ t f g may = absurd may

in_body : (q : Option DottedName) (is : List ImportTree) (ts : List TypeDeclaration) (head : TypeOpening) (ms : List MemberTree) (body : Option OpenMember) (o : Owner) (leading : Bool) (p : Piece) → GoodTypes ts → FitsOpen (InBody o leading) head ms body → MayStatement leading p
    → (let b : Built = record { package_line = q; imports = is; types = ts; inside = Some (record { head = head; members = ms; body = body }) } in Kept (behind_statement o p) b (add b p) p)
in_body q is ts head ms None o leading p t f may = absurd f
in_body q is ts head ms (Some m) o leading p t f may = in_member q is ts head ms m.head m.statements o leading p t f.0 f.1 may

-- heads of types, and lines
type_head : (q : Option DottedName) (is : List ImportTree) (ts : List TypeDeclaration) (p : Piece) → GoodTypes ts → MayHead p → (let b : Built = record { package_line = q; imports = is; types = ts; inside = None } in Kept (behind_outer p) b (add b p) p)
type_head q is ts (ClassHead ms n parent interfaces) t may = ((t, (refl, may, tt)), inside_more q is ts None (Some (record { head = ClassOpening ms n parent interfaces; members = []; body = None })) (ClassHead ms n parent interfaces) refl)
type_head q is ts (InterfaceHead ms n parents) t may = ((t, (refl, may, tt)), inside_more q is ts None (Some (record { head = InterfaceOpening ms n parents; members = []; body = None })) (InterfaceHead ms n parents) refl)
type_head q is ts _ t may = absurd may

line : (q : Option DottedName) (is : List ImportTree) (p : Piece) → MayImport p → (let b : Built = record { package_line = q; imports = is; types = []; inside = None } in Kept (behind_outer p) b (add b p) p)
line q is (ImportPiece i) may = (tt, ap (λ x. package_pieces q ++ (x ++ [])) (imports_more is i) ∙ regroup (package_pieces q) (import_pieces is) (ImportPiece i))
  where
    regroup : (a b : List Piece) (p : Piece) → a ++ ((b ++ p ∷ []) ++ []) ≡ (a ++ (b ++ [])) ++ p ∷ []
    regroup a b p = simp (append_assoc, append-nil)
line q is (ClassHead ms n parent interfaces) may = type_head q is [] (ClassHead ms n parent interfaces) tt may
line q is (InterfaceHead ms n parents) may = type_head q is [] (InterfaceHead ms n parents) tt may
line q is _ may = absurd may

first : (p : Piece) → MayPackage p → Kept (behind_outer p) nothing (add nothing p) p
first (PackagePiece q) may = (tt, refl)
first (ImportPiece i) may = line None [] (ImportPiece i) may
first (ClassHead ms n parent interfaces) may = line None [] (ClassHead ms n parent interfaces) may
first (InterfaceHead ms n parents) may = line None [] (InterfaceHead ms n parents) may
first _ may = absurd may

at_start : (b : Built) (p : Piece) → b ≡ nothing → MayPackage p → Kept (behind_outer p) b (add b p) p
at_start b p e may = subst (λ x. Kept (behind_outer p) x (add x p) p) (sym e) (first p may)

is_nothing : (q : Option DottedName) (is : List ImportTree) (ts : List TypeDeclaration) (i : Option OpenType) → FitsInside AtStart ts i → q ≡ None → is ≡ [] → record { package_line = q; imports = is; types = ts; inside = i } ≡ nothing
is_nothing q is [] None f e g = (λ k. record { package_line = e k; imports = g k; types = []; inside = None })
is_nothing q is [] (Some t) f e g = absurd f
is_nothing q is (u ∷ ts) i f e g = absurd f

behind_lines : (q : Option DottedName) (is : List ImportTree) (ts : List TypeDeclaration) (i : Option OpenType) (p : Piece) → FitsInside BehindLines ts i → MayImport p → (let b : Built = record { package_line = q; imports = is; types = ts; inside = i } in Kept (behind_outer p) b (add b p) p)
behind_lines q is [] None p f may = line q is p may
behind_lines q is [] (Some t) p f may = absurd f
behind_lines q is (u ∷ ts) i p f may = absurd f

behind_types : (q : Option DottedName) (is : List ImportTree) (ts : List TypeDeclaration) (i : Option OpenType) (p : Piece) → FitsInside BehindTypes ts i → MayHead p → (let b : Built = record { package_line = q; imports = is; types = ts; inside = i } in Kept (behind_outer p) b (add b p) p)
behind_types q is ts None p f may = type_head q is ts p f may
behind_types q is ts (Some t) p f may = absurd f

inside_type : (q : Option DottedName) (is : List ImportTree) (ts : List TypeDeclaration) (i : Option OpenType) (o : Owner) (p : Piece) → FitsInside (InType o) ts i → MayMember o p → (let b : Built = record { package_line = q; imports = is; types = ts; inside = i } in Kept (behind_member o p) b (add b p) p)
inside_type q is ts None o p f may = absurd f
inside_type q is ts (Some t) o p f may = in_type q is ts t.head t.members t.body o p f.0 f.1 may

inside_body : (q : Option DottedName) (is : List ImportTree) (ts : List TypeDeclaration) (i : Option OpenType) (o : Owner) (leading : Bool) (p : Piece) → FitsInside (InBody o leading) ts i → MayStatement leading p → (let b : Built = record { package_line = q; imports = is; types = ts; inside = i } in Kept (behind_statement o p) b (add b p) p)
inside_body q is ts None o leading p f may = absurd f
inside_body q is ts (Some t) o leading p f may = in_body q is ts t.head t.members t.body o leading p f.0 f.1 may

kept : (s : Around) (b : Built) (p : Piece) → Fits s b → May s p → Kept (behind s p) b (add b p) p
kept AtStart b p f may = at_start b p (is_nothing b.package_line b.imports b.types b.inside f.0 f.1 f.2) may
kept BehindLines b p f may = behind_lines b.package_line b.imports b.types b.inside p f may
kept BehindTypes b p f may = behind_types b.package_line b.imports b.types b.inside p f may
kept (InType o) b p f may = inside_type b.package_line b.imports b.types b.inside o p f may
kept (InBody o leading) b p f may = inside_body b.package_line b.imports b.types b.inside o leading p f may

all_kept : (s : Around) (b : Built) (ps : List Piece) → Fits s b → InOrder pieces s ps → Fits (last_state pieces s ps) (add_all b ps) × (built_pieces (add_all b ps) ≡ built_pieces b ++ ps)
all_kept s b [] f o = (f, sym (append-nil (built_pieces b)))
all_kept s b (p ∷ ps) f o =
    let k = kept s b p f o.0 in
    let more = all_kept (behind s p) (add b p) ps k.0 o.1 in
    (more.0, more.1 ∙ ap (λ x. x ++ ps) k.1 ∙ append_assoc (built_pieces b) (p ∷ []) ps)

-- where nothing is open the types are well formed
closed_types : (s : Around) (b : Built) → Fits s b → b.inside ≡ None → GoodTypes b.types
closed_types s b f e = by s b.package_line b.imports b.types b.inside f e
  where
    outer : (s : Around) (ts : List TypeDeclaration) (i : Option OpenType) → FitsInside s ts i → i ≡ None → GoodTypes ts
    outer AtStart [] i f e = tt
    outer AtStart (u ∷ ts) i f e = absurd f
    outer BehindLines [] i f e = tt
    outer BehindLines (u ∷ ts) i f e = absurd f
    outer BehindTypes ts None f e = f
    outer BehindTypes ts (Some t) f e = absurd f
    outer (InType o) ts None f e = absurd f
    outer (InType o) ts (Some t) f e = f.0
    outer (InBody o leading) ts None f e = absurd f
    outer (InBody o leading) ts (Some t) f e = f.0

    by : (s : Around) (q : Option DottedName) (is : List ImportTree) (ts : List TypeDeclaration) (i : Option OpenType) → Fits s (record { package_line = q; imports = is; types = ts; inside = i }) → i ≡ None → GoodTypes ts
    by AtStart q is ts i f e = outer AtStart ts i f.0 e
    by BehindLines q is ts i f e = outer BehindLines ts i f e
    by BehindTypes q is ts i f e = outer BehindTypes ts i f e
    by (InType o) q is ts i f e = outer (InType o) ts i f e
    by (InBody o leading) q is ts i f e = outer (InBody o leading) ts i f e

is_finished : (b : Built) (t : SourceTree) → finished b ≡ Some t → (b.inside ≡ None) × (t ≡ record { package_line = b.package_line; imports = b.imports; types = b.types })
is_finished b t e = by (record { package_line = b.package_line; imports = b.imports; types = b.types }) b.inside e
  where
    by : (f : SourceTree) (i : Option OpenType) → tree_if_closed f i ≡ Some t → (i ≡ None) × (t ≡ f)
    by f None e = (refl, cc)
    by f (Some o) e = cc

-- pieces in order that leave nothing open are those of a well-formed file
pub closed_row : (ps : List Piece) (t : SourceTree) → InOrder pieces AtStart ps → finished (add_all nothing ps) ≡ Some t → GoodFile t × (ps ≡ tree_pieces t)
closed_row ps t o e =
    let b = add_all nothing ps in
    let k = all_kept AtStart nothing ps (tt, refl, refl) o in
    let f = is_finished b t e in
    let good : GoodTypes b.types = closed_types (last_state pieces AtStart ps) b k.0 f.0 in
    let same : ps ≡ tree_pieces (record { package_line = b.package_line; imports = b.imports; types = b.types }) =
    sym k.1 ∙ ap (λ i. package_pieces b.package_line ++ (import_pieces b.imports ++ (types_pieces b.types ++ open_type_pieces i))) f.0 ∙ ap (λ x. package_pieces b.package_line ++ (import_pieces b.imports ++ x)) (append-nil (types_pieces b.types)) in
    (subst GoodFile (sym f.1) good, same ∙ ap tree_pieces (sym f.1))
