-- Members read in turn: one after others, one row after another, and where a row ends.
use Rattle.std.proofs.Common.{◌≡◌, ℕ, zero, suc, ◌<◌, ◌≤◌, List, [], ◌∷◌, ◌++◌, length, map, drop, refl, sym, ap, ◌∙◌, subst, arith, append_assoc, append-nil, length-append, Bool, false, Option, Some, None, Result, Ok, Err, IfOk}
use Rattle.std.specs.Borrow.{Bor}
use Rattle.jn_base.specs.declared.refusal.OutOfMemory.{OutOfMemory}
use Rattle.jn_base.specs.declared.number.NameNo.{NameNo}
use Rattle.jn_trees.specs.declared.context.Owner.{Owner}
use Rattle.jn_trees.specs.declared.token.Token.{Token}
use Rattle.jn_trees.specs.declared.token.TokenKind.{TokenKind}
use Rattle.jn_trees.specs.declared.token.TokenKind.TheVariants.{RightBrace}
use Rattle.jn_trees.specs.Trees.{Statement, Mark, TypeUseTree, DeclaratorTree, ReceiverTree, ParameterTree, MemberTree, FieldMember, MethodMember}
use Rattle.jn_trees.specs.View.{member_views}
use Rattle.jn_trees.specs.Pieces.{Piece, FieldPiece, MethodPiece, MethodHead, ConstructorHead, StatementPiece, BodyEnd, Around, AtStart, InType, InBody, behind, pieces, spell_pieces, kinds}
use Rattle.jn_parse_decl_law.specs.Runs.{ReadsRow}
use Rattle.jn_parse_decl_law.specs.Built.{TypeOpening, MemberOpening, MethodOpening, ConstructorOpening, OpenType, Built, nothing, member_of, add_all}
use Rattle.jn_parse_decl_law.specs.PieceReader.{TryPiece, piece_reader, read_member, read_in_body, read_body_statement, statement_piece}
use Rattle.jn_parse_decl_law.specs.Progress.{IsReached}
use Rattle.jn_parse_decl_law.proofs.Places.{row_sound, row_more}
use Rattle.jn_parse_decl_law.proofs.PiecesRead.{file_reader}
use Rattle.jn_parse_decl_law.proofs.FileLaws.{shorter}
use Rattle.jn_parse_decl_law.proofs.TreePieces.{add_both}
use Rattle.jn_parse_decl.specs.declared.piece.Piece.{Piece as Read}
use Rattle.jn_parse_decl.specs.declared.piece.Around.{Around as ReadAround}
use Rattle.jn_parse_decl.specs.declared.piece.Around.TheVariants.{InType as ReadInType}
use Rattle.jn_parse_decl.specs.declared.building.OpenType.{OpenType as OpenedType}
use Rattle.jn_parse_decl.specs.Ahead.{first_member, inside, open_type, AreMembers, head_piece, may_lead, AreStatements, IsBody, IsBehind, GoesOn}
use Rattle.jn_parse_decl.specs.Seen.{around_view, piece_view, seen_piece, opening, body_of, inside_of}
use Rattle.jn_parse_decl.proofs.Turns.{as_many}
use Rattle.jn_parse_decl.proofs.Views.{more}

-- ---- rows

abbrev Row : Around → List TokenKind → List Piece → Around → List TokenKind → Type 0
Row s ts ps u rest = ReadsRow pieces piece_reader s ts ps u rest

rows_join : (s : Around) (ts : List TokenKind) (ps : List Piece) (u : Around) (middle : List TokenKind) (qs : List Piece) (v : Around) (to : List TokenKind) → Row s ts ps u middle → Row u middle qs v to → Row s ts (ps ++ qs) v to
rows_join s ts [] u middle qs v to h k = subst (λ x. Row x ts qs v to) (sym h.0) (subst (λ xs. Row u xs qs v to) (sym h.1) k)
rows_join s ts (p ∷ ps) u middle qs v to h k = (h.0, h.1, rows_join (behind s p) h.0 ps u middle qs v to h.2 k)

rows_shrink : (s : Around) (ts : List TokenKind) (ps : List Piece) (u : Around) (to : List TokenKind) → Row s ts ps u to → length to ≤ length ts
rows_shrink s ts [] u to h =
    let same : length ts ≡ length to = ap length h.1 in
    omega (arith, same)
rows_shrink s ts (p ∷ ps) u to h =
    let less : length h.0 < length ts = shorter s ts p h.0 h.1 in
    let not_more : length to ≤ length h.0 = rows_shrink (behind s p) h.0 ps u to h.2 in
    omega (arith, less, not_more)

-- ---- members

no_members : (o : Owner) (ts : List TokenKind) → AreMembers o ts [] ts
no_members o ts = record { row = []; read = (refl, refl); made = λ b head before. ap (λ ms. inside b (open_type head ms None)) (sym (append-nil before)) }

pub members_join : (o : Owner) (from : List TokenKind) (ms : List MemberTree) (middle : List TokenKind) (ns : List MemberTree) (to : List TokenKind) → AreMembers o from ms middle → AreMembers o middle ns to → AreMembers o from (ms ++ ns) to
members_join o from ms middle ns to h k = record {
  row = h.row ++ k.row;
  read = rows_join (InType o) from h.row (InType o) middle k.row (InType o) to h.read k.read;
  made = λ b head before.
      add_both (inside b (open_type head before None)) h.row k.row ∙ ap (λ (c : Built). add_all c k.row) (h.made b head before) ∙ k.made b head (before ++ ms)
      ∙ ap (λ xs. inside b (open_type head xs None)) (append_assoc before ms ns);
}

pub one_member_more : (o : Owner) (from : List TokenKind) (ms : List MemberTree) (middle : List TokenKind) (m : MemberTree) (all : List MemberTree) (to : List TokenKind) → AreMembers o from ms middle → AreMembers o middle (m ∷ []) to → all ≡ ms ++ m ∷ [] → AreMembers o from all to
one_member_more o from ms middle m all to h k is = subst (λ ns. AreMembers o from ns to) (sym is) (members_join o from ms middle (m ∷ []) to h k)

members_shrink : (o : Owner) (from : List TokenKind) (ms : List MemberTree) (to : List TokenKind) → AreMembers o from ms to → length to ≤ length from
members_shrink o from ms to h = rows_shrink (InType o) from h.row (InType o) to h.read

-- what is read first
pub first_piece : (o : Owner) (ts : List TokenKind) (found : Option (Read × Bor (List Token))) (p : Read) (rest : Bor (List Token)) → found ≡ Some (p, rest) → seen_piece found ≡ read_member o ts → Some (piece_view p, kinds rest.now) ≡ first_member o ts
unfolding first_member
first_piece o ts found p rest is e = sym (ap seen_piece is) ∙ e

-- members that are one piece
pub field_read : (o : Owner) (from : List TokenKind) (ms : List Mark) (u : TypeUseTree) (d : DeclaratorTree) (ds : List DeclaratorTree) (m : MemberTree) (to : List TokenKind) → ◌≡◌ {A = TryPiece} (Some (FieldPiece ms u d ds, to)) (first_member o from) → m ≡ FieldMember ms u d ds → AreMembers o from (m ∷ []) to × (length to < length from)
unfolding first_member
field_read o from ms u d ds m to e is =
    subst (λ k. AreMembers o from (k ∷ []) to × (length to < length from)) (sym is)
    (record { row = FieldPiece ms u d ds ∷ []; read = (to, sym e, (refl, refl)); made = λ b head before. refl }, shorter (InType o) from (FieldPiece ms u d ds) to (sym e))

pub method_read : (o : Owner) (from : List TokenKind) (ms : List Mark) (u : Option TypeUseTree) (n : NameNo) (r : Option ReceiverTree) (ps : List ParameterTree) (m : MemberTree) (to : List TokenKind) → ◌≡◌ {A = TryPiece} (Some (MethodPiece ms u n r ps, to)) (first_member o from) → m ≡ MethodMember ms u n r ps None → AreMembers o from (m ∷ []) to × (length to < length from)
unfolding first_member
method_read o from ms u n r ps m to e is =
    subst (λ k. AreMembers o from (k ∷ []) to × (length to < length from)) (sym is)
    (record { row = MethodPiece ms u n r ps ∷ []; read = (to, sym e, (refl, refl)); made = λ b head before. refl }, shorter (InType o) from (MethodPiece ms u n r ps) to (sym e))

-- the statements of an open member, and its end
body_made : (b : Built) (head : TypeOpening) (before : List MemberTree) (m : MemberOpening) (done ss : List Statement) → add_all (inside b (open_type head before (Some (record { head = m; statements = done })))) (map StatementPiece ss ++ BodyEnd ∷ []) ≡ inside b (open_type head (before ++ member_of m (done ++ ss) ∷ []) None)
body_made b head before m done [] = ap (λ xs. inside b (open_type head (before ++ member_of m xs ∷ []) None)) (sym (append-nil done))
body_made b head before m done (s ∷ ss) = body_made b head before m (done ++ s ∷ []) ss ∙ ap (λ xs. inside b (open_type head (before ++ member_of m xs ∷ []) None)) (append_assoc done (s ∷ []) ss)

headed : (o : Owner) (from : List TokenKind) (m : MemberOpening) (us : List TokenKind) (ss : List Statement) (to : List TokenKind) → first_member o from ≡ Some (head_piece m, us) → IsBody o (may_lead m) us ss to → AreMembers o from (member_of m ss ∷ []) to
unfolding first_member
headed o from (MethodOpening ms u n r ps) us ss to e h = record { row = MethodHead ms u n r ps ∷ (map StatementPiece ss ++ BodyEnd ∷ []); read = (us, e, h); made = λ b head before. body_made b head before (MethodOpening ms u n r ps) [] ss }
headed o from (ConstructorOpening ms n ps) us ss to e h = record { row = ConstructorHead ms n ps ∷ (map StatementPiece ss ++ BodyEnd ∷ []); read = (us, e, h); made = λ b head before. body_made b head before (ConstructorOpening ms n ps) [] ss }

-- a member with a body
pub body_read : (o : Owner) (from : List TokenKind) (h : MemberOpening) (us : List TokenKind) (leading : Bool) (ss : List Statement) (m : MemberTree) (to : List TokenKind) → first_member o from ≡ Some (head_piece h, us) → leading ≡ may_lead h → IsBody o leading us ss to → m ≡ member_of h ss → AreMembers o from (m ∷ []) to × (length to < length from)
unfolding first_member
body_read o from h us leading ss m to e leads body is =
    let less : length us < length from = shorter (InType o) from (head_piece h) us e in
    let not_more : length to ≤ length us = rows_shrink (InBody o leading) us (map StatementPiece ss ++ BodyEnd ∷ []) (InType o) to body in
    (subst (λ k. AreMembers o from (k ∷ []) to) (sym is) (headed o from h us ss to e (subst (λ l. IsBody o l us ss to) leads body)), omega (arith, less, not_more))

-- ---- bodies

in_body : (leading : Bool) (ts : List TokenKind) → ((rest : List TokenKind) → ts ≡ RightBrace ∷ rest → ⊥) → read_in_body leading ts ≡ statement_piece (read_body_statement leading ts)
in_body leading [] h = refl
in_body leading (RightBrace ∷ ts) h = absurd (h ts refl)
in_body leading (_ ∷ ts) h = refl

module _ (o : Owner) (then : Bool) (left : List TokenKind) (s : Statement) (rest : List TokenKind) (no_end : (us : List TokenKind) → left ≡ RightBrace ∷ us → ⊥) (e : ◌≡◌ {A = Option (Statement × List TokenKind)} (Some (s, rest)) (read_body_statement then left)) where
  reads : read_in_body then left ≡ Some (StatementPiece s, rest)
  reads = in_body then left no_end ∙ ap statement_piece (sym e)

  pub statement_shorter : length rest < length left
  statement_shorter = shorter (InBody o then) left (StatementPiece s) rest reads

  -- a statement more
  pub statement_more : (leading : Bool) (from : List TokenKind) (ss all : List Statement) → AreStatements o leading from ss then left → all ≡ ss ++ s ∷ [] → AreStatements o leading from all false rest
  statement_more leading from ss all h is =
      subst (λ row. Row (InBody o leading) from row (InBody o false) rest) (sym (more StatementPiece ss all s is)) (row_more pieces piece_reader (InBody o leading) from (map StatementPiece ss) (InBody o then) left (StatementPiece s) rest h reads)

-- the end
pub body_ends : (o : Owner) (leading : Bool) (from : List TokenKind) (ss : List Statement) (then : Bool) (left rest : List TokenKind) → AreStatements o leading from ss then left → left ≡ RightBrace ∷ rest → IsBody o leading from ss rest
body_ends o leading from ss then left rest h e =
    row_more pieces piece_reader (InBody o leading) from (map StatementPiece ss) (InBody o then) left BodyEnd rest h (ap (read_in_body then) e)

-- ---- two workers

kinds_drop : (n : ℕ) (ts : List Token) → kinds (drop n ts) ≡ drop n (kinds ts)
kinds_drop zero ts = refl
kinds_drop (suc n) [] = refl
kinds_drop (suc n) (t ∷ ts) = kinds_drop n ts

drop_shorter : (n : ℕ) (ts : List TokenKind) → length (drop n ts) ≤ length ts
drop_shorter zero ts = omega arith
drop_shorter (suc n) [] = omega arith
drop_shorter (suc n) (t ∷ ts) =
    let h = drop_shorter n ts in
    omega (arith, h)

all_dropped : (n : ℕ) (ts : List TokenKind) → length ts ≡ length (drop n ts) → ts ≡ drop n ts
all_dropped zero ts e = refl
all_dropped (suc n) [] e = refl
all_dropped (suc n) (t ∷ ts) e =
    let h = drop_shorter n ts in
    absurd (omega (arith, h, e))

-- two ends of one list that are as long are one
same_end : (front rest : List TokenKind) (n : ℕ) → length rest ≡ length (drop n (front ++ rest)) → rest ≡ drop n (front ++ rest)
same_end [] rest n e = all_dropped n rest e
same_end (t ∷ front) rest zero e =
    let long = length-append front rest in
    absurd (omega (arith, long, e))
same_end (t ∷ front) rest (suc n) e = same_end front rest n e

-- members that end as far from the last token as others begin end where these begin
meets : (o : Owner) (tokens back rest : List Token) (n : ℕ) (ms : List MemberTree) → back ≡ drop n tokens → AreMembers o (kinds tokens) ms (kinds rest) → length rest ≡ length back → kinds rest ≡ kinds back
meets o tokens back rest n ms is h e =
    let spelled : kinds tokens ≡ spell_pieces pieces h.row ++ kinds rest = (row_sound pieces file_reader (InType o) (kinds tokens) h.row (InType o) (kinds rest) h.read).1 in
    let there : kinds back ≡ drop n (spell_pieces pieces h.row ++ kinds rest) = ap kinds is ∙ kinds_drop n tokens ∙ ap (λ ts. drop n ts) spelled in
    let long : length (kinds rest) ≡ length (drop n (spell_pieces pieces h.row ++ kinds rest)) = as_many rest ∙ e ∙ sym (as_many back) ∙ ap length there in
    same_end (spell_pieces pieces h.row) (kinds rest) n long ∙ sym there

pub both_members : (o : Owner) (tokens back rest end : List Token) (ms ns all : List MemberTree) → (n : ℕ) × (back ≡ drop n tokens) → AreMembers o (kinds tokens) ms (kinds rest) → AreMembers o (kinds back) ns (kinds end) → length rest ≡ length back → all ≡ ms ++ ns → AreMembers o (kinds tokens) all (kinds end)
both_members o tokens back rest end ms ns all is h k e same =
    let meet = meets o tokens back rest is.0 ms is.1 h e in
    subst (λ xs. AreMembers o (kinds tokens) xs (kinds end)) (sym same) (members_join o (kinds tokens) ms (kinds rest) ns (kinds end) h (subst (λ ts. AreMembers o ts ns (kinds end)) (sym meet) k))

-- ---- in the type that is open

goes_on : (o : Owner) (head : TypeOpening) (from : List TokenKind) (ms : List MemberTree) (to : List TokenKind) → AreMembers o from ms to → GoesOn o (open_type head [] None) from (open_type head ms None) to
goes_on o head from ms to k = (
  members_shrink o from ms to k,
  λ ts b h. record {
    row = h.row ++ k.row;
    read = rows_join AtStart ts h.row (InType o) from k.row (InType o) to h.read k.read;
    made = sym (k.made b head []) ∙ ap (λ (c : Built). add_all c k.row) h.made ∙ sym (add_both nothing h.row k.row);
  },
)

-- members in place of none in a type without an open body
pub members_ahead : (o : Owner) (t : OpenedType) (from : List TokenKind) (ms : List MemberTree) (to : List TokenKind) → t.members.items ≡ [] → t.body ≡ None → AreMembers o from ms to → GoesOn o (inside_of (Some t)) from (Some (record { head = opening t.head; members = ms; body = body_of t.body })) to
members_ahead o t from ms to none closed k =
    let before : inside_of (Some t) ≡ open_type (opening t.head) [] None = ap (λ xs. open_type (opening t.head) (member_views xs) (body_of t.body)) none ∙ ap (λ b. open_type (opening t.head) [] (body_of b)) closed in
    let behind : open_type (opening t.head) ms None ≡ open_type (opening t.head) ms (body_of t.body) = ap (λ b. open_type (opening t.head) ms (body_of b)) (sym closed) in
    subst (λ j. GoesOn o (inside_of (Some t)) from j to) behind (subst (λ i. GoesOn o i from (open_type (opening t.head) ms None) to) (sym before) (goes_on o (opening t.head) from ms to k))

-- of all that is built
pub behind_all : (o : Owner) (around : ReadAround) (b : Built) (from : List TokenKind) (j : Option OpenType) (r : Result (Bor (List Token)) OutOfMemory) → around ≡ ReadInType o → IfOk r (λ rest. GoesOn o b.inside from j (kinds rest.now)) → IfOk r (λ rest. IsBehind (around_view around) b from (inside b j) (kinds rest.now))
behind_all o around b from j (Ok rest) is h = (h.0, λ ts reached. subst (λ a. IsReached ts (inside b j) (around_view a) (kinds rest.now)) (sym is) (h.1 ts b (subst (λ a. IsReached ts b (around_view a) from) is reached)))
behind_all o around b from j (Err e) is h = h
