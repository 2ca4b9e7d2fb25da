-- Members and statements of bodies are read, and only they.
use Rattle.std.proofs.Common.{◌≡◌, ◌≤◌, List, [], ◌∷◌, ◌++◌, length, refl, sym, ap, ◌∙◌, subst, arith, append_assoc, Option, Some, None, Bool, true, false, ◌&&◌, not}
use Rattle.std.proofs.lemmas.Bool.Decides.{Decides-eqb}
use Rattle.jn_base.specs.declared.number.NameNo.{NameNo}
use Rattle.jn_trees.specs.declared.token.TokenKind.{TokenKind}
use Rattle.jn_trees.specs.declared.token.TokenKind.TheVariants.{Id, Void, LeftParen, LeftBrace, RightBrace, Semicolon}
use Rattle.jn_trees.specs.declared.context.Owner.{Owner}
use Rattle.jn_trees.specs.Trees.{BaseTree, ClassBase, IntBase, BooleanBase, Tree, Mark, NoteMark, PublicMark, ProtectedMark, PrivateMark, StaticMark, ConstantMark, AbstractMark, TypeUseTree, DeclaratorTree, ParameterTree, ReceiverTree, Statement}
use Rattle.jn_trees.specs.Spelling.{base_token, spell_all_marks, spell_brackets, spell_type_use, spell_value, spell_declarator, spell_more_declarators, spell_parameters, spell_result, spell_method_head, spell_statement}
use Rattle.jn_trees.specs.WellFormed.{final_once, has_static, GoodParameters, GoodReceiver, GoodMethodMarks, GoodMethodHead, GoodConstructorHead, GoodDeclarators, nesting_declarators, deepest, ends_open, marks_field, marks_method, marks_interface_method, marks_constructor, body_context}
use Rattle.jn_trees.specs.Longest.{TryStatement}
use Rattle.jn_trees.specs.Pieces.{Piece, FieldPiece, MethodPiece, MethodHead, ConstructorHead, StatementPiece, BodyEnd, TypeEnd, spell_piece, MayMember, MayStatement}
use Rattle.jn_parse_stmt_law.specs.Parts.{read_type_use}
use Rattle.jn_parse_decl_law.specs.PieceReader.{TryPiece, checked, read_all_marks, good_marks, TryAllParameters, after_type, read_parameters, same_name, good_parameters, good_receiver, good_method_marks, good_method_head, is_no_receiver, good_constructor_head, after_parameters, constructor_end, method_end, field_end, read_field_declarators, after_declarators, typed_member, void_method, member_behind, read_member, read_body_statement, statement_piece, read_in_body}
use Rattle.jn_parse_stmt_law.specs.Fronts.{SoundDeclarators, ReadsStatement, starts_else}
use Rattle.jn_parse_stmt_law.proofs.Fronts.{type_use_spells, type_use_exact}
use Rattle.jn_parse_stmt_law.proofs.StatementsSound.{SoundStatement}
use Rattle.jn_parse_stmt_law.proofs.Statements.{stands, statement_stands}
use Rattle.jn_parse_decl_law.proofs.Parts.{field_declarators_sound, field_declarators_exact, body_statement_sound, body_statement_full}
use Rattle.jn_parse_decl_law.proofs.HeadsRead.{SoundBy, checked_sound, checked_full, both_true, both_are, marks_good, marks_test, all_marks_sound, all_marks_exact}
use Rattle.jn_parse_decl_law.proofs.ParametersRead.{after_use_sound, SoundAll, parameters_sound, parameters_exact}

-- what the tests mean
not_is : (b : Bool) → not b ≡ true → b ≡ false
not_is true e = cc
not_is false e = refl

is_not : (b : Bool) → b ≡ false → not b ≡ true
is_not b e = ap not e

name_is : (a b : NameNo) → same_name a b ≡ true → a ≡ b
name_is a b h = let e = (Decides-eqb a.0 b.0).0 h in (λ i. record { 0 = e i })

is_name : (a b : NameNo) → a ≡ b → same_name a b ≡ true
is_name a b e = (Decides-eqb a.0 b.0).1 (λ i. (e i).0)

parameters_good : (ps : List ParameterTree) → good_parameters ps ≡ true → GoodParameters ps
parameters_good [] e = tt
parameters_good (p ∷ ps) e = let b = both_true (final_once p.marks) (good_parameters ps) e in (b.0, parameters_good ps b.1)

parameters_test : (ps : List ParameterTree) → GoodParameters ps → good_parameters ps ≡ true
parameters_test [] g = refl
parameters_test (p ∷ ps) g = both_are (final_once p.marks) (good_parameters ps) g.0 (parameters_test ps g.1)

receiver_good : (owner : NameNo) (ms : List Mark) (r : Option ReceiverTree) → good_receiver owner ms r ≡ true → GoodReceiver owner ms r
receiver_good owner ms None e = tt
receiver_good owner ms (Some r) e = let b = both_true (not (has_static ms)) (same_name r.class owner) e in (not_is (has_static ms) b.0, name_is r.class owner b.1)

receiver_test : (owner : NameNo) (ms : List Mark) (r : Option ReceiverTree) → GoodReceiver owner ms r → good_receiver owner ms r ≡ true
receiver_test owner ms None g = refl
receiver_test owner ms (Some r) g = both_are (not (has_static ms)) (same_name r.class owner) (is_not (has_static ms) g.0) (is_name r.class owner g.1)

method_marks_good : (interface : Bool) (ms : List Mark) → good_method_marks interface ms ≡ true → GoodMethodMarks interface ms
method_marks_good true ms e = marks_good marks_interface_method ms e
method_marks_good false ms e = marks_good marks_method ms e

method_marks_test : (interface : Bool) (ms : List Mark) → GoodMethodMarks interface ms → good_method_marks interface ms ≡ true
method_marks_test true ms g = marks_test marks_interface_method ms g
method_marks_test false ms g = marks_test marks_method ms g

method_good : (o : Owner) (ms : List Mark) (r : Option ReceiverTree) (ps : List ParameterTree) → good_method_head o ms r ps ≡ true → GoodMethodHead o ms r ps
method_good o ms r ps e =
    let a = both_true (good_method_marks o.interface ms) (good_receiver o.name ms r && good_parameters ps) e in
    let b = both_true (good_receiver o.name ms r) (good_parameters ps) a.1 in
    (method_marks_good o.interface ms a.0, receiver_good o.name ms r b.0, parameters_good ps b.1)

method_test : (o : Owner) (ms : List Mark) (r : Option ReceiverTree) (ps : List ParameterTree) → GoodMethodHead o ms r ps → good_method_head o ms r ps ≡ true
method_test o ms r ps g =
    both_are (good_method_marks o.interface ms) (good_receiver o.name ms r && good_parameters ps) (method_marks_test o.interface ms g.0)
    (both_are (good_receiver o.name ms r) (good_parameters ps) (receiver_test o.name ms r g.1) (parameters_test ps g.2))

no_receiver : (r : Option ReceiverTree) → is_no_receiver r ≡ true → r ≡ None
no_receiver None e = refl
no_receiver (Some r) e = cc

constructor_good : (o : Owner) (ms : List Mark) (n : NameNo) (r : Option ReceiverTree) (ps : List ParameterTree) → good_constructor_head o ms n r ps ≡ true → GoodConstructorHead o ms n ps × (r ≡ None)
constructor_good o ms n r ps e =
    let a = both_true (good_marks marks_constructor ms) (not o.interface && (same_name n o.name && (is_no_receiver r && good_parameters ps))) e in
    let b = both_true (not o.interface) (same_name n o.name && (is_no_receiver r && good_parameters ps)) a.1 in
    let c = both_true (same_name n o.name) (is_no_receiver r && good_parameters ps) b.1 in
    let d = both_true (is_no_receiver r) (good_parameters ps) c.1 in
    ((marks_good marks_constructor ms a.0, not_is o.interface b.0, name_is n o.name c.0, parameters_good ps d.1), no_receiver r d.0)

constructor_test : (o : Owner) (ms : List Mark) (n : NameNo) (ps : List ParameterTree) → GoodConstructorHead o ms n ps → good_constructor_head o ms n None ps ≡ true
constructor_test o ms n ps g =
    both_are (good_marks marks_constructor ms) (not o.interface && (same_name n o.name && (is_no_receiver None && good_parameters ps))) (marks_test marks_constructor ms g.0)
    (both_are (not o.interface) (same_name n o.name && (is_no_receiver None && good_parameters ps)) (is_not o.interface g.1)
    (both_are (same_name n o.name) (is_no_receiver None && good_parameters ps) (is_name n o.name g.2) (parameters_test ps g.3)))

-- only what stands there is read
method_end_sound : (o : Owner) (ms : List Mark) (u : Option TypeUseTree) (n : NameNo) (r : Option ReceiverTree) (ps : List ParameterTree) (ts : List TokenKind) → SoundBy (MayMember o) (spell_method_head ms u n r ps ++ ts) (method_end o ms u n r ps ts)
method_end_sound o ms u n r ps (LeftBrace ∷ ts) =
    checked_sound (MayMember o) (spell_method_head ms u n r ps ++ LeftBrace ∷ ts) (not o.interface && good_method_head o ms r ps) (MethodHead ms u n r ps) ts (sym (append_assoc (spell_method_head ms u n r ps) (LeftBrace ∷ []) ts))
    (λ e. let b = both_true (not o.interface) (good_method_head o ms r ps) e in (not_is o.interface b.0, method_good o ms r ps b.1))
method_end_sound o ms u n r ps (Semicolon ∷ ts) =
    checked_sound (MayMember o) (spell_method_head ms u n r ps ++ Semicolon ∷ ts) (good_method_head o ms r ps) (MethodPiece ms u n r ps) ts (sym (append_assoc (spell_method_head ms u n r ps) (Semicolon ∷ []) ts)) (method_good o ms r ps)
method_end_sound o ms u n r ps _ = tt

head_regroup : (a b : List TokenKind) (k l : TokenKind) (c ts : List TokenKind) → a ++ (b ++ k ∷ l ∷ (c ++ ts)) ≡ (a ++ (b ++ k ∷ l ∷ c)) ++ ts
head_regroup a b k l c ts = simp append_assoc

method_sound : (o : Owner) (ms : List Mark) (u : Option TypeUseTree) (n : NameNo) (ts : List TokenKind) (p : TryAllParameters) → SoundAll ts p → SoundBy (MayMember o) (spell_all_marks ms ++ (spell_result u ++ Id n ∷ LeftParen ∷ ts)) (after_parameters (method_end o ms u n) p)
method_sound o ms u n ts None s = tt
method_sound o ms u n ts (Some p) s =
    subst (λ x. SoundBy (MayMember o) x (method_end o ms u n p.0 p.1 p.2)) (sym (ap (λ x. spell_all_marks ms ++ (spell_result u ++ Id n ∷ LeftParen ∷ x)) s ∙ head_regroup (spell_all_marks ms) (spell_result u) (Id n) LeftParen (spell_parameters p.0 p.1) p.2))
    (method_end_sound o ms u n p.0 p.1 p.2)

constructor_end_sound : (o : Owner) (ms : List Mark) (n : NameNo) (r : Option ReceiverTree) (ps : List ParameterTree) (ts : List TokenKind) → SoundBy (MayMember o) (spell_all_marks ms ++ Id n ∷ LeftParen ∷ (spell_parameters r ps ++ ts)) (constructor_end o ms n r ps ts)
constructor_end_sound o ms n r ps (LeftBrace ∷ ts) =
    (elim (good_constructor_head o ms n r ps) as (λ b. (b ≡ true → GoodConstructorHead o ms n ps × (r ≡ None)) → SoundBy (MayMember o) (spell_all_marks ms ++ Id n ∷ LeftParen ∷ (spell_parameters r ps ++ LeftBrace ∷ ts)) (checked b (ConstructorHead ms n ps) ts)) [
      | true ↦ λ h.
          let g = h refl in
          (ap (λ x. spell_all_marks ms ++ Id n ∷ LeftParen ∷ (spell_parameters x ps ++ LeftBrace ∷ ts)) g.1 ∙ constructor_regroup (spell_all_marks ms) (Id n) LeftParen (spell_parameters None ps) LeftBrace ts, g.0)
      | false ↦ λ h. tt
    ])
    (constructor_good o ms n r ps)
  where
    constructor_regroup : (a : List TokenKind) (k l : TokenKind) (c : List TokenKind) (m : TokenKind) (ts : List TokenKind) → a ++ k ∷ l ∷ (c ++ m ∷ ts) ≡ ((a ++ k ∷ l ∷ c) ++ m ∷ []) ++ ts
    constructor_regroup a k l c m ts = simp append_assoc
constructor_end_sound o ms n r ps _ = tt

constructor_sound : (o : Owner) (ms : List Mark) (n : NameNo) (ts : List TokenKind) (p : TryAllParameters) → SoundAll ts p → SoundBy (MayMember o) (spell_all_marks ms ++ Id n ∷ LeftParen ∷ ts) (after_parameters (constructor_end o ms n) p)
constructor_sound o ms n ts None s = tt
constructor_sound o ms n ts (Some p) s =
    subst (λ x. SoundBy (MayMember o) (spell_all_marks ms ++ Id n ∷ LeftParen ∷ x) (constructor_end o ms n p.0 p.1 p.2)) (sym s) (constructor_end_sound o ms n p.0 p.1 p.2)

field_regroup : (a b c d : List TokenKind) (k : TokenKind) (ts : List TokenKind) → a ++ (b ++ (c ++ (d ++ k ∷ ts))) ≡ (a ++ (b ++ (c ++ (d ++ k ∷ [])))) ++ ts
field_regroup a b c d k ts = simp append_assoc

field_end_sound : (o : Owner) (ms : List Mark) (u : TypeUseTree) (d : DeclaratorTree) (ds : List DeclaratorTree) (ts : List TokenKind) → GoodDeclarators (d ∷ ds) → nesting_declarators (d ∷ ds) ≤ deepest → SoundBy (MayMember o) (spell_all_marks ms ++ (spell_type_use u ++ (spell_declarator d ++ (spell_more_declarators ds ++ ts)))) (field_end ms u d ds ts)
field_end_sound o ms u d ds (Semicolon ∷ ts) g m =
    checked_sound (MayMember o) (spell_all_marks ms ++ (spell_type_use u ++ (spell_declarator d ++ (spell_more_declarators ds ++ Semicolon ∷ ts)))) (good_marks marks_field ms) (FieldPiece ms u d ds) ts
    (field_regroup (spell_all_marks ms) (spell_type_use u) (spell_declarator d) (spell_more_declarators ds) Semicolon ts) (λ e. (marks_good marks_field ms e, g, m))
field_end_sound o ms u d ds _ g m = tt

field_sound : (o : Owner) (ms : List Mark) (u : TypeUseTree) (ts : List TokenKind) (r : Option ((DeclaratorTree × List DeclaratorTree) × List TokenKind)) → SoundDeclarators deepest ts r → SoundBy (MayMember o) (spell_all_marks ms ++ (spell_type_use u ++ ts)) (after_declarators (field_end ms u) r)
field_sound o ms u ts None s = tt
field_sound o ms u ts (Some r) s = subst (λ x. SoundBy (MayMember o) (spell_all_marks ms ++ (spell_type_use u ++ x)) (field_end ms u r.0.0 r.0.1 r.1)) (sym (s.0 ∙ append_assoc (spell_declarator r.0.0) (spell_more_declarators r.0.1) r.1)) (field_end_sound o ms u r.0.0 r.0.1 r.1 s.1 s.2)

statement_sound_by : (leading : Bool) (ts : List TokenKind) (r : TryStatement) → SoundStatement (body_context leading) deepest ts r → SoundBy (MayStatement leading) ts (statement_piece r)
statement_sound_by leading ts None s = tt
statement_sound_by leading ts (Some r) s = (s.0, (s.1, s.2))

-- members begin with no closing brace
abbrev ends_type : List TokenKind → Bool
ends_type (RightBrace ∷ ts) = true
ends_type _ = false

marks_no_end : (ms : List Mark) (rest : List TokenKind) → ends_type rest ≡ false → ends_type (spell_all_marks ms ++ rest) ≡ false
marks_no_end [] rest e = e
marks_no_end (NoteMark n ∷ ms) rest e = refl
marks_no_end (PublicMark ∷ ms) rest e = refl
marks_no_end (ProtectedMark ∷ ms) rest e = refl
marks_no_end (PrivateMark ∷ ms) rest e = refl
marks_no_end (StaticMark ∷ ms) rest e = refl
marks_no_end (ConstantMark ∷ ms) rest e = refl
marks_no_end (AbstractMark ∷ ms) rest e = refl

base_no_end : (b : BaseTree) (rest : List TokenKind) → ends_type (base_token b ∷ rest) ≡ false
base_no_end (ClassBase n) rest = refl
base_no_end IntBase rest = refl
base_no_end BooleanBase rest = refl

base_no_mark : (b : BaseTree) (rest : List TokenKind) → read_all_marks (base_token b ∷ rest) ≡ ([], base_token b ∷ rest)
base_no_mark (ClassBase n) rest = refl
base_no_mark IntBase rest = refl
base_no_mark BooleanBase rest = refl

member_step : (o : Owner) (ts : List TokenKind) → ends_type ts ≡ false → read_member o ts ≡ member_behind o (read_all_marks ts).0 (read_all_marks ts).1
member_step o (RightBrace ∷ ts) e = cc
member_step o ts e = refl

-- the marks in front
marked : (o : Owner) (ms : List Mark) (rest : List TokenKind) → ends_type rest ≡ false → read_all_marks rest ≡ ([], rest) → read_member o (spell_all_marks ms ++ rest) ≡ member_behind o ms rest
marked o ms rest e f =
    member_step o (spell_all_marks ms ++ rest) (marks_no_end ms rest e) ∙ ap (λ (q : List Mark × List TokenKind). member_behind o q.0 q.1) (all_marks_exact ms rest f)

-- a type and a name don't look like a constructor
typed_by : (o : Owner) (ms : List Mark) (b : BaseTree) (a : Option (List NameNo)) (n : NameNo) (rest : List TokenKind) → member_behind o ms (base_token b ∷ (spell_brackets a ++ Id n ∷ rest)) ≡ after_type (typed_member o ms) (read_type_use (base_token b ∷ (spell_brackets a ++ Id n ∷ rest)))
typed_by o ms (ClassBase c) None n rest = refl
typed_by o ms (ClassBase c) (Some []) n rest = refl
typed_by o ms (ClassBase c) (Some (k ∷ ks)) n rest = refl
typed_by o ms IntBase a n rest = refl
typed_by o ms BooleanBase a n rest = refl

field_by : (o : Owner) (ms : List Mark) (u : TypeUseTree) (n : NameNo) (v : Option Tree) (ds : List DeclaratorTree) (rest : List TokenKind) → typed_member o ms u (Id n ∷ (spell_value v ++ (spell_more_declarators ds ++ Semicolon ∷ rest))) ≡ after_declarators (field_end ms u) (read_field_declarators (Id n ∷ (spell_value v ++ (spell_more_declarators ds ++ Semicolon ∷ rest))))
field_by o ms u n None [] rest = refl
field_by o ms u n None (d ∷ ds) rest = refl
field_by o ms u n (Some e) ds rest = refl

abbrev ends_body : List TokenKind → Bool
ends_body (RightBrace ∷ ts) = true
ends_body _ = false

stands_no_end : (ts : List TokenKind) → stands ts ≡ true → ends_body ts ≡ false
stands_no_end (RightBrace ∷ ts) e = cc
stands_no_end _ e = refl

body_step : (leading : Bool) (ts : List TokenKind) → ends_body ts ≡ false → read_in_body leading ts ≡ statement_piece (read_body_statement leading ts)
body_step leading (RightBrace ∷ ts) e = cc
body_step leading ts e = refl

-- the piece, or one that goes further, and just it where no `else` follows
abbrev pub FullByElse : Piece → List TokenKind → TryPiece → Type 0
FullByElse p rest None = ⊥
FullByElse p rest (Some r) = (length r.1 ≤ length rest) × (not (starts_else rest) ≡ true → r ≡ (p, rest))

no_else : (b c : Bool) → not b ≡ true → b ≡ true → c ≡ false
no_else true c e f = cc
no_else false c e f = cc

statement_full_by : (s : Statement) (rest : List TokenKind) (o : TryStatement) → ReadsStatement s rest o → FullByElse (StatementPiece s) rest (statement_piece o)
statement_full_by s rest None f = absurd f
statement_full_by s rest (Some r) f = (f.0, λ e. ap (λ (x : Statement × List TokenKind). (StatementPiece x.0, x.1)) (f.1 (λ h. no_else (starts_else rest) (ends_open s) e h)))

typed_sound : (o : Owner) (ms : List Mark) (u : TypeUseTree) (ts : List TokenKind) → SoundBy (MayMember o) (spell_all_marks ms ++ (spell_type_use u ++ ts)) (typed_member o ms u ts)
typed_sound o ms u (Id n ∷ LeftParen ∷ ts) = method_sound o ms (Some u) n ts (read_parameters ts) (parameters_sound ts)
typed_sound o ms u ts = field_sound o ms u ts (read_field_declarators ts) (field_declarators_sound ts)

void_sound : (o : Owner) (ms : List Mark) (ts : List TokenKind) → SoundBy (MayMember o) (spell_all_marks ms ++ Void ∷ ts) (void_method o ms ts)
void_sound o ms (Id n ∷ LeftParen ∷ ts) = method_sound o ms None n ts (read_parameters ts) (parameters_sound ts)
void_sound o ms _ = tt

use_sound : (o : Owner) (ms : List Mark) (ts : List TokenKind) → SoundBy (MayMember o) (spell_all_marks ms ++ ts) (after_type (typed_member o ms) (read_type_use ts))
use_sound o ms ts =
    after_use_sound (λ p. SoundBy (MayMember o) (spell_all_marks ms ++ ts) p) (typed_member o ms) ts (read_type_use ts) tt (type_use_spells ts)
    (λ u us e. subst (λ x. SoundBy (MayMember o) (spell_all_marks ms ++ x) (typed_member o ms u us)) (sym e) (typed_sound o ms u us))

behind_sound : (o : Owner) (ms : List Mark) (ts : List TokenKind) → SoundBy (MayMember o) (spell_all_marks ms ++ ts) (member_behind o ms ts)
behind_sound o ms (Void ∷ ts) = void_sound o ms ts
behind_sound o ms (Id n ∷ LeftParen ∷ ts) = constructor_sound o ms n ts (read_parameters ts) (parameters_sound ts)
behind_sound o ms ts = use_sound o ms ts

pub member_sound : (o : Owner) (ts : List TokenKind) → SoundBy (MayMember o) ts (read_member o ts)
member_sound o (RightBrace ∷ ts) = (refl, tt)
member_sound o ts = subst (λ x. SoundBy (MayMember o) x (member_behind o (read_all_marks ts).0 (read_all_marks ts).1)) (sym (all_marks_sound ts)) (behind_sound o (read_all_marks ts).0 (read_all_marks ts).1)

pub in_body_sound : (leading : Bool) (ts : List TokenKind) → SoundBy (MayStatement leading) ts (read_in_body leading ts)
in_body_sound leading (RightBrace ∷ ts) = (refl, tt)
in_body_sound leading ts = statement_sound_by leading ts (read_body_statement leading ts) (body_statement_sound leading ts)

-- what stands there is read
typed_read : (o : Owner) (ms : List Mark) (u : TypeUseTree) (n : NameNo) (rest : List TokenKind) → read_member o (spell_all_marks ms ++ (spell_type_use u ++ Id n ∷ rest)) ≡ typed_member o ms u (Id n ∷ rest)
typed_read o ms u n rest =
    let more = spell_type_use u ++ Id n ∷ rest in
    marked o ms more (base_no_end u.base (spell_brackets u.array ++ Id n ∷ rest)) (base_no_mark u.base (spell_brackets u.array ++ Id n ∷ rest))
    ∙ typed_by o ms u.base u.array n rest
    ∙ ap (λ x. after_type (typed_member o ms) x) (type_use_exact u (Id n ∷ rest) refl)

result_read : (o : Owner) (ms : List Mark) (u : Option TypeUseTree) (n : NameNo) (rest : List TokenKind) → read_member o (spell_all_marks ms ++ (spell_result u ++ Id n ∷ LeftParen ∷ rest)) ≡ after_parameters (method_end o ms u n) (read_parameters rest)
result_read o ms None n rest = marked o ms (Void ∷ Id n ∷ LeftParen ∷ rest) refl refl
result_read o ms (Some u) n rest = typed_read o ms u n (LeftParen ∷ rest)

-- a head of a method, and what stands after it
method_read : (o : Owner) (ms : List Mark) (u : Option TypeUseTree) (n : NameNo) (r : Option ReceiverTree) (ps : List ParameterTree) (k : TokenKind) (rest : List TokenKind) → read_member o ((spell_method_head ms u n r ps ++ k ∷ []) ++ rest) ≡ method_end o ms u n r ps (k ∷ rest)
method_read o ms u n r ps k rest =
    ap (read_member o) (append_assoc (spell_method_head ms u n r ps) (k ∷ []) rest ∙ sym (head_regroup (spell_all_marks ms) (spell_result u) (Id n) LeftParen (spell_parameters r ps) (k ∷ rest)))
    ∙ result_read o ms u n (spell_parameters r ps ++ k ∷ rest)
    ∙ ap (λ x. after_parameters (method_end o ms u n) x) (parameters_exact r ps (k ∷ rest))

constructor_group : (a : List TokenKind) (k l : TokenKind) (c : List TokenKind) (m : TokenKind) (ts : List TokenKind) → ((a ++ k ∷ l ∷ c) ++ m ∷ []) ++ ts ≡ a ++ k ∷ l ∷ (c ++ m ∷ ts)
constructor_group a k l c m ts = simp append_assoc

pub member_full : (o : Owner) (p : Piece) (rest : List TokenKind) → MayMember o p → read_member o (spell_piece p ++ rest) ≡ Some (p, rest)
member_full o (FieldPiece ms u d ds) rest g =
    ap (read_member o) (sym (field_regroup (spell_all_marks ms) (spell_type_use u) (spell_declarator d) (spell_more_declarators ds) Semicolon rest))
    ∙ typed_read o ms u d.name (spell_value d.value ++ (spell_more_declarators ds ++ Semicolon ∷ rest))
    ∙ field_by o ms u d.name d.value ds rest
    ∙ ap (λ x. after_declarators (field_end ms u) x) (field_declarators_exact d ds rest g.1 g.2)
    ∙ checked_full (good_marks marks_field ms) (FieldPiece ms u d ds) rest (marks_test marks_field ms g.0)
member_full o (MethodPiece ms u n r ps) rest g = method_read o ms u n r ps Semicolon rest ∙ checked_full (good_method_head o ms r ps) (MethodPiece ms u n r ps) rest (method_test o ms r ps g)
member_full o (MethodHead ms u n r ps) rest g =
    method_read o ms u n r ps LeftBrace rest
    ∙ checked_full (not o.interface && good_method_head o ms r ps) (MethodHead ms u n r ps) rest (both_are (not o.interface) (good_method_head o ms r ps) (is_not o.interface g.0) (method_test o ms r ps g.1))
member_full o (ConstructorHead ms n ps) rest g =
    ap (read_member o) (constructor_group (spell_all_marks ms) (Id n) LeftParen (spell_parameters None ps) LeftBrace rest)
    ∙ marked o ms (Id n ∷ LeftParen ∷ (spell_parameters None ps ++ LeftBrace ∷ rest)) refl refl
    ∙ ap (λ x. after_parameters (constructor_end o ms n) x) (parameters_exact None ps (LeftBrace ∷ rest))
    ∙ checked_full (good_constructor_head o ms n None ps) (ConstructorHead ms n ps) rest (constructor_test o ms n ps g)
member_full o TypeEnd rest g = refl
member_full o _ rest g = absurd g

pub in_body_full : (leading : Bool) (p : Piece) (rest : List TokenKind) → MayStatement leading p → FullByElse p rest (read_in_body leading (spell_piece p ++ rest))
in_body_full leading (StatementPiece s) rest g =
    subst (λ o. FullByElse (StatementPiece s) rest o) (sym (body_step leading (spell_statement s ++ rest) (stands_no_end (spell_statement s ++ rest) (statement_stands s rest))))
    (statement_full_by s rest (read_body_statement leading (spell_statement s ++ rest)) (body_statement_full leading s rest g.0 g.1))
in_body_full leading BodyEnd rest g = (omega arith, λ e. refl)
in_body_full leading _ rest g = absurd g
