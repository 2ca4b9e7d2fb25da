-- Runs of annotations, marks and declarators, one by one.
use Rattle.std.proofs.Common.{◌≡◌, ℕ, zero, suc, ◌+◌, ◌<◌, ◌≤◌, List, [], ◌∷◌, ◌++◌, length, map, refl, sym, ap, ◌∙◌, subst, arith, append_assoc, append-nil, Option, Some, None, Bool, true, false}
use Rattle.jn_base.specs.declared.number.NameNo.{NameNo}
use Rattle.jn_trees.specs.declared.token.Token.{Token}
use Rattle.jn_trees.specs.declared.token.TokenKind.{TokenKind}
use Rattle.jn_trees.specs.declared.token.TokenKind.TheVariants.{Id, Final, At, Comma, LeftBracket, RightBracket, Assign}
use Rattle.jn_trees.specs.Trees.{BaseTree, LocalMark, AnnotationMark, FinalMark, DeclaratorTree, Tree}
use Rattle.jn_trees.specs.Longest.{Try}
use Rattle.jn_trees.specs.Pieces.{kinds}
use Rattle.jn_trees.specs.WellFormed.{final_once, no_final, is_final_mark}
use Rattle.jn_parse_stmt_law.specs.Parts.{Behind, put, read_annotations, read_marks, brackets_or, read_brackets, use_of, type_use_from, read_type_use, read_value, declarator_behind, more_declarators, all_declarators}
use Rattle.jn_parse_expr_law.specs.Reader.{base_of}
use Rattle.jn_parse_stmt.specs.Seen.{mark_tokens, base_behind, read_base}

-- with these in front
abbrev pub ahead : {A : Type 0} → List A → Behind (List A) → Behind (List A)
ahead xs r = (xs ++ r.0, r.1)

pub ahead_none : {A : Type 0} (xs : List A) (ts : List TokenKind) → ahead xs ([], ts) ≡ (xs, ts)
ahead_none xs ts = ap (λ ys. (ys, ts)) (append-nil xs)

pub as_many : (ts : List Token) → length (kinds ts) ≡ length ts
as_many [] = refl
as_many (t ∷ ts) = ap suc (as_many ts)

module _ {A B : Type 0} (f : A → B) where
  push_list : (items : List A) (first : A) (ys : List B) → map f items ++ (f first ∷ ys) ≡ map f (items ++ first ∷ []) ++ ys
  push_list [] first ys = refl
  push_list (x ∷ xs) first ys = ap (λ l. f x ∷ l) (push_list xs first ys)

  pub pushed : (items : List A) (first : A) (r : Behind (List B)) → ahead (map f items) (put (f first) r) ≡ ahead (map f (items ++ first ∷ [])) r
  pushed items first r = ap (λ xs. (xs, r.1)) (push_list items first r.0)

  -- nothing is read yet
  pub none_yet : (items : List A) (r : Behind (List B)) → items ≡ [] → r ≡ ahead (map f items) r
  none_yet items r e = ap (λ xs. ahead (map f xs) r) (sym e)

  -- one more is read
  pub one_more : (items all : List A) (first : A) (whole r more : Behind (List B)) → whole ≡ ahead (map f items) r → r ≡ put (f first) more → all ≡ items ++ first ∷ [] → whole ≡ ahead (map f all) more
  one_more items all first whole r more e is same =
      e ∙ ap (λ x. ahead (map f items) x) is ∙ pushed items first more ∙ ap (λ xs. ahead (map f xs) more) (sym same)

  -- all are read
  pub all_read : (items : List A) (whole r : Behind (List B)) (ts : List TokenKind) → whole ≡ ahead (map f items) r → r ≡ ([], ts) → whole ≡ (map f items, ts)
  all_read items whole r ts e is = e ∙ ap (λ x. ahead (map f items) x) is ∙ ahead_none (map f items) ts

pub no_annotation : (ts : List TokenKind) → ((name : NameNo) (rest : List TokenKind) → ts ≡ At ∷ Id name ∷ rest → ⊥) → read_annotations ts ≡ ([], ts)
no_annotation (At ∷ Id n ∷ ts) h = absurd (h n ts refl)
no_annotation _ h = refl

pub no_mark : (ts : List TokenKind) → ((name : NameNo) (rest : List TokenKind) → ts ≡ At ∷ Id name ∷ rest → ⊥) → ((rest : List TokenKind) → ts ≡ Final ∷ rest → ⊥) → read_marks ts ≡ ([], ts)
no_mark (At ∷ Id n ∷ ts) h k = absurd (h n ts refl)
no_mark (Final ∷ ts) h k = absurd (k ts refl)
no_mark _ h k = refl

pub mark_first : (m : LocalMark) (ts : List TokenKind) → read_marks (mark_tokens m ts) ≡ put m (read_marks ts)
mark_first (AnnotationMark n) ts = refl
mark_first FinalMark ts = refl

pub mark_shortens : (m : LocalMark) (ts us : List TokenKind) → us ≡ mark_tokens m ts → length ts < length us
mark_shortens (AnnotationMark n) ts us e = omega (arith, ap length e)
mark_shortens FinalMark ts us e = omega (arith, ap length e)

-- fewer tokens by two words
pub two_fewer : (left rest : List Token) (k j : TokenKind) → kinds left ≡ k ∷ j ∷ kinds rest → length rest + 2 ≡ length left
two_fewer left rest k j e = omega (arith, ap length e, as_many left, as_many rest)

pub one_fewer : (left rest : List Token) (k : TokenKind) → kinds left ≡ k ∷ kinds rest → length rest + 1 ≡ length left
one_fewer left rest k e = omega (arith, ap length e, as_many left, as_many rest)

pub fewer_by_mark : (m : LocalMark) (left rest : List Token) → kinds left ≡ mark_tokens m (kinds rest) → length rest < length left
fewer_by_mark m left rest e = let h = mark_shortens m (kinds rest) (kinds left) e in omega (arith, h, as_many left, as_many rest)

pub no_brackets : (us : List TokenKind) (names : List NameNo) (ts : List TokenKind) → ((rest : List TokenKind) → ts ≡ LeftBracket ∷ RightBracket ∷ rest → ⊥) → brackets_or us names ts ≡ (None, us)
no_brackets us names (LeftBracket ∷ RightBracket ∷ ts) h = absurd (h ts refl)
no_brackets us names _ h = refl

pub no_value : (whole : List TokenKind → Try) (ts : List TokenKind) → ((rest : List TokenKind) → ts ≡ Assign ∷ rest → ⊥) → read_value whole ts ≡ (None, ts)
no_value whole (Assign ∷ ts) h = absurd (h ts refl)
no_value whole _ h = refl

-- declarators: n is enough for those that are left
pub record Declaring (whole : List TokenKind → Try) (before : List DeclaratorTree) (left : List TokenKind) (all : Behind (List DeclaratorTree)) : Type 0 where
  pub n : ℕ
  pub room : length left ≤ n
  pub gives : all ≡ ahead before (more_declarators whole n left)

pub declaring_starts : (whole : List TokenKind → Try) (ts : List TokenKind) → Declaring whole [] ts (all_declarators whole ts)
unfolding all_declarators
declaring_starts whole ts = record { n = length ts; room = omega arith; gives = refl }

declared_none : (whole : List TokenKind → Try) (n : ℕ) (ts : List TokenKind) → ((name : NameNo) (rest : List TokenKind) → ts ≡ Comma ∷ Id name ∷ rest → ⊥) → more_declarators whole n ts ≡ ([], ts)
declared_none whole zero ts h = refl
declared_none whole (suc n) (Comma ∷ Id x ∷ ts) h = absurd (h x ts refl)
declared_none whole (suc n) _ h = refl

pub declaring_ends : (whole : List TokenKind → Try) (before : List DeclaratorTree) (left : List TokenKind) (all : Behind (List DeclaratorTree)) → Declaring whole before left all → ((name : NameNo) (rest : List TokenKind) → left ≡ Comma ∷ Id name ∷ rest → ⊥) → all ≡ (before, left)
declaring_ends whole before left all d h = d.gives ∙ ap (λ x. ahead before x) (declared_none whole d.n left h) ∙ ahead_none before left

push_declarator : (before : List DeclaratorTree) (x : DeclaratorTree) (r : Behind (List DeclaratorTree)) → ahead before (put x r) ≡ ahead (before ++ x ∷ []) r
push_declarator before x r = let e : before ++ (x ∷ r.0) ≡ (before ++ x ∷ []) ++ r.0 = sym (append_assoc before (x ∷ []) r.0) in ap (λ xs. (xs, r.1)) e

declaring_by : (whole : List TokenKind → Try) (before : List DeclaratorTree) (left : List TokenKind) (all : Behind (List DeclaratorTree)) (n : ℕ) → length left ≤ n → all ≡ ahead before (more_declarators whole n left)
    → (name : NameNo) (after rest : List TokenKind) (x : DeclaratorTree) → left ≡ Comma ∷ Id name ∷ after → declarator_behind whole name after ≡ (x, rest) → length rest ≤ length after
    → Declaring whole (before ++ x ∷ []) rest all
declaring_by whole before left all zero room gives name after rest x e is le = absurd (omega (arith, ap length e))
declaring_by whole before left all (suc n) room gives name after rest x e is le = record {
  n = n;
  room = omega (arith, ap length e);
  gives =
      gives ∙ ap (λ ts. ahead before (more_declarators whole (suc n) ts)) e
      ∙ ap (λ (r : Behind DeclaratorTree). ahead before (put r.0 (more_declarators whole n r.1))) is
      ∙ push_declarator before x (more_declarators whole n rest);
}

pub declaring_goes : (whole : List TokenKind → Try) (before : List DeclaratorTree) (left : List TokenKind) (all : Behind (List DeclaratorTree)) → Declaring whole before left all
    → (name : NameNo) (after rest : List TokenKind) (x : DeclaratorTree) → left ≡ Comma ∷ Id name ∷ after → declarator_behind whole name after ≡ (x, rest) → length rest ≤ length after
    → Declaring whole (before ++ x ∷ []) rest all
declaring_goes whole before left all d name after rest x e is le = declaring_by whole before left all d.n d.room d.gives name after rest x e is le

-- a list of views with one more
pub map_pushed : {A B : Type 0} (f : A → B) (items : List A) (x : A) → map f (items ++ x ∷ []) ≡ map f items ++ f x ∷ []
map_pushed f [] x = refl
map_pushed f (y ∷ ys) x = ap (λ l. f y ∷ l) (map_pushed f ys x)

same_some : {A : Type 0} (p q : A) → ◌≡◌ {A = Option A} (Some p) (Some q) → p ≡ q
same_some p q e = cc

use_by : (o : Option BaseTree) (ts us : List TokenKind) (b : BaseTree) → base_behind o ts ≡ Some (b, us) → type_use_from o ts ≡ Some (use_of b (read_brackets us))
use_by None ts us b e = cc
use_by (Some x) ts us b e = ap (λ (p : Behind BaseTree). Some (use_of p.0 (read_brackets p.1))) (same_some (x, ts) (b, us) e)

pub type_use_is : (ts us : List TokenKind) (b : BaseTree) → read_base ts ≡ Some (b, us) → read_type_use ts ≡ Some (use_of b (read_brackets us))
type_use_is [] us b e = cc
type_use_is (k ∷ ts) us b e = use_by (base_of k) ts us b e
