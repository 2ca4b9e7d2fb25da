-- Lists of expressions, one by one.
use Rattle.std.proofs.Common.{◌≡◌, ℕ, zero, suc, ◌+◌, ◌<◌, ◌≤◌, List, [], ◌∷◌, ◌++◌, length, refl, sym, ap, ◌∙◌, subst, arith, Option, Some, None}
use Rattle.jn_trees.specs.declared.token.TokenKind.{TokenKind}
use Rattle.jn_trees.specs.declared.token.TokenKind.TheVariants.{Comma, RightParen, Semicolon}
use Rattle.jn_trees.specs.declared.expression.Expr.{Expr}
use Rattle.jn_trees.specs.Trees.{Tree, Trees, NoTrees, MoreTrees}
use Rattle.jn_trees.specs.View.{view, views}
use Rattle.jn_trees.specs.Longest.{Try}
use Rattle.jn_parse_expr_law.specs.Reader.{TryAll, add_first, bind_all, bind_items, items_behind, items_from, all_items, arguments_in, close_arguments}
use Rattle.jn_parse_stmt_law.specs.Parts.{then_read, ended, read_initial, read_optional}

-- these trees before those
abbrev pub chained : Trees → Trees → Trees
chained NoTrees us = us
chained (MoreTrees t ts) us = MoreTrees t (chained ts us)

abbrev pub ahead_of : Trees → TryAll → TryAll
ahead_of ts None = None
ahead_of ts (Some r) = Some (chained ts r.0, r.1)

-- n turns are enough for what is left
pub record Listing (one : List TokenKind → Try) (before : Trees) (left : List TokenKind) (all : TryAll) : Type 0 where
  pub n : ℕ
  pub room : length left < n
  pub gives : all ≡ ahead_of before (items_from one n left)

chained_push : (es : List Expr) (e : Expr) (us : Trees) → chained (views (es ++ e ∷ [])) us ≡ chained (views es) (MoreTrees (view e) us)
chained_push [] e us = refl
chained_push (x ∷ es) e us = ap (λ ts. MoreTrees (view x) ts) (chained_push es e us)

views_push : (es : List Expr) (e : Expr) → chained (views es) (MoreTrees (view e) NoTrees) ≡ views (es ++ e ∷ [])
views_push [] e = refl
views_push (x ∷ es) e = ap (λ ts. MoreTrees (view x) ts) (views_push es e)

ahead_push : (es : List Expr) (e : Expr) (o : TryAll) → ahead_of (views es) (add_first (view e) o) ≡ ahead_of (views (es ++ e ∷ [])) o
ahead_push es e None = refl
ahead_push es e (Some r) = ap (λ ts. Some (ts, r.1)) (sym (chained_push es e r.0))

nothing_ahead : (o : TryAll) → o ≡ ahead_of NoTrees o
nothing_ahead None = refl
nothing_ahead (Some r) = refl

pub listing_starts : (one : List TokenKind → Try) (ts : List TokenKind) (es : List Expr) → es ≡ [] → Listing one (views es) ts (all_items one ts)
unfolding all_items
listing_starts one ts es e = record {
  n = suc (length ts);
  room = omega arith;
  gives = nothing_ahead (all_items one ts) ∙ ap (λ xs. ahead_of (views xs) (all_items one ts)) (sym e);
}

fails_by : (one : List TokenKind → Try) (before : Trees) (left : List TokenKind) (all : TryAll) (n : ℕ) → all ≡ ahead_of before (items_from one n left) → one left ≡ None → all ≡ None
fails_by one before left all zero g e = g
fails_by one before left all (suc n) g e = g ∙ ap (λ p. ahead_of before (bind_all p (items_behind (items_from one n)))) e

pub listing_fails : (one : List TokenKind → Try) (before : Trees) (left : List TokenKind) (all : TryAll) → Listing one before left all → one left ≡ None → all ≡ None
listing_fails one before left all g e = fails_by one before left all g.n g.gives e

-- one item, and what is after it
behind_by : (one : List TokenKind → Try) (before : Trees) (left : List TokenKind) (all : TryAll) (n : ℕ) (t : Tree) (rest : List TokenKind) → length left < n → all ≡ ahead_of before (items_from one n left) → one left ≡ Some (t, rest)
    → (m : ℕ) × (length left < suc m) × (all ≡ ahead_of before (items_behind (items_from one m) t rest))
behind_by one before left all zero t rest lt g e = absurd (omega (arith, lt))
behind_by one before left all (suc n) t rest lt g e = (n, lt, g ∙ ap (λ p. ahead_of before (bind_all p (items_behind (items_from one n)))) e)

no_comma : (more : List TokenKind → TryAll) (t : Tree) (ts : List TokenKind) → ((x : List TokenKind) → ts ≡ Comma ∷ x → ⊥) → items_behind more t ts ≡ Some (MoreTrees t NoTrees, ts)
no_comma more t (Comma ∷ ts) h = absurd (h ts refl)
no_comma more t _ h = refl

pub listing_ends : (one : List TokenKind → Try) (es all_es : List Expr) (left : List TokenKind) (all : TryAll) (e : Expr) (rest : List TokenKind) → Listing one (views es) left all → one left ≡ Some (view e, rest)
    → ((x : List TokenKind) → rest ≡ Comma ∷ x → ⊥) → all_es ≡ es ++ e ∷ [] → all ≡ Some (views all_es, rest)
listing_ends one es all_es left all e rest g is h same =
    let p = behind_by one (views es) left all g.n (view e) rest g.room g.gives is in
    p.2 ∙ ap (λ x. ahead_of (views es) x) (no_comma (items_from one p.0) (view e) rest h) ∙ ap (λ ts. Some (ts, rest)) (views_push es e) ∙ ap (λ xs. Some (views xs, rest)) (sym same)

pub listing_goes : (one : List TokenKind → Try) (es all_es : List Expr) (left : List TokenKind) (all : TryAll) (e : Expr) (rest after : List TokenKind) → Listing one (views es) left all → one left ≡ Some (view e, rest)
    → rest ≡ Comma ∷ after → length rest ≤ length left → all_es ≡ es ++ e ∷ [] → Listing one (views all_es) after all
listing_goes one es all_es left all e rest after g is comma short same =
    let p = behind_by one (views es) left all g.n (view e) rest g.room g.gives is in
    let long : length rest ≡ suc (length after) = ap length comma in
    record {
      n = p.0;
      room = omega (arith, short, long, p.1);
      gives =
          p.2 ∙ ap (λ x. ahead_of (views es) (items_behind (items_from one p.0) (view e) x)) comma
          ∙ ahead_push es e (items_from one p.0 after)
          ∙ ap (λ xs. ahead_of (views xs) (items_from one p.0 after)) (sym same);
    }

pub not_closed : (one : List TokenKind → Try) (ts : List TokenKind) → ((x : List TokenKind) → ts ≡ RightParen ∷ x → ⊥) → arguments_in one ts ≡ bind_items (all_items one ts) close_arguments
not_closed one (RightParen ∷ ts) h = absurd (h ts refl)
not_closed one _ h = refl

pub not_empty : (one : List TokenKind → Try) (ts : List TokenKind) → ((x : List TokenKind) → ts ≡ Semicolon ∷ x → ⊥) → read_initial one ts ≡ then_read (all_items one ts) ended
not_empty one (Semicolon ∷ ts) h = absurd (h ts refl)
not_empty one _ h = refl

pub not_absent : (one : List TokenKind → Try) (ts : List TokenKind) → ((x : List TokenKind) → ts ≡ Semicolon ∷ x → ⊥) → read_optional one ts ≡ then_read (one ts) (λ e us. ended (Some e) us)
not_absent one (Semicolon ∷ ts) h = absurd (h ts refl)
not_absent one _ h = refl

pub none_closes : (es : Trees) (ts : List TokenKind) → ((x : List TokenKind) → ts ≡ RightParen ∷ x → ⊥) → close_arguments es ts ≡ None
none_closes es (RightParen ∷ ts) h = absurd (h ts refl)
none_closes es _ h = refl

pub none_ends : {A : Type 0} (a : A) (ts : List TokenKind) → ((x : List TokenKind) → ts ≡ Semicolon ∷ x → ⊥) → ended a ts ≡ None
none_ends a (Semicolon ∷ ts) h = absurd (h ts refl)
none_ends a _ h = refl
