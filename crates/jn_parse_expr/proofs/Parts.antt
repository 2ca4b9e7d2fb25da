-- What the parts of the reader give, from the parts before.
use Rattle.std.proofs.Common.{◌≡◌, ℕ, zero, suc, ◌-◌, ◌<◌, ◌≤◌, max, List, [], ◌∷◌, ◌++◌, length, refl, sym, ap, ◌∙◌, subst, arith, length-append, Box, Global, Option, Some, None}
use Rattle.std.specs.Borrow.{Bor}
use Rattle.jn_trees.specs.declared.token.Token.{Token}
use Rattle.jn_trees.specs.declared.token.TokenKind.{TokenKind}
use Rattle.jn_trees.specs.declared.token.TokenKind.TheVariants.{Comma}
use Rattle.jn_trees.specs.declared.expression.Expr.{Expr}
use Rattle.jn_trees.specs.Trees.{Tree, Trees, NoTrees, MoreTrees}
use Rattle.jn_trees.specs.Spelling.{spell}
use Rattle.jn_trees.specs.WellFormed.{nesting, nesting_all, loosest_power, assignment_rank}
use Rattle.jn_trees.specs.View.{view, views}
use Rattle.jn_trees.specs.Longest.{Try}
use Rattle.jn_parse_expr_law.specs.Reader.{Got, TryAll, Reader, extend, go_on, bind_all, add_first, items_behind, items_from, all_items, head, link, primary, choose, assign, unary, reader, operand_at}
use Rattle.jn_parse_expr_law.proofs.Sound.{Sound, sound}
use Rattle.jn_parse_expr.specs.Steps.{ReadAs, or_else, prepend, joined}
use Rattle.jn_parse_expr.proofs.Going.{Going, GoingAll}

pub extend_is : (step : Tree → List TokenKind → Try) (l : Tree) (rest : List TokenKind) → extend step (Some (l, rest)) ≡ or_else (step l rest) (Some (l, rest))
extend_is step l rest =
    elim (step l rest) as (λ o. (elim o as (λ _. Try) [ None ↦ Some (l, rest) | Some q ↦ Some q ]) ≡ or_else o (Some (l, rest))) [ None ↦ refl | Some q ↦ refl ]

pub read_moves : (d : ℕ) (r : Option (Box Expr Global × ℕ × Bor (List Token))) (o p : Try) → p ≡ o → ReadAs d r o → ReadAs d r p
read_moves d r o p e h = subst (λ x. ReadAs d r x) (sym e) h

pub back : (d : ℕ) → d ≡ suc d - 1
back d = omega arith

pub conditional_is : (d : ℕ) (ts : List TokenKind) (l : Tree) (rest : List TokenKind) → (reader d).operand loosest_power ts ≡ Some (l, rest) → (reader d).conditional ts ≡ or_else (choose (reader (d - 1)) d l rest) (Some (l, rest))
conditional_is zero ts l rest e = cc
conditional_is (suc d) ts l rest e =
    ap (λ o. extend (choose (reader d) (suc d)) o) e ∙ extend_is (choose (reader d) (suc d)) l rest ∙ ap (λ n. or_else (choose (reader n) (suc d) l rest) (Some (l, rest))) (back d)

pub whole_is : (d : ℕ) (ts : List TokenKind) (l : Tree) (rest : List TokenKind) → (reader d).conditional ts ≡ Some (l, rest) → (reader d).whole ts ≡ or_else (assign (reader (d - 1)) d l rest) (Some (l, rest))
whole_is zero ts l rest e = cc
whole_is (suc d) ts l rest e =
    ap (λ o. extend (assign (reader d) (suc d)) o) e ∙ extend_is (assign (reader d) (suc d)) l rest ∙ ap (λ n. or_else (assign (reader n) (suc d) l rest) (Some (l, rest))) (back d)

pub unary_is : (d k : ℕ) (ts : List TokenKind) → 0 < d → k ≡ 0 → unary (reader (d - 1)) d ts ≡ (reader d).operand k ts
unary_is zero k ts lt e = absurd (omega (arith, lt))
unary_is (suc d) k ts lt e = ap (λ n. unary (reader n) (suc d) ts) (sym (back d)) ∙ ap (λ j. operand_at (reader d) (suc d) j ts) (sym e)

pub primary_starts : (R : Reader) (d : ℕ) (ts : List TokenKind) (l : Tree) (rest : List TokenKind) → head R ts ≡ Some (l, rest) → (deep : ℕ) → Going (link R d) d deep (l, rest) (primary R d ts)
primary_starts R d ts l rest e deep = record { n = d; room = omega arith; gives = ap (λ o. go_on (link R d) d o) e }

-- lists
pub items_start : (one : List TokenKind → Try) (ts : List TokenKind) (es : List Expr) → es ≡ [] → GoingAll one (views es) ts (all_items one ts)
unfolding all_items
items_start one ts es e = record {
  n = suc (length ts);
  room = omega arith;
  gives = same _ ∙ ap (λ xs. prepend (views xs) (items_from one (suc (length ts)) ts)) (sym e);
}
  where
    same : (o : TryAll) → o ≡ prepend NoTrees o
    same None = refl
    same (Some r) = refl

joined_push : (es : List Expr) (e : Expr) (us : Trees) → joined (views (es ++ e ∷ [])) us ≡ joined (views es) (MoreTrees (view e) us)
joined_push [] e us = refl
joined_push (x ∷ es) e us = ap (λ ts. MoreTrees (view x) ts) (joined_push es e us)

views_push : (es : List Expr) (e : Expr) → joined (views es) (MoreTrees (view e) NoTrees) ≡ views (es ++ e ∷ [])
views_push [] e = refl
views_push (x ∷ es) e = ap (λ ts. MoreTrees (view x) ts) (views_push es e)

pub nesting_push : (es : List Expr) (e : Expr) → nesting_all (views (es ++ e ∷ [])) ≡ max (nesting_all (views es)) (nesting (view e))
nesting_push [] e = omega arith
nesting_push (x ∷ es) e = let ih = nesting_push es e in omega (arith, ih)

prepend_push : (es : List Expr) (e : Expr) (o : TryAll) → prepend (views es) (add_first (view e) o) ≡ prepend (views (es ++ e ∷ [])) o
prepend_push es e None = refl
prepend_push es e (Some r) = ap (λ ts. Some (ts, r.1)) (sym (joined_push es e r.0))

-- no expression
fails_by : (one : List TokenKind → Try) (b : Trees) (ts : List TokenKind) (o : TryAll) (n : ℕ) → o ≡ prepend b (items_from one n ts) → one ts ≡ None → o ≡ None
fails_by one b ts o zero g e = g
fails_by one b ts o (suc n) g e = g ∙ ap (λ p. prepend b (bind_all p (items_behind (items_from one n)))) e

pub items_fail : (one : List TokenKind → Try) (b : Trees) (ts : List TokenKind) (o : TryAll) → GoingAll one b ts o → one ts ≡ None → o ≡ None
items_fail one b ts o g e = fails_by one b ts o g.n g.gives e

-- an expression, and what is after it
behind_by : (one : List TokenKind → Try) (b : Trees) (ts : List TokenKind) (o : TryAll) (n : ℕ) (t : Tree) (rest : List TokenKind) → length ts < n → o ≡ prepend b (items_from one n ts) → one ts ≡ Some (t, rest)
    → (m : ℕ) × (length ts < suc m) × (o ≡ prepend b (items_behind (items_from one m) t rest))
behind_by one b ts o zero t rest lt g e = absurd (omega (arith, lt))
behind_by one b ts o (suc n) t rest lt g e = (n, lt, g ∙ ap (λ p. prepend b (bind_all p (items_behind (items_from one n)))) e)

behind_last : (more : List TokenKind → TryAll) (t : Tree) (ts : List TokenKind) → ((x : List TokenKind) → ts ≡ Comma ∷ x → ⊥) → items_behind more t ts ≡ Some (MoreTrees t NoTrees, ts)
behind_last more t (Comma ∷ ts) h = absurd (h ts refl)
behind_last more t ts h = refl

pub items_end : (one : List TokenKind → Try) (es : List Expr) (ts : List TokenKind) (o : TryAll) (e : Expr) (rest : List TokenKind) → GoingAll one (views es) ts o → one ts ≡ Some (view e, rest)
    → ((x : List TokenKind) → rest ≡ Comma ∷ x → ⊥) → o ≡ Some (views (es ++ e ∷ []), rest)
items_end one es ts o e rest g is h =
    let p = behind_by one (views es) ts o g.n (view e) rest g.room g.gives is in
    p.2 ∙ ap (λ x. prepend (views es) x) (behind_last (items_from one p.0) (view e) rest h) ∙ ap (λ us. Some (us, rest)) (views_push es e)

shorter_by : (d : ℕ) (ts : List TokenKind) (o : Try) (t : Tree) (rest : List TokenKind) → Sound assignment_rank d ts o → o ≡ Some (t, rest) → length rest ≤ length ts
shorter_by d ts None t rest s e = cc
shorter_by d ts (Some r) t rest s e =
    let same : r ≡ (t, rest) = cc in
    subst (λ (x : Got). length x.1 ≤ length ts) same (omega (arith, ap length s.0, length-append (spell r.0) r.1))

pub read_shorter : (d : ℕ) (ts : List TokenKind) (t : Tree) (rest : List TokenKind) → (reader d).whole ts ≡ Some (t, rest) → length rest ≤ length ts
read_shorter d ts t rest e = shorter_by d ts ((reader d).whole ts) t rest ((sound d).whole ts) e

pub items_go : (d : ℕ) (es : List Expr) (ts : List TokenKind) (o : TryAll) (e : Expr) (rest after : List TokenKind) (all : List Expr) → GoingAll (reader d).whole (views es) ts o → (reader d).whole ts ≡ Some (view e, rest) → rest ≡ Comma ∷ after → all ≡ es ++ e ∷ []
    → GoingAll (reader d).whole (views all) after o
items_go d es ts o e rest after all g is comma same =
    let p = behind_by (reader d).whole (views es) ts o g.n (view e) rest g.room g.gives is in
    let short = read_shorter d ts (view e) rest is in
    let long : length rest ≡ suc (length after) = ap length comma in
    record {
      n = p.0;
      room = omega (arith, short, long, p.1);
      gives =
          p.2 ∙ ap (λ x. prepend (views es) (items_behind (items_from (reader d).whole p.0) (view e) x)) comma
          ∙ prepend_push es e (items_from (reader d).whole p.0 after)
          ∙ ap (λ xs. prepend (views xs) (items_from (reader d).whole p.0 after)) (sym same);
    }
