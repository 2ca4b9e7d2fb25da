-- What the reader reads is the longest, and a token list has one tree.
use Rattle.std.proofs.Common.{◌≡◌, ℕ, ◌≤◌, max, List, [], ◌++◌, length, take, drop, refl, sym, ap, ◌∙◌, subst, arith, length-append, Some, None}
use Rattle.std.proofs.Math.Seq.{take-append_seam, drop-append_seam}
use Rattle.jn_trees.specs.declared.token.TokenKind.{TokenKind}
use Rattle.jn_trees.specs.Trees.{Tree}
use Rattle.jn_trees.specs.Spelling.{spell}
use Rattle.jn_trees.specs.WellFormed.{nesting, Good, assignment_rank}
use Rattle.jn_trees.specs.Longest.{Try, SpellsFront, IsLongest}
use Rattle.jn_parse_expr_law.specs.Follow.{Reads}
use Rattle.jn_parse_expr_law.specs.Reader.{reader}
use Rattle.jn_parse_expr_law.proofs.Sound.{Sound, sound}
use Rattle.jn_parse_expr_law.proofs.Spines.{ReadsAt, exact_of}
use Rattle.jn_parse_expr_law.proofs.Complete.{complete}

reads_of : (t : Tree) (rest : List TokenKind) (o : Try) → ReadsAt assignment_rank t rest o → Reads t rest o
reads_of t rest None h = h
reads_of t rest (Some r) h = h

pub reads : (d : ℕ) (t : Tree) (rest : List TokenKind) → Good t → nesting t ≤ d → Reads t rest ((reader d).whole (spell t ++ rest))
reads d t rest g m = reads_of t rest ((reader d).whole (spell t ++ rest)) ((complete d).whole t rest g m)

longest_of : (d : ℕ) (ts : List TokenKind) (o : Try) → Sound assignment_rank d ts o → ((t : Tree) (rest : List TokenKind) → SpellsFront d ts (t, rest) → Reads t rest o) → IsLongest d ts o
longest_of d ts None s h = λ t rest g. h t rest g
longest_of d ts (Some r) s h = ((s.0, s.1, s.3), λ t rest g. (h t rest g).0)

pub longest : (d : ℕ) (ts : List TokenKind) → IsLongest d ts ((reader d).whole ts)
longest d ts =
    longest_of d ts ((reader d).whole ts) ((sound d).whole ts)
    (λ t rest g. subst (λ x. Reads t rest ((reader d).whole x)) (sym g.0) (reads d t rest g.1 g.2))

abbrev tree_of : Tree → Try → Tree
tree_of t None = t
tree_of t (Some r) = r.0

pub one_tree : (t u : Tree) → Good t → Good u → spell t ≡ spell u → t ≡ u
one_tree t u g k e =
    let d = max (nesting t) (nesting u) in
    let a : (reader d).whole (spell t ++ []) ≡ Some (t, []) = exact_of assignment_rank t [] ((reader d).whole (spell t ++ [])) ((complete d).whole t [] g (omega arith)) (omega arith) in
    let b : (reader d).whole (spell u ++ []) ≡ Some (u, []) = exact_of assignment_rank u [] ((reader d).whole (spell u ++ [])) ((complete d).whole u [] k (omega arith)) (omega arith) in
    let same : ◌≡◌ {A = Try} (Some (t, [])) (Some (u, [])) = sym a ∙ ap (λ x. (reader d).whole (x ++ [])) e ∙ b in
    ap (tree_of t) same

same_front : (xs ys us vs : List TokenKind) → xs ++ us ≡ ys ++ vs → length us ≡ length vs → (xs ≡ ys) × (us ≡ vs)
same_front xs ys us vs e m =
    let n : length xs ≡ length ys = omega (arith, ap length e, length-append xs us, length-append ys vs, m) in (
      sym (take-append_seam xs us) ∙ ap (λ x. take (length xs) x) e ∙ ap (λ k. take k (ys ++ vs)) n ∙ take-append_seam ys vs,
      sym (drop-append_seam xs us) ∙ ap (λ x. drop (length xs) x) e ∙ ap (λ k. drop k (ys ++ vs)) n ∙ drop-append_seam ys vs,
    )

same_got : (t u : Tree) (us vs : List TokenKind) → t ≡ u → us ≡ vs → ◌≡◌ {A = Try} (Some (t, us)) (Some (u, vs))
same_got t u us vs e f = ap (λ x. Some (x, us)) e ∙ ap (λ x. Some (u, x)) f

pub unique : (d : ℕ) (ts : List TokenKind) (a b : Try) → IsLongest d ts a → IsLongest d ts b → a ≡ b
unique d ts None None g h = refl
unique d ts None (Some q) g h = absurd (g q.0 q.1 h.0)
unique d ts (Some r) None g h = absurd (h r.0 r.1 g.0)
unique d ts (Some r) (Some q) g h =
    let one = g.1 q.0 q.1 h.0 in
    let two = h.1 r.0 r.1 g.0 in
    let front = same_front (spell r.0) (spell q.0) r.1 q.1 (sym g.0.0 ∙ h.0.0) (omega (arith, one, two)) in
    same_got r.0 q.0 r.1 q.1 (one_tree r.0 q.0 g.0.1 h.0.1 front.0) front.1
