-- What the statement reader reads is the longest, and a token list has one statement.
use Rattle.std.proofs.Common.{◌≡◌, ℕ, ◌≤◌, max, List, [], ◌++◌, length, take, drop, refl, sym, ap, ◌∙◌, subst, arith, length-append, Some, None, true}
use Rattle.std.proofs.Math.Seq.{take-append_seam, drop-append_seam}
use Rattle.jn_trees.specs.declared.token.TokenKind.{TokenKind}
use Rattle.jn_trees.specs.declared.context.Context.{Context}
use Rattle.jn_trees.specs.Trees.{Statement}
use Rattle.jn_trees.specs.Spelling.{spell_statement}
use Rattle.jn_trees.specs.WellFormed.{nesting_statement, GoodStatement}
use Rattle.jn_trees.specs.Longest.{TryStatement, StatementFront, IsLongestStatement}
use Rattle.jn_parse_expr_law.specs.Reader.{reader}
use Rattle.jn_parse_expr_law.proofs.Sound.{sound}
use Rattle.jn_parse_expr_law.proofs.Laws.{reads as tree_reads}
use Rattle.jn_parse_stmt_law.specs.Fronts.{starts_else, ReadsStatement}
use Rattle.jn_parse_stmt_law.specs.StatementReader.{statement_reader}
use Rattle.jn_parse_stmt_law.proofs.Wholes.{Whole}
use Rattle.jn_parse_stmt_law.proofs.StatementsSound.{SoundStatement, by_sound}
use Rattle.jn_parse_stmt_law.proofs.Statements.{exactly, by_reads}

pub whole_at : (d : ℕ) → Whole d (reader d).whole
whole_at d = record { sound = (sound d).whole; reads = tree_reads d }

pub statement_sound : (d : ℕ) (c : Context) (ts : List TokenKind) → SoundStatement c d ts (statement_reader d c ts)
statement_sound d c ts = by_sound (λ n. (reader n).whole) whole_at d c ts

pub reads : (c : Context) (d : ℕ) (s : Statement) (rest : List TokenKind) → GoodStatement c s → nesting_statement s ≤ d → ReadsStatement s rest (statement_reader d c (spell_statement s ++ rest))
reads c d s rest g m = by_reads (λ n. (reader n).whole) whole_at d c s rest g m

longest_of : (c : Context) (d : ℕ) (ts : List TokenKind) (o : TryStatement) → SoundStatement c d ts o → ((s : Statement) (rest : List TokenKind) → StatementFront c d ts (s, rest) → ReadsStatement s rest o) → IsLongestStatement c d ts o
longest_of c d ts None h k = λ s rest g. k s rest g
longest_of c d ts (Some r) h k = (h, λ s rest g. (k s rest g).0)

pub longest : (c : Context) (d : ℕ) (ts : List TokenKind) → IsLongestStatement c d ts (statement_reader d c ts)
longest c d ts =
    longest_of c d ts (statement_reader d c ts) (statement_sound d c ts)
    (λ s rest g. subst (λ x. ReadsStatement s rest (statement_reader d c x)) (sym g.0) (reads c d s rest g.1 g.2))

abbrev statement_of : Statement → TryStatement → Statement
statement_of s None = s
statement_of s (Some r) = r.0

pub one_statement : (c : Context) (s u : Statement) → GoodStatement c s → GoodStatement c u → spell_statement s ≡ spell_statement u → s ≡ u
one_statement c s u g k e =
    let d = max (nesting_statement s) (nesting_statement u) in
    let ends : starts_else [] ≡ true → ⊥ = λ x. cc in
    let a = exactly s [] (statement_reader d c (spell_statement s ++ [])) (reads c d s [] g (omega arith)) (λ x. absurd (ends x)) in
    let b = exactly u [] (statement_reader d c (spell_statement u ++ [])) (reads c d u [] k (omega arith)) (λ x. absurd (ends x)) in
    let same : ◌≡◌ {A = TryStatement} (Some (s, [])) (Some (u, [])) = sym a ∙ ap (λ x. statement_reader d c (x ++ [])) e ∙ b in
    ap (statement_of s) same

same_front : (xs ys us vs : List TokenKind) → xs ++ us ≡ ys ++ vs → length us ≡ length vs → (xs ≡ ys) × (us ≡ vs)
same_front xs ys us vs e m =
    let n : length xs ≡ length ys = omega (arith, ap length e, length-append xs us, length-append ys vs, m) in (
      sym (take-append_seam xs us) ∙ ap (λ x. take (length xs) x) e ∙ ap (λ k. take k (ys ++ vs)) n ∙ take-append_seam ys vs,
      sym (drop-append_seam xs us) ∙ ap (λ x. drop (length xs) x) e ∙ ap (λ k. drop k (ys ++ vs)) n ∙ drop-append_seam ys vs,
    )

same_read : (s u : Statement) (xs ys : List TokenKind) → s ≡ u → xs ≡ ys → ◌≡◌ {A = TryStatement} (Some (s, xs)) (Some (u, ys))
same_read s u xs ys e f = ap (λ x. Some (x, xs)) e ∙ ap (λ x. Some (u, x)) f

pub unique : (c : Context) (d : ℕ) (ts : List TokenKind) (a b : TryStatement) → IsLongestStatement c d ts a → IsLongestStatement c d ts b → a ≡ b
unique c d ts None None g h = refl
unique c d ts None (Some q) g h = absurd (g q.0 q.1 h.0)
unique c d ts (Some r) None g h = absurd (h r.0 r.1 g.0)
unique c d ts (Some r) (Some q) g h =
    let one = g.1 q.0 q.1 h.0 in
    let two = h.1 r.0 r.1 g.0 in
    let front = same_front (spell_statement r.0) (spell_statement q.0) r.1 q.1 (sym g.0.0 ∙ h.0.0) (omega (arith, one, two)) in
    same_read r.0 q.0 r.1 q.1 (one_statement c r.0 q.0 g.0.1 h.0.1 front.0) front.1
