-- Primaries and left sides are read as far as they go.
use Rattle.std.proofs.Common.{◌≡◌, ℕ, zero, suc, ◌<◌, ◌≤◌, List, [], ◌∷◌, ◌++◌, length, refl, sym, ap, ◌∙◌, subst, arith, append_assoc, length-append, Some, None, Bool, true, false, cond, nat_lt}
use Rattle.std.proofs.lemmas.Bool.{cond_below}
use Rattle.jn_base.specs.declared.number.NameNo.{NameNo}
use Rattle.jn_trees.specs.declared.token.TokenKind.{TokenKind}
use Rattle.jn_trees.specs.declared.token.TokenKind.TheVariants.{Id, New, Super, This, LeftParen, RightParen, LeftBrace, RightBrace, LeftBracket, RightBracket, Dot}
use Rattle.jn_trees.specs.declared.expression.Literal.{Literal}
use Rattle.jn_trees.specs.declared.expression.Literal.TheVariants.{Number as NumberLiteral, Str as StrLiteral, True as TrueLiteral, False as FalseLiteral, Null as NullLiteral}
use Rattle.jn_trees.specs.Trees.{BaseTree, ClassBase, IntBase, BooleanBase, Tree, Trees, LiteralTree, NameTree, ThisTree, ParenTree, FieldTree, CallTree, OwnCallTree, SuperCallTree, IndexTree, NewTree, NewArrayTree, ArrayOfTree, PostfixTree, PrefixTree, UnaryTree, CastTree, BinaryTree, InstanceOfTree, ConditionalTree, AssignTree}
use Rattle.jn_trees.specs.Spelling.{base_token, literal_token, spell_annotations, spell, spell_list}
use Rattle.jn_trees.specs.WellFormed.{nesting, nesting_all, rank, is_left_side, is_indexable, Good, AllGood, GoodLiteral, primary_rank, assignment_rank}
use Rattle.jn_trees.specs.Longest.{Try}
use Rattle.jn_parse_expr_law.specs.Follow.{reach_of}
use Rattle.jn_parse_expr_law.specs.Reader.{Got, TryAll, Reader, iterate, build_all, bind, close_paren, close_index, arguments, called, base_of, close_array, array_inside, array_of, array_from, annotations, add_annotation, creation, head, member, link, primary, trim, left_at}
use Rattle.jn_parse_expr_law.proofs.Sound.{SoundReader, SoundCall, call_sound, some_power}
use Rattle.jn_parse_expr_law.proofs.Spines.{ReadsAt, exact_of, Shorter, ShorterStep, StopsAt, stop_iterate, Spine, spine_step, spine_start, shorter_of, shorter_when, shorter_by, shorter_bind, called_shorter}
use Rattle.jn_parse_expr_law.proofs.Items.{CompleteReader, begins, begins_tree, in_exact, elements_exact, called_exact}

-- members, calls and indexes
close_index_shorter : (p t : Tree) (ts : List TokenKind) → Shorter ts (close_index p t ts)
close_index_shorter p t [] = tt
close_index_shorter p t (RightBracket ∷ ts) = omega arith
close_index_shorter p t (_ ∷ ts) = tt

member_shorter : (R : Reader) (d : ℕ) → SoundReader R d → (p : Tree) (ts : List TokenKind) → Shorter ts (member R p ts)
member_shorter R d s p [] = tt
member_shorter R d s p (Id n ∷ ts) = let h = called_shorter d (FieldTree p n) (λ es. CallTree p n es) ts (arguments R.whole ts) (call_sound d R.whole s.whole ts) in omega (arith, h)
member_shorter R d s p (_ ∷ ts) = tt

pub link_shorter : (R : Reader) (d : ℕ) → SoundReader R d → ShorterStep (link R (suc d))
link_shorter R d s p [] = tt
link_shorter R d s p (Dot ∷ ts) = shorter_when (nat_lt (nesting p) (suc d)) (Dot ∷ ts) (member R p ts) (shorter_by Dot ts (member R p ts) (member_shorter R d s p ts))
link_shorter R d s p (LeftBracket ∷ ts) =
    shorter_when (is_indexable p) (LeftBracket ∷ ts) (cond (nat_lt (nesting p) (suc d)) (bind (R.whole ts) (close_index p)) None)
    (shorter_when (nat_lt (nesting p) (suc d)) (LeftBracket ∷ ts) (bind (R.whole ts) (close_index p))
    (shorter_by LeftBracket ts (bind (R.whole ts) (close_index p)) (shorter_bind (close_index p) (close_index_shorter p) ts (R.whole ts) (shorter_of assignment_rank d ts (R.whole ts) (s.whole ts)))))
link_shorter R d s p (_ ∷ ts) = tt

pub link_stops : (R : Reader) (D : ℕ) → StopsAt primary_rank (link R D)
link_stops R D p [] lt = refl
link_stops R D p (Dot ∷ ts) lt = absurd (omega (arith, lt))
link_stops R D p (LeftBracket ∷ ts) lt = absurd (omega (arith, lt))
link_stops R D p (_ ∷ ts) lt = refl

-- nor before what begins the operand of a cast
pub link_stops_at_operand : (R : Reader) (D : ℕ) (p : Tree) (ts : List TokenKind) → reach_of ts ≡ 0 → link R D p ts ≡ None
link_stops_at_operand R D p [] e = refl
link_stops_at_operand R D p (Dot ∷ ts) e = absurd (omega (arith, e))
link_stops_at_operand R D p (LeftBracket ∷ ts) e = absurd (omega (arith, e))
link_stops_at_operand R D p (_ ∷ ts) e = refl

called_more : (p : Tree) (n : NameNo) (ts : List TokenKind) (o : TryAll) → nesting p < nesting (called (FieldTree p n) (λ es. CallTree p n es) ts o).0
called_more p n ts None = omega arith
called_more p n ts (Some r) = omega arith

-- arrays
annotations_read : (names : List NameNo) (b : BaseTree) (ts : List TokenKind) → annotations (spell_annotations names ++ base_token b ∷ ts) ≡ (names, base_token b ∷ ts)
annotations_read [] (ClassBase n) ts = refl
annotations_read [] IntBase ts = refl
annotations_read [] BooleanBase ts = refl
annotations_read (n ∷ names) b ts = ap (add_annotation n) (annotations_read names b ts)

base_read : (b : BaseTree) → base_of (base_token b) ≡ Some b
base_read (ClassBase n) = refl
base_read IntBase = refl
base_read BooleanBase = refl

creation_read : (R : Reader) (names : List NameNo) (b : BaseTree) (ts : List TokenKind) → creation R (spell_annotations names ++ base_token b ∷ LeftBracket ∷ ts) ≡ array_inside R names b ts
creation_read R [] (ClassBase n) ts = refl
creation_read R [] IntBase ts = refl
creation_read R [] BooleanBase ts = refl
creation_read R (n ∷ names) b ts =
    ap (λ (r : List NameNo × List TokenKind). array_from R r.0 r.1) (annotations_read (n ∷ names) b (LeftBracket ∷ ts))
    ∙ ap (λ o. array_of R (n ∷ names) o (LeftBracket ∷ ts)) (base_read b)

inside_read : (R : Reader) (names : List NameNo) (b : BaseTree) (ts : List TokenKind) → begins ts ≡ true → array_inside R names b ts ≡ bind (R.whole ts) (close_array names b)
inside_read R names b [] e = refl
inside_read R names b (RightBracket ∷ ts) e = cc
inside_read R names b (_ ∷ ts) e = refl

array_exact : (R : Reader) (d : ℕ) → CompleteReader R d → (names : List NameNo) (b : BaseTree) (e : Tree) (rest : List TokenKind) → Good e → nesting e ≤ d
    → creation R ((spell_annotations names ++ base_token b ∷ LeftBracket ∷ (spell e ++ RightBracket ∷ [])) ++ rest) ≡ Some (NewArrayTree names b e, rest)
array_exact R d h names b e rest g m =
    ap (λ x. creation R x) (append_assoc (spell_annotations names) (base_token b ∷ LeftBracket ∷ (spell e ++ RightBracket ∷ [])) rest)
    ∙ creation_read R names b ((spell e ++ RightBracket ∷ []) ++ rest)
    ∙ ap (λ x. array_inside R names b x) (append_assoc (spell e) (RightBracket ∷ []) rest)
    ∙ inside_read R names b (spell e ++ RightBracket ∷ rest) (begins_tree e (RightBracket ∷ rest))
    ∙ ap (λ o. bind o (close_array names b)) (exact_of assignment_rank e (RightBracket ∷ rest) (R.whole (spell e ++ RightBracket ∷ rest)) (h.whole e (RightBracket ∷ rest) g m) (omega arith))

array_of_exact : (R : Reader) (d : ℕ) → CompleteReader R d → (names : List NameNo) (b : BaseTree) (es : Trees) (rest : List TokenKind) → AllGood es → nesting_all es ≤ d
    → creation R ((spell_annotations names ++ base_token b ∷ LeftBracket ∷ RightBracket ∷ LeftBrace ∷ spell_list RightBrace es) ++ rest) ≡ Some (ArrayOfTree names b es, rest)
array_of_exact R d h names b es rest g m =
    ap (λ x. creation R x) (append_assoc (spell_annotations names) (base_token b ∷ LeftBracket ∷ RightBracket ∷ LeftBrace ∷ spell_list RightBrace es) rest)
    ∙ creation_read R names b (RightBracket ∷ LeftBrace ∷ (spell_list RightBrace es ++ rest))
    ∙ ap (λ o. build_all (λ us. ArrayOfTree names b us) o) (elements_exact R d h es rest g m)

literal_read : (R : Reader) (l : Literal) (rest : List TokenKind) → GoodLiteral l → head R (literal_token l ∷ rest) ≡ Some (LiteralTree l, rest)
literal_read R (NumberLiteral n) rest g = sym (cond_below n 2147483648 (Some (LiteralTree (NumberLiteral n), rest)) None g)
literal_read R (StrLiteral n) rest g = refl
literal_read R TrueLiteral rest g = refl
literal_read R FalseLiteral rest g = refl
literal_read R NullLiteral rest g = refl

-- what a head reads whole
head_spine : (R : Reader) (d : ℕ) (t : Tree) (rest ts : List TokenKind) → head R ts ≡ Some (t, rest) → Spine 0 (suc d) (link R (suc d)) t rest (primary R (suc d) ts)
head_spine R d t rest ts e = spine_start 0 (suc d) (link R (suc d)) (head R ts) (t, rest) e t rest (omega arith) (λ lt. refl)

pub primary_spine : (R : Reader) (d : ℕ) → SoundReader R d → CompleteReader R d → (t : Tree) (rest : List TokenKind) → Good t → rank t ≤ primary_rank → nesting t ≤ suc d → Spine 0 (suc d) (link R (suc d)) t rest (primary R (suc d) (spell t ++ rest))
primary_spine R d s h (LiteralTree l) rest g k m = head_spine R d (LiteralTree l) rest (literal_token l ∷ rest) (literal_read R l rest g)
primary_spine R d s h (NameTree n) rest g k m =
    spine_start 0 (suc d) (link R (suc d)) (head R (Id n ∷ rest)) (called (NameTree n) (λ es. OwnCallTree n es) rest (arguments R.whole rest)) refl (NameTree n) rest
    (called_shorter d (NameTree n) (λ es. OwnCallTree n es) rest (arguments R.whole rest) (call_sound d R.whole s.whole rest))
    (λ lt. called_exact (NameTree n) (λ es. OwnCallTree n es) R.whole rest lt)
primary_spine R d s h ThisTree rest g k m = head_spine R d ThisTree rest (This ∷ rest) refl
primary_spine R d s h (ParenTree e) rest g k m =
    head_spine R d (ParenTree e) rest (LeftParen ∷ ((spell e ++ RightParen ∷ []) ++ rest))
    (ap (λ x. bind (R.whole x) close_paren) (append_assoc (spell e) (RightParen ∷ []) rest)
    ∙ ap (λ o. bind o close_paren) (exact_of assignment_rank e (RightParen ∷ rest) (R.whole (spell e ++ RightParen ∷ rest)) (h.whole e (RightParen ∷ rest) g (omega (arith, m))) (omega arith)))
primary_spine R d s h (OwnCallTree n es) rest g k m =
    head_spine R d (OwnCallTree n es) rest (Id n ∷ LeftParen ∷ (spell_list RightParen es ++ rest))
    (ap (λ o. Some (called (NameTree n) (λ us. OwnCallTree n us) (LeftParen ∷ (spell_list RightParen es ++ rest)) o)) (in_exact R d h es rest g (omega (arith, m))))
primary_spine R d s h (SuperCallTree n es) rest g k m =
    head_spine R d (SuperCallTree n es) rest (Super ∷ Dot ∷ Id n ∷ LeftParen ∷ (spell_list RightParen es ++ rest))
    (ap (λ o. build_all (λ us. SuperCallTree n us) o) (in_exact R d h es rest g (omega (arith, m))))
primary_spine R d s h (NewTree n es) rest g k m =
    head_spine R d (NewTree n es) rest (New ∷ Id n ∷ LeftParen ∷ (spell_list RightParen es ++ rest))
    (ap (λ o. build_all (λ us. NewTree n us) o) (in_exact R d h es rest g (omega (arith, m))))
primary_spine R d s h (NewArrayTree names b e) rest g k m =
    head_spine R d (NewArrayTree names b e) rest (New ∷ ((spell_annotations names ++ base_token b ∷ LeftBracket ∷ (spell e ++ RightBracket ∷ [])) ++ rest)) (array_exact R d h names b e rest g (omega (arith, m)))
primary_spine R d s h (ArrayOfTree names b es) rest g k m =
    head_spine R d (ArrayOfTree names b es) rest (New ∷ ((spell_annotations names ++ base_token b ∷ LeftBracket ∷ RightBracket ∷ LeftBrace ∷ spell_list RightBrace es) ++ rest)) (array_of_exact R d h names b es rest g (omega (arith, m)))
primary_spine R d s h (FieldTree p n) rest g k m =
    let fits : nesting p < suc d = omega (arith, m) in
    subst (λ x. Spine 0 (suc d) (link R (suc d)) (FieldTree p n) rest (primary R (suc d) x)) (sym (append_assoc (spell p) (Dot ∷ Id n ∷ []) rest))
    (spine_step 0 (suc d) (link R (suc d)) p (Dot ∷ Id n ∷ rest) (primary R (suc d) (spell p ++ Dot ∷ Id n ∷ rest)) (primary_spine R d s h p (Dot ∷ Id n ∷ rest) g.0 g.1 (omega (arith, m))) (omega arith) fits
    (called (FieldTree p n) (λ es. CallTree p n es) rest (arguments R.whole rest)) (sym (cond_below (nesting p) (suc d) (member R p (Id n ∷ rest)) None fits))
    (called_more p n rest (arguments R.whole rest)) (FieldTree p n) rest
    (called_shorter d (FieldTree p n) (λ es. CallTree p n es) rest (arguments R.whole rest) (call_sound d R.whole s.whole rest))
    (λ lt. called_exact (FieldTree p n) (λ es. CallTree p n es) R.whole rest lt))
primary_spine R d s h (CallTree p n es) rest g k m =
    let fits : nesting p < suc d = omega (arith, m) in
    let last = LeftParen ∷ (spell_list RightParen es ++ rest) in
    let more = Dot ∷ Id n ∷ last in
    subst (λ x. Spine 0 (suc d) (link R (suc d)) (CallTree p n es) rest (primary R (suc d) x)) (sym (append_assoc (spell p) (Dot ∷ Id n ∷ LeftParen ∷ spell_list RightParen es) rest))
    (spine_step 0 (suc d) (link R (suc d)) p more (primary R (suc d) (spell p ++ more)) (primary_spine R d s h p more g.0 g.1 (omega (arith, m))) (omega arith) fits
    (CallTree p n es, rest)
    (sym (cond_below (nesting p) (suc d) (member R p (Id n ∷ last)) None fits)
    ∙ ap (λ o. Some (called (FieldTree p n) (λ us. CallTree p n us) last o)) (in_exact R d h es rest g.2 (omega (arith, m))))
    (omega arith) (CallTree p n es) rest (omega arith) (λ lt. refl))
primary_spine R d s h (IndexTree p e) rest g k m =
    let fits : nesting p < suc d = omega (arith, m) in
    let last = spell e ++ RightBracket ∷ rest in
    let more = LeftBracket ∷ last in
    subst (λ x. Spine 0 (suc d) (link R (suc d)) (IndexTree p e) rest (primary R (suc d) x))
    (sym (append_assoc (spell p) (LeftBracket ∷ (spell e ++ RightBracket ∷ [])) rest ∙ ap (λ x. spell p ++ LeftBracket ∷ x) (append_assoc (spell e) (RightBracket ∷ []) rest)))
    (spine_step 0 (suc d) (link R (suc d)) p more (primary R (suc d) (spell p ++ more)) (primary_spine R d s h p more g.0 g.1 (omega (arith, m))) (omega arith) fits
    (IndexTree p e, rest)
    (ap (λ b. cond b (cond (nat_lt (nesting p) (suc d)) (bind (R.whole last) (close_index p)) None) None) g.2
    ∙ sym (cond_below (nesting p) (suc d) (bind (R.whole last) (close_index p)) None fits)
    ∙ ap (λ o. bind o (close_index p)) (exact_of assignment_rank e (RightBracket ∷ rest) (R.whole last) (h.whole e (RightBracket ∷ rest) g.3 (omega (arith, m))) (omega arith)))
    (omega arith) (IndexTree p e) rest (omega arith) (λ lt. refl))
primary_spine R d s h (PostfixTree p st) rest g k m = absurd (omega (arith, k))
primary_spine R d s h (PrefixTree st q) rest g k m = absurd (omega (arith, k))
primary_spine R d s h (UnaryTree o e) rest g k m = absurd (omega (arith, k))
primary_spine R d s h (CastTree n e) rest g k m = absurd (omega (arith, k))
primary_spine R d s h (BinaryTree l o r) rest g k m = absurd (omega (arith, k, some_power o))
primary_spine R d s h (InstanceOfTree e n) rest g k m = absurd (omega (arith, k))
primary_spine R d s h (ConditionalTree c a b) rest g k m = absurd (omega (arith, k))
primary_spine R d s h (AssignTree l o r) rest g k m = absurd (omega (arith, k))

-- left sides
abbrev Trims : ℕ → Try → Type 0
Trims n None = ⊥
Trims n (Some q) = length q.1 ≤ n

abbrev TrimsStep : List TokenKind → Try → Type 0
TrimsStep ts None = Unit {0}
TrimsStep ts (Some q) = Trims (length ts) (trim q.0 q.1)

called_trims : (d : ℕ) (p : Tree) (n : NameNo) (ts : List TokenKind) (o : TryAll) → SoundCall d ts o → TrimsStep ts (Some (called (FieldTree p n) (λ es. CallTree p n es) ts o))
called_trims d p n ts None s = omega arith
called_trims d p n ts (Some r) s = omega (arith, ap length s.0)

name_trims : (d : ℕ) (n : NameNo) (ts : List TokenKind) (o : TryAll) → SoundCall d ts o → TrimsStep ts (Some (called (NameTree n) (λ es. OwnCallTree n es) ts o))
name_trims d n ts None s = omega arith
name_trims d n ts (Some r) s = omega (arith, ap length s.0)

trims_when : (b : Bool) (ts : List TokenKind) (o : Try) → TrimsStep ts o → TrimsStep ts (cond b o None)
trims_when true ts o s = s
trims_when false ts o s = tt

trims_more : (k : TokenKind) (ts : List TokenKind) (o : Try) → TrimsStep ts o → TrimsStep (k ∷ ts) o
trims_more k ts None s = tt
trims_more k ts (Some q) s =
    (elim (trim q.0 q.1) as (λ o. Trims (length ts) o → Trims (length (k ∷ ts)) o) [ None ↦ λ h. absurd h | Some r ↦ λ h. omega (arith, h) ]) s

member_trims : (R : Reader) (d : ℕ) → SoundReader R d → (p : Tree) (ts : List TokenKind) → TrimsStep ts (member R p ts)
member_trims R d s p [] = tt
member_trims R d s p (Id n ∷ ts) = trims_more (Id n) ts (Some (called (FieldTree p n) (λ es. CallTree p n es) ts (arguments R.whole ts))) (called_trims d p n ts (arguments R.whole ts) (call_sound d R.whole s.whole ts))
member_trims R d s p (_ ∷ ts) = tt

close_index_trims : (p t : Tree) (ts : List TokenKind) → TrimsStep ts (close_index p t ts)
close_index_trims p t [] = tt
close_index_trims p t (RightBracket ∷ ts) = omega arith
close_index_trims p t (_ ∷ ts) = tt

index_trims : (p : Tree) (ts : List TokenKind) (o : Try) → Shorter ts o → TrimsStep ts (bind o (close_index p))
index_trims p ts None s = tt
index_trims p ts (Some r) s =
    (elim (close_index p r.0 r.1) as (λ o. TrimsStep r.1 o → TrimsStep ts o)
    [ None ↦ λ _. tt | Some q ↦ λ h. (elim (trim q.0 q.1) as (λ o. Trims (length r.1) o → Trims (length ts) o) [ None ↦ λ k. absurd k | Some x ↦ λ k. omega (arith, k, s) ]) h ])
    (close_index_trims p r.0 r.1)

link_trims : (R : Reader) (d : ℕ) → SoundReader R d → (p : Tree) (ts : List TokenKind) → TrimsStep ts (link R (suc d) p ts)
link_trims R d s p [] = tt
link_trims R d s p (Dot ∷ ts) = trims_when (nat_lt (nesting p) (suc d)) (Dot ∷ ts) (member R p ts) (trims_more Dot ts (member R p ts) (member_trims R d s p ts))
link_trims R d s p (LeftBracket ∷ ts) =
    trims_when (is_indexable p) (LeftBracket ∷ ts) (cond (nat_lt (nesting p) (suc d)) (bind (R.whole ts) (close_index p)) None)
    (trims_when (nat_lt (nesting p) (suc d)) (LeftBracket ∷ ts) (bind (R.whole ts) (close_index p))
    (trims_more LeftBracket ts (bind (R.whole ts) (close_index p)) (index_trims p ts (R.whole ts) (shorter_of assignment_rank d ts (R.whole ts) (s.whole ts)))))
link_trims R d s p (_ ∷ ts) = tt

-- what is trimmed is no shorter than what follows
trim_keeps : (n : ℕ) (t : Tree) (ts : List TokenKind) → Trims n (trim t ts) → length ts ≤ n
trim_keeps n (NameTree m) ts h = h
trim_keeps n (FieldTree p m) ts h = h
trim_keeps n (IndexTree p e) ts h = h
trim_keeps n (OwnCallTree m es) ts h = omega (arith, h, length-append (spell_list RightParen es) ts)
trim_keeps n (CallTree p m es) ts h = omega (arith, h, length-append (spell_list RightParen es) ts)
trim_keeps n _ ts h = absurd h

iterate_trims : (R : Reader) (d : ℕ) → SoundReader R d → (n m : ℕ) (r : Got) → Trims n (trim r.0 r.1) → Trims n (trim (iterate (link R (suc d)) m r).0 (iterate (link R (suc d)) m r).1)
iterate_trims R d s n zero r h = h
iterate_trims R d s n (suc m) r h =
    (elim (link R (suc d) r.0 r.1) as (λ o. TrimsStep r.1 o → Trims n (trim (elim o as (λ _. Got) [ None ↦ r | Some q ↦ iterate (link R (suc d)) m q ]).0 (elim o as (λ _. Got) [ None ↦ r | Some q ↦ iterate (link R (suc d)) m q ]).1)) [
      | None ↦ λ _. h
      | Some q ↦ λ k. iterate_trims R d s n m q
          ((elim (trim q.0 q.1) as (λ o. Trims (length r.1) o → Trims n o) [ None ↦ λ x. absurd x | Some x ↦ λ y. let keep = trim_keeps n r.0 r.1 h in omega (arith, y, keep) ]) k)
    ])
    (link_trims R d s r.0 r.1)

trim_left : (t : Tree) (ts : List TokenKind) → is_left_side t ≡ true → trim t ts ≡ Some (t, ts)
trim_left (NameTree n) ts e = refl
trim_left (FieldTree p n) ts e = refl
trim_left (IndexTree p i) ts e = refl
trim_left _ ts e = cc

left_reads : (t : Tree) (rest : List TokenKind) (o : Try) → Trims (length rest) o → (primary_rank < reach_of rest → o ≡ Some (t, rest)) → ReadsAt primary_rank t rest o
left_reads t rest None h e = absurd h
left_reads t rest (Some r) h e = (h, λ lt. let same : Some r ≡ Some (t, rest) = e lt in cc)

left_from : (R : Reader) (d : ℕ) → SoundReader R d → (t : Tree) (rest : List TokenKind) (o : Try) → is_left_side t ≡ true → (s : Spine 0 (suc d) (link R (suc d)) t rest o) → Trims (length rest) (trim s.got.0 s.got.1) → ReadsAt primary_rank t rest (bind o trim)
left_from R d sound t rest o left s trims =
    let end = iterate (link R (suc d)) s.n s.got in
    subst (λ x. ReadsAt primary_rank t rest (bind x trim)) (sym s.read)
    (left_reads t rest (trim end.0 end.1) (iterate_trims R d sound (length rest) s.n s.got trims)
    (λ lt. ap (λ (x : Got). trim (iterate (link R (suc d)) s.n x).0 (iterate (link R (suc d)) s.n x).1) (s.exact (omega (arith, lt)))
    ∙ ap (λ (x : Got). trim x.0 x.1) (stop_iterate (link R (suc d)) s.n (t, rest) (link_stops R (suc d) t rest lt))
    ∙ trim_left t rest left))

-- the spine of a left side, with what it trims to
record LeftSpine (R : Reader) (d : ℕ) (t : Tree) (rest : List TokenKind) (o : Try) : Type 0 where
  spine : Spine 0 (suc d) (link R (suc d)) t rest o
  trims : Trims (length rest) (trim spine.got.0 spine.got.1)

left_spine : (R : Reader) (d : ℕ) → SoundReader R d → CompleteReader R d → (t : Tree) (rest : List TokenKind) → Good t → is_left_side t ≡ true → nesting t ≤ suc d → LeftSpine R d t rest (primary R (suc d) (spell t ++ rest))
left_spine R d s h (NameTree n) rest g l m = record {
  spine = spine_start 0 (suc d) (link R (suc d)) (head R (Id n ∷ rest)) (called (NameTree n) (λ es. OwnCallTree n es) rest (arguments R.whole rest)) refl (NameTree n) rest
      (called_shorter d (NameTree n) (λ es. OwnCallTree n es) rest (arguments R.whole rest) (call_sound d R.whole s.whole rest))
      (λ lt. called_exact (NameTree n) (λ es. OwnCallTree n es) R.whole rest lt);
  trims = name_trims d n rest (arguments R.whole rest) (call_sound d R.whole s.whole rest);
}
left_spine R d s h (FieldTree p n) rest g l m =
    let fits : nesting p < suc d = omega (arith, m) in
    subst (λ x. LeftSpine R d (FieldTree p n) rest (primary R (suc d) x)) (sym (append_assoc (spell p) (Dot ∷ Id n ∷ []) rest)) (record {
      spine = spine_step 0 (suc d) (link R (suc d)) p (Dot ∷ Id n ∷ rest) (primary R (suc d) (spell p ++ Dot ∷ Id n ∷ rest)) (primary_spine R d s h p (Dot ∷ Id n ∷ rest) g.0 g.1 (omega (arith, m))) (omega arith) fits
          (called (FieldTree p n) (λ es. CallTree p n es) rest (arguments R.whole rest)) (sym (cond_below (nesting p) (suc d) (member R p (Id n ∷ rest)) None fits))
          (called_more p n rest (arguments R.whole rest)) (FieldTree p n) rest
          (called_shorter d (FieldTree p n) (λ es. CallTree p n es) rest (arguments R.whole rest) (call_sound d R.whole s.whole rest))
          (λ lt. called_exact (FieldTree p n) (λ es. CallTree p n es) R.whole rest lt);
      trims = called_trims d p n rest (arguments R.whole rest) (call_sound d R.whole s.whole rest);
    })
left_spine R d s h (IndexTree p e) rest g l m =
    let fits : nesting p < suc d = omega (arith, m) in
    let last = spell e ++ RightBracket ∷ rest in
    let more = LeftBracket ∷ last in
    subst (λ x. LeftSpine R d (IndexTree p e) rest (primary R (suc d) x))
    (sym (append_assoc (spell p) (LeftBracket ∷ (spell e ++ RightBracket ∷ [])) rest ∙ ap (λ x. spell p ++ LeftBracket ∷ x) (append_assoc (spell e) (RightBracket ∷ []) rest))) (record {
      spine = spine_step 0 (suc d) (link R (suc d)) p more (primary R (suc d) (spell p ++ more)) (primary_spine R d s h p more g.0 g.1 (omega (arith, m))) (omega arith) fits
          (IndexTree p e, rest)
          (ap (λ b. cond b (cond (nat_lt (nesting p) (suc d)) (bind (R.whole last) (close_index p)) None) None) g.2
          ∙ sym (cond_below (nesting p) (suc d) (bind (R.whole last) (close_index p)) None fits)
          ∙ ap (λ o. bind o (close_index p)) (exact_of assignment_rank e (RightBracket ∷ rest) (R.whole last) (h.whole e (RightBracket ∷ rest) g.3 (omega (arith, m))) (omega arith)))
          (omega arith) (IndexTree p e) rest (omega arith) (λ lt. refl);
      trims = omega arith;
    })
left_spine R d s h _ rest g l m = cc

pub left_complete : (R : Reader) (d : ℕ) → SoundReader R d → CompleteReader R d → (t : Tree) (rest : List TokenKind) → Good t → is_left_side t ≡ true → nesting t ≤ suc d → ReadsAt primary_rank t rest (left_at R (suc d) (spell t ++ rest))
left_complete R d s h t rest g l m =
    let p = left_spine R d s h t rest g l m in
    left_from R d s t rest (primary R (suc d) (spell t ++ rest)) l p.spine p.trims
