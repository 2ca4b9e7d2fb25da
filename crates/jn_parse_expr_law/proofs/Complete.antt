-- What a well-formed tree spells is read, and as far as it goes.
use Rattle.std.proofs.Common.{◌≡◌, ℕ, zero, suc, ◌+◌, ◌<◌, ◌≤◌, List, [], ◌∷◌, ◌++◌, refl, sym, ap, ◌∙◌, subst, arith, append_assoc, Option, Some, None, Bool, true, false, cond, nat_lt, nat_eq, inl, inr}
use Rattle.std.proofs.lemmas.Bool.{cond_below, eq-eqb, ne_eqb, eqb-true, cases_lt}
use Rattle.jn_base.specs.declared.number.NameNo.{NameNo}
use Rattle.jn_trees.specs.declared.token.TokenKind.{TokenKind}
use Rattle.jn_trees.specs.declared.token.TokenKind.TheVariants.{Id, Number, Instanceof, LeftParen, RightParen, Question, Colon}
use Rattle.jn_trees.specs.declared.expression.Literal.TheVariants.{Number as NumberLiteral}
use Rattle.jn_trees.specs.declared.expression.UnaryOperator.{UnaryOperator}
use Rattle.jn_trees.specs.declared.expression.UnaryOperator.TheVariants.{Plus as PlusSign, Minus as MinusSign, Not as NotSign}
use Rattle.jn_trees.specs.declared.expression.Step.{Step}
use Rattle.jn_trees.specs.declared.expression.Step.TheVariants.{Increment, Decrement}
use Rattle.jn_trees.specs.declared.expression.BinaryOperator.{BinaryOperator}
use Rattle.jn_trees.specs.declared.expression.BinaryOperator.TheVariants.{Multiply, Divide, Remainder, Add, Subtract, Less as LessThan, Greater as GreaterThan, LessEqual as AtMost, GreaterEqual as AtLeast, Equal, NotEqual as Unequal, And, Or}
use Rattle.jn_trees.specs.declared.expression.AssignOperator.{AssignOperator}
use Rattle.jn_trees.specs.declared.expression.AssignOperator.TheVariants.{Assign as Simple, Add as AddTo, Subtract as SubtractFrom, Multiply as MultiplyBy, Divide as DivideBy, Remainder as RemainderBy}
use Rattle.jn_trees.specs.Trees.{Tree, LiteralTree, NameTree, ParenTree, PostfixTree, PrefixTree, UnaryTree, CastTree, BinaryTree, InstanceOfTree, ConditionalTree, AssignTree}
use Rattle.jn_trees.specs.Spelling.{step_token, sign_token, operator_token, assign_token, spell}
use Rattle.jn_trees.specs.WellFormed.{nesting, rank, power, is_left_side, is_castable, Good, relational, loosest_power, primary_rank, postfix_rank, unary_rank, operator_rank, relational_rank, disjunction_rank, conditional_rank, assignment_rank}
use Rattle.jn_trees.specs.Longest.{Try}
use Rattle.jn_parse_expr_law.specs.Follow.{reach, reach_of}
use Rattle.jn_parse_expr_law.specs.Reader.{Got, Reader, build, extend, go_on, bind, close_paren, link, primary, step_of, after_by, after, cast_operand, cast, or_least, prefix, unary, Sign, NoSign, OperatorSign, TestSign, sign, test, grow_by, grow, operand_at, choose_end, choose, conditional_at, assign_of, assign_by, assign, whole_at, reader}
use Rattle.jn_parse_expr_law.proofs.Sound.{SoundReader, IsStep, is_step, IsSign, is_sign, IsAssign, is_assign, some_power, sound}
use Rattle.jn_parse_expr_law.proofs.Spines.{ReadsAt, exact_of, got_of, Shorter, ShorterStep, StopsAt, stop_iterate, reads_extend, Spine, spine_reads, spine_step, spine_from, spine_exact, reads_build, extend_from, extend_after, shorter_of, shorter_when, shorter_by, shorter_build, shorter_bind, both_none}
use Rattle.jn_parse_expr_law.proofs.Items.{CompleteReader, left_side_low, castable_begins, castable_rank, some_nesting}
use Rattle.jn_parse_expr_law.proofs.Primaries.{link_shorter, link_stops, link_stops_at_operand, primary_spine, left_complete}

-- steps after a primary
step_reach : (s : Step) → reach (step_token s) ≡ postfix_rank
step_reach Increment = refl
step_reach Decrement = refl

step_read : (s : Step) → step_of (step_token s) ≡ Some s
step_read Increment = refl
step_read Decrement = refl

after_by_shorter : (D : ℕ) (p : Tree) (o : Option Step) (ts : List TokenKind) → Shorter ts (after_by D p o ts)
after_by_shorter D p None ts = tt
after_by_shorter D p (Some s) ts =
    shorter_when (is_left_side p) ts (cond (nat_lt (nesting p) D) (Some (PostfixTree p s, ts)) None)
    (shorter_when (nat_lt (nesting p) D) ts (Some (PostfixTree p s, ts)) (omega arith))

after_shorter : (D : ℕ) → ShorterStep (after D)
after_shorter D p [] = tt
after_shorter D p (x ∷ ts) = shorter_by x ts (after_by D p (step_of x) ts) (after_by_shorter D p (step_of x) ts)

no_step : (k : TokenKind) (o : Option Step) → IsStep k o → (reach k ≡ postfix_rank → ⊥) → o ≡ None
no_step k None is h = refl
no_step k (Some s) is h = absurd (h (ap reach is ∙ step_reach s))

after_none : (D : ℕ) (p : Tree) (ts : List TokenKind) → (reach_of ts ≡ postfix_rank → ⊥) → after D p ts ≡ None
after_none D p [] h = refl
after_none D p (x ∷ ts) h = ap (λ o. after_by D p o ts) (no_step x (step_of x) (is_step x) h)

after_stops : (D : ℕ) → StopsAt postfix_rank (after D)
after_stops D p ts lt = after_none D p ts (λ e. omega (arith, e, lt))

after_read : (D : ℕ) (p : Tree) (s : Step) (rest : List TokenKind) → is_left_side p ≡ true → nesting p < D → extend (after D) (Some (p, step_token s ∷ rest)) ≡ Some (PostfixTree p s, rest)
after_read D p s rest left fits =
    let e : after D p (step_token s ∷ rest) ≡ Some (PostfixTree p s, rest) =
    ap (λ o. after_by D p o rest) (step_read s)
    ∙ ap (λ b. cond b (cond (nat_lt (nesting p) D) (Some (PostfixTree p s, rest)) None) None) left
    ∙ sym (cond_below (nesting p) D (Some (PostfixTree p s, rest)) None fits) in
    ap (λ (o : Try). elim o as (λ _. Try) [ None ↦ Some (p, step_token s ∷ rest) | Some q ↦ Some q ]) e

postfix_low : (R : Reader) (d : ℕ) → SoundReader R d → CompleteReader R d → (t : Tree) (rest : List TokenKind) → Good t → rank t ≤ primary_rank → nesting t ≤ suc d → ReadsAt postfix_rank t rest (extend (after (suc d)) (primary R (suc d) (spell t ++ rest)))
postfix_low R d s h t rest g k m =
    reads_extend primary_rank postfix_rank (after (suc d)) (omega arith) (after_shorter (suc d)) (after_stops (suc d)) t rest (primary R (suc d) (spell t ++ rest))
    (spine_reads 0 primary_rank (suc d) (link R (suc d)) (omega arith) (link_shorter R d s) (link_stops R (suc d)) t rest (primary R (suc d) (spell t ++ rest)) (primary_spine R d s h t rest g k m))

step_complete : (R : Reader) (d : ℕ) → SoundReader R d → CompleteReader R d → (p : Tree) (st : Step) (rest : List TokenKind) → Good p → is_left_side p ≡ true → nesting p < suc d
    → extend (after (suc d)) (primary R (suc d) ((spell p ++ step_token st ∷ []) ++ rest)) ≡ Some (PostfixTree p st, rest)
step_complete R d s h p st rest g left fits =
    let low = left_side_low p left in
    let more = step_token st ∷ rest in
    let two = step_reach st in
    ap (λ x. extend (after (suc d)) (primary R (suc d) x)) (append_assoc (spell p) (step_token st ∷ []) rest)
    ∙ ap (λ o. extend (after (suc d)) o)
    (spine_exact 0 (suc d) (link R (suc d)) p more (primary R (suc d) (spell p ++ more)) (primary_spine R d s h p more g low (omega (arith, fits))) (omega (arith, two)) (link_stops R (suc d) p more (omega (arith, two))))
    ∙ after_read (suc d) p st rest left fits

postfix_complete : (R : Reader) (d : ℕ) → SoundReader R d → CompleteReader R d → (t : Tree) (rest : List TokenKind) → Good t → rank t ≤ postfix_rank → nesting t ≤ suc d → ReadsAt postfix_rank t rest (extend (after (suc d)) (primary R (suc d) (spell t ++ rest)))
postfix_complete R d s h (PostfixTree p st) rest g k m = subst (λ o. ReadsAt postfix_rank (PostfixTree p st) rest o) (sym (step_complete R d s h p st rest g.0 g.1 (omega (arith, m)))) (omega arith, λ lt. refl)
postfix_complete R d s h (PrefixTree st q) rest g k m = absurd (omega (arith, k))
postfix_complete R d s h (UnaryTree o e) rest g k m = absurd (omega (arith, k))
postfix_complete R d s h (CastTree n e) rest g k m = absurd (omega (arith, k))
postfix_complete R d s h (BinaryTree l o r) rest g k m = absurd (omega (arith, k, some_power o))
postfix_complete R d s h (InstanceOfTree e n) rest g k m = absurd (omega (arith, k))
postfix_complete R d s h (ConditionalTree c a b) rest g k m = absurd (omega (arith, k))
postfix_complete R d s h (AssignTree l o r) rest g k m = absurd (omega (arith, k))
postfix_complete R d s h t rest g k m = postfix_low R d s h t rest g (omega arith) m

-- casts
-- the least number is no operand by itself
abbrev Idle : Reader → Type 0
Idle R = (ts : List TokenKind) → R.operand 0 (Number 2147483648 ∷ ts) ≡ None

no_operand : (R : Reader) (ts : List TokenKind) → 0 < reach_of ts → cast_operand R ts ≡ None
no_operand R ts lt = ap (λ b. cond b (R.operand 0 ts) None) (ne_eqb (reach_of ts) 0 (λ e. omega (arith, e, lt)))

operand_of_cast : (R : Reader) (ts : List TokenKind) → reach_of ts ≡ 0 → cast_operand R ts ≡ R.operand 0 ts
operand_of_cast R ts e = ap (λ b. cond b (R.operand 0 ts) None) (eq-eqb (reach_of ts) 0 e)

cast_shorter : (R : Reader) (d : ℕ) → SoundReader R d → ShorterStep (cast R)
cast_shorter R d s (ParenTree (NameTree n)) ts =
    shorter_build (λ e. CastTree n e) ts (cast_operand R ts) (shorter_when (nat_eq (reach_of ts) 0) ts (R.operand 0 ts) (shorter_of unary_rank d ts (R.operand 0 ts) (s.operand 0 ts (omega arith))))
cast_shorter R d s _ ts = tt

cast_stops : (R : Reader) → StopsAt unary_rank (cast R)
cast_stops R (ParenTree (NameTree n)) ts lt = ap (λ o. build (λ e. CastTree n e) o) (no_operand R ts (omega (arith, lt)))
cast_stops R _ ts lt = refl

-- a unary expression where a primary stands
unary_at_primary : (R : Reader) (D : ℕ) (ts : List TokenKind) (t : Tree) (rest : List TokenKind) → ReadsAt postfix_rank t rest (extend (after D) (primary R D ts)) → unary R D ts ≡ extend (cast R) (extend (after D) (primary R D ts))
unary_at_primary R D ts t rest s =
    (elim (primary R D ts) as (λ o. ReadsAt postfix_rank t rest (extend (after D) o) → (elim o as (λ _. Try) [ None ↦ prefix R D ts | Some r ↦ extend (cast R) (extend (after D) (Some r)) ]) ≡ extend (cast R) (extend (after D) o))
    [ None ↦ λ q. absurd q | Some r ↦ λ q. refl ]) s

unary_low : (R : Reader) (d : ℕ) → SoundReader R d → CompleteReader R d → (t : Tree) (rest : List TokenKind) → Good t → rank t ≤ postfix_rank → nesting t ≤ suc d → ReadsAt unary_rank t rest (unary R (suc d) (spell t ++ rest))
unary_low R d s h t rest g k m =
    let p = postfix_complete R d s h t rest g k m in
    subst (λ o. ReadsAt unary_rank t rest o) (sym (unary_at_primary R (suc d) (spell t ++ rest) t rest p))
    (reads_extend postfix_rank unary_rank (cast R) (omega arith) (cast_shorter R d s) (cast_stops R) t rest (extend (after (suc d)) (primary R (suc d) (spell t ++ rest))) p)

cast_complete : (R : Reader) (d : ℕ) → CompleteReader R d → (n : NameNo) (e : Tree) (rest : List TokenKind) → Good e → is_castable e ≡ true → nesting e ≤ d → ReadsAt unary_rank (CastTree n e) rest (unary R (suc d) (LeftParen ∷ Id n ∷ RightParen ∷ (spell e ++ rest)))
cast_complete R d h n e rest g c m =
    let ts = spell e ++ rest in
    let at : reach_of ts ≡ 0 = castable_begins e rest g c in
    let deep = some_nesting e in
    let low = castable_rank e c in
    let paren = ParenTree (NameTree n) in
    let name : R.whole (Id n ∷ RightParen ∷ ts) ≡ Some (NameTree n, RightParen ∷ ts) = exact_of assignment_rank (NameTree n) (RightParen ∷ ts) (R.whole (Id n ∷ RightParen ∷ ts)) (h.whole (NameTree n) (RightParen ∷ ts) tt (omega (arith, deep, m))) (omega arith) in
    let read : primary R (suc d) (LeftParen ∷ Id n ∷ RightParen ∷ ts) ≡ Some (paren, ts) =
    ap (λ o. go_on (link R (suc d)) (suc d) (bind o close_paren)) name
    ∙ ap (λ x. Some x) (stop_iterate (link R (suc d)) (suc d) (paren, ts) (link_stops_at_operand R (suc d) paren ts at)) in
    let all : unary R (suc d) (LeftParen ∷ Id n ∷ RightParen ∷ ts) ≡ extend (cast R) (Some (paren, ts)) =
    ap (λ (o : Try). elim o as (λ _. Try) [ None ↦ prefix R (suc d) (LeftParen ∷ Id n ∷ RightParen ∷ ts) | Some r ↦ extend (cast R) (extend (after (suc d)) (Some r)) ]) read
    ∙ ap (λ (o : Try). extend (cast R) (elim o as (λ _. Try) [ None ↦ Some (paren, ts) | Some q ↦ Some q ])) (after_none (suc d) paren ts (λ two. omega (arith, at, two))) in
    subst (λ o. ReadsAt unary_rank (CastTree n e) rest o) (sym all)
    (extend_from (cast R) paren ts unary_rank (CastTree n e) rest
    (subst (λ o. ReadsAt unary_rank (CastTree n e) rest (build (λ x. CastTree n x) o)) (sym (operand_of_cast R ts at))
    (reads_build (λ x. CastTree n x) unary_rank unary_rank e rest (R.operand 0 ts) (omega arith) (h.operand 0 e rest (omega arith) g (omega (arith, low)) m))))

-- signs and steps before
signed_reads : (R : Reader) (d : ℕ) → CompleteReader R d → (o : UnaryOperator) (e : Tree) (rest : List TokenKind) → Good e → rank e ≤ unary_rank → nesting e ≤ d → ReadsAt unary_rank (UnaryTree o e) rest (build (λ x. UnaryTree o x) (R.operand 0 (spell e ++ rest)))
signed_reads R d h o e rest g k m = reads_build (λ x. UnaryTree o x) unary_rank unary_rank e rest (R.operand 0 (spell e ++ rest)) (omega arith) (h.operand 0 e rest (omega arith) g (omega (arith, k)) m)

neg_general : (R : Reader) (d : ℕ) → CompleteReader R d → (e : Tree) (rest : List TokenKind) → Good e → rank e ≤ unary_rank → nesting e ≤ d → ReadsAt unary_rank (UnaryTree MinusSign e) rest (or_least (suc d) (spell e ++ rest) (build (λ x. UnaryTree MinusSign x) (R.operand 0 (spell e ++ rest))))
neg_general R d h e rest g k m =
    (elim (build (λ x. UnaryTree MinusSign x) (R.operand 0 (spell e ++ rest))) as (λ o. ReadsAt unary_rank (UnaryTree MinusSign e) rest o → ReadsAt unary_rank (UnaryTree MinusSign e) rest (or_least (suc d) (spell e ++ rest) o)) [ None ↦ λ x. absurd x | Some r ↦ λ x. x ])
    (signed_reads R d h MinusSign e rest g k m)

neg_least : (R : Reader) (d n : ℕ) → Idle R → (rest : List TokenKind) → n ≡ 2147483648 → 0 < d → or_least (suc d) (Number n ∷ rest) (build (λ x. UnaryTree MinusSign x) (R.operand 0 (Number n ∷ rest))) ≡ Some (UnaryTree MinusSign (LiteralTree (NumberLiteral n)), rest)
neg_least R d n idle rest e lt =
    ap (λ o. or_least (suc d) (Number n ∷ rest) (build (λ x. UnaryTree MinusSign x) o)) (ap (λ x. R.operand 0 (Number x ∷ rest)) e ∙ idle rest)
    ∙ ap (λ b. cond b (cond (nat_lt 1 (suc d)) (Some (UnaryTree MinusSign (LiteralTree (NumberLiteral n)), rest)) None) None) (eq-eqb n 2147483648 e)
    ∙ sym (cond_below 1 (suc d) (Some (UnaryTree MinusSign (LiteralTree (NumberLiteral n)), rest)) None (omega (arith, lt)))

number_complete : (R : Reader) (d n : ℕ) → CompleteReader R d → Idle R → (rest : List TokenKind) → 0 < d → (b : Bool) → nat_eq n 2147483648 ≡ b → (elim b as (λ _. Type 0) [ true ↦ Unit {0} | false ↦ (n < 2147483648) × (primary_rank ≤ unary_rank) ])
    → ReadsAt unary_rank (UnaryTree MinusSign (LiteralTree (NumberLiteral n))) rest (or_least (suc d) (Number n ∷ rest) (build (λ x. UnaryTree MinusSign x) (R.operand 0 (Number n ∷ rest))))
number_complete R d n h idle rest lt true e g = subst (λ o. ReadsAt unary_rank (UnaryTree MinusSign (LiteralTree (NumberLiteral n))) rest o) (sym (neg_least R d n idle rest (eqb-true n 2147483648 e) lt)) (omega arith, λ x. refl)
number_complete R d n h idle rest lt false e g = neg_general R d h (LiteralTree (NumberLiteral n)) rest g.0 (omega arith) (omega (arith, lt))

neg_complete : (R : Reader) (d : ℕ) → CompleteReader R d → Idle R → (e : Tree) (rest : List TokenKind) → Good (UnaryTree MinusSign e) → nesting e + 1 ≤ suc d → ReadsAt unary_rank (UnaryTree MinusSign e) rest (or_least (suc d) (spell e ++ rest) (build (λ x. UnaryTree MinusSign x) (R.operand 0 (spell e ++ rest))))
neg_complete R d h idle (LiteralTree (NumberLiteral n)) rest g m = number_complete R d n h idle rest (omega (arith, m)) (nat_eq n 2147483648) refl g
neg_complete R d h idle e rest g m = neg_general R d h e rest g.0 g.1 (omega (arith, m))

signed_complete : (R : Reader) (d : ℕ) → CompleteReader R d → Idle R → (o : UnaryOperator) (e : Tree) (rest : List TokenKind) → Good (UnaryTree o e) → nesting e + 1 ≤ suc d → ReadsAt unary_rank (UnaryTree o e) rest (unary R (suc d) (sign_token o ∷ (spell e ++ rest)))
signed_complete R d h idle MinusSign e rest g m = neg_complete R d h idle e rest g m
signed_complete R d h idle PlusSign e rest g m = signed_reads R d h PlusSign e rest g.0 g.1 (omega (arith, m))
signed_complete R d h idle NotSign e rest g m = signed_reads R d h NotSign e rest g.0 g.1 (omega (arith, m))

before_complete : (R : Reader) (d : ℕ) → CompleteReader R d → (s : Step) (p : Tree) (rest : List TokenKind) → Good p → is_left_side p ≡ true → nesting p ≤ d → ReadsAt unary_rank (PrefixTree s p) rest (unary R (suc d) (step_token s ∷ (spell p ++ rest)))
before_complete R d h Increment p rest g l m = reads_build (λ q. PrefixTree Increment q) primary_rank unary_rank p rest (R.left (spell p ++ rest)) (omega arith) (h.left p rest g l m)
before_complete R d h Decrement p rest g l m = reads_build (λ q. PrefixTree Decrement q) primary_rank unary_rank p rest (R.left (spell p ++ rest)) (omega arith) (h.left p rest g l m)

unary_complete : (R : Reader) (d : ℕ) → SoundReader R d → CompleteReader R d → Idle R → (t : Tree) (rest : List TokenKind) → Good t → rank t ≤ unary_rank → nesting t ≤ suc d → ReadsAt unary_rank t rest (unary R (suc d) (spell t ++ rest))
unary_complete R d s h idle (UnaryTree o e) rest g k m = signed_complete R d h idle o e rest g m
unary_complete R d s h idle (PrefixTree st p) rest g k m = before_complete R d h st p rest g.0 g.1 (omega (arith, m))
unary_complete R d s h idle (CastTree n e) rest g k m = cast_complete R d h n e rest g.0 g.1 (omega (arith, m))
unary_complete R d s h idle (BinaryTree l o r) rest g k m = absurd (omega (arith, k, some_power o))
unary_complete R d s h idle (InstanceOfTree e n) rest g k m = absurd (omega (arith, k))
unary_complete R d s h idle (ConditionalTree c a b) rest g k m = absurd (omega (arith, k))
unary_complete R d s h idle (AssignTree l o r) rest g k m = absurd (omega (arith, k))
unary_complete R d s h idle t rest g k m = unary_low R d s h t rest g (omega arith) m

idle_at : (d : ℕ) → Idle (reader d)
idle_at zero ts = refl
idle_at (suc d) ts = refl

-- operators
test_shorter : (l : Tree) (ts : List TokenKind) → Shorter ts (test l ts)
test_shorter l [] = tt
test_shorter l (Id n ∷ ts) = omega arith
test_shorter l (_ ∷ ts) = tt

grow_by_shorter : (R : Reader) (d : ℕ) → SoundReader R d → (k : ℕ) → k < loosest_power → (l : Tree) (x : Sign) (ts : List TokenKind) → Shorter ts (grow_by R k l x ts)
grow_by_shorter R d s k small l NoSign ts = tt
grow_by_shorter R d s k small l (OperatorSign o) ts =
    shorter_when (nat_eq (power o) (k + 1)) ts (build (λ r. BinaryTree l o r) (R.operand k ts)) (shorter_build (λ r. BinaryTree l o r) ts (R.operand k ts) (shorter_of (operator_rank k) d ts (R.operand k ts) (s.operand k ts (omega (arith, small)))))
grow_by_shorter R d s k small l TestSign ts = shorter_when (nat_eq relational (k + 1)) ts (test l ts) (test_shorter l ts)

grow_shorter : (R : Reader) (d : ℕ) → SoundReader R d → (k : ℕ) → k < loosest_power → ShorterStep (grow R (suc d) k)
grow_shorter R d s k small l [] = tt
grow_shorter R d s k small l (x ∷ ts) =
    shorter_when (nat_lt (nesting l) (suc d)) (x ∷ ts) (grow_by R k l (sign x) ts) (shorter_by x ts (grow_by R k l (sign x) ts) (grow_by_shorter R d s k small l (sign x) ts))

sign_read : (o : BinaryOperator) → sign (operator_token o) ≡ OperatorSign o
sign_read Multiply = refl
sign_read Divide = refl
sign_read Remainder = refl
sign_read Add = refl
sign_read Subtract = refl
sign_read LessThan = refl
sign_read GreaterThan = refl
sign_read AtMost = refl
sign_read AtLeast = refl
sign_read Equal = refl
sign_read Unequal = refl
sign_read And = refl
sign_read Or = refl

operator_reach : (o : BinaryOperator) → reach (operator_token o) ≡ operator_rank (power o)
operator_reach Multiply = refl
operator_reach Divide = refl
operator_reach Remainder = refl
operator_reach Add = refl
operator_reach Subtract = refl
operator_reach LessThan = refl
operator_reach GreaterThan = refl
operator_reach AtMost = refl
operator_reach AtLeast = refl
operator_reach Equal = refl
operator_reach Unequal = refl
operator_reach And = refl
operator_reach Or = refl

grow_by_stops : (R : Reader) (k : ℕ) (l : Tree) (x : TokenKind) (s : Sign) → IsSign x s → (ts : List TokenKind) → suc k + unary_rank < reach x → grow_by R k l s ts ≡ None
grow_by_stops R k l x NoSign is ts lt = refl
grow_by_stops R k l x (OperatorSign o) is ts lt =
    let e : reach x ≡ operator_rank (power o) = ap reach is ∙ operator_reach o in
    ap (λ b. cond b (build (λ r. BinaryTree l o r) (R.operand k ts)) None) (ne_eqb (power o) (k + 1) (λ same. omega (arith, same, lt, e)))
grow_by_stops R k l x TestSign is ts lt =
    let e : reach x ≡ relational_rank = ap reach is in
    ap (λ b. cond b (test l ts) None) (ne_eqb relational (k + 1) (λ same. omega (arith, same, lt, e)))

grow_stops : (R : Reader) (D k : ℕ) → StopsAt (operator_rank (suc k)) (grow R D k)
grow_stops R D k l [] lt = refl
grow_stops R D k l (x ∷ ts) lt = ap (λ o. cond (nat_lt (nesting l) D) o None) (grow_by_stops R k l x (sign x) (is_sign x) ts lt) ∙ both_none (nat_lt (nesting l) D)

grow_binary : (R : Reader) (D k : ℕ) (o : BinaryOperator) (l : Tree) (ts : List TokenKind) (q : Got) → power o ≡ k + 1 → nesting l < D → R.operand k ts ≡ Some q → grow R D k l (operator_token o ∷ ts) ≡ Some (BinaryTree l o q.0, q.1)
grow_binary R D k o l ts q same fits e =
    sym (cond_below (nesting l) D (grow_by R k l (sign (operator_token o)) ts) None fits)
    ∙ ap (λ x. grow_by R k l x ts) (sign_read o)
    ∙ ap (λ b. cond b (build (λ r. BinaryTree l o r) (R.operand k ts)) None) (eq-eqb (power o) (k + 1) same)
    ∙ ap (λ x. build (λ r. BinaryTree l o r) x) e

grow_test : (R : Reader) (D k : ℕ) (n : NameNo) (l : Tree) (ts : List TokenKind) → relational ≡ k + 1 → nesting l < D → grow R D k l (Instanceof ∷ Id n ∷ ts) ≡ Some (InstanceOfTree l n, ts)
grow_test R D k n l ts same fits =
    sym (cond_below (nesting l) D (grow_by R k l TestSign (Id n ∷ ts)) None fits)
    ∙ ap (λ b. cond b (test l (Id n ∷ ts)) None) (eq-eqb relational (k + 1) same)

-- what is read of the lower ranks
abbrev Lower : Reader → ℕ → ℕ → Type 0
Lower R d k = (t : Tree) (rest : List TokenKind) → Good t → rank t ≤ operator_rank k → nesting t ≤ suc d → ReadsAt (operator_rank k) t rest (operand_at R (suc d) k (spell t ++ rest))

binary_got : (o : BinaryOperator) (l : Tree) (q p : Got) → q ≡ p → ◌≡◌ {A = Got} (BinaryTree l o q.0, q.1) (BinaryTree l o p.0, p.1)
binary_got o l q p e = ap (λ (x : Got). (BinaryTree l o x.0, x.1)) e

operand_spine : (R : Reader) (d : ℕ) → CompleteReader R d → (k : ℕ) → k < loosest_power → Lower R d k → (t : Tree) (rest : List TokenKind) → Good t → rank t ≤ operator_rank (suc k) → nesting t ≤ suc d
    → Spine (operator_rank k) (suc d) (grow R (suc d) k) t rest (operand_at R (suc d) (suc k) (spell t ++ rest))
operand_spine R d h k small lower (BinaryTree l o r) rest g w m =
    elim (cases_lt k (power o)) [
      | inr below ↦ spine_from (operator_rank k) (suc d) (grow R (suc d) k) (BinaryTree l o r) rest (operand_at R (suc d) k (spell (BinaryTree l o r) ++ rest)) (lower (BinaryTree l o r) rest g (omega (arith, below)) m)
      | inl above ↦
          let same : power o ≡ k + 1 = omega (arith, above, w) in
          let more = operator_token o ∷ (spell r ++ rest) in
          let fits : nesting l < suc d = omega (arith, m) in
          let q = got_of (operator_rank k) r rest (R.operand k (spell r ++ rest)) (h.operand k r rest (omega (arith, small)) g.2 (omega (arith, g.3, same)) (omega (arith, m))) in
          subst (λ x. Spine (operator_rank k) (suc d) (grow R (suc d) k) (BinaryTree l o r) rest (operand_at R (suc d) (suc k) x)) (sym (append_assoc (spell l) (operator_token o ∷ spell r) rest))
          (spine_step (operator_rank k) (suc d) (grow R (suc d) k) l more (operand_at R (suc d) (suc k) (spell l ++ more))
          (operand_spine R d h k small lower l more g.0 (omega (arith, g.1, same)) (omega (arith, m)))
          (omega (arith, operator_reach o, same)) fits (BinaryTree l o q.0.0, q.0.1) (grow_binary R (suc d) k o l (spell r ++ rest) q.0 same fits q.1) (omega arith)
          (BinaryTree l o r) rest q.2 (λ lt. binary_got o l q.0 (r, rest) (q.3 lt)))
    ]
operand_spine R d h k small lower (InstanceOfTree e n) rest g w m =
    elim (cases_lt k relational) [
      | inr below ↦ spine_from (operator_rank k) (suc d) (grow R (suc d) k) (InstanceOfTree e n) rest (operand_at R (suc d) k (spell (InstanceOfTree e n) ++ rest)) (lower (InstanceOfTree e n) rest g (omega (arith, below)) m)
      | inl above ↦
          let same : relational ≡ k + 1 = omega (arith, above, w) in
          let more = Instanceof ∷ Id n ∷ rest in
          let fits : nesting e < suc d = omega (arith, m) in
          subst (λ x. Spine (operator_rank k) (suc d) (grow R (suc d) k) (InstanceOfTree e n) rest (operand_at R (suc d) (suc k) x)) (sym (append_assoc (spell e) (Instanceof ∷ Id n ∷ []) rest))
          (spine_step (operator_rank k) (suc d) (grow R (suc d) k) e more (operand_at R (suc d) (suc k) (spell e ++ more))
          (operand_spine R d h k small lower e more g.0 (omega (arith, g.1, same)) (omega (arith, m)))
          (omega (arith, same)) fits (InstanceOfTree e n, rest) (grow_test R (suc d) k n e rest same fits) (omega arith)
          (InstanceOfTree e n) rest (omega arith) (λ lt. refl))
    ]
operand_spine R d h k small lower (ConditionalTree c a b) rest g w m = absurd (omega (arith, w, small))
operand_spine R d h k small lower (AssignTree l o r) rest g w m = absurd (omega (arith, w, small))
operand_spine R d h k small lower t rest g w m =
    spine_from (operator_rank k) (suc d) (grow R (suc d) k) t rest (operand_at R (suc d) k (spell t ++ rest)) (lower t rest g (omega arith) m)

operand_complete : (R : Reader) (d : ℕ) → SoundReader R d → CompleteReader R d → Idle R → (k : ℕ) → k ≤ loosest_power → Lower R d k
operand_complete R d s h idle zero le = λ t rest g w m. unary_complete R d s h idle t rest g (omega (arith, w)) m
operand_complete R d s h idle (suc k) le = λ t rest g w m.
    spine_reads (operator_rank k) (operator_rank (suc k)) (suc d) (grow R (suc d) k) (omega arith) (grow_shorter R d s k (omega (arith, le))) (grow_stops R (suc d) k) t rest (operand_at R (suc d) (suc k) (spell t ++ rest))
    (operand_spine R d h k (omega (arith, le)) (operand_complete R d s h idle k (omega (arith, le))) t rest g w m)

-- conditionals
choose_end_shorter : (R : Reader) (d : ℕ) → SoundReader R d → (c a : Tree) (ts : List TokenKind) → Shorter ts (choose_end R c a ts)
choose_end_shorter R d s c a [] = tt
choose_end_shorter R d s c a (Colon ∷ ts) = shorter_by Colon ts (build (λ b. ConditionalTree c a b) (R.conditional ts)) (shorter_build (λ b. ConditionalTree c a b) ts (R.conditional ts) (shorter_of conditional_rank d ts (R.conditional ts) (s.conditional ts)))
choose_end_shorter R d s c a (_ ∷ ts) = tt

choose_shorter : (R : Reader) (d : ℕ) → SoundReader R d → ShorterStep (choose R (suc d))
choose_shorter R d s c [] = tt
choose_shorter R d s c (Question ∷ ts) =
    shorter_when (nat_lt (nesting c) (suc d)) (Question ∷ ts) (bind (R.whole ts) (choose_end R c))
    (shorter_by Question ts (bind (R.whole ts) (choose_end R c)) (shorter_bind (choose_end R c) (choose_end_shorter R d s c) ts (R.whole ts) (shorter_of assignment_rank d ts (R.whole ts) (s.whole ts))))
choose_shorter R d s c (_ ∷ ts) = tt

choose_stops : (R : Reader) (D : ℕ) → StopsAt conditional_rank (choose R D)
choose_stops R D c [] lt = refl
choose_stops R D c (Question ∷ ts) lt = absurd (omega (arith, lt))
choose_stops R D c (_ ∷ ts) lt = refl

conditional_low : (R : Reader) (d : ℕ) → SoundReader R d → CompleteReader R d → Idle R → (t : Tree) (rest : List TokenKind) → Good t → rank t ≤ disjunction_rank → nesting t ≤ suc d → ReadsAt conditional_rank t rest (conditional_at R (suc d) (spell t ++ rest))
conditional_low R d s h idle t rest g k m =
    reads_extend disjunction_rank conditional_rank (choose R (suc d)) (omega arith) (choose_shorter R d s) (choose_stops R (suc d)) t rest (operand_at R (suc d) loosest_power (spell t ++ rest)) (operand_complete R d s h idle loosest_power (omega arith) t rest g k m)

no_looser : (o : BinaryOperator) → operator_rank (power o) ≤ disjunction_rank
no_looser Multiply = omega arith
no_looser Divide = omega arith
no_looser Remainder = omega arith
no_looser Add = omega arith
no_looser Subtract = omega arith
no_looser LessThan = omega arith
no_looser GreaterThan = omega arith
no_looser AtMost = omega arith
no_looser AtLeast = omega arith
no_looser Equal = omega arith
no_looser Unequal = omega arith
no_looser And = omega arith
no_looser Or = omega arith

conditional_complete : (R : Reader) (d : ℕ) → SoundReader R d → CompleteReader R d → Idle R → (t : Tree) (rest : List TokenKind) → Good t → rank t ≤ conditional_rank → nesting t ≤ suc d → ReadsAt conditional_rank t rest (conditional_at R (suc d) (spell t ++ rest))
conditional_complete R d s h idle (ConditionalTree c a b) rest g k m =
    let last = spell b ++ rest in
    let middle = spell a ++ Colon ∷ last in
    let fits : nesting c < suc d = omega (arith, m) in
    let e : operand_at R (suc d) loosest_power (spell c ++ Question ∷ middle) ≡ Some (c, Question ∷ middle) =
    exact_of disjunction_rank c (Question ∷ middle) (operand_at R (suc d) loosest_power (spell c ++ Question ∷ middle)) (operand_complete R d s h idle loosest_power (omega arith) c (Question ∷ middle) g.0 g.1 (omega (arith, m))) (omega arith) in
    let f : choose R (suc d) c (Question ∷ middle) ≡ build (λ x. ConditionalTree c a x) (R.conditional last) =
    sym (cond_below (nesting c) (suc d) (bind (R.whole middle) (choose_end R c)) None fits)
    ∙ ap (λ o. bind o (choose_end R c)) (exact_of assignment_rank a (Colon ∷ last) (R.whole middle) (h.whole a (Colon ∷ last) g.2 (omega (arith, m))) (omega arith)) in
    subst (λ x. ReadsAt conditional_rank (ConditionalTree c a b) rest (conditional_at R (suc d) x))
    (sym (append_assoc (spell c) (Question ∷ (spell a ++ Colon ∷ spell b)) rest ∙ ap (λ x. spell c ++ Question ∷ x) (append_assoc (spell a) (Colon ∷ spell b) rest)))
    (extend_after (choose R (suc d)) c (Question ∷ middle) (operand_at R (suc d) loosest_power (spell c ++ Question ∷ middle)) (build (λ x. ConditionalTree c a x) (R.conditional last)) e f conditional_rank (ConditionalTree c a b) rest
    (reads_build (λ x. ConditionalTree c a x) conditional_rank conditional_rank b rest (R.conditional last) (omega arith) (h.conditional b rest g.3 g.4 (omega (arith, m)))))
conditional_complete R d s h idle (AssignTree l o r) rest g k m = absurd (omega (arith, k))
conditional_complete R d s h idle (BinaryTree l o r) rest g k m = conditional_low R d s h idle (BinaryTree l o r) rest g (no_looser o) m
conditional_complete R d s h idle t rest g k m = conditional_low R d s h idle t rest g (omega arith) m

-- assignments
assign_reach : (o : AssignOperator) → reach (assign_token o) ≡ assignment_rank
assign_reach Simple = refl
assign_reach AddTo = refl
assign_reach SubtractFrom = refl
assign_reach MultiplyBy = refl
assign_reach DivideBy = refl
assign_reach RemainderBy = refl

assign_read : (o : AssignOperator) → assign_of (assign_token o) ≡ Some o
assign_read Simple = refl
assign_read AddTo = refl
assign_read SubtractFrom = refl
assign_read MultiplyBy = refl
assign_read DivideBy = refl
assign_read RemainderBy = refl

assign_by_shorter : (R : Reader) (d : ℕ) → SoundReader R d → (l : Tree) (o : Option AssignOperator) (ts : List TokenKind) → Shorter ts (assign_by R (suc d) l o ts)
assign_by_shorter R d s l None ts = tt
assign_by_shorter R d s l (Some o) ts =
    shorter_when (is_left_side l) ts (cond (nat_lt (nesting l) (suc d)) (build (λ r. AssignTree l o r) (R.whole ts)) None)
    (shorter_when (nat_lt (nesting l) (suc d)) ts (build (λ r. AssignTree l o r) (R.whole ts))
    (shorter_build (λ r. AssignTree l o r) ts (R.whole ts) (shorter_of assignment_rank d ts (R.whole ts) (s.whole ts))))

assign_shorter : (R : Reader) (d : ℕ) → SoundReader R d → ShorterStep (assign R (suc d))
assign_shorter R d s l [] = tt
assign_shorter R d s l (x ∷ ts) = shorter_by x ts (assign_by R (suc d) l (assign_of x) ts) (assign_by_shorter R d s l (assign_of x) ts)

no_assign : (k : TokenKind) (o : Option AssignOperator) → IsAssign k o → assignment_rank < reach k → o ≡ None
no_assign k None is lt = refl
no_assign k (Some o) is lt = let e : reach k ≡ assignment_rank = ap reach is ∙ assign_reach o in absurd (omega (arith, e, lt))

assign_stops : (R : Reader) (D : ℕ) → StopsAt assignment_rank (assign R D)
assign_stops R D l [] lt = refl
assign_stops R D l (x ∷ ts) lt = ap (λ o. assign_by R D l o ts) (no_assign x (assign_of x) (is_assign x) lt)

whole_low : (R : Reader) (d : ℕ) → SoundReader R d → CompleteReader R d → Idle R → (t : Tree) (rest : List TokenKind) → Good t → rank t ≤ conditional_rank → nesting t ≤ suc d → ReadsAt assignment_rank t rest (whole_at R (suc d) (spell t ++ rest))
whole_low R d s h idle t rest g k m =
    reads_extend conditional_rank assignment_rank (assign R (suc d)) (omega arith) (assign_shorter R d s) (assign_stops R (suc d)) t rest (conditional_at R (suc d) (spell t ++ rest)) (conditional_complete R d s h idle t rest g k m)

whole_complete : (R : Reader) (d : ℕ) → SoundReader R d → CompleteReader R d → Idle R → (t : Tree) (rest : List TokenKind) → Good t → nesting t ≤ suc d → ReadsAt assignment_rank t rest (whole_at R (suc d) (spell t ++ rest))
whole_complete R d s h idle (AssignTree l o r) rest g m =
    let last = spell r ++ rest in
    let more = assign_token o ∷ last in
    let low = left_side_low l g.1 in
    let e : conditional_at R (suc d) (spell l ++ more) ≡ Some (l, more) =
    exact_of conditional_rank l more (conditional_at R (suc d) (spell l ++ more)) (conditional_complete R d s h idle l more g.0 (omega (arith, low)) (omega (arith, m))) (omega (arith, assign_reach o)) in
    let f : assign R (suc d) l more ≡ build (λ x. AssignTree l o x) (R.whole last) =
    ap (λ x. assign_by R (suc d) l x last) (assign_read o)
    ∙ ap (λ b. cond b (cond (nat_lt (nesting l) (suc d)) (build (λ x. AssignTree l o x) (R.whole last)) None) None) g.1
    ∙ sym (cond_below (nesting l) (suc d) (build (λ x. AssignTree l o x) (R.whole last)) None (omega (arith, m))) in
    subst (λ x. ReadsAt assignment_rank (AssignTree l o r) rest (whole_at R (suc d) x)) (sym (append_assoc (spell l) (assign_token o ∷ spell r) rest))
    (extend_after (assign R (suc d)) l more (conditional_at R (suc d) (spell l ++ more)) (build (λ x. AssignTree l o x) (R.whole last)) e f assignment_rank (AssignTree l o r) rest
    (reads_build (λ x. AssignTree l o x) assignment_rank assignment_rank r rest (R.whole last) (omega arith) (h.whole r rest g.2 (omega (arith, m)))))
whole_complete R d s h idle (BinaryTree l o r) rest g m = whole_low R d s h idle (BinaryTree l o r) rest g (let k = no_looser o in omega (arith, k)) m
whole_complete R d s h idle t rest g m = whole_low R d s h idle t rest g (omega arith) m

deep : (t : Tree) → nesting t ≤ 0 → ⊥
deep t m = let some = some_nesting t in omega (arith, some, m)

pub complete : (d : ℕ) → CompleteReader (reader d) d
complete zero = record {
  left = λ t rest g l m. absurd (deep t m);
  operand = λ k t rest le g w m. absurd (deep t m);
  conditional = λ t rest g w m. absurd (deep t m);
  whole = λ t rest g m. absurd (deep t m);
}
complete (suc d) = record {
  left = λ t rest g l m. left_complete (reader d) d (sound d) (complete d) t rest g l m;
  operand = λ k t rest le g w m. operand_complete (reader d) d (sound d) (complete d) (idle_at d) k le t rest g w m;
  conditional = λ t rest g w m. conditional_complete (reader d) d (sound d) (complete d) (idle_at d) t rest g w m;
  whole = λ t rest g m. whole_complete (reader d) d (sound d) (complete d) (idle_at d) t rest g m;
}
