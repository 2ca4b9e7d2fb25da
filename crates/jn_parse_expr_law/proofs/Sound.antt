-- What the reader reads is spelled so, and is well formed.
use Rattle.std.proofs.Common.{◌≡◌, ℕ, zero, suc, ◌+◌, ◌<◌, ◌≤◌, List, [], ◌∷◌, ◌++◌, length, refl, sym, ap, ◌∙◌, subst, arith, append_assoc, Option, Some, None, Bool, true, false, cond, nat_lt, nat_eq}
use Rattle.std.proofs.lemmas.Bool.{ltb-true, eqb-true, ne_eqb}
use Rattle.jn_base.specs.declared.number.NameNo.{NameNo}
use Rattle.jn_trees.specs.declared.token.TokenKind.{TokenKind}
use Rattle.jn_trees.specs.declared.token.TokenKind.TheVariants.{Id, Str, Number, Boolean, Instanceof, Int, New, Super, This, True, False, Null, LeftParen, RightParen, LeftBrace, RightBrace, LeftBracket, RightBracket, Comma, Dot, At, Assign, Greater, Less, Not, Question, Colon, EqualEqual, LessEqual, GreaterEqual, NotEqual, AndAnd, OrOr, PlusPlus, MinusMinus, Plus, Minus, Star, Slash, Percent, PlusAssign, MinusAssign, StarAssign, SlashAssign, PercentAssign}
use Rattle.jn_trees.specs.declared.expression.Literal.TheVariants.{Number as NumberLiteral}
use Rattle.jn_trees.specs.declared.expression.UnaryOperator.{UnaryOperator}
use Rattle.jn_trees.specs.declared.expression.UnaryOperator.TheVariants.{Plus as PlusSign, Minus as MinusSign, Not as NotSign}
use Rattle.jn_trees.specs.declared.expression.Step.{Step}
use Rattle.jn_trees.specs.declared.expression.Step.TheVariants.{Increment, Decrement}
use Rattle.jn_trees.specs.declared.expression.BinaryOperator.{BinaryOperator}
use Rattle.jn_trees.specs.declared.expression.BinaryOperator.TheVariants.{Multiply, Divide, Remainder, Add, Subtract, Less as LessThan, Greater as GreaterThan, LessEqual as AtMost, GreaterEqual as AtLeast, Equal, NotEqual as Unequal, And, Or}
use Rattle.jn_trees.specs.declared.expression.AssignOperator.{AssignOperator}
use Rattle.jn_trees.specs.Trees.{BaseTree, ClassBase, Tree, Trees, LiteralTree, NameTree, ParenTree, FieldTree, CallTree, OwnCallTree, SuperCallTree, IndexTree, NewTree, ArrayOfTree, PostfixTree, PrefixTree, UnaryTree, CastTree, BinaryTree, InstanceOfTree, ConditionalTree, AssignTree, NoTrees, MoreTrees}
use Rattle.jn_trees.specs.Spelling.{base_token, step_token, sign_token, operator_token, assign_token, spell_annotations, spell, spell_list, spell_more}
use Rattle.jn_trees.specs.WellFormed.{nesting, nesting_all, rank, power, is_left_side, is_indexable, is_castable, Good, AllGood, relational, loosest_power, primary_rank, postfix_rank, unary_rank, operator_rank, relational_rank, disjunction_rank, conditional_rank, assignment_rank}
use Rattle.jn_trees.specs.Longest.{Try}
use Rattle.jn_parse_expr_law.specs.Follow.{reach, reach_of}
use Rattle.jn_parse_expr_law.specs.Reader.{Got, TryAll, Reader, iterate, build, build_all, extend, go_on, bind, bind_all, bind_items, close_paren, close_index, add_first, items_behind, items_from, all_items, close_arguments, close_elements, arguments_in, elements_in, arguments, called, base_of, close_array, array_elements, array_inside, array_behind, array_of, array_from, annotations, creation_of, creation, number_at, super_call, head, member, link, primary, trim, left_at, step_of, after_by, after, cast_operand, cast, least, or_least, prefix, unary, Sign, NoSign, OperatorSign, TestSign, sign, test, grow_by, grow, operand_at, choose_end, choose, conditional_at, assign_of, assign_by, assign, whole_at, reader}

-- t spells the front of the tokens, and is well formed, of that rank and nesting
abbrev pub Spells : ℕ → ℕ → List TokenKind → Got → Type 0
Spells i d ts r = (ts ≡ spell r.0 ++ r.1) × Good r.0 × (rank r.0 ≤ i) × (nesting r.0 ≤ d)

abbrev pub Sound : ℕ → ℕ → List TokenKind → Try → Type 0
Sound i d ts None = Unit {0}
Sound i d ts (Some r) = Spells i d ts r

-- a left side
abbrev pub SoundLeft : ℕ → List TokenKind → Try → Type 0
SoundLeft d ts None = Unit {0}
SoundLeft d ts (Some r) = Spells primary_rank d ts r × (is_left_side r.0 ≡ true)

pub record SoundReader (R : Reader) (d : ℕ) : Type 0 where
  pub left : (ts : List TokenKind) → SoundLeft d ts (R.left ts)
  pub operand : (k : ℕ) (ts : List TokenKind) → k ≤ loosest_power → Sound (operator_rank k) d ts (R.operand k ts)
  pub conditional : (ts : List TokenKind) → Sound conditional_rank d ts (R.conditional ts)
  pub whole : (ts : List TokenKind) → Sound assignment_rank d ts (R.whole ts)

-- a step keeps the tokens, and gives a tree of rank j
abbrev pub SoundStep : ℕ → ℕ → ℕ → (Tree → List TokenKind → Try) → Type 0
SoundStep i j d step = (t : Tree) (ts : List TokenKind) → Good t → rank t ≤ i → nesting t ≤ d → Sound j d (spell t ++ ts) (step t ts)

weaker : (i j d : ℕ) (ts : List TokenKind) (r : Got) → i ≤ j → Spells i d ts r → Spells j d ts r
weaker i j d ts r h s = (s.0, s.1, omega (arith, s.2), s.3)

sound_iterate : (i d : ℕ) (step : Tree → List TokenKind → Try) → SoundStep i i d step → (n : ℕ) (ts : List TokenKind) (r : Got) → Spells i d ts r → Spells i d ts (iterate step n r)
sound_iterate i d step h zero ts r s = s
sound_iterate i d step h (suc n) ts r s =
    (elim (step r.0 r.1) as (λ o. Sound i d (spell r.0 ++ r.1) o → Spells i d ts (elim o [ None ↦ r | Some q ↦ iterate step n q ]))
    [ None ↦ λ _. s | Some q ↦ λ g. sound_iterate i d step h n ts q (s.0 ∙ g.0, g.1, g.2, g.3) ])
    (h r.0 r.1 s.1 s.2 s.3)

sound_go_on : (i d : ℕ) (step : Tree → List TokenKind → Try) → SoundStep i i d step → (n : ℕ) (ts : List TokenKind) (o : Try) → Sound i d ts o → Sound i d ts (go_on step n o)
sound_go_on i d step h n ts None s = tt
sound_go_on i d step h n ts (Some r) s = sound_iterate i d step h n ts r s

sound_extend : (i j d : ℕ) (step : Tree → List TokenKind → Try) → i ≤ j → SoundStep i j d step → (ts : List TokenKind) (o : Try) → Sound i d ts o → Sound j d ts (extend step o)
sound_extend i j d step le h ts None s = tt
sound_extend i j d step le h ts (Some r) s =
    (elim (step r.0 r.1) as (λ o. Sound j d (spell r.0 ++ r.1) o → Sound j d ts (elim o [ None ↦ Some r | Some q ↦ Some q ]))
    [ None ↦ λ _. weaker i j d ts r le s | Some q ↦ λ g. (s.0 ∙ g.0, g.1, g.2, g.3) ])
    (h r.0 r.1 s.1 s.2 s.3)

lift_sound : (i j d : ℕ) (ts : List TokenKind) (o : Try) → i ≤ j → Sound i d ts o → Sound j d ts o
lift_sound i j d ts None le s = tt
lift_sound i j d ts (Some r) le s = weaker i j d ts r le s

-- lists, after a comma and before what closes them
abbrev pub SoundItems : ℕ → List TokenKind → TryAll → Type 0
SoundItems d ts None = Unit {0}
SoundItems d ts (Some r) = ((end : TokenKind) (rest : List TokenKind) → r.1 ≡ end ∷ rest → Comma ∷ ts ≡ spell_more end r.0 ++ rest) × AllGood r.0 × (nesting_all r.0 ≤ d)

last_item : (d : ℕ) (t : Tree) (ts : List TokenKind) → Good t → nesting t ≤ d → SoundItems d (spell t ++ ts) (Some (MoreTrees t NoTrees, ts))
last_item d t ts g n = (λ end rest e. ap (λ x. Comma ∷ x) (ap (λ x. spell t ++ x) e ∙ sym (append_assoc (spell t) (end ∷ []) rest)), (g, tt), omega arith)

behind_sound : (d : ℕ) (more : List TokenKind → TryAll) → ((ts : List TokenKind) → SoundItems d ts (more ts)) → (t : Tree) (ts : List TokenKind) → Good t → nesting t ≤ d → SoundItems d (spell t ++ ts) (items_behind more t ts)
behind_sound d more h t (Comma ∷ ts) g n =
    (elim (more ts) as (λ o. SoundItems d ts o → SoundItems d (spell t ++ Comma ∷ ts) (add_first t o)) [
      | None ↦ λ _. tt
      | Some r ↦ λ s. (λ end rest e. ap (λ x. Comma ∷ x) (ap (λ x. spell t ++ x) (s.0 end rest e) ∙ sym (append_assoc (spell t) (spell_more end r.0) rest)), (g, s.1), omega (arith, n, s.2))
    ])
    (h ts)
behind_sound d more h t ts g n = last_item d t ts g n

from_sound : (d : ℕ) (one : List TokenKind → Try) → ((ts : List TokenKind) → Sound assignment_rank d ts (one ts)) → (n : ℕ) (ts : List TokenKind) → SoundItems d ts (items_from one n ts)
from_sound d one h zero ts = tt
from_sound d one h (suc n) ts =
    (elim (one ts) as (λ o. Sound assignment_rank d ts o → SoundItems d ts (bind_all o (items_behind (items_from one n))))
    [ None ↦ λ _. tt | Some r ↦ λ s. subst (λ x. SoundItems d x (items_behind (items_from one n) r.0 r.1)) (sym s.0) (behind_sound d (items_from one n) (from_sound d one h n) r.0 r.1 s.1 s.3) ])
    (h ts)

pub items_sound : (d : ℕ) (one : List TokenKind → Try) → ((ts : List TokenKind) → Sound assignment_rank d ts (one ts)) → (ts : List TokenKind) → SoundItems d ts (all_items one ts)
unfolding all_items
items_sound d one h ts = from_sound d one h (suc (length ts)) ts

-- lists through what closes them
abbrev pub SoundAll : TokenKind → ℕ → List TokenKind → TryAll → Type 0
SoundAll end d ts None = Unit {0}
SoundAll end d ts (Some r) = (ts ≡ spell_list end r.0 ++ r.1) × AllGood r.0 × (nesting_all r.0 ≤ d)

some_first : (end : TokenKind) (ts : List TokenKind) (es : Trees) (rest : List TokenKind) → (end ≡ Comma → ⊥) → Comma ∷ ts ≡ spell_more end es ++ rest → ts ≡ spell_list end es ++ rest
some_first end ts NoTrees rest h e = absurd (h cc)
some_first end ts (MoreTrees t es) rest h e = cc

all_closed : (end : TokenKind) (d : ℕ) (ts : List TokenKind) (es : Trees) (rest : List TokenKind) → (end ≡ Comma → ⊥) → SoundItems d ts (Some (es, end ∷ rest)) → SoundAll end d ts (Some (es, rest))
all_closed end d ts es rest h s = (some_first end ts es rest h (s.0 end rest refl), s.1, s.2)

arguments_closed : (d : ℕ) (ts : List TokenKind) (es : Trees) (rest : List TokenKind) → SoundItems d ts (Some (es, rest)) → SoundAll RightParen d ts (close_arguments es rest)
arguments_closed d ts es [] s = tt
arguments_closed d ts es (RightParen ∷ rest) s = all_closed RightParen d ts es rest (λ e. cc) s
arguments_closed d ts es (_ ∷ rest) s = tt

elements_closed : (d : ℕ) (ts : List TokenKind) (es : Trees) (rest : List TokenKind) → SoundItems d ts (Some (es, rest)) → SoundAll RightBrace d ts (close_elements es rest)
elements_closed d ts es [] s = tt
elements_closed d ts es (RightBrace ∷ rest) s = all_closed RightBrace d ts es rest (λ e. cc) s
elements_closed d ts es (_ ∷ rest) s = tt

closed : (end : TokenKind) (d : ℕ) (ts : List TokenKind) (f : Trees → List TokenKind → TryAll) → ((es : Trees) (rest : List TokenKind) → SoundItems d ts (Some (es, rest)) → SoundAll end d ts (f es rest)) → (o : TryAll) → SoundItems d ts o → SoundAll end d ts (bind_items o f)
closed end d ts f h None s = tt
closed end d ts f h (Some r) s = h r.0 r.1 s

pub in_sound : (d : ℕ) (one : List TokenKind → Try) → ((ts : List TokenKind) → Sound assignment_rank d ts (one ts)) → (ts : List TokenKind) → SoundAll RightParen d ts (arguments_in one ts)
in_sound d one h (RightParen ∷ ts) = (refl, tt, omega arith)
in_sound d one h ts = closed RightParen d ts close_arguments (arguments_closed d ts) (all_items one ts) (items_sound d one h ts)

pub elements_sound : (d : ℕ) (one : List TokenKind → Try) → ((ts : List TokenKind) → Sound assignment_rank d ts (one ts)) → (ts : List TokenKind) → SoundAll RightBrace d ts (elements_in one ts)
elements_sound d one h (RightBrace ∷ ts) = (refl, tt, omega arith)
elements_sound d one h ts = closed RightBrace d ts close_elements (elements_closed d ts) (all_items one ts) (items_sound d one h ts)

-- the arguments with their opening parenthesis
abbrev pub SoundCall : ℕ → List TokenKind → TryAll → Type 0
SoundCall d ts None = Unit {0}
SoundCall d ts (Some r) = (ts ≡ LeftParen ∷ spell_list RightParen r.0 ++ r.1) × AllGood r.0 × (nesting_all r.0 ≤ d)

opened : (d : ℕ) (ts : List TokenKind) (o : TryAll) → SoundAll RightParen d ts o → SoundCall d (LeftParen ∷ ts) o
opened d ts None s = tt
opened d ts (Some r) s = (ap (λ x. LeftParen ∷ x) s.0, s.1, s.2)

pub call_sound : (d : ℕ) (one : List TokenKind → Try) → ((ts : List TokenKind) → Sound assignment_rank d ts (one ts)) → (ts : List TokenKind) → SoundCall d ts (arguments one ts)
call_sound d one h (LeftParen ∷ ts) = opened d ts (arguments_in one ts) (in_sound d one h ts)
call_sound d one h [] = tt
call_sound d one h (_ ∷ ts) = tt

-- one case for each form
name_called : (d : ℕ) (n : NameNo) (ts : List TokenKind) (o : TryAll) → SoundCall d ts o → Spells primary_rank (suc d) (Id n ∷ ts) (called (NameTree n) (λ es. OwnCallTree n es) ts o)
name_called d n ts None s = (refl, tt, omega arith, omega arith)
name_called d n ts (Some r) s = (ap (λ x. Id n ∷ x) s.0, s.1, omega arith, omega (arith, s.2))

paren_closed : (d : ℕ) (ts : List TokenKind) (t : Tree) (rest : List TokenKind) → Spells assignment_rank d ts (t, rest) → Sound primary_rank (suc d) (LeftParen ∷ ts) (close_paren t rest)
paren_closed d ts t [] s = tt
paren_closed d ts t (RightParen ∷ rest) s = (ap (λ x. LeftParen ∷ x) (s.0 ∙ sym (append_assoc (spell t) (RightParen ∷ []) rest)), s.1, omega arith, omega (arith, s.3))
paren_closed d ts t (_ ∷ rest) s = tt

bound : (i j d e : ℕ) (ts us : List TokenKind) (f : Tree → List TokenKind → Try) → ((r : Got) → Spells i d ts r → Sound j e us (f r.0 r.1)) → (o : Try) → Sound i d ts o → Sound j e us (bind o f)
bound i j d e ts us f h None s = tt
bound i j d e ts us f h (Some r) s = h r s

built : (i j d e : ℕ) (ts us : List TokenKind) (f : Tree → Tree) → ((r : Got) → Spells i d ts r → Spells j e us (f r.0, r.1)) → (o : Try) → Sound i d ts o → Sound j e us (build f o)
built i j d e ts us f h None s = tt
built i j d e ts us f h (Some r) s = h r s

-- arrays
abbrev IsBase : TokenKind → Option BaseTree → Type 0
IsBase k None = Unit {0}
IsBase k (Some b) = k ≡ base_token b

is_base : (k : TokenKind) → IsBase k (base_of k)
is_base (Id n) = refl
is_base Int = refl
is_base Boolean = refl
is_base _ = tt

array_closed : (d : ℕ) (names : List NameNo) (b : BaseTree) (ts : List TokenKind) (t : Tree) (rest : List TokenKind) → Spells assignment_rank d ts (t, rest) → Sound primary_rank (suc d) (New ∷ (spell_annotations names ++ base_token b ∷ LeftBracket ∷ ts)) (close_array names b t rest)
array_closed d names b ts t [] s = tt
array_closed d names b ts t (RightBracket ∷ rest) s =
    (ap (λ x. New ∷ x) (ap (λ x. spell_annotations names ++ base_token b ∷ LeftBracket ∷ x) (s.0 ∙ sym (append_assoc (spell t) (RightBracket ∷ []) rest)) ∙ sym (append_assoc (spell_annotations names) (base_token b ∷ LeftBracket ∷ (spell t ++ RightBracket ∷ [])) rest)), s.1, omega arith, omega (arith, s.3))
array_closed d names b ts t (_ ∷ rest) s = tt

elements_built : (d : ℕ) (names : List NameNo) (b : BaseTree) (ts : List TokenKind) (o : TryAll) → SoundAll RightBrace d ts o → Sound primary_rank (suc d) (New ∷ (spell_annotations names ++ base_token b ∷ LeftBracket ∷ RightBracket ∷ LeftBrace ∷ ts)) (build_all (λ es. ArrayOfTree names b es) o)
elements_built d names b ts None s = tt
elements_built d names b ts (Some r) s =
    (ap (λ x. New ∷ x) (ap (λ x. spell_annotations names ++ base_token b ∷ LeftBracket ∷ RightBracket ∷ LeftBrace ∷ x) s.0 ∙ sym (append_assoc (spell_annotations names) (base_token b ∷ LeftBracket ∷ RightBracket ∷ LeftBrace ∷ spell_list RightBrace r.0) r.1)), s.1, omega arith, omega (arith, s.2))

array_elements_sound : (R : Reader) (d : ℕ) → SoundReader R d → (names : List NameNo) (b : BaseTree) (ts : List TokenKind) → Sound primary_rank (suc d) (New ∷ (spell_annotations names ++ base_token b ∷ LeftBracket ∷ RightBracket ∷ ts)) (array_elements R names b ts)
array_elements_sound R d h names b [] = tt
array_elements_sound R d h names b (LeftBrace ∷ ts) = elements_built d names b ts (elements_in R.whole ts) (elements_sound d R.whole h.whole ts)
array_elements_sound R d h names b (_ ∷ ts) = tt

size_sound : (R : Reader) (d : ℕ) → SoundReader R d → (names : List NameNo) (b : BaseTree) (ts : List TokenKind) → Sound primary_rank (suc d) (New ∷ (spell_annotations names ++ base_token b ∷ LeftBracket ∷ ts)) (bind (R.whole ts) (close_array names b))
size_sound R d h names b ts = bound assignment_rank primary_rank d (suc d) ts (New ∷ (spell_annotations names ++ base_token b ∷ LeftBracket ∷ ts)) (close_array names b) (λ r s. array_closed d names b ts r.0 r.1 s) (R.whole ts) (h.whole ts)

inside_sound : (R : Reader) (d : ℕ) → SoundReader R d → (names : List NameNo) (b : BaseTree) (ts : List TokenKind) → Sound primary_rank (suc d) (New ∷ (spell_annotations names ++ base_token b ∷ LeftBracket ∷ ts)) (array_inside R names b ts)
inside_sound R d h names b (RightBracket ∷ ts) = array_elements_sound R d h names b ts
inside_sound R d h names b ts = size_sound R d h names b ts

array_sound : (R : Reader) (d : ℕ) → SoundReader R d → (names : List NameNo) (b : BaseTree) (ts : List TokenKind) → Sound primary_rank (suc d) (New ∷ (spell_annotations names ++ base_token b ∷ ts)) (array_behind R names b ts)
array_sound R d h names b [] = tt
array_sound R d h names b (LeftBracket ∷ ts) = inside_sound R d h names b ts
array_sound R d h names b (_ ∷ ts) = tt

array_of_sound : (R : Reader) (d : ℕ) → SoundReader R d → (names : List NameNo) (k : TokenKind) (o : Option BaseTree) → IsBase k o → (ts : List TokenKind) → Sound primary_rank (suc d) (New ∷ (spell_annotations names ++ k ∷ ts)) (array_of R names o ts)
array_of_sound R d h names k None is ts = tt
array_of_sound R d h names k (Some b) is ts = subst (λ x. Sound primary_rank (suc d) (New ∷ (spell_annotations names ++ x ∷ ts)) (array_behind R names b ts)) (sym is) (array_sound R d h names b ts)

array_from_sound : (R : Reader) (d : ℕ) → SoundReader R d → (names : List NameNo) (ts : List TokenKind) → Sound primary_rank (suc d) (New ∷ (spell_annotations names ++ ts)) (array_from R names ts)
array_from_sound R d h names [] = tt
array_from_sound R d h names (k ∷ ts) = array_of_sound R d h names k (base_of k) (is_base k) ts

pub annotations_spell : (ts : List TokenKind) → ts ≡ spell_annotations (annotations ts).0 ++ (annotations ts).1
annotations_spell (At ∷ Id n ∷ ts) = ap (λ x. At ∷ Id n ∷ x) (annotations_spell ts)
annotations_spell ts = refl

annotated_sound : (R : Reader) (d : ℕ) → SoundReader R d → (ts : List TokenKind) → Sound primary_rank (suc d) (New ∷ ts) (array_from R (annotations ts).0 (annotations ts).1)
annotated_sound R d h ts = subst (λ x. Sound primary_rank (suc d) (New ∷ x) (array_from R (annotations ts).0 (annotations ts).1)) (sym (annotations_spell ts)) (array_from_sound R d h (annotations ts).0 (annotations ts).1)

new_built : (d : ℕ) (n : NameNo) (ts : List TokenKind) (o : TryAll) → SoundAll RightParen d ts o → Sound primary_rank (suc d) (New ∷ Id n ∷ LeftParen ∷ ts) (build_all (λ es. NewTree n es) o)
new_built d n ts None s = tt
new_built d n ts (Some r) s = (ap (λ x. New ∷ Id n ∷ LeftParen ∷ x) s.0, s.1, omega arith, omega (arith, s.2))

creation_of_sound : (R : Reader) (d : ℕ) → SoundReader R d → (n : NameNo) (ts : List TokenKind) → Sound primary_rank (suc d) (New ∷ Id n ∷ ts) (creation_of R n ts)
creation_of_sound R d h n (LeftParen ∷ ts) = new_built d n ts (arguments_in R.whole ts) (in_sound d R.whole h.whole ts)
creation_of_sound R d h n ts = array_sound R d h [] (ClassBase n) ts

creation_sound : (R : Reader) (d : ℕ) → SoundReader R d → (ts : List TokenKind) → Sound primary_rank (suc d) (New ∷ ts) (creation R ts)
creation_sound R d h (Id n ∷ ts) = creation_of_sound R d h n ts
creation_sound R d h ts = annotated_sound R d h ts

number_sound : (D n : ℕ) (ts : List TokenKind) → 0 < D → Sound primary_rank D (Number n ∷ ts) (number_at n ts)
number_sound D n ts lt =
    (elim (nat_lt n 2147483648) as (λ b. (b ≡ true → n < 2147483648) → Sound primary_rank D (Number n ∷ ts) (cond b (Some (LiteralTree (NumberLiteral n), ts)) None)) [ true ↦ λ h. (refl, h refl, omega arith, omega (arith, lt)) | false ↦ λ _. tt ]) (ltb-true n 2147483648)

super_built : (d : ℕ) (n : NameNo) (ts : List TokenKind) (o : TryAll) → SoundCall d ts o → Sound primary_rank (suc d) (Super ∷ Dot ∷ Id n ∷ ts) (build_all (λ es. SuperCallTree n es) o)
super_built d n ts None s = tt
super_built d n ts (Some r) s = (ap (λ x. Super ∷ Dot ∷ Id n ∷ x) s.0, s.1, omega arith, omega (arith, s.2))

super_sound : (R : Reader) (d : ℕ) → SoundReader R d → (ts : List TokenKind) → Sound primary_rank (suc d) (Super ∷ ts) (super_call R ts)
super_sound R d h (Dot ∷ Id n ∷ ts) = super_built d n ts (arguments R.whole ts) (call_sound d R.whole h.whole ts)
super_sound R d h _ = tt

head_sound : (R : Reader) (d : ℕ) → SoundReader R d → (ts : List TokenKind) → Sound primary_rank (suc d) ts (head R ts)
head_sound R d h [] = tt
head_sound R d h (Id n ∷ ts) = name_called d n ts (arguments R.whole ts) (call_sound d R.whole h.whole ts)
head_sound R d h (Number n ∷ ts) = number_sound (suc d) n ts (omega arith)
head_sound R d h (Str n ∷ ts) = (refl, tt, omega arith, omega arith)
head_sound R d h (True ∷ ts) = (refl, tt, omega arith, omega arith)
head_sound R d h (False ∷ ts) = (refl, tt, omega arith, omega arith)
head_sound R d h (Null ∷ ts) = (refl, tt, omega arith, omega arith)
head_sound R d h (This ∷ ts) = (refl, tt, omega arith, omega arith)
head_sound R d h (Super ∷ ts) = super_sound R d h ts
head_sound R d h (New ∷ ts) = creation_sound R d h ts
head_sound R d h (LeftParen ∷ ts) = bound assignment_rank primary_rank d (suc d) ts (LeftParen ∷ ts) close_paren (λ r s. paren_closed d ts r.0 r.1 s) (R.whole ts) (h.whole ts)
head_sound R d h (_ ∷ ts) = tt

-- a step that is taken only where nesting leaves room
within : (j D : ℕ) (ts : List TokenKind) (n : ℕ) (o : Try) → (n < D → Sound j D ts o) → Sound j D ts (cond (nat_lt n D) o None)
within j D ts n o h =
    (elim (nat_lt n D) as (λ b. (b ≡ true → n < D) → Sound j D ts (cond b o None)) [ true ↦ λ lt. h (lt refl) | false ↦ λ _. tt ]) (ltb-true n D)

where_true : (j D : ℕ) (ts : List TokenKind) (b : Bool) (o : Try) → (b ≡ true → Sound j D ts o) → Sound j D ts (cond b o None)
where_true j D ts true o h = h refl
where_true j D ts false o h = tt

where_equal : (j D : ℕ) (ts : List TokenKind) (m n : ℕ) (o : Try) → (m ≡ n → Sound j D ts o) → Sound j D ts (cond (nat_eq m n) o None)
where_equal j D ts m n o h = where_true j D ts (nat_eq m n) o (λ e. h (eqb-true m n e))

-- members, calls and indexes
member_called : (d : ℕ) (n : NameNo) (p : Tree) (ts : List TokenKind) (o : TryAll) → Good p → rank p ≤ primary_rank → nesting p ≤ d → SoundCall d ts o → Spells primary_rank (suc d) (spell p ++ Dot ∷ Id n ∷ ts) (called (FieldTree p n) (λ es. CallTree p n es) ts o)
member_called d n p ts None g k m s = (sym (append_assoc (spell p) (Dot ∷ Id n ∷ []) ts), (g, k), omega arith, omega (arith, m))
member_called d n p ts (Some r) g k m s =
    (ap (λ x. spell p ++ Dot ∷ Id n ∷ x) s.0 ∙ sym (append_assoc (spell p) (Dot ∷ Id n ∷ LeftParen ∷ spell_list RightParen r.0) r.1), (g, k, s.1), omega arith, omega (arith, s.2, m))

member_sound : (R : Reader) (d : ℕ) → SoundReader R d → (p : Tree) (ts : List TokenKind) → Good p → rank p ≤ primary_rank → nesting p ≤ d → Sound primary_rank (suc d) (spell p ++ Dot ∷ ts) (member R p ts)
member_sound R d h p [] g k m = tt
member_sound R d h p (Id n ∷ ts) g k m = member_called d n p ts (arguments R.whole ts) g k m (call_sound d R.whole h.whole ts)
member_sound R d h p (_ ∷ ts) g k m = tt

index_closed : (d : ℕ) (p : Tree) (ts : List TokenKind) (t : Tree) (rest : List TokenKind) → is_indexable p ≡ true → Good p → rank p ≤ primary_rank → nesting p ≤ d → Spells assignment_rank d ts (t, rest) → Sound primary_rank (suc d) (spell p ++ LeftBracket ∷ ts) (close_index p t rest)
index_closed d p ts t [] i g k m s = tt
index_closed d p ts t (RightBracket ∷ rest) i g k m s =
    (ap (λ x. spell p ++ LeftBracket ∷ x) (s.0 ∙ sym (append_assoc (spell t) (RightBracket ∷ []) rest)) ∙ sym (append_assoc (spell p) (LeftBracket ∷ (spell t ++ RightBracket ∷ [])) rest), (g, k, i, s.1), omega arith, omega (arith, m, s.3))
index_closed d p ts t (_ ∷ rest) i g k m s = tt

link_sound : (R : Reader) (d : ℕ) → SoundReader R d → SoundStep primary_rank primary_rank (suc d) (link R (suc d))
link_sound R d h p [] g k m = tt
link_sound R d h p (Dot ∷ ts) g k m = within primary_rank (suc d) (spell p ++ Dot ∷ ts) (nesting p) (member R p ts) (λ lt. member_sound R d h p ts g k (omega (arith, lt)))
link_sound R d h p (LeftBracket ∷ ts) g k m =
    where_true primary_rank (suc d) (spell p ++ LeftBracket ∷ ts) (is_indexable p) (cond (nat_lt (nesting p) (suc d)) (bind (R.whole ts) (close_index p)) None) (λ i.
    within primary_rank (suc d) (spell p ++ LeftBracket ∷ ts) (nesting p) (bind (R.whole ts) (close_index p)) (λ lt.
    bound assignment_rank primary_rank d (suc d) ts (spell p ++ LeftBracket ∷ ts) (close_index p) (λ r s. index_closed d p ts r.0 r.1 i g k (omega (arith, lt)) s) (R.whole ts) (h.whole ts)))
link_sound R d h p (_ ∷ ts) g k m = tt

pub primary_sound : (R : Reader) (d : ℕ) → SoundReader R d → (ts : List TokenKind) → Sound primary_rank (suc d) ts (primary R (suc d) ts)
primary_sound R d h ts = sound_go_on primary_rank (suc d) (link R (suc d)) (link_sound R d h) (suc d) ts (head R ts) (head_sound R d h ts)

-- steps after
abbrev pub IsStep : TokenKind → Option Step → Type 0
IsStep k None = Unit {0}
IsStep k (Some s) = k ≡ step_token s

pub is_step : (k : TokenKind) → IsStep k (step_of k)
is_step PlusPlus = refl
is_step MinusMinus = refl
is_step _ = tt

after_by_sound : (d : ℕ) (p : Tree) (k : TokenKind) (o : Option Step) → IsStep k o → (ts : List TokenKind) → Good p → Sound postfix_rank (suc d) (spell p ++ k ∷ ts) (after_by (suc d) p o ts)
after_by_sound d p k None is ts g = tt
after_by_sound d p k (Some s) is ts g =
    where_true postfix_rank (suc d) (spell p ++ k ∷ ts) (is_left_side p) (cond (nat_lt (nesting p) (suc d)) (Some (PostfixTree p s, ts)) None) (λ l.
    within postfix_rank (suc d) (spell p ++ k ∷ ts) (nesting p) (Some (PostfixTree p s, ts)) (λ lt.
    (ap (λ x. spell p ++ x ∷ ts) is ∙ sym (append_assoc (spell p) (step_token s ∷ []) ts), (g, l), omega arith, omega (arith, lt))))

after_sound : (d : ℕ) → SoundStep primary_rank postfix_rank (suc d) (after (suc d))
after_sound d p [] g k m = tt
after_sound d p (x ∷ ts) g k m = after_by_sound d p x (step_of x) (is_step x) ts g

-- casts
pub some_power : (o : BinaryOperator) → 0 < power o
some_power Multiply = omega arith
some_power Divide = omega arith
some_power Remainder = omega arith
some_power Add = omega arith
some_power Subtract = omega arith
some_power LessThan = omega arith
some_power GreaterThan = omega arith
some_power AtMost = omega arith
some_power AtLeast = omega arith
some_power Equal = omega arith
some_power Unequal = omega arith
some_power And = omega arith
some_power Or = omega arith

signed_castable : (o : UnaryOperator) (e : Tree) → reach (sign_token o) ≡ 0 → is_castable (UnaryTree o e) ≡ true
signed_castable PlusSign e h = absurd (omega (arith, h))
signed_castable MinusSign e h = absurd (omega (arith, h))
signed_castable NotSign e h = refl

step_reach : (s : Step) → reach (step_token s) ≡ postfix_rank
step_reach Increment = refl
step_reach Decrement = refl

-- of the operands the castable ones begin so
castable_of : (t : Tree) (rest : List TokenKind) → rank t ≤ unary_rank → reach_of (spell t ++ rest) ≡ 0 → is_castable t ≡ true
castable_of (UnaryTree o e) rest k h = signed_castable o e h
castable_of (PrefixTree s p) rest k h = absurd (omega (arith, step_reach s, h))
castable_of (BinaryTree l o r) rest k h = absurd (omega (arith, some_power o, k))
castable_of (InstanceOfTree e n) rest k h = absurd (omega (arith, k))
castable_of (ConditionalTree c a b) rest k h = absurd (omega (arith, k))
castable_of (AssignTree l o r) rest k h = absurd (omega (arith, k))
castable_of _ rest k h = refl

cast_built : (d : ℕ) (n : NameNo) (ts : List TokenKind) → reach_of ts ≡ 0 → (o : Try) → Sound unary_rank d ts o → Sound unary_rank (suc d) (LeftParen ∷ Id n ∷ RightParen ∷ ts) (build (λ e. CastTree n e) o)
cast_built d n ts h o s =
    built unary_rank unary_rank d (suc d) ts (LeftParen ∷ Id n ∷ RightParen ∷ ts) (λ e. CastTree n e)
    (λ r g. (ap (λ x. LeftParen ∷ Id n ∷ RightParen ∷ x) g.0, (g.1, castable_of r.0 r.1 g.2 (ap reach_of (sym g.0) ∙ h)), omega arith, omega (arith, g.3))) o s

cast_operand_sound : (R : Reader) (d : ℕ) → SoundReader R d → (n : NameNo) (ts : List TokenKind) → Sound unary_rank (suc d) (LeftParen ∷ Id n ∷ RightParen ∷ ts) (build (λ e. CastTree n e) (cast_operand R ts))
cast_operand_sound R d h n ts =
    (elim (nat_eq (reach_of ts) 0) as (λ b. (b ≡ true → reach_of ts ≡ 0) → Sound unary_rank (suc d) (LeftParen ∷ Id n ∷ RightParen ∷ ts) (build (λ e. CastTree n e) (cond b (R.operand 0 ts) None)))
    [ true ↦ λ e. cast_built d n ts (e refl) (R.operand 0 ts) (h.operand 0 ts (omega arith)) | false ↦ λ _. tt ])
    (eqb-true (reach_of ts) 0)

cast_sound : (R : Reader) (d : ℕ) → SoundReader R d → SoundStep postfix_rank unary_rank (suc d) (cast R)
cast_sound R d h (ParenTree (NameTree n)) ts g k m = cast_operand_sound R d h n ts
cast_sound R d h _ ts g k m = tt

-- left sides
before_built : (d : ℕ) (st : Step) (ts : List TokenKind) (o : Try) → SoundLeft d ts o → Sound unary_rank (suc d) (step_token st ∷ ts) (build (λ p. PrefixTree st p) o)
before_built d st ts None s = tt
before_built d st ts (Some r) s = (ap (λ x. step_token st ∷ x) s.0.0, (s.0.1, s.1), omega arith, omega (arith, s.0.3))

trim_sound : (d : ℕ) (ts : List TokenKind) (t : Tree) (rest : List TokenKind) → Spells primary_rank d ts (t, rest) → SoundLeft d ts (trim t rest)
trim_sound d ts (NameTree n) rest s = (s, refl)
trim_sound d ts (FieldTree p n) rest s = (s, refl)
trim_sound d ts (IndexTree p e) rest s = (s, refl)
trim_sound d ts (OwnCallTree n es) rest s = ((s.0, tt, omega arith, omega (arith, s.3)), refl)
trim_sound d ts (CallTree p n es) rest s =
    ((s.0 ∙ append_assoc (spell p) (Dot ∷ Id n ∷ LeftParen ∷ spell_list RightParen es) rest ∙ sym (append_assoc (spell p) (Dot ∷ Id n ∷ []) (LeftParen ∷ (spell_list RightParen es ++ rest))), (s.1.0, s.1.1), omega arith, omega (arith, s.3)), refl)
trim_sound d ts _ rest s = tt

left_sound : (R : Reader) (d : ℕ) → SoundReader R d → (ts : List TokenKind) → SoundLeft (suc d) ts (left_at R (suc d) ts)
left_sound R d h ts =
    (elim (primary R (suc d) ts) as (λ o. Sound primary_rank (suc d) ts o → SoundLeft (suc d) ts (bind o trim)) [ None ↦ λ _. tt | Some r ↦ λ s. trim_sound (suc d) ts r.0 r.1 s ]) (primary_sound R d h ts)

-- signs and steps before
negated_literal : (n : ℕ) → n < 2147483648 → Good (UnaryTree MinusSign (LiteralTree (NumberLiteral n)))
negated_literal n g = subst (λ b. elim b as (λ _. Type 0) [ true ↦ Unit {0} | false ↦ (n < 2147483648) × (primary_rank ≤ unary_rank) ]) (sym (ne_eqb n 2147483648 (λ e. omega (arith, g, e)))) (g, omega arith)

negated : (e : Tree) → Good e → rank e ≤ unary_rank → Good (UnaryTree MinusSign e)
negated (LiteralTree (NumberLiteral n)) g k = negated_literal n g
negated _ g k = (g, k)

least_sound : (D : ℕ) (ts : List TokenKind) → Sound unary_rank D (Minus ∷ ts) (least D ts)
least_sound D [] = tt
least_sound D (Number n ∷ ts) =
    where_equal unary_rank D (Minus ∷ Number n ∷ ts) n 2147483648 (cond (nat_lt 1 D) (Some (UnaryTree MinusSign (LiteralTree (NumberLiteral n)), ts)) None) (λ same.
    within unary_rank D (Minus ∷ Number n ∷ ts) 1 (Some (UnaryTree MinusSign (LiteralTree (NumberLiteral n)), ts)) (λ lt.
    (refl, subst (λ (x : ℕ). Good (UnaryTree MinusSign (LiteralTree (NumberLiteral x)))) (sym same) tt, omega arith, omega (arith, lt))))
least_sound D (_ ∷ ts) = tt

or_least_sound : (D : ℕ) (ts : List TokenKind) (o : Try) → Sound unary_rank D (Minus ∷ ts) o → Sound unary_rank D (Minus ∷ ts) (or_least D ts o)
or_least_sound D ts None s = least_sound D ts
or_least_sound D ts (Some r) s = s

signed_built : (R : Reader) (d : ℕ) → SoundReader R d → (o : UnaryOperator) → ((e : Tree) → Good e → rank e ≤ unary_rank → Good (UnaryTree o e)) → (ts : List TokenKind) → Sound unary_rank (suc d) (sign_token o ∷ ts) (build (λ e. UnaryTree o e) (R.operand 0 ts))
signed_built R d h o good ts =
    built unary_rank unary_rank d (suc d) ts (sign_token o ∷ ts) (λ e. UnaryTree o e) (λ r g. (ap (λ x. sign_token o ∷ x) g.0, good r.0 g.1 g.2, omega arith, omega (arith, g.3))) (R.operand 0 ts) (h.operand 0 ts (omega arith))

prefix_sound : (R : Reader) (d : ℕ) → SoundReader R d → (ts : List TokenKind) → Sound unary_rank (suc d) ts (prefix R (suc d) ts)
prefix_sound R d h [] = tt
prefix_sound R d h (Minus ∷ ts) = or_least_sound (suc d) ts (build (λ e. UnaryTree MinusSign e) (R.operand 0 ts)) (signed_built R d h MinusSign negated ts)
prefix_sound R d h (Plus ∷ ts) = signed_built R d h PlusSign (λ e g k. (g, k)) ts
prefix_sound R d h (Not ∷ ts) = signed_built R d h NotSign (λ e g k. (g, k)) ts
prefix_sound R d h (PlusPlus ∷ ts) = before_built d Increment ts (R.left ts) (h.left ts)
prefix_sound R d h (MinusMinus ∷ ts) = before_built d Decrement ts (R.left ts) (h.left ts)
prefix_sound R d h (_ ∷ ts) = tt

pub unary_sound : (R : Reader) (d : ℕ) → SoundReader R d → (ts : List TokenKind) → Sound unary_rank (suc d) ts (unary R (suc d) ts)
unary_sound R d h ts =
    (elim (primary R (suc d) ts) as (λ o. Sound primary_rank (suc d) ts o → Sound unary_rank (suc d) ts (elim o [ None ↦ prefix R (suc d) ts | Some r ↦ extend (cast R) (extend (after (suc d)) (Some r)) ])) [
      | None ↦ λ _. prefix_sound R d h ts
      | Some r ↦ λ s. sound_extend postfix_rank unary_rank (suc d) (cast R) (omega arith) (cast_sound R d h) ts (extend (after (suc d)) (Some r)) (sound_extend primary_rank postfix_rank (suc d) (after (suc d)) (omega arith) (after_sound d) ts (Some r) s)
    ])
    (primary_sound R d h ts)

-- operators
abbrev pub IsSign : TokenKind → Sign → Type 0
IsSign k NoSign = Unit {0}
IsSign k (OperatorSign o) = k ≡ operator_token o
IsSign k TestSign = k ≡ Instanceof

pub is_sign : (k : TokenKind) → IsSign k (sign k)
is_sign Star = refl
is_sign Slash = refl
is_sign Percent = refl
is_sign Plus = refl
is_sign Minus = refl
is_sign Less = refl
is_sign Greater = refl
is_sign LessEqual = refl
is_sign GreaterEqual = refl
is_sign EqualEqual = refl
is_sign NotEqual = refl
is_sign AndAnd = refl
is_sign OrOr = refl
is_sign Instanceof = refl
is_sign _ = tt

test_sound : (d : ℕ) (l : Tree) (ts : List TokenKind) → Good l → rank l ≤ relational_rank → nesting l < d → Sound relational_rank d (spell l ++ Instanceof ∷ ts) (test l ts)
test_sound d l [] g k m = tt
test_sound d l (Id n ∷ ts) g k m = (sym (append_assoc (spell l) (Instanceof ∷ Id n ∷ []) ts), (g, k), omega arith, omega (arith, m))
test_sound d l (_ ∷ ts) g k m = tt

binary_sound : (R : Reader) (d : ℕ) → SoundReader R d → (k : ℕ) → k < loosest_power → (o : BinaryOperator) (l : Tree) (ts : List TokenKind) → Good l → rank l ≤ operator_rank (suc k) → nesting l < suc d
    → Sound (operator_rank (suc k)) (suc d) (spell l ++ operator_token o ∷ ts) (cond (nat_eq (power o) (k + 1)) (build (λ r. BinaryTree l o r) (R.operand k ts)) None)
binary_sound R d h k small o l ts g w m =
    where_equal (operator_rank (suc k)) (suc d) (spell l ++ operator_token o ∷ ts) (power o) (k + 1) (build (λ r. BinaryTree l o r) (R.operand k ts)) (λ same.
    built (operator_rank k) (operator_rank (suc k)) d (suc d) ts (spell l ++ operator_token o ∷ ts) (λ r. BinaryTree l o r)
    (λ r s. (ap (λ x. spell l ++ operator_token o ∷ x) s.0 ∙ sym (append_assoc (spell l) (operator_token o ∷ spell r.0) r.1), (g, omega (arith, w, same), s.1, omega (arith, s.2, same)), omega (arith, same), omega (arith, m, s.3)))
    (R.operand k ts) (h.operand k ts (omega (arith, small))))

grow_by_sound : (R : Reader) (d : ℕ) → SoundReader R d → (k : ℕ) → k < loosest_power → (l : Tree) (x : TokenKind) (s : Sign) → IsSign x s → (ts : List TokenKind) → Good l → rank l ≤ operator_rank (suc k) → nesting l < suc d
    → Sound (operator_rank (suc k)) (suc d) (spell l ++ x ∷ ts) (grow_by R k l s ts)
grow_by_sound R d h k small l x NoSign is ts g w lt = tt
grow_by_sound R d h k small l x (OperatorSign o) is ts g w lt = subst (λ y. Sound (operator_rank (suc k)) (suc d) (spell l ++ y ∷ ts) (grow_by R k l (OperatorSign o) ts)) (sym is) (binary_sound R d h k small o l ts g w lt)
grow_by_sound R d h k small l x TestSign is ts g w lt =
    subst (λ y. Sound (operator_rank (suc k)) (suc d) (spell l ++ y ∷ ts) (grow_by R k l TestSign ts)) (sym is)
    (where_equal (operator_rank (suc k)) (suc d) (spell l ++ Instanceof ∷ ts) relational (k + 1) (test l ts) (λ same. lift_sound relational_rank (operator_rank (suc k)) (suc d) (spell l ++ Instanceof ∷ ts) (test l ts) (omega (arith, same)) (test_sound (suc d) l ts g (omega (arith, w, same)) lt)))

grow_sound : (R : Reader) (d : ℕ) → SoundReader R d → (k : ℕ) → k < loosest_power → SoundStep (operator_rank (suc k)) (operator_rank (suc k)) (suc d) (grow R (suc d) k)
grow_sound R d h k small l [] g w m = tt
grow_sound R d h k small l (x ∷ ts) g w m = within (operator_rank (suc k)) (suc d) (spell l ++ x ∷ ts) (nesting l) (grow_by R k l (sign x) ts) (λ lt. grow_by_sound R d h k small l x (sign x) (is_sign x) ts g w lt)

pub operand_sound : (R : Reader) (d : ℕ) → SoundReader R d → (k : ℕ) (ts : List TokenKind) → k ≤ loosest_power → Sound (operator_rank k) (suc d) ts (operand_at R (suc d) k ts)
operand_sound R d h zero ts le = unary_sound R d h ts
operand_sound R d h (suc k) ts le =
    sound_go_on (operator_rank (suc k)) (suc d) (grow R (suc d) k) (grow_sound R d h k (omega (arith, le))) (suc d) ts (operand_at R (suc d) k ts)
    (lift_sound (operator_rank k) (operator_rank (suc k)) (suc d) ts (operand_at R (suc d) k ts) (omega arith) (operand_sound R d h k ts (omega (arith, le))))

-- conditionals
choice_built : (R : Reader) (d : ℕ) → SoundReader R d → (c : Tree) (ts : List TokenKind) (a : Tree) (rest : List TokenKind) → Good c → rank c ≤ disjunction_rank → nesting c < suc d → Spells assignment_rank d ts (a, rest) → Sound conditional_rank (suc d) (spell c ++ Question ∷ ts) (choose_end R c a rest)
choice_built R d h c ts a [] g k m s = tt
choice_built R d h c ts a (Colon ∷ rest) g k m s =
    built conditional_rank conditional_rank d (suc d) rest (spell c ++ Question ∷ ts) (λ b. ConditionalTree c a b)
    (λ r q. (
      ap (λ x. spell c ++ Question ∷ x) (s.0 ∙ ap (λ x. spell a ++ Colon ∷ x) q.0 ∙ sym (append_assoc (spell a) (Colon ∷ spell r.0) r.1)) ∙ sym (append_assoc (spell c) (Question ∷ (spell a ++ Colon ∷ spell r.0)) r.1),
      (g, k, s.1, q.1, q.2),
      omega arith,
      omega (arith, m, s.3, q.3),
    ))
    (R.conditional rest) (h.conditional rest)
choice_built R d h c ts a (_ ∷ rest) g k m s = tt

choose_sound : (R : Reader) (d : ℕ) → SoundReader R d → SoundStep disjunction_rank conditional_rank (suc d) (choose R (suc d))
choose_sound R d h c [] g k m = tt
choose_sound R d h c (Question ∷ ts) g k m =
    within conditional_rank (suc d) (spell c ++ Question ∷ ts) (nesting c) (bind (R.whole ts) (choose_end R c)) (λ lt. bound assignment_rank conditional_rank d (suc d) ts (spell c ++ Question ∷ ts) (choose_end R c) (λ r s. choice_built R d h c ts r.0 r.1 g k lt s) (R.whole ts) (h.whole ts))
choose_sound R d h c (_ ∷ ts) g k m = tt

pub conditional_sound : (R : Reader) (d : ℕ) → SoundReader R d → (ts : List TokenKind) → Sound conditional_rank (suc d) ts (conditional_at R (suc d) ts)
conditional_sound R d h ts = sound_extend disjunction_rank conditional_rank (suc d) (choose R (suc d)) (omega arith) (choose_sound R d h) ts (operand_at R (suc d) loosest_power ts) (operand_sound R d h loosest_power ts (omega arith))

-- assignments
abbrev pub IsAssign : TokenKind → Option AssignOperator → Type 0
IsAssign k None = Unit {0}
IsAssign k (Some o) = k ≡ assign_token o

pub is_assign : (k : TokenKind) → IsAssign k (assign_of k)
is_assign Assign = refl
is_assign PlusAssign = refl
is_assign MinusAssign = refl
is_assign StarAssign = refl
is_assign SlashAssign = refl
is_assign PercentAssign = refl
is_assign _ = tt

assign_by_sound : (R : Reader) (d : ℕ) → SoundReader R d → (l : Tree) (k : TokenKind) (o : Option AssignOperator) → IsAssign k o → (ts : List TokenKind) → Good l → Sound assignment_rank (suc d) (spell l ++ k ∷ ts) (assign_by R (suc d) l o ts)
assign_by_sound R d h l k None is ts g = tt
assign_by_sound R d h l k (Some o) is ts g =
    where_true assignment_rank (suc d) (spell l ++ k ∷ ts) (is_left_side l) (cond (nat_lt (nesting l) (suc d)) (build (λ r. AssignTree l o r) (R.whole ts)) None) (λ left.
    within assignment_rank (suc d) (spell l ++ k ∷ ts) (nesting l) (build (λ r. AssignTree l o r) (R.whole ts)) (λ lt.
    built assignment_rank assignment_rank d (suc d) ts (spell l ++ k ∷ ts) (λ r. AssignTree l o r)
    (λ r s. (ap (λ y. spell l ++ y ∷ ts) is ∙ ap (λ x. spell l ++ assign_token o ∷ x) s.0 ∙ sym (append_assoc (spell l) (assign_token o ∷ spell r.0) r.1), (g, left, s.1), omega arith, omega (arith, lt, s.3))) (R.whole ts) (h.whole ts)))

assign_sound : (R : Reader) (d : ℕ) → SoundReader R d → SoundStep conditional_rank assignment_rank (suc d) (assign R (suc d))
assign_sound R d h l [] g k m = tt
assign_sound R d h l (x ∷ ts) g k m = assign_by_sound R d h l x (assign_of x) (is_assign x) ts g

pub whole_sound : (R : Reader) (d : ℕ) → SoundReader R d → (ts : List TokenKind) → Sound assignment_rank (suc d) ts (whole_at R (suc d) ts)
whole_sound R d h ts = sound_extend conditional_rank assignment_rank (suc d) (assign R (suc d)) (omega arith) (assign_sound R d h) ts (conditional_at R (suc d) ts) (conditional_sound R d h ts)

pub sound : (d : ℕ) → SoundReader (reader d) d
sound zero = record { left = λ ts. tt; operand = λ k ts le. tt; conditional = λ ts. tt; whole = λ ts. tt }
sound (suc d) = record { left = left_sound (reader d) d (sound d); operand = λ k ts le. operand_sound (reader d) d (sound d) k ts le; conditional = conditional_sound (reader d) d (sound d); whole = whole_sound (reader d) d (sound d) }
