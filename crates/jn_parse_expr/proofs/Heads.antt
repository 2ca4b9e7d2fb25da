-- The reader by what a token is.
use Rattle.std.proofs.Common.{◌≡◌, ℕ, zero, suc, ◌-◌, ◌<◌, arith, List, [], ◌∷◌, refl, ap, ◌∙◌, Option, Some, None, true, false, cond, nat_lt, option_map}
use Rattle.jn_base.specs.declared.number.NameNo.{NameNo}
use Rattle.jn_trees.specs.declared.token.TokenKind.{TokenKind}
use Rattle.jn_trees.specs.declared.token.TokenKind.TheVariants.{Id, Number, New, Super, LeftParen, PlusPlus, MinusMinus, Plus, Minus, Not, Dot}
use Rattle.jn_trees.specs.declared.expression.Literal.{Literal}
use Rattle.jn_trees.specs.declared.expression.Literal.TheVariants.{Number as NumberLiteral}
use Rattle.jn_trees.specs.declared.expression.UnaryOperator.{UnaryOperator}
use Rattle.jn_trees.specs.declared.expression.Step.{Step}
use Rattle.jn_trees.specs.Trees.{BaseTree, Tree, LiteralTree, PrefixTree}
use Rattle.jn_trees.specs.Longest.{Try}
use Rattle.jn_parse_expr_law.specs.Reader.{Reader, reader, bind, trim, build, number_at, head, super_call, annotations, base_of, array_of, array_from, array_behind, creation, prefix, step_of, unary, primary, after, cast, extend}
use Rattle.jn_parse_expr.specs.Steps.{sign_before, signed_by, word, word_then, or_else}
use Rattle.jn_parse_expr.proofs.Parts.{extend_is, back}

number_word : (n : ℕ) (ts : List TokenKind) → number_at n ts ≡ word (Number n ∷ ts)
number_word n ts =
    elim (nat_lt n 2147483648) as (λ b. cond b (Some (LiteralTree (NumberLiteral n), ts)) None ≡ word_then (option_map (λ (l : Literal). LiteralTree l) (cond b (Some (NumberLiteral n)) None)) ts) [ true ↦ refl | false ↦ refl ]

pub head_word : (R : Reader) (ts : List TokenKind) → ((n : NameNo) (x : List TokenKind) → ts ≡ Id n ∷ x → ⊥) → ((x : List TokenKind) → ts ≡ LeftParen ∷ x → ⊥) → ((x : List TokenKind) → ts ≡ New ∷ x → ⊥) → ((x : List TokenKind) → ts ≡ Super ∷ x → ⊥) → head R ts ≡ word ts
head_word R [] a b c d = refl
head_word R (Id n ∷ ts) a b c d = absurd (a n ts refl)
head_word R (LeftParen ∷ ts) a b c d = absurd (b ts refl)
head_word R (New ∷ ts) a b c d = absurd (c ts refl)
head_word R (Super ∷ ts) a b c d = absurd (d ts refl)
head_word R (Number n ∷ ts) a b c d = number_word n ts
head_word R (_ ∷ ts) a b c d = refl

pub super_none : (R : Reader) (ts : List TokenKind) → ((n : NameNo) (x : List TokenKind) → ts ≡ Dot ∷ Id n ∷ x → ⊥) → super_call R ts ≡ None
super_none R (Dot ∷ Id n ∷ ts) h = absurd (h n ts refl)
super_none R ts h = refl

abbrev prefixed : Reader → ℕ → Option UnaryOperator → Option Step → List TokenKind → Try
prefixed R d None None ts = None
prefixed R d None (Some s) ts = build (λ p. PrefixTree s p) (R.left ts)
prefixed R d (Some o) s ts = signed_by d o ts (R.operand 0 ts)

prefix_is : (R : Reader) (d : ℕ) (k : TokenKind) (ts : List TokenKind) → prefix R d (k ∷ ts) ≡ prefixed R d (sign_before k) (step_of k) ts
prefix_is R d Minus ts = refl
prefix_is R d Plus ts = refl
prefix_is R d Not ts = refl
prefix_is R d PlusPlus ts = refl
prefix_is R d MinusMinus ts = refl
prefix_is R d _ ts = refl

pub prefix_step : (R : Reader) (d : ℕ) (k : TokenKind) (s : Step) (ts : List TokenKind) → sign_before k ≡ None → step_of k ≡ Some s → prefix R d (k ∷ ts) ≡ build (λ p. PrefixTree s p) (R.left ts)
prefix_step R d k s ts e f = prefix_is R d k ts ∙ ap (λ o. prefixed R d o (step_of k) ts) e ∙ ap (λ s. prefixed R d None s ts) f

pub prefix_sign : (R : Reader) (d : ℕ) (k : TokenKind) (o : UnaryOperator) (ts : List TokenKind) → sign_before k ≡ Some o → prefix R d (k ∷ ts) ≡ signed_by d o ts (R.operand 0 ts)
prefix_sign R d k o ts e = prefix_is R d k ts ∙ ap (λ x. prefixed R d x (step_of k) ts) e

pub left_is : (d : ℕ) (ts : List TokenKind) (t : Tree) (rest : List TokenKind) → 0 < d → primary (reader (d - 1)) d ts ≡ Some (t, rest) → (reader d).left ts ≡ trim t rest
left_is zero ts t rest lt e = absurd (omega (arith, lt))
left_is (suc d) ts t rest lt e = ap (λ n. bind (primary (reader n) (suc d) ts) trim) (back d) ∙ ap (λ o. bind o trim) e

-- new arrays after annotations
pub creation_is : (R : Reader) (ts : List TokenKind) → ((n : NameNo) (x : List TokenKind) → ts ≡ Id n ∷ x → ⊥) → creation R ts ≡ array_from R (annotations ts).0 (annotations ts).1
creation_is R (Id n ∷ ts) h = absurd (h n ts refl)
creation_is R ts h = refl

pub from_none : (R : Reader) (names : List NameNo) (us : List TokenKind) → ((k : TokenKind) (x : List TokenKind) → us ≡ k ∷ x → base_of k ≡ None) → array_from R names us ≡ None
from_none R names [] h = refl
from_none R names (k ∷ us) h = ap (λ o. array_of R names o us) (h k us refl)

pub from_some : (R : Reader) (old names : List NameNo) (us : List TokenKind) (b : BaseTree) (rest : List TokenKind) → old ≡ names → ((k : TokenKind) × (us ≡ k ∷ rest) × (base_of k ≡ Some b)) → array_from R old us ≡ array_behind R names b rest
from_some R old names us b rest e f = ap (λ x. array_from R x us) e ∙ ap (λ x. array_from R names x) f.1 ∙ ap (λ o. array_of R names o rest) f.2

pub unary_none : (R : Reader) (d : ℕ) (ts : List TokenKind) → primary R d ts ≡ None → unary R d ts ≡ prefix R d ts
unary_none R d ts e = ap (λ (o : Try). elim o as (λ _. Try) [ None ↦ prefix R d ts | Some r ↦ extend (cast R) (extend (after d) (Some r)) ]) e

pub unary_some : (R : Reader) (d : ℕ) (ts : List TokenKind) (l : Tree) (rest : List TokenKind) (m : Tree) (us : List TokenKind) → primary R d ts ≡ Some (l, rest) → or_else (after d l rest) (Some (l, rest)) ≡ Some (m, us) → unary R d ts ≡ or_else (cast R m us) (Some (m, us))
unary_some R d ts l rest m us e f =
    ap (λ (o : Try). elim o as (λ _. Try) [ None ↦ prefix R d ts | Some r ↦ extend (cast R) (extend (after d) (Some r)) ]) e
    ∙ ap (λ o. extend (cast R) o) (extend_is (after d) l rest ∙ f)
    ∙ extend_is (cast R) m us
