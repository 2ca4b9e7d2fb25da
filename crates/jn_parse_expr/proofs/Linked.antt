-- Where the brackets of a call begin.
use Rattle.std.proofs.Common.{◌≡◌, ℕ, List, [], ◌∷◌, refl, ap, subst, Option, Some, None, Bool, true, false, cond, nat_lt}
use Rattle.jn_base.specs.declared.number.NameNo.{NameNo}
use Rattle.jn_trees.specs.declared.token.TokenKind.{TokenKind}
use Rattle.jn_trees.specs.declared.token.TokenKind.TheVariants.{Id, Str, Number, New, Super, This, True, False, Null, LeftParen, RightParen, LeftBrace, LeftBracket, RightBracket, Dot}
use Rattle.jn_trees.specs.declared.expression.Literal.TheVariants.{Number as NumberLiteral}
use Rattle.jn_trees.specs.Trees.{BaseTree, ClassBase, Tree, LiteralTree, NameTree, FieldTree, CallTree, OwnCallTree, SuperCallTree, NewTree, ArrayOfTree}
use Rattle.jn_trees.specs.WellFormed.{nesting, is_indexable}
use Rattle.jn_trees.specs.Longest.{Try}
use Rattle.jn_parse_expr_law.specs.Reader.{TryAll, Reader, bind, build_all, close_paren, close_index, arguments_in, elements_in, arguments, called, base_of, close_array, array_elements, array_inside, array_behind, array_of, array_from, annotations, creation_of, creation, number_at, super_call, head, member, link}
use Rattle.jn_parse_expr_law.proofs.Sound.{SoundReader, SoundCall, call_sound}
use Rattle.jn_parse_expr.specs.Steps.{IsLinked}

-- whatever link was before
abbrev HasLink : List TokenKind → Try → Type 0
HasLink start None = Unit {0}
HasLink start (Some r) = (before : ℕ) (link : List TokenKind) → IsLinked start r.0 before link r.1

abbrev LinksTo : List TokenKind → Tree → List TokenKind → Try → Type 0
LinksTo start p ts None = Unit {0}
LinksTo start p ts (Some r) = IsLinked start r.0 (nesting p) ts r.1

bound : (start : List TokenKind) (f : Tree → List TokenKind → Try) → ((t : Tree) (ts : List TokenKind) → HasLink start (f t ts)) → (o : Try) → HasLink start (bind o f)
bound start f h None = tt
bound start f h (Some r) = h r.0 r.1

paren_link : (start : List TokenKind) (t : Tree) (ts : List TokenKind) → HasLink start (close_paren t ts)
paren_link start t (RightParen ∷ ts) = λ before link. tt
paren_link start t ts = tt

array_link : (start : List TokenKind) (names : List NameNo) (b : BaseTree) (t : Tree) (ts : List TokenKind) → HasLink start (close_array names b t ts)
array_link start names b t (RightBracket ∷ ts) = λ before link. tt
array_link start names b t ts = tt

elements_link : (start : List TokenKind) (names : List NameNo) (b : BaseTree) (o : TryAll) → HasLink start (build_all (λ es. ArrayOfTree names b es) o)
elements_link start names b None = tt
elements_link start names b (Some r) = λ before link. tt

braces_link : (R : Reader) (start : List TokenKind) (names : List NameNo) (b : BaseTree) (ts : List TokenKind) → HasLink start (array_elements R names b ts)
braces_link R start names b (LeftBrace ∷ ts) = elements_link start names b (elements_in R.whole ts)
braces_link R start names b ts = tt

inside_link : (R : Reader) (start : List TokenKind) (names : List NameNo) (b : BaseTree) (ts : List TokenKind) → HasLink start (array_inside R names b ts)
inside_link R start names b (RightBracket ∷ ts) = braces_link R start names b ts
inside_link R start names b ts = bound start (close_array names b) (array_link start names b) (R.whole ts)

behind_link : (R : Reader) (start : List TokenKind) (names : List NameNo) (b : BaseTree) (ts : List TokenKind) → HasLink start (array_behind R names b ts)
behind_link R start names b (LeftBracket ∷ ts) = inside_link R start names b ts
behind_link R start names b ts = tt

base_link : (R : Reader) (start : List TokenKind) (names : List NameNo) (o : Option BaseTree) (ts : List TokenKind) → HasLink start (array_of R names o ts)
base_link R start names None ts = tt
base_link R start names (Some b) ts = behind_link R start names b ts

from_link : (R : Reader) (start : List TokenKind) (names : List NameNo) (ts : List TokenKind) → HasLink start (array_from R names ts)
from_link R start names [] = tt
from_link R start names (k ∷ ts) = base_link R start names (base_of k) ts

new_link : (start : List TokenKind) (n : NameNo) (o : TryAll) → HasLink start (build_all (λ es. NewTree n es) o)
new_link start n None = tt
new_link start n (Some r) = λ before link. tt

class_link : (R : Reader) (start : List TokenKind) (n : NameNo) (ts : List TokenKind) → HasLink start (creation_of R n ts)
class_link R start n (LeftParen ∷ ts) = new_link start n (arguments_in R.whole ts)
class_link R start n ts = behind_link R start [] (ClassBase n) ts

creation_link : (R : Reader) (start : List TokenKind) (ts : List TokenKind) → HasLink start (creation R ts)
creation_link R start (Id n ∷ ts) = class_link R start n ts
creation_link R start ts = from_link R start (annotations ts).0 (annotations ts).1

super_all : (start : List TokenKind) (n : NameNo) (o : TryAll) → HasLink start (build_all (λ es. SuperCallTree n es) o)
super_all start n None = tt
super_all start n (Some r) = λ before link. tt

super_link : (R : Reader) (start : List TokenKind) (ts : List TokenKind) → HasLink start (super_call R ts)
super_link R start (Dot ∷ Id n ∷ ts) = super_all start n (arguments R.whole ts)
super_link R start ts = tt

number_link : (start : List TokenKind) (n : ℕ) (ts : List TokenKind) → HasLink start (number_at n ts)
number_link start n ts =
    elim (nat_lt n 2147483648) as (λ b. HasLink start (cond b (Some (LiteralTree (NumberLiteral n), ts)) None)) [ true ↦ λ before link. tt | false ↦ tt ]

name_link : (d : ℕ) (n : NameNo) (ts : List TokenKind) (o : TryAll) → SoundCall d ts o → HasLink (Id n ∷ ts) (Some (called (NameTree n) (λ es. OwnCallTree n es) ts o))
name_link d n ts None s = λ before link. tt
name_link d n ts (Some r) s = λ before link. ap (λ x. Id n ∷ x) s.0

head_link : (R : Reader) (d : ℕ) → SoundReader R d → (ts : List TokenKind) → HasLink ts (head R ts)
head_link R d h [] = tt
head_link R d h (Id n ∷ ts) = name_link d n ts (arguments R.whole ts) (call_sound d R.whole h.whole ts)
head_link R d h (Number n ∷ ts) = number_link (Number n ∷ ts) n ts
head_link R d h (Str n ∷ ts) = λ before link. tt
head_link R d h (True ∷ ts) = λ before link. tt
head_link R d h (False ∷ ts) = λ before link. tt
head_link R d h (Null ∷ ts) = λ before link. tt
head_link R d h (This ∷ ts) = λ before link. tt
head_link R d h (Super ∷ ts) = super_link R (Super ∷ ts) ts
head_link R d h (New ∷ ts) = creation_link R (New ∷ ts) ts
head_link R d h (LeftParen ∷ ts) = bound (LeftParen ∷ ts) close_paren (paren_link (LeftParen ∷ ts)) (R.whole ts)
head_link R d h (_ ∷ ts) = tt

has_link : (start : List TokenKind) (o : Try) (t : Tree) (rest : List TokenKind) → HasLink start o → o ≡ Some (t, rest) → (before : ℕ) (link : List TokenKind) → IsLinked start t before link rest
has_link start o t rest h e = subst (λ x. HasLink start x) e h

pub head_linked : (R : Reader) (d : ℕ) → SoundReader R d → (ts : List TokenKind) (t : Tree) (rest : List TokenKind) → head R ts ≡ Some (t, rest) → (before : ℕ) (link : List TokenKind) → IsLinked ts t before link rest
head_linked R d h ts t rest e = has_link ts (head R ts) t rest (head_link R d h ts) e

-- links
where_true : (start : List TokenKind) (p : Tree) (ts : List TokenKind) (b : Bool) (o : Try) → LinksTo start p ts o → LinksTo start p ts (cond b o None)
where_true start p ts true o h = h
where_true start p ts false o h = tt

member_link : (start : List TokenKind) (d : ℕ) (p : Tree) (n : NameNo) (ts : List TokenKind) (o : TryAll) → SoundCall d ts o → LinksTo start p (Dot ∷ Id n ∷ ts) (Some (called (FieldTree p n) (λ es. CallTree p n es) ts o))
member_link start d p n ts None s = tt
member_link start d p n ts (Some r) s = (refl, ap (λ x. Dot ∷ Id n ∷ x) s.0)

members_link : (R : Reader) (d : ℕ) → SoundReader R d → (start : List TokenKind) (p : Tree) (ts : List TokenKind) → LinksTo start p (Dot ∷ ts) (member R p ts)
members_link R d h start p (Id n ∷ ts) = member_link start d p n ts (arguments R.whole ts) (call_sound d R.whole h.whole ts)
members_link R d h start p ts = tt

index_link : (start : List TokenKind) (p : Tree) (ts : List TokenKind) (t : Tree) (us : List TokenKind) → LinksTo start p ts (close_index p t us)
index_link start p ts t (RightBracket ∷ us) = tt
index_link start p ts t us = tt

indices_link : (start : List TokenKind) (p : Tree) (ts : List TokenKind) (o : Try) → LinksTo start p ts (bind o (close_index p))
indices_link start p ts None = tt
indices_link start p ts (Some r) = index_link start p ts r.0 r.1

link_link : (R : Reader) (d D : ℕ) → SoundReader R d → (start : List TokenKind) (p : Tree) (ts : List TokenKind) → LinksTo start p ts (link R D p ts)
link_link R d D h start p [] = tt
link_link R d D h start p (Dot ∷ ts) = where_true start p (Dot ∷ ts) (nat_lt (nesting p) D) (member R p ts) (members_link R d h start p ts)
link_link R d D h start p (LeftBracket ∷ ts) =
    where_true start p (LeftBracket ∷ ts) (is_indexable p) (cond (nat_lt (nesting p) D) (bind (R.whole ts) (close_index p)) None)
    (where_true start p (LeftBracket ∷ ts) (nat_lt (nesting p) D) (bind (R.whole ts) (close_index p)) (indices_link start p (LeftBracket ∷ ts) (R.whole ts)))
link_link R d D h start p (_ ∷ ts) = tt

links_to : (start : List TokenKind) (p : Tree) (ts : List TokenKind) (o : Try) (t : Tree) (rest : List TokenKind) → LinksTo start p ts o → o ≡ Some (t, rest) → IsLinked start t (nesting p) ts rest
links_to start p ts o t rest h e = subst (λ x. LinksTo start p ts x) e h

pub link_linked : (R : Reader) (d D : ℕ) → SoundReader R d → (start : List TokenKind) (p : Tree) (ts : List TokenKind) (t : Tree) (rest : List TokenKind) → link R D p ts ≡ Some (t, rest) → IsLinked start t (nesting p) ts rest
link_linked R d D h start p ts t rest e = links_to start p ts (link R D p ts) t rest (link_link R d D h start p ts) e
