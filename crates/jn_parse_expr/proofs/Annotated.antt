-- Annotations, one after the other.
use Rattle.std.proofs.Common.{◌≡◌, List, [], ◌∷◌, ◌++◌, refl, sym, ap, ◌∙◌, append-nil}
use Rattle.jn_base.specs.declared.number.NameNo.{NameNo}
use Rattle.jn_trees.specs.declared.token.TokenKind.{TokenKind}
use Rattle.jn_trees.specs.declared.token.TokenKind.TheVariants.{Id, At}
use Rattle.jn_trees.specs.declared.expression.Annotation.{Annotation}
use Rattle.jn_trees.specs.View.{annotation_names}
use Rattle.jn_parse_expr_law.specs.Reader.{annotations, add_annotation}

abbrev pub prepended : List NameNo → List NameNo × List TokenKind → List NameNo × List TokenKind
prepended names r = (names ++ r.0, r.1)

push : (all : List Annotation) (a : Annotation) (r : List NameNo × List TokenKind) → prepended (annotation_names all) (add_annotation a.name r) ≡ prepended (annotation_names (all ++ a ∷ [])) r
push [] a r = refl
push (x ∷ all) a r = ap (λ (q : List NameNo × List TokenKind). (x.name ∷ q.0, q.1)) (push all a r)

pub annotation_more : (ts us rest : List TokenKind) (old new : List Annotation) (a : Annotation) → annotations ts ≡ prepended (annotation_names old) (annotations us) → us ≡ At ∷ Id a.name ∷ rest → new ≡ old ++ a ∷ []
    → annotations ts ≡ prepended (annotation_names new) (annotations rest)
annotation_more ts us rest old new a g is same =
    g ∙ ap (λ x. prepended (annotation_names old) (annotations x)) is ∙ push old a (annotations rest) ∙ ap (λ xs. prepended (annotation_names xs) (annotations rest)) (sym same)

none : (ts : List TokenKind) → ((n : NameNo) (x : List TokenKind) → ts ≡ At ∷ Id n ∷ x → ⊥) → annotations ts ≡ ([], ts)
none (At ∷ Id n ∷ ts) h = absurd (h n ts refl)
none ts h = refl

pub annotation_end : (ts us : List TokenKind) (all : List Annotation) → annotations ts ≡ prepended (annotation_names all) (annotations us) → ((n : NameNo) (x : List TokenKind) → us ≡ At ∷ Id n ∷ x → ⊥) → annotations ts ≡ (annotation_names all, us)
annotation_end ts us all g h = g ∙ ap (λ r. prepended (annotation_names all) r) (none us h) ∙ ap (λ x. (x, us)) (append-nil (annotation_names all))

pub annotation_start : (ts : List TokenKind) (all : List Annotation) → all ≡ [] → annotations ts ≡ prepended (annotation_names all) (annotations ts)
annotation_start ts all e = ap (λ xs. prepended (annotation_names xs) (annotations ts)) (sym e)
