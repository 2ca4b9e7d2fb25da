-- The brackets open after one token more.
use Rattle.std.proofs.Common.{◌≡◌, ℕ, ◌+◌, ◌<◌, List, [], ◌∷◌, ◌++◌, length, take, get_or, refl, sym, ap, ◌∙◌}
use Rattle.std.proofs.lemmas.List.{map_more, take-map}
use Rattle.jn_trees.specs.declared.token.Token.{Token}
use Rattle.jn_trees.specs.declared.token.TokenKind.{TokenKind}
use Rattle.jn_trees.specs.Pieces.{kinds, opened, opened_from}

abbrev kind_of : Token → TokenKind
kind_of t = t.kind

opened_behind : (n : ℕ) (ts : List TokenKind) (k : TokenKind) → opened_from n (ts ++ k ∷ []) ≡ opened (opened_from n ts) k
opened_behind n [] k = refl
opened_behind n (t ∷ ts) k = opened_behind (opened n t) ts k

pub opened_more : (ts : List Token) (i : ℕ) (d : Token) (count after : ℕ) → i < length ts → count ≡ opened_from 0 (take i (kinds ts)) → after ≡ opened count (get_or ts i d).kind → after ≡ opened_from 0 (take (i + 1) (kinds ts))
opened_more ts i d count after lt is e =
    e ∙ ap (λ n. opened n (get_or ts i d).kind) is
    ∙ sym (opened_behind 0 (take i (kinds ts)) (get_or ts i d).kind)
    ∙ sym (ap (opened_from 0) (take-map kind_of (i + 1) ts ∙ map_more kind_of ts i d lt ∙ ap (λ ks. ks ++ (get_or ts i d).kind ∷ []) (sym (take-map kind_of i ts))))
