-- The tokens of pieces of a text that stand one after the other.
use Rattle.std.proofs.Common.{◌≡◌, ℕ, ◌+◌, List, [], ◌∷◌, ◌++◌, length, refl, sym, ap, ◌∙◌, append_assoc, arith}
use Rattle.std.proofs.lemmas.List.{map-append}
use Rattle.std.specs.Prelude.{Result, Ok, Err, IfOk}
use Rattle.jn_base.specs.declared.number.FileNo.{FileNo}
use Rattle.jn_base.specs.declared.number.NameNo.{NameNo}
use Rattle.jn_trees.specs.declared.token.Token.{Token}
use Rattle.jn_lexer.specs.Moved.{moved_token, moved, LexedOnto}
use Rattle.jn_renumber.specs.Tokens.{token_by, tokens_by}
use Rattle.jn_lex_shared.specs.Cut.{EndsLine}
use Rattle.jn_lex_shared.proofs.Appending.{lexed_append}

one_moved_on : (a b : ℕ) (t : Token) → moved_token a (moved_token b t) ≡ moved_token (a + b) t
one_moved_on a b t = ap (λ n. spanned n (a + (b + t.span.to))) (regrouped t.span.from) ∙ ap (spanned (a + b + t.span.from)) (regrouped t.span.to)
  where
    spanned : ℕ → ℕ → Token
    spanned from to = record { kind = t.kind; span = record { file = t.span.file; from = from; to = to } }

    regrouped : (n : ℕ) → a + (b + n) ≡ a + b + n
    regrouped n = omega arith

moved_on : (a b : ℕ) (ts : List Token) → moved a (moved b ts) ≡ moved (a + b) ts
moved_on a b [] = refl
moved_on a b (t ∷ ts) = ap (λ u. u ∷ moved a (moved b ts)) (one_moved_on a b t) ∙ ap (λ us. moved_token (a + b) t ∷ us) (moved_on a b ts)

-- a token's number and its place don't meet
pub renumbered_moved : (numbers : List NameNo) (by : ℕ) (ts : List Token) → tokens_by numbers (moved by ts) ≡ moved by (tokens_by numbers ts)
renumbered_moved numbers by [] = refl
renumbered_moved numbers by (t ∷ ts) = ap (λ us. token_by numbers (moved_token by t) ∷ us) (renumbered_moved numbers by ts)

-- two pieces, the first of which ends with a line feed, are one
pub onto_append : (file : FileNo) (front back : List ℕ) (at : ℕ) (old names new : List (List ℕ)) (before middle tokens : List Token) → EndsLine front → LexedOnto file front at old before names middle → LexedOnto file back (at + length front) names middle new tokens → LexedOnto file (front ++ back) at old before new tokens
onto_append file front back at old names new before middle tokens ends f b = record {
  own = f.own ++ moved (length front) b.own;
  lexed = lexed_append file front back old names new f.own b.own ends f.lexed b.lexed;
  put =
      b.put ∙ ap (λ ts. ts ++ moved (at + length front) b.own) f.put
      ∙ append_assoc before (moved at f.own) (moved (at + length front) b.own)
      ∙ ap (λ ts. before ++ (moved at f.own ++ ts)) (sym (moved_on at (length front) b.own))
      ∙ ap (λ ts. before ++ ts) (sym (map-append (moved_token at) f.own (moved (length front) b.own)));
}

-- an answer that goes over to another meaning
pub if_ok : {A E : Type 0} (P Q : A → Type 0) → ((a : A) → P a → Q a) → (r : Result A E) → IfOk r P → IfOk r Q
if_ok P Q f (Ok a) h = f a h
if_ok P Q f (Err e) h = h
