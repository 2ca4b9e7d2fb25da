-- The tokens and names of a text that is lexed in two parts, each with names of its own.
use Rattle.std.proofs.Common.{◌≡◌, ℕ, List, [], ◌++◌, length, take, drop, refl, sym, ap, ◌∙◌, subst}
use Rattle.std.specs.Prelude.{Result, Ok, Err, OnOk}
use Rattle.std.proofs.lemmas.List.{take-append-drop, length-take-le}
use Rattle.jn_base.specs.declared.number.FileNo.{FileNo}
use Rattle.jn_base.specs.declared.number.NameNo.{NameNo}
use Rattle.jn_base.specs.declared.refusal.OutOfMemory.{OutOfMemory}
use Rattle.jn_known.specs.Known.{known_names}
use Rattle.jn_trees.specs.declared.token.Token.{Token}
use Rattle.jn_lexer.specs.Lexed.{Lexed}
use Rattle.jn_lexer.specs.Moved.{moved, LexedOnto}
use Rattle.jn_renumber.specs.Merged.{merged, merged_numbers}
use Rattle.jn_renumber.specs.Tokens.{tokens_by}
use Rattle.jn_renumber.proofs.Entries.{still_known}
use Rattle.jn_lex_shared.proofs.Lexing.{lexed, only_lexed}
use Rattle.jn_lex_shared.specs.Cut.{EndsLine, IsCut}
use Rattle.jn_lex_shared.proofs.Appending.{lexed_append}
use Rattle.jn_lex_shared.proofs.Further.{renumbered_moved}

-- names that a text has from the known ones on have the known ones
kept_names : (file : FileNo) (text : List ℕ) (known names : List (List ℕ)) (tokens : List Token) → merged known known ≡ known → Lexed file text known tokens names → merged names known ≡ names
kept_names file text known names tokens begun l =
    let all : names ≡ merged known names = (only_lexed file text known known names names tokens tokens begun l l).1 in
    subst (λ ns. merged ns known ≡ ns) (sym all) (still_known known names known begun)

-- the back's tokens, further on and by the numbers that its names get, go after the front's
parts_lexed : (file : FileNo) (front back : List ℕ) (known names own : List (List ℕ)) (tokens others : List Token) → merged known known ≡ known → EndsLine front → Lexed file front known tokens names → Lexed file back known others own → Lexed file (front ++ back) known (tokens ++ moved (length front) (tokens_by (merged_numbers names own) others)) (merged names own)
parts_lexed file front back known names own tokens others begun ends f b =
    lexed_append file front back known names (merged names own) tokens (tokens_by (merged_numbers names own) others) ends f
    (lexed file back known names own others (kept_names file front known names tokens begun f) b)

begun : merged known_names known_names ≡ known_names
begun = refl

cut_lexed : (file : FileNo) (text : List ℕ) (cut : ℕ) (names own : List (List ℕ)) (tokens others : List Token) → IsCut cut text → Lexed file (take cut text) known_names tokens names → Lexed file (drop cut text) known_names others own → Lexed file text known_names (tokens ++ moved cut (tokens_by (merged_numbers names own) others)) (merged names own)
cut_lexed file text cut names own tokens others is f b =
    let whole = parts_lexed file (take cut text) (drop cut text) known_names names own tokens others begun is.1 f b in
    let long : length (take cut text) ≡ cut = length-take-le cut text is.0 in
    subst (λ n. Lexed file text known_names (tokens ++ moved n (tokens_by (merged_numbers names own) others)) (merged names own)) long
    (subst (λ t. Lexed file t known_names (tokens ++ moved (length (take cut text)) (tokens_by (merged_numbers names own) others)) (merged names own)) (take-append-drop cut text) whole)

-- where the back's tokens, which stand at their places in the text, were put by their numbers, they are those of the text
pub if_put : (file : FileNo) (text : List ℕ) (cut : ℕ) (names own new : List (List ℕ)) (tokens others all : List Token) (numbers : List NameNo) → numbers ≡ merged_numbers names own → new ≡ merged names own → IsCut cut text → Lexed file (take cut text) known_names tokens names → LexedOnto file (drop cut text) cut known_names [] own others → (result : Result Unit OutOfMemory) → OnOk result (all ≡ tokens ++ tokens_by numbers others) → OnOk result (Lexed file text known_names all new)
if_put file text cut names own new tokens others all numbers ns new_is is f b (Ok u) put =
    let mine = merged_numbers names own in
    let here : all ≡ tokens ++ moved cut (tokens_by (merged_numbers names own) b.own) =
    put ∙ ap (λ n. tokens ++ tokens_by n others) ns ∙ ap (λ ts. tokens ++ tokens_by mine ts) b.put ∙ ap (λ ts. tokens ++ ts) (renumbered_moved mine cut b.own) in
    subst (λ ts. Lexed file text known_names ts new) (sym here) (subst (λ n. Lexed file text known_names (tokens ++ moved cut (tokens_by (merged_numbers names own) b.own)) n) (sym new_is) (cut_lexed file text cut names own tokens b.own is f b.lexed))
if_put file text cut names own new tokens others all numbers ns new_is is f b (Err e) put = tt
