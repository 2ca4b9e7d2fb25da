-- A text that is lexed window by window.
use Rattle.std.proofs.Common.{◌≡◌, ℕ, ◌+◌, ◌≤◌, List, length, take, drop, sym, subst, arith}
use Rattle.std.proofs.lemmas.List.{take-append-drop, take-take, length-take-le, length-drop}
use Rattle.jn_base.specs.declared.number.FileNo.{FileNo}
use Rattle.jn_trees.specs.declared.token.Token.{Token}
use Rattle.jn_lexer.specs.Moved.{LexedOnto}
use Rattle.jn_lexer.proofs.Few.{few_names}
use Rattle.jn_lex_shared.specs.Cut.{EndsLine, IsCut}
use Rattle.jn_lex_shared.proofs.Further.{onto_append}

-- once the rest, whose first byte is `from`, is lexed from these names and tokens on, so is the text from the first ones
abbrev pub GoesOn : FileNo → List ℕ → ℕ → List (List ℕ) → List Token → List ℕ → ℕ → List (List ℕ) → List Token → Type 0
GoesOn file text at old before rest from names tokens = (new : List (List ℕ)) (all : List Token) → LexedOnto file rest from names tokens new all → LexedOnto file text at old before new all

module _ (file : FileNo) (text : List ℕ) (at : ℕ) (old : List (List ℕ)) (before : List Token) (rest : List ℕ) (from : ℕ) (names : List (List ℕ)) (tokens : List Token) (cut : ℕ) (is : IsCut cut rest) where
  pub window_more : GoesOn file text at old before rest from names tokens → (new : List (List ℕ)) (more : List Token) → LexedOnto file (take cut rest) from names tokens new more → GoesOn file text at old before (drop cut rest) (from + cut) new more
  window_more goes_on new more window last all l =
      let long : length (take cut rest) ≡ cut = length-take-le cut rest is.0 in
      let behind : LexedOnto file (drop cut rest) (from + length (take cut rest)) new more last all = subst (λ n. LexedOnto file (drop cut rest) (from + n) new more last all) (sym long) l in
      goes_on last all (subst (λ t. LexedOnto file t from names tokens last all) (take-append-drop cut rest) (onto_append file (take cut rest) (drop cut rest) from names new last tokens more all is.1 window behind))

-- a window adds no more names than it has bytes
pub few_more : (file : FileNo) (rest : List ℕ) (from cut : ℕ) (names new : List (List ℕ)) (tokens more : List Token) → IsCut cut rest → LexedOnto file (take cut rest) from names tokens new more → length new + length (drop cut rest) ≤ length names + length rest
few_more file rest from cut names new tokens more is l =
    let few = few_names file (take cut rest) names l.own new l.lexed in
    let taken = length-take-le cut rest is.0 in
    let left = length-drop cut rest in
    let within = is.0 in
    omega (arith, few, taken, left, within)

-- a cut of a text's front is one of the text
pub cut_of_front : (cut n : ℕ) (text : List ℕ) → n ≤ length text → IsCut cut (take n text) → IsCut cut text
cut_of_front cut n text within is =
    let long = length-take-le n text within in
    let inside = is.0 in
    let short : cut ≤ n = omega (arith, long, inside) in
    (omega (arith, short, within), subst EndsLine (take-take cut n text short) is.1)
