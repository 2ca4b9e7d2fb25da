-- How many bytes characters are.
use Rattle.std.proofs.Common.{◌≡◌, ℕ, zero, suc, ◌+◌, ◌<◌, ◌≤◌, List, [], ◌∷◌, ◌++◌, length, take, drop, refl, sym, ap, ◌∙◌, subst, arith, length-append}
use Rattle.std.specs.Prelude.{get_or, encode_utf8, encode_utf8_all, slice_get, Some, chars, IsUtf8, IsCharBoundary}
use Rattle.std.specs.Char.{len_utf8}
use Rattle.std.proofs.lemmas.Str.{encodes-append, length-encode, encodes-chars, length-le-encodes, IsUtf8-past_char, IsCharBoundary-at_seam}
use Rattle.std.proofs.lemmas.List.{take-append-drop, length-take-le, length-drop, append_assoc, take_at, drop_at}
use Rattle.jn_lexer.specs.Characters.{width}

pub width-append : (xs ys : List ℕ) → width (xs ++ ys) ≡ width xs + width ys
width-append xs ys = ap length (encodes-append xs ys) ∙ length-append (encode_utf8_all xs) (encode_utf8_all ys)

pub width-cons : (x : ℕ) (xs : List ℕ) → width (x ∷ xs) ≡ len_utf8 x + width xs
width-cons x xs = length-append (encode_utf8 x) (encode_utf8_all xs) ∙ ap (λ n. n + width xs) (length-encode x)

pub width-split : (n : ℕ) (xs : List ℕ) → width (take n xs) + width (drop n xs) ≡ width xs
width-split n xs = sym (width-append (take n xs) (drop n xs)) ∙ ap width (take-append-drop n xs)

pub width-one : (x : ℕ) → width (x ∷ []) ≡ len_utf8 x
width-one x = let e = width-cons x [] in omega (arith, e)

-- a front and the character after it
pub width-at : (n : ℕ) (xs : List ℕ) (x : ℕ) → n < length xs → x ≡ get_or xs n x → width (take n xs) + len_utf8 x ≤ width xs
width-at n [] x l e = absurd (omega arith)
width-at zero (y ∷ ys) x l e = let a = width-cons y ys in let b = ap len_utf8 e in omega (arith, a, b)
width-at (suc n) (y ∷ ys) x l e =
    let a = width-cons y ys in
    let b = width-cons y (take n ys) in
    let ih = width-at n ys x (omega arith) e in
    omega (arith, a, b, ih)

pub get-at : (n : ℕ) (xs : List ℕ) (x : ℕ) → n < length xs → x ≡ get_or xs n x → slice_get xs n ≡ Some x
get-at n [] x l e = absurd (omega arith)
get-at zero (y ∷ ys) x l e = ap Some (sym e)
get-at (suc n) (y ∷ ys) x l e = get-at n ys x (omega arith) e

pub width-chars : (text : List ℕ) → IsUtf8 text → width (chars text) ≡ length text
width-chars text u = ap length (encodes-chars text u)

pub length-width : (xs : List ℕ) → length xs ≤ width xs
length-width xs = length-le-encodes xs

-- where there are as many bytes as characters, so there are in each front
pub width_alone : (n : ℕ) (xs : List ℕ) → n ≤ length xs → width xs ≡ length xs → n ≡ width (take n xs)
width_alone n xs l e =
    let s = width-split n xs in
    let a = length-width (take n xs) in
    let b = length-width (drop n xs) in
    let t = length-take-le n xs l in
    let d = length-drop n xs in
    omega (arith, l, e, s, a, b, t, d)

-- what stands after characters of a text in UTF-8 is in UTF-8
utf8_behind : (xs rest : List ℕ) → IsUtf8 (encode_utf8_all xs ++ rest) → IsUtf8 rest
utf8_behind [] rest u = u
utf8_behind (x ∷ xs) rest u = utf8_behind xs rest (IsUtf8-past_char (encode_utf8_all (x ∷ xs) ++ rest) (encode_utf8_all xs ++ rest) x u (append_assoc (encode_utf8 x) (encode_utf8_all xs) rest))

-- a text may be cut after any of its characters
pub boundary_behind : (bytes xs ys : List ℕ) → IsUtf8 bytes → chars bytes ≡ xs ++ ys → IsCharBoundary bytes (width xs)
boundary_behind bytes xs ys u e =
    let cut : bytes ≡ encode_utf8_all xs ++ encode_utf8_all ys = sym (encodes-chars bytes u) ∙ ap encode_utf8_all e ∙ encodes-append xs ys in
    IsCharBoundary-at_seam bytes (encode_utf8_all xs) (encode_utf8_all ys) cut (utf8_behind xs (encode_utf8_all ys) (subst IsUtf8 cut u))

-- the bytes of the characters that stand after others
pub bytes_behind : (bytes xs ys zs : List ℕ) → IsUtf8 bytes → chars bytes ≡ xs ++ (ys ++ zs) → take (width ys) (drop (width xs) bytes) ≡ encode_utf8_all ys
bytes_behind bytes xs ys zs u e =
    let cut : bytes ≡ encode_utf8_all xs ++ (encode_utf8_all ys ++ encode_utf8_all zs) =
    sym (encodes-chars bytes u) ∙ ap encode_utf8_all e ∙ encodes-append xs (ys ++ zs) ∙ ap (λ bs. encode_utf8_all xs ++ bs) (encodes-append ys zs) in
    ap (λ bs. take (width ys) (drop (width xs) bs)) cut
    ∙ ap (take (width ys)) (drop_at (encode_utf8_all xs) (encode_utf8_all ys ++ encode_utf8_all zs) (width xs) refl)
    ∙ take_at (encode_utf8_all ys) (encode_utf8_all zs) (width ys) refl
