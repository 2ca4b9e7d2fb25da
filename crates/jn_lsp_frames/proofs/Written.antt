-- A frame that was written is a frame.
use Rattle.std.proofs.Common.{◌≡◌, ◌≢◌, ℕ, ◌<◌, ◌≤◌, ◌^◌, Bool, true, false, List, [], ◌∷◌, ◌++◌, length, codes, decimal, Some, refl, sym, ap, ◌∙◌, inl, arith, append-nil, append_assoc, length-append}
use Rattle.std.specs.Prelude.{◌==◌, not, cond}
use Rattle.std.specs.List.{All, list_all}
use Rattle.std.specs.Char.{is_ascii_digit}
use Rattle.std.specs.Str.Parse.{IsNumeral, digits_value}
use Rattle.std.proofs.lemmas.Bool.{and_parts, and_from, both_ways, eq-eqb, ne_eqb, le-leb, not_from_false, not_from_true}
use Rattle.std.proofs.lemmas.Fmt.{decimal_is_IsNumeral, digits_decimal, length-decimal-le}
use Rattle.std.proofs.lemmas.List.Elements.{All-nil, All-cons}
use Rattle.std.proofs.lemmas.List.Folds.{list_all-append}
use Rattle.jn_lsp_frames.specs.declared.frame.Frame.TheVariants.{Body, TooLarge}
use Rattle.jn_lsp_frames.specs.Header.{IsLine, IsHeader, IsOther, IsNumber, SaysLength}
use Rattle.jn_lsp_frames.specs.Lines.{HasNoEnd}
use Rattle.jn_lsp_frames.specs.Frames.{FrameOf, frame_of}
use Rattle.jn_lsp_frames.proofs.Numbers.{own, digit_range}

abbrev is_other : ℕ → ℕ → Bool
is_other wanted byte = not (byte == wanted)

other_so : (wanted byte : ℕ) → is_other wanted byte ≡ true → byte ≢ wanted
other_so wanted byte e same = both_ways (is_other wanted byte) (not_from_true (byte == wanted) (eq-eqb byte wanted same)) e

all_other : (wanted : ℕ) (bytes : List ℕ) → list_all (is_other wanted) bytes ≡ true → All (λ byte. byte ≢ wanted) bytes
all_other wanted [] e = All-nil (λ byte. byte ≢ wanted)
all_other wanted (byte ∷ bytes) e =
    let parts = and_parts (is_other wanted byte) (list_all (is_other wanted) bytes) e in
    All-cons (λ b. b ≢ wanted) byte bytes (other_so wanted byte parts.0) (all_other wanted bytes parts.1)

-- bytes that aren't CR have no CR LF among them
no_end : (bytes : List ℕ) → list_all (is_other 13) bytes ≡ true → HasNoEnd bytes
no_end bytes e front behind same =
    let parts = and_parts (list_all (is_other 13) front) (list_all (is_other 13) (13 ∷ 10 ∷ behind)) (sym (ap (list_all (is_other 13)) same ∙ list_all-append (is_other 13) front (13 ∷ 10 ∷ behind)) ∙ e) in
    never parts.1
  where
    never : false ≡ true → ⊥
    never e = absurd cc

digits_other : (digits : List ℕ) → list_all is_ascii_digit digits ≡ true → list_all (is_other 13) digits ≡ true
digits_other [] e = refl
digits_other (digit ∷ digits) e =
    let parts = and_parts (is_ascii_digit digit) (list_all is_ascii_digit digits) e in
    and_from (is_other 13 digit) (list_all (is_other 13) digits) (not_from_false (digit == 13) (ne_eqb digit 13 (λ same. omega (arith, same, (digit_range digit parts.0).0)))) (digits_other digits parts.1)

abbrev line_of : List ℕ → List ℕ
line_of digits = codes "Content-Length: " ++ digits

module _ (digits : List ℕ) (number : ℕ) (all : list_all is_ascii_digit digits ≡ true) (numeral : IsNumeral 10 digits) (few : length digits ≤ 9) (is : number ≡ digits_value 10 digits) where
  line_is : IsLine (line_of digits)
  line_is = record { some = λ e. absurd cc; whole = no_end (line_of digits) (digits_other digits all) }

  number_is : IsNumber (32 ∷ digits) number
  number_is = record {
    before = 32 ∷ [];
    digits = digits;
    behind = [];
    parts = sym (append-nil (32 ∷ digits));
    blanks = refl;
    numeral = numeral;
    few = few;
    blanks_behind = refl;
    is = is;
  }

  says_is : SaysLength (line_of digits ∷ []) number
  says_is = record {
    before = [];
    line = line_of digits;
    behind = [];
    name = codes "Content-Length";
    value = 32 ∷ digits;
    parts = refl;
    field = record { parts = refl; first = all_other 58 (codes "Content-Length") refl };
    named = refl;
    others = All-nil IsOther;
    others_behind = All-nil IsOther;
    number_is = number_is;
  }

  header_is : IsHeader (line_of digits ∷ []) (line_of digits ++ codes "\r\n\r\n")
  header_is = record {
    each = All-cons IsLine (line_of digits) [] line_is (All-nil IsLine);
    parts = sym (ap (λ l. l ++ 13 ∷ 10 ∷ []) (append-nil (line_of digits ++ 13 ∷ 10 ∷ [])) ∙ append_assoc (line_of digits) (13 ∷ 10 ∷ []) (13 ∷ 10 ∷ []));
    few = omega (arith, few, length-append (line_of digits) (codes "\r\n\r\n"), length-append (codes "Content-Length: ") digits);
  }

pub written_is_read : (body : List ℕ) → length body ≤ 16777216 → FrameOf (frame_of body) (Body body)
written_is_read body few =
    let digits = decimal (length body) in
    let small : length body < 2 ^ 64 = omega (arith, few) in
    let short : length body < 10 ^ 9 = omega (arith, few) in
    let is = decimal_is_IsNumeral (length body) small in
    let all = digits_decimal own (length body) small in
    let length_few = length-decimal-le 9 (length body) (omega arith) short small in
    inl record {
      lines = line_of digits ∷ [];
      block = line_of digits ++ codes "\r\n\r\n";
      said = Some (length body);
      body = body;
      is = header_is digits (length body) all is.0 length_few (sym is.1);
      says = says_is digits (length body) all is.0 length_few (sym is.1);
      whole = refl;
      parts = refl;
      frame_is = sym (ap (λ b. cond b (Body body) TooLarge) (le-leb (length body) 16777216 few));
    }
