-- Fields of a header, and what they say together.
use Rattle.std.proofs.Common.{◌≡◌, ◌≢◌, ℕ, ◌+◌, ◌<◌, Bool, true, false, List, [], ◌∷◌, ◌++◌, length, take, drop, get_or, map, Option, Some, None, refl, sym, ap, ◌∙◌, arith, append-nil, append_assoc, length-take, subst}
use Rattle.std.specs.Prelude.{◌==◌, cond, not}
use Rattle.std.specs.List.{All, position, position_or_len}
use Rattle.std.specs.Char.{to_ascii_lowercase}
use Rattle.std.proofs.lemmas.Bool.{eqb-true, eqb-false, lt-ltb}
use Rattle.std.proofs.lemmas.List.{take-append-drop, get_or-take, drop_more}
use Rattle.std.proofs.lemmas.List.Elements.{All-nil, All-cons, All-head, All-tail, All-push, All-append, All-from_get_or}
use Rattle.std.proofs.lemmas.List.Quantifiers.{position-Some}
use Rattle.jn_lsp_frames.specs.declared.header.Said.{Said}
use Rattle.jn_lsp_frames.specs.declared.header.Said.TheVariants as said
use Rattle.jn_lsp_frames.specs.Header.{IsField, IsLengthName, IsOther, IsNumber, SaysLength, Says}
use Rattle.jn_lsp_frames.specs.Lines.{HasNoColon, IsLength, HaveLength, Heard}
use Rattle.jn_lsp_frames.proofs.Numbers.{one_number}

-- ---- the colon

abbrev pub is_colon : ℕ → Bool
is_colon byte = byte == 58

pub colon_field : (line : List ℕ) (at : ℕ) → position is_colon line ≡ Some at → IsField line (take at line) (drop (at + 1) line)
colon_field line at e =
    let found = position-Some is_colon line at 0 e in record {
      parts = sym (take-append-drop at line) ∙ ap (λ l. take at line ++ l) (drop_more line at 0 found.0 ∙ ap (λ b. b ∷ drop (at + 1) line) (eqb-true (get_or line at 0) 58 found.1));
      first = All-from_get_or (λ byte. byte ≢ 58) (take at line) 0 (λ i lt.
          let below : i < at = omega (arith, lt, length-take at line) in
          λ is. eqb-false (get_or line i 0) 58 (found.2 i below) (sym (get_or-take at line i 0 below) ∙ is));
    }

-- a colon after a name is found
found_in : (name value : List ℕ) → position_or_len is_colon (name ++ 58 ∷ value) < length (name ++ 58 ∷ value)
found_in [] value = omega arith
found_in (byte ∷ name) value = by (byte == 58) (found_in name value)
  where
    by : (b : Bool) → position_or_len is_colon (name ++ 58 ∷ value) < length (name ++ 58 ∷ value) → cond (not b) (1 + position_or_len is_colon (name ++ 58 ∷ value)) 0 < length (byte ∷ name ++ 58 ∷ value)
    by true lt = omega arith
    by false lt = omega (arith, lt)

pub colon_none : (line : List ℕ) → position is_colon line ≡ None → HasNoColon line
colon_none line e name value is = none (sym (some (found_in name value)) ∙ ap (position is_colon) (sym is.parts) ∙ e)
  where
    some : position_or_len is_colon (name ++ 58 ∷ value) < length (name ++ 58 ∷ value) → position is_colon (name ++ 58 ∷ value) ≡ Some (position_or_len is_colon (name ++ 58 ∷ value))
    some lt = ap (λ b. cond b (Some (position_or_len is_colon (name ++ 58 ∷ value))) None) (lt-ltb (position_or_len is_colon (name ++ 58 ∷ value)) (length (name ++ 58 ∷ value)) lt)

    none : {n : ℕ} → Some n ≡ None → ⊥
    none e = absurd cc

head_same : (a b : ℕ) (xs ys : List ℕ) → a ∷ xs ≡ b ∷ ys → a ≡ b
head_same a b xs ys e = cc

tail_same : (a b : ℕ) (xs ys : List ℕ) → a ∷ xs ≡ b ∷ ys → xs ≡ ys
tail_same a b xs ys e = cc

-- one name and one value
one_colon : (m n v w : List ℕ) → All (λ byte. byte ≢ 58) m → All (λ byte. byte ≢ 58) n → m ++ 58 ∷ v ≡ n ++ 58 ∷ w → (m ≡ n) × (v ≡ w)
one_colon [] [] v w p q e = (refl, tail_same 58 58 v w e)
one_colon [] (b ∷ n) v w p q e = absurd (All-head (λ byte. byte ≢ 58) b n q (sym (head_same 58 b v (n ++ 58 ∷ w) e)))
one_colon (a ∷ m) [] v w p q e = absurd (All-head (λ byte. byte ≢ 58) a m p (head_same a 58 (m ++ 58 ∷ v) w e))
one_colon (a ∷ m) (b ∷ n) v w p q e =
    let one = one_colon m n v w (All-tail (λ byte. byte ≢ 58) a m p) (All-tail (λ byte. byte ≢ 58) b n q) (tail_same a b (m ++ 58 ∷ v) (n ++ 58 ∷ w) e) in
    (ap (λ l. a ∷ l) one.0 ∙ ap (λ x. x ∷ n) (head_same a b (m ++ 58 ∷ v) (n ++ 58 ∷ w) e), one.1)

pub one_field : (line m v n w : List ℕ) → IsField line m v → IsField line n w → (m ≡ n) × (v ≡ w)
one_field line m v n w p q = one_colon m n v w p.first q.first (sym p.parts ∙ q.parts)

-- a field has one name
pub never_both : (line name value : List ℕ) → IsField line name value → IsLengthName name → IsOther line → ⊥
never_both line name value is named o = o.other (ap (map to_ascii_lowercase) (one_field line o.name o.value name value o.field is).0 ∙ named)

-- ---- one line among others

head_line : (a b : List ℕ) (xs ys : List (List ℕ)) → a ∷ xs ≡ b ∷ ys → a ≡ b
head_line a b xs ys e = cc

tail_line : (a b : List ℕ) (xs ys : List (List ℕ)) → a ∷ xs ≡ b ∷ ys → xs ≡ ys
tail_line a b xs ys e = cc

pub among : (P : List ℕ → Type 0) (before : List (List ℕ)) (line : List ℕ) (behind : List (List ℕ)) → All P (before ++ line ∷ behind) → P line
among P [] line behind p = All-head P line behind p
among P (first ∷ before) line behind p = among P before line behind (All-tail P first (before ++ line ∷ behind) p)

-- a line that all others differ from has one place
pub record Placed (us bs : List (List ℕ)) (a b : List ℕ) (xs ys : List (List ℕ)) : Type 0 where
  pub before : us ≡ bs
  pub line : a ≡ b
  pub behind : xs ≡ ys

pub one_place : (P : List ℕ → Type 0) (us bs : List (List ℕ)) (a b : List ℕ) (xs ys : List (List ℕ)) → All P us → All P xs → (P b → ⊥) → us ++ a ∷ xs ≡ bs ++ b ∷ ys → Placed us bs a b xs ys
one_place P [] [] a b xs ys p q no_way e = record { before = refl; line = head_line a b xs ys e; behind = tail_line a b xs ys e }
one_place P [] (c ∷ bs) a b xs ys p q no_way e = absurd (no_way (among P bs b ys (subst (All P) (tail_line a c xs (bs ++ b ∷ ys) e) q)))
one_place P (c ∷ us) [] a b xs ys p q no_way e = absurd (no_way (subst P (head_line c b (us ++ a ∷ xs) ys e) (All-head P c us p)))
one_place P (c ∷ us) (d ∷ bs) a b xs ys p q no_way e =
    let more = one_place P us bs a b xs ys (All-tail P c us p) q no_way (tail_line c d (us ++ a ∷ xs) (bs ++ b ∷ ys) e) in
    record { before = ap (λ l. c ∷ l) more.before ∙ ap (λ x. x ∷ bs) (head_line c d (us ++ a ∷ xs) (bs ++ b ∷ ys) e); line = more.line; behind = more.behind }

-- ---- what lines say

-- a line with a colon
pub record HasField (line : List ℕ) : Type 0 where
  pub name : List ℕ
  pub value : List ℕ
  pub is : IsField line name value

others_have : (lines : List (List ℕ)) → All IsOther lines → All HasField lines
others_have lines p k d lt = let o = p k d lt in record { name = o.name; value = o.value; is = o.field }

all_have : (lines : List (List ℕ)) (number : ℕ) → SaysLength lines number → All HasField lines
all_have lines number s = subst (All HasField) (sym s.parts) (All-append HasField s.before (s.line ∷ s.behind) (others_have s.before s.others) (All-cons HasField s.line s.behind (record { name = s.name; value = s.value; is = s.field }) (others_have s.behind s.others_behind)))

pub one_length : (us : List (List ℕ)) (a : List ℕ) (xs : List (List ℕ)) (lines : List (List ℕ)) (number : ℕ) → All IsOther us → All IsOther xs → lines ≡ us ++ a ∷ xs → (s : SaysLength lines number) → Placed us s.before a s.line xs s.behind
one_length us a xs lines number p q e s = one_place IsOther us s.before a s.line xs s.behind p q (never_both s.line s.name s.value s.field s.named) (sym e ∙ s.parts)

pub says_once : (lines : List (List ℕ)) (m n : ℕ) → SaysLength lines m → SaysLength lines n → m ≡ n
says_once lines m n s t =
    let place = one_length s.before s.line s.behind lines n s.others s.others_behind s.parts t in
    let value : s.value ≡ t.value = (one_field t.line s.name s.value t.name t.value (subst (λ l. IsField l s.name s.value) place.line s.field) t.field).1 in
    one_number t.value m n (subst (λ v. IsNumber v m) value s.number_is) t.number_is

pub one_saying : (lines : List (List ℕ)) (a b : Option ℕ) → Says lines a → Says lines b → a ≡ b
one_saying lines None None p q = refl
one_saying lines None (Some n) p q = absurd (p n q)
one_saying lines (Some m) None p q = absurd (q m p)
one_saying lines (Some m) (Some n) p q = ap Some (says_once lines m n p q)

-- ---- line by line

behind_line : (lines : List (List ℕ)) (line : List ℕ) (behind : List (List ℕ)) → (lines ++ line ∷ []) ++ behind ≡ lines ++ line ∷ behind
behind_line lines line behind = append_assoc lines (line ∷ []) behind

module _ (lines : List (List ℕ)) (line : List ℕ) where
  pub heard_on : Heard lines said.Broken → Heard (lines ++ line ∷ []) said.Broken
  heard_on h behind number s = h (line ∷ behind) number (subst (λ l. SaysLength l number) (behind_line lines line behind) s)

  pub heard_broken : HasNoColon line → Heard (lines ++ line ∷ []) said.Broken
  heard_broken none behind number s =
      let f = among HasField lines line behind (subst (All HasField) (behind_line lines line behind) (all_have ((lines ++ line ∷ []) ++ behind) number s)) in
      none f.name f.value f.is

  heard_length_other : (number : Option ℕ) → IsOther line → HaveLength lines number → HaveLength (lines ++ line ∷ []) number
  heard_length_other number o h = record {
    before = h.before;
    line = h.line;
    behind = h.behind ++ line ∷ [];
    parts = ap (λ l. l ++ line ∷ []) h.parts ∙ append_assoc h.before (h.line ∷ h.behind) (line ∷ []);
    is = h.is;
    others = h.others;
    others_behind = All-push IsOther h.behind line h.others_behind o;
  }

  pub heard_other : (before : Said) → IsOther line → Heard lines before → Heard (lines ++ line ∷ []) before
  heard_other said.Nothing o h = All-push IsOther lines line h o
  heard_other said.Broken o h = heard_on h
  heard_other (said.Length number) o h = heard_length_other number o h

  pub heard_length : (number : Option ℕ) → IsLength line number → All IsOther lines → HaveLength (lines ++ line ∷ []) number
  heard_length number is h = record { before = lines; line = line; behind = []; parts = refl; is = is; others = h; others_behind = All-nil IsOther }

  heard_twice : (first number : Option ℕ) → IsLength line number → HaveLength lines first → Heard (lines ++ line ∷ []) said.Broken
  heard_twice first number is h behind n s =
      let all : (lines ++ line ∷ []) ++ behind ≡ h.before ++ h.line ∷ (h.behind ++ line ∷ behind) = behind_line lines line behind ∙ ap (λ l. l ++ line ∷ behind) h.parts ∙ append_assoc h.before (h.line ∷ h.behind) (line ∷ behind) in
      let whole : s.before ++ s.line ∷ s.behind ≡ h.before ++ h.line ∷ (h.behind ++ line ∷ behind) = sym s.parts ∙ all in
      let place = one_place IsOther s.before h.before s.line h.line s.behind (h.behind ++ line ∷ behind) s.others s.others_behind (never_both h.line h.is.name h.is.value h.is.field h.is.named) whole in
      never_both line is.name is.value is.field is.named (among IsOther h.behind line behind (subst (All IsOther) place.behind s.others_behind))

  pub heard_next : (before : Said) (number : Option ℕ) → IsLength line number → (before ≡ said.Nothing → ⊥) → Heard lines before → Heard (lines ++ line ∷ []) said.Broken
  heard_next said.Nothing number is some h = absurd (some refl)
  heard_next said.Broken number is some h = heard_on h
  heard_next (said.Length first) number is some h = heard_twice first number is h

-- ---- all lines

nothing_says : (lines : List (List ℕ)) → All IsOther lines → Says lines None
nothing_says lines p number s = never_both s.line s.name s.value s.field s.named (among IsOther s.before s.line s.behind (subst (All IsOther) s.parts p))

broken_says : (lines : List (List ℕ)) → Heard lines said.Broken → Says lines None
broken_says lines h number s = h [] number (subst (λ l. SaysLength l number) (sym (append-nil lines)) s)

never_says : (lines : List (List ℕ)) → HaveLength lines None → (n : ℕ) → SaysLength lines n → ⊥
never_says lines h n s =
    let place = one_length h.before h.line h.behind lines n h.others h.others_behind h.parts s in
    let value : s.value ≡ h.is.value = (one_field h.line s.name s.value h.is.name h.is.value (subst (λ l. IsField l s.name s.value) (sym place.line) s.field) h.is.field).1 in
    h.is.says n (subst (λ v. IsNumber v n) value s.number_is)

pub length_says : (lines : List (List ℕ)) (number : Option ℕ) → HaveLength lines number → Says lines number
length_says lines None h = never_says lines h
length_says lines (Some n) h = record {
  before = h.before;
  line = h.line;
  behind = h.behind;
  name = h.is.name;
  value = h.is.value;
  parts = h.parts;
  field = h.is.field;
  named = h.is.named;
  others = h.others;
  others_behind = h.others_behind;
  number_is = h.is.says;
}

pub none_says : (lines : List (List ℕ)) (all : Said) → ((number : Option ℕ) → all ≡ said.Length number → ⊥) → Heard lines all → Says lines None
none_says lines said.Nothing none h = nothing_says lines h
none_says lines said.Broken none h = broken_says lines h
none_says lines (said.Length number) none h = absurd (none number refl)
