-- Headers us lines: where a line ends, and that bytes have one header at their front.
use Rattle.std.proofs.Common.{◌≡◌, ℕ, ◌+◌, ◌-◌, ◌<◌, ◌≤◌, ◌&&◌, min, Bool, true, false, List, [], ◌∷◌, ◌++◌, length, take, drop, refl, sym, ap, ◌∙◌, ◌⊎◌, inl, inr, arith, append-nil, append_assoc, length-append, length-take, length-drop, subst, eq-or-lt_of_le}
use Rattle.std.specs.Prelude.{nat_eq, Option, Some, None, IfNone}
use Rattle.std.specs.List.{All, starts_with}
use Rattle.std.proofs.Math.Seq.{take-add}
use Rattle.std.proofs.lemmas.Bool.{eqb-true, and_parts, both_ways}
use Rattle.std.proofs.lemmas.List.{take-append-drop, take-take, take_at, drop_at, drop-drop, take_rest, flat_map_more}
use Rattle.std.proofs.lemmas.List.Elements.{All-nil, All-head, All-tail, All-push}
use Rattle.jn_lsp_frames.specs.Header.{IsLine, ended, IsHeader, IsBlock, HasNoBlock}
use Rattle.jn_lsp_frames.specs.Lines.{HasNoEnd, EndsAt}

-- ---- the first CR LF

abbrev pub begins : List ℕ → Bool
begins text = starts_with nat_eq text (13 ∷ 10 ∷ [])

begins_so : (text : List ℕ) → begins text ≡ true → text ≡ 13 ∷ 10 ∷ drop 2 text
begins_so [] e = absurd cc
begins_so (a ∷ []) e = absurd (both_ways (nat_eq 13 a && false) (never (nat_eq 13 a)) e)
  where
    never : (b : Bool) → b && false ≡ false
    never true = refl
    never false = refl
begins_so (a ∷ b ∷ rest) e =
    let one = and_parts (nat_eq 13 a) (nat_eq 10 b && true) e in
    let two = and_parts (nat_eq 10 b) true one.1 in
    ap (λ c. c ∷ b ∷ rest) (sym (eqb-true 13 a one.0)) ∙ ap (λ c. 13 ∷ c ∷ rest) (sym (eqb-true 10 b two.0))

-- no CR LF begins before this place
abbrev pub NoEndYet : List ℕ → ℕ → Type 0
NoEndYet text at = (front behind : List ℕ) → text ≡ front ++ 13 ∷ 10 ∷ behind → at ≤ length front

pub no_end_yet : (text : List ℕ) → NoEndYet text 0
no_end_yet text front behind e = omega arith

pub end_here : (text : List ℕ) (at : ℕ) → NoEndYet text at → begins (take (length text - at) (drop at text)) ≡ true → EndsAt text at
end_here text at none e = record {
  within = omega (arith, length-drop at text, ap length behind);
  behind = behind;
  none = λ front rest same. let le : at ≤ length front = none front (rest ++ drop at text) (whole front rest same) in
      omega (arith, le, ap length same, length-append front (13 ∷ 10 ∷ rest), length-take at text);
}
  where
    behind : drop at text ≡ 13 ∷ 10 ∷ drop (at + 2) text
    behind = begins_so (drop at text) (sym (ap begins (take_rest text at)) ∙ e) ∙ ap (λ l. 13 ∷ 10 ∷ l) (drop-drop 2 at text)

    whole : (front rest : List ℕ) → take at text ≡ front ++ 13 ∷ 10 ∷ rest → text ≡ front ++ 13 ∷ 10 ∷ (rest ++ drop at text)
    whole front rest same = sym (take-append-drop at text) ∙ ap (λ l. l ++ drop at text) same ∙ append_assoc front (13 ∷ 10 ∷ rest) (drop at text)

pub end_later : (text : List ℕ) (at : ℕ) → NoEndYet text at → begins (take (length text - at) (drop at text)) ≡ false → NoEndYet text (at + 1)
end_later text at none e front behind same = by (eq-or-lt_of_le (none front behind same))
  where
    here : at ≡ length front → begins (take (length text - at) (drop at text)) ≡ true
    here is = ap begins (take_rest text at ∙ ap (drop at) same ∙ drop_at front (13 ∷ 10 ∷ behind) at (sym is))

    by : (at ≡ length front) ⊎ (at < length front) → at + 1 ≤ length front
    by (inl is) = absurd (both_ways (begins (take (length text - at) (drop at text))) e (here is))
    by (inr lt) = omega (arith, lt)

pub end_nowhere : (text : List ℕ) → NoEndYet text (length text) → HasNoEnd text
end_nowhere text none front behind same = omega (arith, none front behind same, ap length same, length-append front (13 ∷ 10 ∷ behind))

-- ---- one reading us lines

head_same : (a b : ℕ) (xs ys : List ℕ) → a ∷ xs ≡ b ∷ ys → a ≡ b
head_same a b xs ys e = cc

tail_same : (a b : ℕ) (xs ys : List ℕ) → a ∷ xs ≡ b ∷ ys → xs ≡ ys
tail_same a b xs ys e = cc

no_end_behind : (a : ℕ) (line : List ℕ) → HasNoEnd (a ∷ line) → HasNoEnd line
no_end_behind a line none front behind e = none (a ∷ front) behind (ap (λ l. a ∷ l) e)

not_shorter : (b : ℕ) (line x y : List ℕ) → HasNoEnd (b ∷ line) → 13 ∷ 10 ∷ x ≡ b ∷ (line ++ 13 ∷ 10 ∷ y) → ⊥
not_shorter b [] x y none e = differ (head_same 10 13 x (10 ∷ y) (tail_same 13 b (10 ∷ x) (13 ∷ 10 ∷ y) e))
  where
    differ : ◌≡◌ {A = ℕ} 10 13 → ⊥
    differ e = omega (arith, e)
not_shorter b (c ∷ line) x y none e =
    let rest : 10 ∷ x ≡ c ∷ (line ++ 13 ∷ 10 ∷ y) = tail_same 13 b (10 ∷ x) (c ∷ (line ++ 13 ∷ 10 ∷ y)) e in
    none [] line (ap (λ n. n ∷ c ∷ line) (sym (head_same 13 b (10 ∷ x) (c ∷ (line ++ 13 ∷ 10 ∷ y)) e)) ∙ ap (λ n. 13 ∷ n ∷ line) (sym (head_same 10 c x (line ++ 13 ∷ 10 ∷ y) rest)))

pub one_line : (a b x y : List ℕ) → HasNoEnd a → HasNoEnd b → a ++ 13 ∷ 10 ∷ x ≡ b ++ 13 ∷ 10 ∷ y → (a ≡ b) × (x ≡ y)
one_line [] [] x y p q e = (refl, tail_same 10 10 x y (tail_same 13 13 (10 ∷ x) (10 ∷ y) e))
one_line [] (b ∷ bs) x y p q e = absurd (not_shorter b bs x y q e)
one_line (a ∷ us) [] x y p q e = absurd (not_shorter a us y x p (sym e))
one_line (a ∷ us) (b ∷ bs) x y p q e =
    let one = one_line us bs x y (no_end_behind a us p) (no_end_behind b bs q) (tail_same a b (us ++ 13 ∷ 10 ∷ x) (bs ++ 13 ∷ 10 ∷ y) e) in
    (ap (λ l. a ∷ l) one.0 ∙ ap (λ n. n ∷ bs) (head_same a b (us ++ 13 ∷ 10 ∷ x) (bs ++ 13 ∷ 10 ∷ y) e), one.1)

pub ended_first : (line : List ℕ) (lines : List (List ℕ)) (rest : List ℕ) → ended (line ∷ lines) ++ rest ≡ line ++ 13 ∷ 10 ∷ (ended lines ++ rest)
ended_first line lines rest = ap (λ l. l ++ rest) (append_assoc line (13 ∷ 10 ∷ []) (ended lines)) ∙ append_assoc line (13 ∷ 10 ∷ ended lines) rest

pub empty_ends : HasNoEnd []
empty_ends [] behind e = absurd cc
empty_ends (a ∷ front) behind e = absurd cc

pub no_line : (line : List ℕ) → IsLine line → [] ≡ line → ⊥
no_line line is e = is.some (sym e)

-- lines that stand at the front of those of a header are its first
pub record Others (lines all : List (List ℕ)) (rest behind : List ℕ) : Type 0 where
  pub others : List (List ℕ)
  pub all_are : all ≡ lines ++ others
  pub each : All IsLine others
  pub rest_is : rest ≡ ended others ++ 13 ∷ 10 ∷ behind

pub others_of : (lines all : List (List ℕ)) (rest behind : List ℕ) → All IsLine lines → All IsLine all → ended lines ++ rest ≡ ended all ++ 13 ∷ 10 ∷ behind → Others lines all rest behind
others_of [] all rest behind p q e = record { others = all; all_are = refl; each = q; rest_is = e }
others_of (line ∷ lines) [] rest behind p q e =
    let l : IsLine line = All-head IsLine line lines p in
    absurd (no_line line l (one_line [] line behind (ended lines ++ rest) empty_ends l.whole (sym e ∙ ended_first line lines rest)).0)
others_of (line ∷ lines) (other ∷ all) rest behind p q e =
    let l : IsLine line = All-head IsLine line lines p in
    let o : IsLine other = All-head IsLine other all q in
    let one = one_line line other (ended lines ++ rest) (ended all ++ 13 ∷ 10 ∷ behind) l.whole o.whole (sym (ended_first line lines rest) ∙ e ∙ ended_first other all (13 ∷ 10 ∷ behind)) in
    let more = others_of lines all rest behind (All-tail IsLine line lines p) (All-tail IsLine other all q) one.1 in
    record { others = more.others; all_are = ap (λ x. x ∷ all) (sym one.0) ∙ ap (λ xs. line ∷ xs) more.all_are; each = more.each; rest_is = more.rest_is }

-- bytes after lines that end with the empty line
last_line : (others : List (List ℕ)) (x y : List ℕ) → All IsLine others → 13 ∷ 10 ∷ x ≡ ended others ++ 13 ∷ 10 ∷ y → (others ≡ []) × (x ≡ y)
last_line [] x y p e = (refl, tail_same 10 10 x y (tail_same 13 13 (10 ∷ x) (10 ∷ y) e))
last_line (line ∷ lines) x y p e =
    let l : IsLine line = All-head IsLine line lines p in
    absurd (no_line line l (one_line [] line x (ended lines ++ 13 ∷ 10 ∷ y) empty_ends l.whole (e ∙ ended_first line lines (13 ∷ 10 ∷ y))).0)

pub one_header : (us bs : List (List ℕ)) (x y : List ℕ) → All IsLine us → All IsLine bs → ended us ++ 13 ∷ 10 ∷ x ≡ ended bs ++ 13 ∷ 10 ∷ y → (us ≡ bs) × (x ≡ y)
one_header us bs x y p q e =
    let o = others_of us bs (13 ∷ 10 ∷ x) y p q e in
    let last = last_line o.others x y o.each o.rest_is in
    (sym (o.all_are ∙ ap (λ l. us ++ l) last.0 ∙ append-nil us), last.1)

pub header_then : (lines : List (List ℕ)) (block behind : List ℕ) → IsHeader lines block → block ++ behind ≡ ended lines ++ 13 ∷ 10 ∷ behind
header_then lines block behind is = ap (λ l. l ++ behind) is.parts ∙ append_assoc (ended lines) (13 ∷ 10 ∷ []) behind

pub one_block : (us bs : List (List ℕ)) (a b x y : List ℕ) → IsHeader us a → IsHeader bs b → a ++ x ≡ b ++ y → (us ≡ bs) × (a ≡ b) × (x ≡ y)
one_block us bs a b x y p q e =
    let one = one_header us bs x y p.each q.each (sym (header_then us a x p) ∙ e ∙ header_then bs b y q) in
    (one.0, p.parts ∙ ap (λ l. ended l ++ 13 ∷ 10 ∷ []) one.0 ∙ sym q.parts, one.1)

-- ---- line by line

-- so many bytes are whole lines
pub record Lined (text : List ℕ) (at : ℕ) : Type 0 where
  pub lines : List (List ℕ)
  pub each : All IsLine lines
  pub within : at ≤ length text
  pub front : take at text ≡ ended lines

pub lined_none : (text : List ℕ) → Lined text 0
lined_none text = record { lines = []; each = All-nil IsLine; within = omega arith; front = refl }

-- the rest of a text us the code has it
abbrev pub rest_at : List ℕ → ℕ → List ℕ
rest_at text at = take (length text - at) (drop at text)

module _ (text : List ℕ) (at count : ℕ) (so : Lined text at) (is : EndsAt (rest_at text at) count) where
  rest_is : rest_at text at ≡ drop at text
  rest_is = take_rest text at

  here : EndsAt (drop at text) count
  here = subst (λ l. EndsAt l count) rest_is is

  pub lined_within : at + (count + 2) ≤ length text
  lined_within = omega (arith, here.within, length-drop at text, so.within)

  next_front : take (at + (count + 2)) text ≡ ended so.lines ++ (take count (drop at text) ++ 13 ∷ 10 ∷ [])
  next_front =
      take-add at (count + 2) text
      ∙ ap (λ l. l ++ take (count + 2) (drop at text)) so.front
      ∙ ap (λ l. ended so.lines ++ l) (take-add count 2 (drop at text) ∙ ap (λ l. take count (drop at text) ++ take 2 l) here.behind)

  pub lined_block : length text ≤ 8192 → count ≡ 0 → IsBlock (take (at + (count + 2)) text)
  lined_block few none = record {
    lines = so.lines;
    is = record {
      each = so.each;
      parts = next_front ∙ ap (λ n. ended so.lines ++ (take n (drop at text) ++ 13 ∷ 10 ∷ [])) none;
      few = omega (arith, few, length-take (at + (count + 2)) text);
    };
  }

  some_line : (count ≡ 0 → ⊥) → take count (drop at text) ≡ [] → ⊥
  some_line some e = omega (arith, some, ap length e, length-take count (drop at text), here.within)

  pub lined_more : (count ≡ 0 → ⊥) → Lined text (at + (count + 2))
  lined_more some = record {
    lines = so.lines ++ take count (drop at text) ∷ [];
    each = All-push IsLine so.lines (take count (drop at text)) so.each (record { some = some_line some; whole = here.none });
    within = lined_within;
    front = next_front ∙ flat_map_more (λ line. line ++ 13 ∷ 10 ∷ []) [] so.lines (take count (drop at text));
  }

pub end_of_first : (others : List (List ℕ)) (text behind : List ℕ) → HasNoEnd text → text ≡ ended others ++ 13 ∷ 10 ∷ behind → ⊥
end_of_first [] text behind none e = none [] behind e
end_of_first (line ∷ lines) text behind none e = none line (ended lines ++ 13 ∷ 10 ∷ behind) (e ∙ ended_first line lines (13 ∷ 10 ∷ behind))

pub lined_last : (text : List ℕ) (at : ℕ) → Lined text at → HasNoEnd (rest_at text at) → HasNoBlock text
lined_last text at so none block behind is e =
    let o = others_of so.lines is.lines (drop at text) behind so.each is.is.each (ap (λ l. l ++ drop at text) (sym so.front) ∙ take-append-drop at text ∙ e ∙ header_then is.lines block behind is.is) in
    end_of_first o.others (rest_at text at) behind none (take_rest text at ∙ o.rest_is)

-- a header that doesn't stand at the front of the first bytes doesn't stand at the front of all
pub none_in_front : (bytes : List ℕ) (most : ℕ) → most ≡ min (length bytes) 8192 → HasNoBlock (take most bytes) → HasNoBlock bytes
none_in_front bytes most m none block behind is e =
    let le : length block ≤ most = omega (arith, m, is.is.few, ap length e, length-append block behind) in
    none block (drop (length block) (take most bytes)) is (sym (take-append-drop (length block) (take most bytes)) ∙ ap (λ l. l ++ drop (length block) (take most bytes)) (take-take (length block) most bytes le ∙ ap (take (length block)) e ∙ take_at block behind (length block) refl))

pub block_in_front : (bytes : List ℕ) (end most : ℕ) → end ≤ length (take most bytes) → IsBlock (take end (take most bytes)) → IsBlock (take end bytes)
block_in_front bytes end most le is = subst IsBlock (take-take end most bytes (omega (arith, le, length-take most bytes))) is

pub none_before : (bytes : List ℕ) (most : ℕ) (end : Option ℕ) → most ≡ min (length bytes) 8192 → IfNone end (HasNoBlock (take most bytes)) → IfNone end (HasNoBlock bytes)
none_before bytes most None m none = none_in_front bytes most m none
none_before bytes most (Some n) m none = tt
