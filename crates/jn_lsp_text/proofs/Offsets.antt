-- Offsets of positions.
use Rattle.std.proofs.Common.{◌≡◌, ℕ, zero, suc, ◌+◌, ◌-◌, ◌≤◌, ◌<◌, Bool, true, false, ◌⊎◌, inl, inr, ⊎_elim, List, length, get_or, refl, sym, ap, ◌∙◌, subst, arith}
use Rattle.std.specs.Prelude.{cond, not, take, ◌&&◌, ◌||◌, ◌==◌}
use Rattle.std.proofs.Math.Seq.{take-length}
use Rattle.jn_base.specs.Place.{line_ends}
use Rattle.jn_lsp_text.specs.Positions.{IsUpTo, IsOffsetOf, IsBetweenUnits, position_at, units_begun}
use Rattle.jn_lsp_text.specs.Counting.{counted, with, is_beyond}
use Rattle.jn_lsp_text.specs.declared.counting.Counted.{Counted}
use Rattle.jn_lsp_text.specs.declared.encoding.Encoding.{Encoding}
use Rattle.jn_lsp_text.specs.declared.position.Position.{Position}
use Rattle.jn_lsp_text.proofs.Steps.{counted_start, counted_more, next_counted, counted_position, forward, no_units, beyond, advances, up_to_trans, up_to_same}

le_or_lt : (n k : ℕ) → (n ≤ k) ⊎ (k < n)
le_or_lt zero k = inl (omega arith)
le_or_lt (suc n) zero = inr (omega arith)
le_or_lt (suc n) (suc k) = ⊎_elim (λ (h : n ≤ k). inl (omega (arith, h))) (λ (h : k < n). inr (omega (arith, h))) (le_or_lt n k)

one_on : (encoding : Encoding) (text : List ℕ) (at : ℕ) → at < length text → IsUpTo (position_at encoding text at) (position_at encoding text (at + 1))
one_on encoding text at lt = subst (λ c. IsUpTo (position_at encoding text at) (counted_position c)) (sym (counted_more encoding text at lt)) (forward encoding (counted encoding text at) (get_or text at 0) (no_units encoding text at (omega (arith, lt))))

so_many_on : (encoding : Encoding) (more : ℕ) (text : List ℕ) (at : ℕ) → at + more ≤ length text → IsUpTo (position_at encoding text at) (position_at encoding text (at + more))
so_many_on encoding zero text at le = subst (λ n. IsUpTo (position_at encoding text at) (position_at encoding text n)) (plain at) (up_to_same (position_at encoding text at))
  where
    plain : (n : ℕ) → n ≡ n + 0
    plain n = omega arith
so_many_on encoding (suc more) text at le =
    subst (λ n. IsUpTo (position_at encoding text at) (position_at encoding text n)) (plain at more) (up_to_trans (position_at encoding text at) (position_at encoding text (at + more)) (position_at encoding text (at + more + 1)) (so_many_on encoding more text at (omega (arith, le))) (one_on encoding text (at + more) (omega (arith, le))))
  where
    plain : (n k : ℕ) → n + k + 1 ≡ n + suc k
    plain n k = omega arith

-- positions rise with their offsets
pub rises : (encoding : Encoding) (text : List ℕ) (at other : ℕ) → at ≤ other → other ≤ length text → IsUpTo (position_at encoding text at) (position_at encoding text other)
rises encoding text at other le within = subst (λ n. IsUpTo (position_at encoding text at) (position_at encoding text n)) (apart le) (so_many_on encoding (other - at) text at (omega (arith, le, within)))
  where
    apart : at ≤ other → at + (other - at) ≡ other
    apart le = omega (arith, le)

-- what the byte after goes beyond, none after it reaches
none_behind : (encoding : Encoding) (text : List ℕ) (position : Position) (at : ℕ) → (IsUpTo (position_at encoding text (at + 1)) position → ⊥) → (other : ℕ) → other ≤ length text → IsUpTo (position_at encoding text other) position → other ≤ at
none_behind encoding text position at never other within up = by_cases (le_or_lt other at)
  where
    by_cases : (other ≤ at) ⊎ (at < other) → other ≤ at
    by_cases (inl le) = le
    by_cases (inr lt) = elim (never (up_to_trans (position_at encoding text (at + 1)) (position_at encoding text other) position (rises encoding text (at + 1) other (omega (arith, lt)) within) up)) [ ]

-- an offset between characters is that of its position
pub returns_here : (encoding : Encoding) (text : List ℕ) (offset : ℕ) → IsBetweenUnits encoding text offset → IsOffsetOf encoding text (position_at encoding text offset) offset
returns_here encoding text offset between = record {
  within = between.within;
  reached = up_to_same (position_at encoding text offset);
  greatest = λ other within up. by_cases (le_or_lt (length text) offset) other within up;
}
  where
    by_cases : (length text ≤ offset) ⊎ (offset < length text) → (other : ℕ) → other ≤ length text → IsUpTo (position_at encoding text other) (position_at encoding text offset) → other ≤ offset
    by_cases (inl le) other within up = omega (arith, le, within)
    by_cases (inr lt) other within up = none_behind encoding text (position_at encoding text offset) offset (λ on. advances encoding (counted encoding text offset) (get_or text offset 0) between.begins between.whole_line_end (subst (λ c. IsUpTo (counted_position c) (position_at encoding text offset)) (counted_more encoding text offset lt) on)) other within up

-- where a byte more goes beyond a position, its offset is there
pub offset_here : (encoding : Encoding) (text : List ℕ) (position : Position) (at : ℕ) (before after : Counted) → at < length text → before ≡ counted encoding text at → after ≡ with encoding before (get_or text at 0) → IsUpTo (position_at encoding text at) position → is_beyond after position ≡ true → IsOffsetOf encoding text position at
offset_here encoding text position at before after lt is more up far = record {
  within = omega (arith, lt);
  reached = up;
  greatest = none_behind encoding text position at (λ on. beyond after position far (subst (λ c. IsUpTo (counted_position c) position) (sym (next_counted encoding text at before after lt is more)) on));
}

-- where all goes up to a position, its offset is the end
pub offset_end : (encoding : Encoding) (text : List ℕ) (position : Position) → IsUpTo (position_at encoding text (length text)) position → IsOffsetOf encoding text position (length text)
offset_end encoding text position up = record { within = omega arith; reached = up; greatest = λ other within reached. within }

-- after a line's end the next line begins
line_begins : (encoding : Encoding) (before : Counted) (byte line : ℕ) → before.lines < line → line ≤ (with encoding before byte).lines → ((with encoding before byte).lines ≡ line) × ((with encoding before byte).units ≡ 0)
line_begins encoding before byte line low high = by_cases (byte == 13) (byte == 10) (before.previous == 13) high
  where
    by_cases : (a b c : Bool) → line ≤ before.lines + cond (a || b && not c) 1 0 → (before.lines + cond (a || b && not c) 1 0 ≡ line) × (cond (a || b) 0 (before.units + units_begun encoding byte) ≡ 0)
    by_cases true b c h = (omega (arith, low, h), refl)
    by_cases false true true h = (omega (arith, low, h), refl)
    by_cases false true false h = (omega (arith, low, h), refl)
    by_cases false false c h = (omega (arith, low, h), omega (arith, low, h))

-- a line's begin
record Begin (encoding : Encoding) (text : List ℕ) (line : ℕ) : Type 0 where
  at : ℕ
  within : at ≤ length text
  lines : (counted encoding text at).lines ≡ line
  units : (counted encoding text at).units ≡ 0

-- each line up to the one of this byte has a begin
has_begin : (encoding : Encoding) (at : ℕ) (text : List ℕ) (line : ℕ) → at ≤ length text → line ≤ (counted encoding text at).lines → Begin encoding text line
has_begin encoding zero text line within le =
    let none : counted encoding text 0 ≡ record { previous = 0; lines = 0; units = 0 } = counted_start encoding text in
    let no_lines : (counted encoding text 0).lines ≡ 0 = ap (λ c. c.lines) none in
    record { at = 0; within = within; lines = omega (arith, le, no_lines); units = ap (λ c. c.units) none }
has_begin encoding (suc at) text line within le = ⊎_elim (λ low. has_begin encoding at text line (omega (arith, within)) low) here (le_or_lt line (counted encoding text at).lines)
  where
    lt : at < length text
    lt = omega (arith, within)

    next : (n : ℕ) → n + 1 ≡ suc n
    next n = omega arith

    more : counted encoding text (suc at) ≡ with encoding (counted encoding text at) (get_or text at 0)
    more = ap (counted encoding text) (sym (next at)) ∙ counted_more encoding text at lt

    here : (counted encoding text at).lines < line → Begin encoding text line
    here high =
        let begins = line_begins encoding (counted encoding text at) (get_or text at 0) line high (subst (λ c. line ≤ c.lines) more le) in
        record { at = suc at; within = within; lines = ap (λ c. c.lines) more ∙ begins.0; units = ap (λ c. c.units) more ∙ begins.1 }

-- an offset is on its position's line, or at the end
pub stands_on_its_line : (encoding : Encoding) (text : List ℕ) (position : Position) (offset : ℕ) → IsOffsetOf encoding text position offset → (position.line ≤ line_ends 0 text → line_ends 0 (take offset text) ≡ position.line) × (line_ends 0 text < position.line → offset ≡ length text)
stands_on_its_line encoding text position offset is = (on_it, at_end)
  where
    all : line_ends 0 (take (length text) text) ≡ line_ends 0 text
    all = ap (line_ends 0) (take-length text)

    on_it : position.line ≤ line_ends 0 text → line_ends 0 (take offset text) ≡ position.line
    on_it le =
        let begin : Begin encoding text position.line = has_begin encoding (length text) text position.line (omega arith) (omega (arith, le, all)) in
        let low : begin.at ≤ offset = is.greatest begin.at begin.within (record { line = omega (arith, begin.lines); character = λ e. omega (arith, begin.units) }) in
        omega (arith, (rises encoding text begin.at offset low is.within).line, is.reached.line, begin.lines)

    at_end : line_ends 0 text < position.line → offset ≡ length text
    at_end lt =
        let end_in : length text ≤ offset = is.greatest (length text) (omega arith) (record { line = omega (arith, all, lt); character = λ e. omega (arith, all, lt, e) }) in
        omega (arith, is.within, end_in)
