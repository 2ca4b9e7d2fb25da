-- What stands before a byte, and before the next one.
use Rattle.std.proofs.Common.{◌≡◌, ℕ, zero, suc, ◌+◌, ◌*◌, ◌≤◌, ◌<◌, Bool, true, false, List, [], ◌∷◌, ◌++◌, length, get_or, take, refl, sym, ap, ◌∙◌, arith}
use Rattle.std.specs.Prelude.{cond, if◌then◌else◌, nat_le, ◌&&◌, ◌==◌}
use Rattle.std.proofs.Math.Seq.{take-suc}
use Rattle.std.proofs.lemmas.List.Sums.{sum_by_push}
use Rattle.jn_base.specs.Place.{is_line_end, ends_line, is_continuation, line_ends, last_line, characters}
use Rattle.jn_diag.specs.Sweep.{IsPosition, byte_before, stepped}
use Rattle.jn_diag.specs.declared.sweep.Position as sweep
use Rattle.jn_diag.proofs.Sweeping.{line_anew, line_longer, step_is}
use Rattle.jn_lsp_text.specs.Positions.{IsUpTo, units, units_begun}
use Rattle.jn_lsp_text.specs.Counting.{counted, with, is_beyond}
use Rattle.jn_lsp_text.specs.declared.counting.Counted.{Counted}
use Rattle.jn_lsp_text.specs.declared.encoding.Encoding.{Encoding}
use Rattle.jn_lsp_text.specs.declared.encoding.Encoding.TheVariants.{Utf16, Utf8}
use Rattle.jn_lsp_text.specs.declared.position.Position.{Position}

taken : (text : List ℕ) (at : ℕ) → at < length text → take (at + 1) text ≡ take at text ++ get_or text at 0 ∷ []
taken text at lt = ap (λ n. take n text) (plain_suc at) ∙ take-suc text at 0 lt
  where
    plain_suc : (n : ℕ) → n + 1 ≡ suc n
    plain_suc n = omega arith

lines_more : (text : List ℕ) (at : ℕ) → at < length text → line_ends 0 (take (at + 1) text) ≡ line_ends 0 (take at text) + cond (ends_line (byte_before text at) (get_or text at 0)) 1 0
lines_more text at lt = omega (arith, step.line)
  where
    start : sweep.Position
    start = record { before = at; line = 1 + line_ends 0 (take at text); column = 1 + characters (last_line (take at text)) }

    start_is : IsPosition text start
    start_is = record { within = omega (arith, lt); line = refl; column = refl }

    step : IsPosition text (stepped start (byte_before text at) (get_or text at 0))
    step = step_is text start (byte_before text at) (get_or text at 0) start_is lt refl refl

units_more : (encoding : Encoding) (text : List ℕ) (at : ℕ) → at < length text → units encoding (last_line (take (at + 1) text)) ≡ cond (is_line_end (get_or text at 0)) 0 (units encoding (last_line (take at text)) + units_begun encoding (get_or text at 0))
units_more encoding text at lt = ap (λ xs. units encoding (last_line xs)) (taken text at lt) ∙ by_cases (is_line_end byte) refl
  where
    byte : ℕ
    byte = get_or text at 0

    by_cases : (b : Bool) → is_line_end byte ≡ b → units encoding (last_line (take at text ++ byte ∷ [])) ≡ cond b 0 (units encoding (last_line (take at text)) + units_begun encoding byte)
    by_cases true e = ap (units encoding) (line_anew (take at text) byte e)
    by_cases false e = ap (units encoding) (line_longer (take at text) byte e) ∙ sum_by_push (units_begun encoding) (last_line (take at text)) byte

before_more : (text : List ℕ) (at : ℕ) → byte_before text (at + 1) ≡ get_or text at 0
before_more text at = ap (byte_before text) (plain_suc at)
  where
    plain_suc : (n : ℕ) → n + 1 ≡ suc n
    plain_suc n = omega arith

-- before the first byte nothing is
pub counted_start : (encoding : Encoding) (text : List ℕ) → counted encoding text 0 ≡ record { previous = 0; lines = 0; units = 0 }
counted_start encoding [] = refl
counted_start encoding (byte ∷ rest) = refl

-- a byte more is counted
pub counted_more : (encoding : Encoding) (text : List ℕ) (at : ℕ) → at < length text → counted encoding text (at + 1) ≡ with encoding (counted encoding text at) (get_or text at 0)
counted_more encoding text at lt = rw (before_more text at) (rw (lines_more text at lt) (rw (units_more encoding text at lt) refl))

pub next_counted : (encoding : Encoding) (text : List ℕ) (at : ℕ) (before after : Counted) → at < length text → before ≡ counted encoding text at → after ≡ with encoding before (get_or text at 0) → after ≡ counted encoding text (at + 1)
next_counted encoding text at before after lt is more = more ∙ ap (λ c. with encoding c (get_or text at 0)) is ∙ sym (counted_more encoding text at lt)

-- no more lines than bytes, and no more than twice as many units
pub few : (encoding : Encoding) (before after : Counted) (byte i : ℕ) → after ≡ with encoding before byte → before.lines ≤ i → before.units ≤ 2 * i → (after.lines ≤ i + 1) × (after.units ≤ 2 * (i + 1))
few encoding before after byte i is lines units = rw is (few_lines (ends_line before.previous byte), few_units (is_line_end byte))
  where
    few_lines : (b : Bool) → before.lines + cond b 1 0 ≤ i + 1
    few_lines true = omega (arith, lines)
    few_lines false = omega (arith, lines)

    begun : (a b : Bool) → (if a then 0 else if b then 2 else 1) ≤ 2
    begun true b = omega arith
    begun false true = omega arith
    begun false false = omega arith

    at_most : (e : Encoding) → units_begun e byte ≤ 2
    at_most Utf16 = begun (is_continuation byte) (nat_le 240 byte)
    at_most Utf8 = omega arith

    few_units : (b : Bool) → cond b 0 (before.units + units_begun encoding byte) ≤ 2 * (i + 1)
    few_units true = omega arith
    few_units false = omega (arith, units, at_most encoding)

-- the position of what was counted
abbrev pub counted_position : Counted → Position
counted_position before = record { line = before.lines; character = before.units }

pub beyond : (before : Counted) (position : Position) → is_beyond before position ≡ true → IsUpTo (counted_position before) position → ⊥
beyond before position is up = grind (arith, is, up.line, up.character)

pub not_beyond : (before : Counted) (position : Position) → is_beyond before position ≡ false → IsUpTo (counted_position before) position
not_beyond before position is = record { line = grind (arith, is); character = λ e. grind (arith, is, e) }

pub up_to_trans : (one other third : Position) → IsUpTo one other → IsUpTo other third → IsUpTo one third
up_to_trans one other third a b = record {
  line = omega (arith, a.line, b.line);
  character = λ e.
      let here : one.line ≡ other.line = omega (arith, a.line, b.line, e) in
      let there : other.line ≡ third.line = omega (arith, a.line, b.line, e) in
      omega (arith, a.character here, b.character there);
}

pub up_to_same : (one : Position) → IsUpTo one one
up_to_same one = record { line = omega arith; character = λ e. omega arith }

-- after a carriage return the line is empty
pub no_units : (encoding : Encoding) (text : List ℕ) (at : ℕ) → at ≤ length text → byte_before text at ≡ 13 → units encoding (last_line (take at text)) ≡ 0
no_units encoding text zero le is = omega (arith, is)
no_units encoding text (suc at) le is = ap (λ xs. units encoding (last_line xs)) (take-suc text at 0 (omega (arith, le))) ∙ ap (units encoding) (line_anew (take at text) (get_or text at 0) (rw is refl))

-- a byte more goes on
pub forward : (encoding : Encoding) (before : Counted) (byte : ℕ) → (before.previous ≡ 13 → before.units ≡ 0) → IsUpTo (counted_position before) (counted_position (with encoding before byte))
forward encoding before byte anew = record { line = grind arith; character = λ e. grind (arith, e, anew) }

-- a byte that begins a unit does, but for the LF of CR LF
pub advances : (encoding : Encoding) (before : Counted) (byte : ℕ) → 1 ≤ units_begun encoding byte → (before.previous == 13 && byte == 10) ≡ false → IsUpTo (counted_position (with encoding before byte)) (counted_position before) → ⊥
advances encoding before byte begins whole up = grind (arith, begins, whole, up.line, up.character)
