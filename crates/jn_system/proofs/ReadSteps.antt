-- Words that lists of slots name.
use Rattle.std.proofs.Common.{◌≡◌, ℕ, ◌+◌, ◌/◌, ◌<◌, Bool, true, false, ◌||◌, eqb, List, [], ◌∷◌, ◌++◌, length, drop, Option, Some, refl, sym, ap, ◌∙◌}
use Rattle.std.specs.Prelude.{slice_index_or}
use Rattle.std.proofs.lemmas.List.{at_drop_more}
use Rattle.jn_base.specs.declared.number.SlotNo.{SlotNo}
use Rattle.jn_points.specs.declared.point.Point.{Point}
use Rattle.jn_points.specs.declared.program.Program.{Program}
use Rattle.jn_points.specs.Lookup.{method_at}
use Rattle.jn_inference_law.specs.Reading.{slot_list, slot_lists, given_reads, methods_reads, has_word, kind_reads, points_reads}

or_next : (a b c : Bool) → (a || (b || c)) ≡ ((a || b) || c)
or_next true b c = refl
or_next false b c = refl

pub has_word-append : (w : ℕ) (xs ys : List ℕ) → has_word w (xs ++ ys) ≡ (has_word w xs || has_word w ys)
has_word-append w [] ys = refl
has_word-append w (x ∷ xs) ys = ap (λ (t : Bool). eqb (x / 21) w || t) (has_word-append w xs ys) ∙ or_next (eqb (x / 21) w) (has_word w xs) (has_word w ys)

pub one_slot : (w : ℕ) (slot : SlotNo) → has_word w (slot_list (Some slot)) ≡ eqb (slot.0 / 21) w
one_slot w slot = or_none (eqb (slot.0 / 21) w)
  where
    or_none : (a : Bool) → (a || false) ≡ a
    or_none true = refl
    or_none false = refl

more_of : (w : ℕ) (now rest left : List ℕ) (some more all : Bool) → more ≡ (some || has_word w now) → has_word w left ≡ has_word w (now ++ rest) → (some || has_word w left) ≡ all → (more || has_word w rest) ≡ all
more_of w now rest left some more all e is h =
    ap (λ (t : Bool). t || has_word w rest) e
    ∙ sym (or_next some (has_word w now) (has_word w rest))
    ∙ ap (λ (t : Bool). some || t) (sym (is ∙ has_word-append w now rest))
    ∙ h

-- one slot more, and one point more
pub slots_more : (w : ℕ) (xs : List (Option SlotNo)) (i : ℕ) (d : Option SlotNo) (some more all : Bool) → i < length xs → more ≡ (some || has_word w (slot_list (slice_index_or xs i d))) → (some || has_word w (slot_lists (drop i xs))) ≡ all → (more || has_word w (slot_lists (drop (i + 1) xs))) ≡ all
slots_more w xs i d some more all lt e h = more_of w (slot_list (slice_index_or xs i d)) (slot_lists (drop (i + 1) xs)) (slot_lists (drop i xs)) some more all e (at_drop_more (λ ys. has_word w (slot_lists ys)) xs i d lt) h

pub points_more : (P : Program) (w : ℕ) (pts : List Point) (i : ℕ) (d : Point) (some more all : Bool) → i < length pts → more ≡ (some || has_word w (kind_reads P (slice_index_or pts i d).kind)) → (some || has_word w (points_reads P (drop i pts))) ≡ all → (more || has_word w (points_reads P (drop (i + 1) pts))) ≡ all
points_more P w pts i d some more all lt e h = more_of w (kind_reads P (slice_index_or pts i d).kind) (points_reads P (drop (i + 1) pts)) (points_reads P (drop i pts)) some more all e (at_drop_more (λ ys. has_word w (points_reads P ys)) pts i d lt) h

-- one method more
pub methods_more : (P : Program) (w : ℕ) (ks : List ℕ) (i d : ℕ) (some more all : Bool) → i < length ks → more ≡ (some || has_word w (given_reads (method_at P (slice_index_or ks i d)))) → (some || has_word w (methods_reads P (drop i ks))) ≡ all → (more || has_word w (methods_reads P (drop (i + 1) ks))) ≡ all
methods_more P w ks i d some more all lt e h = more_of w (given_reads (method_at P (slice_index_or ks i d))) (methods_reads P (drop (i + 1) ks)) (methods_reads P (drop i ks)) some more all e (at_drop_more (λ ys. has_word w (methods_reads P ys)) ks i d lt) h
