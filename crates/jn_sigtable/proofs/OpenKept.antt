-- A table begins with every body dirty.
use Rattle.std.proofs.Common.{◌≡◌, ℕ, zero, suc, ◌+◌, ◌-◌, ◌/◌, ◌%◌, ◌<◌, List, [], ◌∷◌, ◌++◌, length, Some, None, sym, refl, ap, ◌∙◌, subst, arith}
use mathlib.Core.Option.{some, some-injective, some-ne-none}
use lib.ListN.{get_elem?}
use Rattle.std.specs.Prelude.{slice_index}
use Rattle.std.specs.Int.{bit_at}
use Rattle.jn_sigtable.specs.declared.view.View.{View}
use Rattle.jn_sigtable.specs.declared.view.Setting.{Setting}
use Rattle.jn_sigtable.specs.System.{System, IsLawful, IsClosed, Within, least, limit_of}
use Rattle.jn_sigtable.specs.Machine.IsCovered.{dirty}
use Rattle.std.proofs.Common.{◌*◌, ◌^◌, take, length-append, get_or-append-add}
use Rattle.std.proofs.lemmas.List.{length-replicate, append_assoc}
use Rattle.std.proofs.lemmas.List.FromFn.{get_or-map-range_with_len, length-map-range_with_len, map-range_with_len_more}
use Rattle.std.proofs.lemmas.Nat.Bits.{bit_at_ones}
use Rattle.atomic_table.specs.Table.{opening}
use Rattle.jn_sigtable.specs.Machine.{start_of, IsBelow, IsDirty, IsLive, Holds, opening_words, first_view, dirty_words, dirty_bits}
use Rattle.std.specs.List.{range_with_len}
use Rattle.std.proofs.Common.{min, map}
use Rattle.jn_sigtable.proofs.Bits.{within_refl, zero_within, place_below}
use Rattle.jn_sigtable.proofs.Counting.{dirty_most}
use Rattle.jn_sigtable.proofs.TakeKept.{at_replicate}
use Rattle.jn_sigtable.proofs.LeastWords.{rounds_more}

at_front : (xs ys : List ℕ) (i : ℕ) → i < length xs → slice_index (xs ++ ys) i ≡ slice_index xs i
at_front [] ys i h = absurd (omega arith)
at_front (x ∷ xs) ys zero h = refl
at_front (x ∷ xs) ys (suc i) h = at_front xs ys i (omega arith)

at_back : (xs ys : List ℕ) (i : ℕ) → slice_index (xs ++ ys) (length xs + i) ≡ slice_index ys i
at_back xs ys i = get_or-append-add xs ys i 0

pub front_is : (n : ℕ) (xs ys : List ℕ) → length xs ≡ n → take n (xs ++ ys) ≡ xs
front_is zero [] ys e = refl
front_is zero (x ∷ xs) ys e = absurd (omega arith)
front_is (suc n) [] ys e = absurd (omega arith)
front_is (suc n) (x ∷ xs) ys e = ap (λ (l : List ℕ). x ∷ l) (front_is n xs ys (omega arith))

pub length_opening : (xs : List ℕ) (f : ℕ → ℕ) (n : ℕ) → length (xs ++ map f (range_with_len 0 n)) ≡ length xs + n
length_opening xs f n = omega (arith, length-append xs (map f (range_with_len 0 n)), length-map-range_with_len f 0 n)

-- one dirty word more
pub one_more : (xs : List ℕ) (f : ℕ → ℕ) (n : ℕ) (before after : List ℕ) → before ≡ xs ++ map f (range_with_len 0 n) → after ≡ before ++ f n ∷ [] → after ≡ xs ++ map f (range_with_len 0 (n + 1))
one_more xs f n before after was is =
    is ∙ (ap (λ (l : List ℕ). l ++ f n ∷ []) was ∙ (append_assoc xs (map f (range_with_len 0 n)) (f n ∷ []) ∙ ap (λ (l : List ℕ). xs ++ l) (sym (map-range_with_len_more f 0 n n (omega arith)))))

none_some : (d : ℕ) → None ≡ Some d → ⊥
none_some d e = cc

module _ {C : Type 0} (describe : C → System) (k : Setting C) (law : IsLawful (describe k.system)) where
  pub opens : (start : List ℕ) → length start ≡ (describe k.system).words → k.words.items ≡ opening_words (describe k.system) start → IsClosed (describe k.system) (least (describe k.system) start)
      → Holds describe k (opening (opening_words (describe k.system) start) [] (first_view describe k))
  opens start size words top =
      let sys : System = describe k.system in
      let v : View C = first_view describe k in
      let ones : List ℕ = map (dirty_bits sys.bodies) (range_with_len 0 (dirty_words sys)) in
      let begin : start_of describe k ≡ start = ap (λ (l : List ℕ). take sys.words l) words ∙ front_is sys.words start ones size in
      let front : (w : ℕ) → w < sys.words → slice_index (start ++ ones) w ≡ slice_index start w = λ w less. at_front start ones w (omega arith) in
      let only : (P : View C → Type 0) → P v → (i : ℕ) (u : View C) → get_elem? (v ∷ []) i ≡ some u → P u = λ P p i u at. one_view P p i u at in
      record {
        count = length_opening start (dirty_bits sys.bodies) (dirty_words sys) ∙ ap (λ (n : ℕ). n + dirty_words sys) size;
        start = λ w less. subst (λ l. Within (slice_index l w) (slice_index (start ++ ones) w)) (sym begin) (subst (Within (slice_index start w)) (sym (front w less)) (within_refl (slice_index start w)));
        below = λ w less. subst (λ x. Within x (slice_index (least sys (start_of describe k)) w)) (sym (front w less)) (subst (λ l. Within (slice_index start w) (slice_index (least sys l) w)) (sym begin) (rounds_more sys law (64 * sys.words) start w less));
        top = subst (λ l. IsClosed sys (least sys l)) (sym begin) top;
        fixed = only (λ u. IsLive u → u.system ≡ k.system) (λ _. refl);
        limited = only (λ u. IsLive u → u.limit ≡ limit_of sys (start_of describe k)) (λ _. refl);
        fits = only (λ u. IsLive u → IsBelow sys (start ++ ones) u) (λ _. record {
          count = length-replicate sys.words 0;
          values = λ u less. subst (λ x. Within x (slice_index (start ++ ones) u)) (sym (at_replicate sys.words u)) (zero_within (slice_index (start ++ ones) u));
          raised = λ u less. zero_within (slice_index (start ++ ones) u);
          inside = λ b e. absurd (none_some b e);
        });
        cover = λ b inside. dirty (is_dirty start b size inside);
        scanned = λ b inside is. (0, v, refl, omega arith, λ has. has);
        shares = λ e fine. let z : e - 0 ≡ e = omega arith in let q : 2 ^ (e - 0) ≡ 2 ^ e = ap (λ (x : ℕ). 2 ^ x) z in omega arith;
        counted = record {
          most = let p = dirty_most sys (start ++ ones) sys.bodies in omega arith;
          runs = only (λ u. IsLive u → (b : ℕ) → u.body ≡ Some b → 0 < u.taken) (λ _ b e. absurd (none_some b e));
        };
      }
    where
      one_view : {v : View C} (P : View C → Type 0) → P v → (i : ℕ) (u : View C) → get_elem? (v ∷ []) i ≡ some u → P u
      one_view {v} P p zero u at = subst P (some-injective v u at) p
      one_view {v} P p (suc i) u at = absurd (some-ne-none u (sym at))

      is_dirty : (start : List ℕ) (b : ℕ) → length start ≡ (describe k.system).words → b < (describe k.system).bodies → IsDirty (describe k.system) (opening_words (describe k.system) start) b
      is_dirty start b size inside =
          let sys : System = describe k.system in
          let ones : List ℕ = map (dirty_bits sys.bodies) (range_with_len 0 (dirty_words sys)) in
          let low : b / 64 < dirty_words sys = omega arith in
          let place : b % 64 < min 64 (sys.bodies - b / 64 * 64) = let p = place_below b in omega arith in
          let there : slice_index (start ++ ones) (sys.words + b / 64) ≡ dirty_bits sys.bodies (b / 64) =
          ap (λ (n : ℕ). slice_index (start ++ ones) (n + b / 64)) (sym size) ∙ (at_back start ones (b / 64) ∙ get_or-map-range_with_len (dirty_bits sys.bodies) 0 (dirty_words sys) (b / 64) (b / 64) 0 low (omega arith)) in
          ap (λ (y : ℕ). bit_at y (b % 64)) there ∙ bit_at_ones (min 64 (sys.bodies - b / 64 * 64)) (b % 64) place
