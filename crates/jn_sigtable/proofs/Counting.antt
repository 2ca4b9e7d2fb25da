-- How the number of bodies taken, marks owed and dirty bits grows.
use Rattle.std.proofs.Common.{◌≡◌, ◌≢◌, ◌⊎◌, ℕ, zero, suc, ◌+◌, ◌-◌, ◌*◌, ◌/◌, ◌%◌, ◌^◌, ◌<◌, ◌≤◌, ◌==◌, ◌&&◌, cond, not, Bool, true, false, List, [], ◌∷◌, ◌++◌, length, set, get_or, filter, Some, None, Option, if◌then◌else◌, sum_by, sym, refl, ap, ◌∙◌, subst, inl, ⊎_elim, arith, bit_or, true≢false, eq-eqb, ne_eqb, mul-le-mul_left, mul-add, length-append}
use mathlib.Core.Option.{some, some-injective, some-ne-none}
use mathlib.Core.Logic.{dite}
use native.Mathlib.Decide.{ℕ_discrete, dec_le}
use lib.ListN.{get_elem?}
use Rattle.std.specs.Prelude.{slice_index}
use Rattle.std.specs.Int.{bit_at}
use Rattle.std.specs.List.{range_with_len}
use Rattle.std.proofs.lemmas.Bool.{eqb-true}
use Rattle.std.proofs.lemmas.List.Sums.{sum_by-set, sum_by-cons, length-filter, count_by-le-length, sum_by-le-sum_by}
use Rattle.std.proofs.lemmas.List.FromFn.{length-range_with_len}
use Rattle.std.proofs.lemmas.Nat.Bits.{bit_at-lt, bit_at_or, same_from_bits_below}
use Rattle.atomic_table.specs.Table.{State}
use Rattle.jn_sigtable.specs.declared.view.View.{View}
use Rattle.jn_sigtable.specs.declared.view.Setting.{Setting}
use Rattle.jn_sigtable.specs.System.{System, Within, Covers, least, limit_of, risen, ones_below, ones_in}
use Rattle.jn_sigtable.specs.Machine.{start_of, Has, has, Holds, MayMark, IsBounded, IsCounted, IsLive, dirty_below, held, taken_in, is_marked, own_marked, own_owed, bodies_where}
use Rattle.jn_sigtable.proofs.Frames.{at_below, get_of, each_set}
use Rattle.jn_sigtable.proofs.Keeping.{has_filter, has_left, has_right, list_any_has, both_true}
use Rattle.jn_sigtable.proofs.LeastWords.{ones_le, ones_same, ones_in_le}

-- ---- bits above the start
pub ones_in_as : (n : ℕ) (xs ys : List ℕ) → ((u : ℕ) → u < n → slice_index xs u ≡ slice_index ys u) → ones_in n xs ≡ ones_in n ys
unfolding ones_in
ones_in_as zero xs ys h = refl
ones_in_as (suc n) xs ys h = let p = ones_in_as n xs ys (λ u less. h u (omega arith)) in let q : ones_below 64 (slice_index xs n) ≡ ones_below 64 (slice_index ys n) = ap (ones_below 64) (h n (omega arith)) in omega arith

ones_more : (a b : ℕ) → a < 2 ^ 64 → b < 2 ^ 64 → Within a b → b ≢ a → ones_below 64 a < ones_below 64 b
ones_more a b small small' h ne =
    dite (dec_le (ones_below 64 b) (ones_below 64 a))
    (λ le. absurd (ne (sym (same_from_bits_below 64 a b small small' (λ i less. ones_same 64 a b h le i less)))))
    (λ more. omega arith)

ones_in_more : (n i : ℕ) (xs ys : List ℕ) → i < n → Covers n xs ys → ones_below 64 (slice_index xs i) < ones_below 64 (slice_index ys i) → ones_in n xs < ones_in n ys
unfolding ones_in
ones_in_more zero i xs ys inside h more = absurd (omega arith)
ones_in_more (suc n) i xs ys inside h more =
    dite (ℕ_discrete i n)
    (λ e. let p = ones_in_le n xs ys (λ u less. h u (omega arith)) in
    let q : ones_below 64 (slice_index xs n) < ones_below 64 (slice_index ys n) = subst (λ (x : ℕ). ones_below 64 (slice_index xs x) < ones_below 64 (slice_index ys x)) e more in omega arith)
    (λ ne. let p = ones_in_more n i xs ys (omega arith) (λ u less. h u (omega arith)) more in let q = ones_le 64 (slice_index xs n) (slice_index ys n) (h n (omega arith)) in omega arith)

-- a word that rises by a new bit
pub risen_more : (sys : System) (start words after : List ℕ) (i : ℕ) → i < sys.words → Covers sys.words start words → Covers sys.words words after
    → slice_index words i < 2 ^ 64 → slice_index after i < 2 ^ 64 → slice_index after i ≢ slice_index words i → risen sys start words + 1 ≤ risen sys start after
risen_more sys start words after i inside above rises small small' new =
    let p = ones_in_more sys.words i words after inside rises (ones_more (slice_index words i) (slice_index after i) small small' (rises i inside) new) in
    let q = ones_in_le sys.words start words above in
    omega arith

pub risen_le : (sys : System) (start words after : List ℕ) → Covers sys.words words after → risen sys start words ≤ risen sys start after
risen_le sys start words after rises = let p = ones_in_le sys.words words after rises in omega arith

-- ---- dirty bits
abbrev pub dirt : System → List ℕ → ℕ → ℕ
dirt sys words b = bit_at (slice_index words (sys.words + b / 64)) (b % 64)

pub dirty_most : (sys : System) (words : List ℕ) (n : ℕ) → dirty_below sys words n ≤ n
unfolding dirty_below
dirty_most sys words zero = omega arith
dirty_most sys words (suc n) = let p = dirty_most sys words n in let q = bit_at-lt (slice_index words (sys.words + n / 64)) (n % 64) in omega arith

pub dirty_as : (sys : System) (words after : List ℕ) (n : ℕ) → ((d : ℕ) → dirt sys after d ≡ dirt sys words d) → dirty_below sys after n ≡ dirty_below sys words n
unfolding dirty_below
dirty_as sys words after zero h = refl
dirty_as sys words after (suc n) h = let p = dirty_as sys words after n h in let q = h n in omega arith

-- one body's bit is changed
module _ (sys : System) (words after : List ℕ) (b : ℕ) (others : (d : ℕ) → d ≢ b → dirt sys after d ≡ dirt sys words d) where
  dirty_before : (n : ℕ) → n ≤ b → dirty_below sys after n ≡ dirty_below sys words n
  unfolding dirty_below
  dirty_before zero le = refl
  dirty_before (suc n) le = let p = dirty_before n (omega arith) in let q = others n (λ e. absurd (omega arith)) in omega arith

  pub dirty_one : (n : ℕ) → b < n → dirty_below sys after n + dirt sys words b ≡ dirty_below sys words n + dirt sys after b
  unfolding dirty_below
  dirty_one zero less = absurd (omega arith)
  dirty_one (suc n) less =
      dite (ℕ_discrete b n)
      (λ e. let p = dirty_before n (omega arith) in
      let q : dirt sys after b ≡ dirt sys after n = ap (dirt sys after) e in
      let r : dirt sys words b ≡ dirt sys words n = ap (dirt sys words) e in
      omega arith)
      (λ ne. let p = dirty_one n (omega arith) in let q = others n (λ e. absurd (omega arith)) in omega arith)

-- ---- how many bodies a test takes
abbrev one_if : Bool → ℕ
one_if true = 1
one_if false = 0

unfoldable pub count_below : (ℕ → Bool) → ℕ → ℕ
count_below t zero = 0
count_below t (suc n) = count_below t n + one_if (t n)

one_none : (t : Bool) → (t ≡ true → ⊥) → one_if t ≡ 0
one_none true f = absurd (f refl)
one_none false f = refl

none_taken : (t : ℕ → Bool) (n : ℕ) → ((b : ℕ) → t b ≡ true → ⊥) → count_below t n ≡ 0
unfolding count_below
none_taken t zero f = refl
none_taken t (suc n) f = let p = none_taken t n f in let q = one_none (t n) (f n) in omega arith

abbrev but : (ℕ → Bool) → ℕ → ℕ → Bool
but t y b = t b && not (b == y)

but_other : (x same : Bool) → same ≡ false → one_if (x && not same) ≡ one_if x
but_other true true e = absurd (true≢false e)
but_other true false e = refl
but_other false same e = refl

one_most : (x : Bool) → one_if x ≤ 1
one_most true = omega arith
one_most false = omega arith

but_before : (t : ℕ → Bool) (y n : ℕ) → n ≤ y → count_below (but t y) n ≡ count_below t n
unfolding count_below
but_before t y zero le = refl
but_before t y (suc n) le = let p = but_before t y n (omega arith) in let q = but_other (t n) (n == y) (ne_eqb n y (λ e. absurd (omega arith))) in omega arith

but_one : (t : ℕ → Bool) (y n : ℕ) → count_below t n ≤ count_below (but t y) n + 1
unfolding count_below
but_one t y zero = omega arith
but_one t y (suc n) =
    dite (ℕ_discrete n y)
    (λ e. let p = but_before t y n (omega arith) in let q = one_most (t n) in omega arith)
    (λ ne. let p = but_one t y n in let q = but_other (t n) (n == y) (ne_eqb n y ne) in omega arith)

not_false : (x : Bool) → not x ≡ true → x ≡ false
not_false true e = absurd (true≢false (sym e))
not_false false e = refl

-- no more bodies are taken than a list has that has them all
pub few : (t : ℕ → Bool) (xs : List ℕ) (n : ℕ) → ((b : ℕ) → t b ≡ true → Has xs b) → count_below t n ≤ length xs
few t [] n f = let p = none_taken t n f in omega arith
few t (y ∷ ys) n f =
    let p = but_one t y n in
    let q = few (but t y) ys n (λ b e.
    let s = both_true (t b) (not (b == y)) e in
    ⊎_elim (λ is. absurd (true≢false (sym (eq-eqb b y (sym is)) ∙ not_false (b == y) s.1))) (λ r. r) (f b s.0)) in
    omega arith

pub dirty_more : (sys : System) (words after : List ℕ) (t : ℕ → Bool) (n : ℕ) → ((b : ℕ) → dirt sys after b ≤ dirt sys words b + one_if (t b)) → dirty_below sys after n ≤ dirty_below sys words n + count_below t n
unfolding dirty_below count_below
dirty_more sys words after t zero f = omega arith
dirty_more sys words after t (suc n) f = let p = dirty_more sys words after t n f in let q = f n in omega arith

-- ---- marks
bit_or_most : (n ones i : ℕ) → bit_at (bit_or n ones) i ≤ bit_at n i + bit_at ones i
bit_or_most n ones i = let p = bit_at_or n ones i in omega arith

bit_is : (x : ℕ) (t : Bool) → x < 2 → (x == 1) ≡ t → x ≡ one_if t
bit_is x true less e = eqb-true x 1 e
bit_is x false less e = dite (ℕ_discrete x 1) (λ one. absurd (true≢false (sym (eq-eqb x 1 one) ∙ e))) (λ ne. omega arith)

both_is : (s t : Bool) → s ≡ true → one_if (s && t) ≡ one_if t
both_is true t e = refl
both_is false t e = absurd (true≢false (sym e))

-- a mark sets no other bits than its own
pub marked_more : (n ones d e x y : ℕ) → (e / 64 ≡ d → (x ≡ bit_or n ones) × (y ≡ n)) → (e / 64 ≢ d → x ≡ y) → bit_at x (e % 64) ≤ bit_at y (e % 64) + one_if (is_marked d ones e)
marked_more n ones d e x y here apart =
    dite (ℕ_discrete (e / 64) d)
    (λ at. let p = here at in
    let q = bit_or_most n ones (e % 64) in
    let r : bit_at ones (e % 64) ≡ one_if (bit_at ones (e % 64) == 1) = bit_is (bit_at ones (e % 64)) (bit_at ones (e % 64) == 1) (bit_at-lt ones (e % 64)) refl in
    let t : one_if (is_marked d ones e) ≡ one_if (bit_at ones (e % 64) == 1) = both_is (e / 64 == d) (bit_at ones (e % 64) == 1) (eq-eqb (e / 64) d at) in
    let u : bit_at x (e % 64) ≡ bit_at (bit_or n ones) (e % 64) = ap (λ (z : ℕ). bit_at z (e % 64)) p.0 in
    let v : bit_at y (e % 64) ≡ bit_at n (e % 64) = ap (λ (z : ℕ). bit_at z (e % 64)) p.1 in
    omega arith)
    (λ ne. let u : bit_at x (e % 64) ≡ bit_at y (e % 64) = ap (λ (z : ℕ). bit_at z (e % 64)) (apart ne) in omega arith)

split_cond : (t : Bool) (x : ℕ) (xs ys : List ℕ) → length (cond t (x ∷ xs) xs) + length (cond (not t) (x ∷ ys) ys) ≡ suc (length xs + length ys)
split_cond true x xs ys = omega arith
split_cond false x xs ys = omega arith

split_filter : (p : ℕ → Bool) (xs : List ℕ) → length (filter p xs) + length (filter (λ b. not (p b)) xs) ≡ length xs
split_filter p [] = refl
split_filter p (x ∷ xs) = split_cond (p x) x (filter p xs) (filter (λ b. not (p b)) xs) ∙ ap suc (split_filter p xs)

-- ---- one view changes
module _ {C : Type 0} where
  held_set : (views : List (View C)) (id : ℕ) (v w : View C) → get_elem? views id ≡ some v → sum_by held (set views id w) + held v ≡ sum_by held views + held w
  held_set views id v w at =
      let p = sum_by-set held views id w v (at_below views id v at) in
      let q : held (get_or views id v) ≡ held v = ap held (get_of views id v at) in
      omega arith

  pub counted_set : (sys : System) (start words after : List ℕ) (views : List (View C)) (id : ℕ) (v w : View C) → get_elem? views id ≡ some v → IsCounted sys start words views
      → held w + dirty_below sys after sys.bodies + sys.bodies * risen sys start words ≤ held v + dirty_below sys words sys.bodies + sys.bodies * risen sys start after
      → ((b : ℕ) → w.body ≡ Some b → 0 < w.taken) → IsCounted sys start after (set views id w)
  counted_set sys start words after views id v w at h grows runs = record {
    most = let p = held_set views id v w at in let q = h.most in omega arith;
    runs = each_set (λ u. IsLive u → (b : ℕ) → u.body ≡ Some b → 0 < u.taken) (λ u. IsLive u → (b : ℕ) → u.body ≡ Some b → 0 < u.taken) views id w h.runs (λ u e. e) (λ _. runs);
  }

  pub part_of : (f : View C → ℕ) (views : List (View C)) (i : ℕ) (v : View C) → get_elem? views i ≡ some v → f v ≤ sum_by f views
  part_of f [] i v at = absurd (some-ne-none v (sym at))
  part_of f (x ∷ xs) zero v at = let p = sum_by-cons f x xs in let q : f x ≡ f v = ap f (some-injective x v at) in omega arith
  part_of f (x ∷ xs) (suc i) v at = let p = sum_by-cons f x xs in let q = part_of f xs i v at in omega arith

  -- all passes have taken no more than the limit
  pub all_within : (sys : System) (start words : List ℕ) (views : List (View C)) → IsCounted sys start words views → Covers sys.words words (least sys start) → sum_by taken_in views ≤ limit_of sys start
  all_within sys start words views h below =
      let p = sum_by-le-sum_by taken_in held views (λ v. omega arith) in
      let q = h.most in
      let r : sys.bodies * risen sys start words ≤ sys.bodies * risen sys start (least sys start) = mul-le-mul_left sys.bodies (risen_le sys start words (least sys start) below) in
      let t : sys.bodies * (1 + risen sys start (least sys start)) ≡ sys.bodies * 1 + sys.bodies * risen sys start (least sys start) = mul-add sys.bodies 1 (risen sys start (least sys start)) in
      omega arith

  -- no pass has taken more than the limit
  within_limit : (sys : System) (start words : List ℕ) (views : List (View C)) (i : ℕ) (v : View C) → get_elem? views i ≡ some v → IsCounted sys start words views → Covers sys.words words (least sys start) → v.taken ≤ limit_of sys start
  within_limit sys start words views i v at h below =
      let p = part_of taken_in views i v at in
      let q = all_within sys start words views h below in
      omega arith

-- ---- a mark's view
-- the body, where it is marked and isn't owed that
abbrev own_list : Bool → ℕ → List ℕ
own_list true o = o ∷ []
own_list false o = []

own_in : (p : ℕ → Bool) (owed : List ℕ) (t u : Bool) (o b : ℕ) → p b ≡ true → p o ≡ t → has owed o ≡ u → o ≡ b → Has (filter p owed ++ own_list (t && not u) o) b
own_in p owed true true o b is e f same = has_left (filter p owed) [] b (has_filter p owed b is (subst (Has owed) same (list_any_has owed o f)))
own_in p owed true false o b is e f same = has_right (filter p owed) (o ∷ []) b (inl same)
own_in p owed false u o b is e f same = absurd (true≢false (sym is ∙ (ap p (sym same) ∙ e)))

own_held : (t : Bool) (o taken : ℕ) → 0 < taken → (if t then (taken - 1) else taken) + length (own_list t o) ≡ taken
own_held true o taken some_taken = omega arith
own_held false o taken some_taken = omega arith

some_is : (b d : ℕ) → Some b ≡ Some d → b ≡ d
some_is b d e = cc

none_some : (d : ℕ) → None ≡ Some d → ⊥
none_some d e = cc

held_after : (p : ℕ → Bool) (owed : List ℕ) (taken n : ℕ) (body : Option ℕ) (own : Bool) (in_owed : Bool) → ((b : ℕ) → p b ≡ true → Has owed b ⊎ (body ≡ Some b)) → ((b : ℕ) → body ≡ Some b → 0 < taken)
    → ((o : ℕ) → body ≡ Some o → (p o ≡ own) × (has owed o ≡ in_owed)) → (body ≡ None → own ≡ false)
    → (if own && not in_owed then (taken - 1) else taken) + length (filter (λ b. not (p b)) owed) + count_below p n ≤ taken + length owed
held_after p owed taken n None own in_owed due runs at_own at_none =
    let f = few p (filter p owed) n (λ b is. ⊎_elim (λ o. has_filter p owed b is o) (λ e. absurd (none_some b e)) (due b is)) in
    let s = split_filter p owed in
    let t : (if own && not in_owed then (taken - 1) else taken) ≡ taken = ap (λ (x : Bool). if x && not in_owed then (taken - 1) else taken) (at_none refl) in
    omega arith
held_after p owed taken n (Some o) own in_owed due runs at_own at_none =
    let e = at_own o refl in
    let f = few p (filter p owed ++ own_list (own && not in_owed) o) n (λ b is.
    ⊎_elim (λ has'. has_left (filter p owed) _ b (has_filter p owed b is has')) (λ same. own_in p owed own in_owed o b is e.0 e.1 (some_is o b same)) (due b is)) in
    let s = split_filter p owed in
    let l = length-append (filter p owed) (own_list (own && not in_owed) o) in
    let t = own_held (own && not in_owed) o taken (runs o refl) in
    omega arith

own_here : (d ones : ℕ) (body : Option ℕ) (o : ℕ) → body ≡ Some o → is_marked d ones o ≡ own_marked body d ones
own_here d ones None o e = absurd (none_some o e)
own_here d ones (Some b) o e = ap (is_marked d ones) (sym (some_is b o e))

owed_here : (owed : List ℕ) (body : Option ℕ) (o : ℕ) → body ≡ Some o → has owed o ≡ own_owed body owed
owed_here owed None o e = absurd (none_some o e)
owed_here owed (Some b) o e = ap (has owed) (sym (some_is b o e))

own_none : (d ones : ℕ) (body : Option ℕ) → body ≡ None → own_marked body d ones ≡ false
own_none d ones None e = refl
own_none d ones (Some b) e = absurd (none_some b (sym e))

module _ {C : Type 0} (v : View C) (d ones : ℕ) where
  -- what it sets it held
  pub marks_held : (n : ℕ) → MayMark v d ones → ((b : ℕ) → v.body ≡ Some b → 0 < v.taken)
      → (if own_marked v.body d ones && not (own_owed v.body v.owed) then (v.taken - 1) else v.taken) + length (filter (λ b. not (is_marked d ones b)) v.owed) + count_below (is_marked d ones) n ≤ held v
  marks_held n due runs =
      held_after (is_marked d ones) v.owed v.taken n v.body (own_marked v.body d ones) (own_owed v.body v.owed) due runs
      (λ o e. (own_here d ones v.body o e, owed_here v.owed v.body o e)) (own_none d ones v.body)

  pub mark_runs : (b : ℕ) → ((e : ℕ) → v.body ≡ Some e → 0 < v.taken) → (if own_marked v.body d ones then None else v.body) ≡ Some b → 0 < (if own_marked v.body d ones && not (own_owed v.body v.owed) then (v.taken - 1) else v.taken)
  mark_runs b runs e = go (own_marked v.body d ones) e
    where
      go : (t : Bool) → (if t then None else v.body) ≡ Some b → 0 < (if t && not (own_owed v.body v.owed) then (v.taken - 1) else v.taken)
      go true e = absurd (none_some b e)
      go false e = runs b e

-- ---- a raise's view
pub bodies_most : (sys : System) (t : ℕ → Bool) → length (bodies_where sys t) ≤ sys.bodies
bodies_most sys t = let p = length-filter t (range_with_len 0 sys.bodies) in let q = count_by-le-length t (range_with_len 0 sys.bodies) in let r = length-range_with_len 0 sys.bodies in omega arith

pub raise_held : (t : Bool) (xs ys : List ℕ) (n before after : ℕ) → length ys ≤ n → before ≤ after → (t ≡ false → before + 1 ≤ after) → length (if t then xs else (xs ++ ys)) + n * before ≤ length xs + n * after
raise_held true xs ys n before after few' le more = let p : n * before ≤ n * after = mul-le-mul_left n le in omega arith
raise_held false xs ys n before after few' le more =
    let p : n * (before + 1) ≤ n * after = mul-le-mul_left n (more refl) in
    let q : n * (before + 1) ≡ n * before + n * 1 = mul-add n before 1 in
    let l = length-append xs ys in
    omega arith

-- a pass has taken no more than all passes may
pub bounded : {C : Type 0} (describe : C → System) (k : Setting C) (s : State ℕ (View C)) (i : ℕ) (v : View C) → Holds describe k s → get_elem? s.views i ≡ some v → IsLive v → IsBounded v
bounded describe k s i v h at live = let p = within_limit (describe k.system) (start_of describe k) s.words s.views i v at h.counted h.below in let q = h.limited i v at live in omega arith
