-- Bits by their places: facts and own fields that are known or assigned.
use Rattle.std.proofs.Common.{◌≡◌, inl, inr, ℕ, zero, suc, ◌+◌, ◌<◌, Bool, true, false, ◌&&◌, ◌||◌, cond, List, [], ◌∷◌, length, map, get_or, refl, sym, ap, ◌∙◌, subst, arith, length-set}
use Rattle.std.specs.Prelude.{eqb, replicate, slice_index_or, slice_set}
use Rattle.std.specs.Int.{w32, to_le_bytes}
use Rattle.std.proofs.lemmas.Bool.{eqb-true}
use Rattle.std.proofs.lemmas.List.{get_or-map, map-set}
use Rattle.jn_points.specs.declared.program.Program.{Program}
use Rattle.jn_points.specs.Members.{below}
use Rattle.jn_env.specs.Keys.{Key, also, fact_keys, is_key, is_on, no_bits, own_keys}
use Rattle.jn_cert_form.specs.Chosen.{among_fields, among_keys, no_key, place_of, places_in, twice, with_ones}
use Rattle.jn_cert_form.specs.Counted.{IsIn}
use Rattle.jn_cert_form.specs.Form.{ascending, key_bytes}
use Rattle.jn_cert_form.specs.Pieces.{Rise, items_at}
use Rattle.jn_cert_form.proofs.Built.{among_fields_is, among_keys_is, none_on_start}
use Rattle.jn_cert_form.proofs.Nearby.{among, field_turned}
use Rattle.jn_cert_form.proofs.OneReading.{Apart, apart_filter, ascending_in, below_apart, distinct_apart, field_self, here_on, key_self, key_turned, later_on, same_field, same_key}

-- the places are those of a list
abbrev Inside : ℕ → List ℕ → Type 0
Inside n [] = Unit {0}
Inside n (i ∷ is) = (i < n) × Inside n is

rise_inside : (from n : ℕ) (is : List ℕ) → Rise from n is → Inside n is
rise_inside from n [] r = tt
rise_inside from n (i ∷ is) r = (r.1, rise_inside (i + 1) n is r.2)

at_in : {K : Type 0} (ks : List K) (i : ℕ) (d : K) → i < length ks → IsIn (get_or ks i d) ks
at_in [] i d lt = absurd (omega (arith, lt))
at_in (k ∷ ks) zero d lt = inl refl
at_in (k ∷ ks) (suc i) d lt = inr (at_in ks i d (omega (arith, lt)))

abbrev set_all : List ℕ → List Bool → List Bool
set_all [] bits = bits
set_all (i ∷ is) bits = set_all is (slice_set bits i true)

or_false : (a : Bool) → a ≡ (a || false)
or_false true = refl
or_false false = refl

or_assoc : (a b c : Bool) → ((a || b) || c) ≡ (a || (b || c))
or_assoc true b c = refl
or_assoc false b c = refl

-- bits along keys that differ
module _ {K : Type 0} (same : K → K → Bool) (self : (k : K) → same k k ≡ true) (turned : (k l : K) → same k l ≡ same l k) where
  -- the bit of a key is that of its place
  on_at : (ks : List K) (bits : List Bool) (i : ℕ) (d : K) → Apart same self ks → length bits ≡ length ks → i < length ks → is_on (same (get_or ks i d)) ks bits ≡ get_or bits i false
  on_at [] bits i d p l lt = absurd (omega (arith, lt))
  on_at (k ∷ ks) [] i d p l lt = absurd (omega (arith, l))
  on_at (k ∷ ks) (b ∷ bits) zero d p l lt = here_on same self k ks b bits (λ x m. (p.0 x m).0)
  on_at (k ∷ ks) (b ∷ bits) (suc i) d p l lt =
      let low : i < length ks = omega (arith, lt) in
      later_on same self (get_or ks i d) k ks b bits (p.0 (get_or ks i d) (at_in ks i d low)).1 ∙ on_at ks bits i d p.1 (omega (arith, l)) low

  -- one more of them is set
  set_on : (x : K) (ks : List K) (bits : List Bool) (i : ℕ) (d : K) → Apart same self ks → length bits ≡ length ks → i < length ks → IsIn x ks → is_on (same x) ks (slice_set bits i true) ≡ (is_on (same x) ks bits || same x (get_or ks i d))
  set_on x [] bits i d p l lt m = absurd m
  set_on x (k ∷ ks) [] i d p l lt m = absurd (omega (arith, l))
  set_on x (k ∷ ks) (b ∷ bits) zero d p l lt (inl e) =
      subst (λ z. is_on (same z) (k ∷ ks) (true ∷ bits) ≡ (is_on (same z) (k ∷ ks) (b ∷ bits) || same z k)) (sym e)
      (here_on same self k ks true bits (λ z j. (p.0 z j).0) ∙ sym (ap (λ t. is_on (same k) (k ∷ ks) (b ∷ bits) || t) (self k) ∙ or_true (is_on (same k) (k ∷ ks) (b ∷ bits))))
    where
      or_true : (a : Bool) → (a || true) ≡ true
      or_true true = refl
      or_true false = refl
  set_on x (k ∷ ks) (b ∷ bits) zero d p l lt (inr m) =
      later_on same self x k ks true bits (p.0 x m).1 ∙ sym (later_on same self x k ks b bits (p.0 x m).1) ∙ or_false (is_on (same x) (k ∷ ks) (b ∷ bits)) ∙ ap (λ t. is_on (same x) (k ∷ ks) (b ∷ bits) || t) (sym (p.0 x m).1)
  set_on x (k ∷ ks) (b ∷ bits) (suc i) d p l lt (inl e) =
      let low : i < length ks = omega (arith, lt) in
      let other : same k (get_or ks i d) ≡ false = (p.0 (get_or ks i d) (at_in ks i d low)).0 in
      subst (λ z. is_on (same z) (k ∷ ks) (b ∷ slice_set bits i true) ≡ (is_on (same z) (k ∷ ks) (b ∷ bits) || same z (get_or ks i d))) (sym e)
      (here_on same self k ks b (slice_set bits i true) (λ z j. (p.0 z j).0) ∙ sym (here_on same self k ks b bits (λ z j. (p.0 z j).0)) ∙ or_false (is_on (same k) (k ∷ ks) (b ∷ bits)) ∙ ap (λ t. is_on (same k) (k ∷ ks) (b ∷ bits) || t) (sym other))
  set_on x (k ∷ ks) (b ∷ bits) (suc i) d p l lt (inr m) =
      later_on same self x k ks b (slice_set bits i true) (p.0 x m).1 ∙ set_on x ks bits i d p.1 (omega (arith, l)) (omega (arith, lt)) m ∙ ap (λ t. t || same x (get_or ks i d)) (sym (later_on same self x k ks b bits (p.0 x m).1))

  all_on : (x : K) (ks : List K) (d : K) (is : List ℕ) (bits : List Bool) → Apart same self ks → length bits ≡ length ks → Inside (length ks) is → IsIn x ks → is_on (same x) ks (set_all is bits) ≡ (is_on (same x) ks bits || among same self turned x (items_at d ks is))
  all_on x ks d [] bits p l h m = or_false (is_on (same x) ks bits)
  all_on x ks d (i ∷ is) bits p l h m =
      all_on x ks d is (slice_set bits i true) p (length-set bits i true ∙ l) h.1 m
      ∙ ap (λ t. t || among same self turned x (items_at d ks is)) (set_on x ks bits i d p l h.0 m)
      ∙ or_assoc (is_on (same x) ks bits) (same x (get_or ks i d)) (among same self turned x (items_at d ks is))

-- numbers of which 1 is a set bit
module _ (test : ℕ → Bool) (zero_is : test 0 ≡ false) (one_is : test 1 ≡ true) where
  ones_set : (is marks : List ℕ) → map test (with_ones is marks) ≡ set_all is (map test marks)
  ones_set [] marks = refl
  ones_set (i ∷ is) marks = ones_set is (slice_set marks i 1) ∙ ap (set_all is) (map-set test marks i 1 ∙ ap (λ b. slice_set (map test marks) i b) one_is)

  zeros_none : {K : Type 0} (ks : List K) → map test (replicate (length ks) 0) ≡ no_bits ks
  zeros_none [] = refl
  zeros_none (k ∷ ks) = let rest = zeros_none ks in (λ i. zero_is i ∷ rest i)

-- along marks that begin with no bit
module _ {K M : Type 0} (test : M → Bool) where
  pub also_marks : (ks : List K) (ms : List M) → length ms ≡ length ks → also test ms (no_bits ks) ≡ map test ms
  also_marks [] [] l = refl
  also_marks [] (m ∷ ms) l = absurd (omega (arith, l))
  also_marks (k ∷ ks) [] l = absurd (omega (arith, l))
  also_marks (k ∷ ks) (m ∷ ms) l = ap (λ bs. test m ∷ bs) (also_marks ks ms (omega (arith, l)))

map_twice : (test : Key → Bool) (ms : List ℕ) → map test (map twice ms) ≡ map (λ m. test (twice m)) ms
map_twice test [] = refl
map_twice test (m ∷ ms) = ap (λ bs. test (twice m) ∷ bs) (map_twice test ms)

pub length-ones : (is marks : List ℕ) → length (with_ones is marks) ≡ length marks
length-ones [] marks = refl
length-ones (i ∷ is) marks = length-ones is (slice_set marks i 1) ∙ length-set marks i 1

length-zeros : (n : ℕ) → length (replicate {A = ℕ} n 0) ≡ n
length-zeros zero = refl
length-zeros (suc n) = ap suc (length-zeros n)

length-mapped : {A B : Type 0} (f : A → B) (xs : List A) → length (map f xs) ≡ length xs
length-mapped f [] = refl
length-mapped f (x ∷ xs) = ap suc (length-mapped f xs)

pub marks_long : (n : ℕ) (is marks : List ℕ) → marks ≡ with_ones is (replicate n 0) → length marks ≡ n
marks_long n is marks e = ap length e ∙ length-ones is (replicate n 0) ∙ length-zeros n

-- the place of a key
same_is : (x k : Key) → is_key x.reg x.field k ≡ true → k ≡ x
same_is x k e = by (eqb k.reg x.reg) (eqb k.field x.field) refl refl e
  where
    by : (a b : Bool) → eqb k.reg x.reg ≡ a → eqb k.field x.field ≡ b → (a && b) ≡ true → k ≡ x
    by true true p q h =
        let r = eqb-true k.reg x.reg p in
        let f = eqb-true k.field x.field q in
        (λ i. record { reg = r i; field = f i })
    by true false p q h = cc
    by false b p q h = cc

place_found : (keys : List Key) (x : Key) → IsIn x keys → (place_of x keys < length keys) × (get_or keys (place_of x keys) no_key ≡ x)
place_found [] x m = absurd m
place_found (k ∷ keys) x (inl e) = by (is_key x.reg x.field k) (subst (λ z. is_key z.reg z.field k ≡ true) (sym e) (key_self k))
  where
    by : (t : Bool) → t ≡ true → (cond t 0 (suc (place_of x keys)) < suc (length keys)) × (get_or (k ∷ keys) (cond t 0 (suc (place_of x keys))) no_key ≡ x)
    by true h = (omega arith, sym e)
    by false h = cc
place_found (k ∷ keys) x (inr m) = by (is_key x.reg x.field k) refl (place_found keys x m)
  where
    by : (t : Bool) → is_key x.reg x.field k ≡ t → (place_of x keys < length keys) × (get_or keys (place_of x keys) no_key ≡ x) → (cond t 0 (suc (place_of x keys)) < suc (length keys)) × (get_or (k ∷ keys) (cond t 0 (suc (place_of x keys))) no_key ≡ x)
    by true h r = (omega arith, same_is x k h)
    by false h r = let lt = r.0 in (omega (arith, lt), r.1)

-- the sorted keys at some places are the keys at those places turned
abbrev turned_by : List ℕ → List ℕ → List ℕ
turned_by order is = map (λ i. slice_index_or order i 0) is

order_at : (keys sorted : List Key) (i : ℕ) → i < length sorted → get_or (places_in keys sorted) i 0 ≡ place_of (get_or sorted i no_key) keys
order_at keys sorted i lt = get_or-map (λ x. place_of x keys) sorted i no_key 0 lt

turned_items : (keys sorted : List Key) (is : List ℕ) → ((x : Key) → IsIn x sorted → IsIn x keys) → Inside (length sorted) is → items_at no_key keys (turned_by (places_in keys sorted) is) ≡ items_at no_key sorted is
turned_items keys sorted [] inn h = refl
turned_items keys sorted (i ∷ is) inn h =
    let first = ap (λ n. get_or keys n no_key) (order_at keys sorted i h.0) ∙ (place_found keys (get_or sorted i no_key) (inn _ (at_in sorted i no_key h.0))).1 in
    let rest = turned_items keys sorted is inn h.1 in
    (λ j. first j ∷ rest j)

turned_inside : (keys sorted : List Key) (is : List ℕ) → ((x : Key) → IsIn x sorted → IsIn x keys) → Inside (length sorted) is → Inside (length keys) (turned_by (places_in keys sorted) is)
turned_inside keys sorted [] inn h = tt
turned_inside keys sorted (i ∷ is) inn h = (
  subst (λ n. n < length keys) (sym (order_at keys sorted i h.0)) (place_found keys (get_or sorted i no_key) (inn _ (at_in sorted i no_key h.0))).0,
  turned_inside keys sorted is inn h.1,
)

module _ (P : Program) (b : ℕ) where
  keys_apart : (keys : List Key) → keys ≡ fact_keys P b → Apart same_key key_self keys
  keys_apart keys are = subst (Apart same_key key_self) (sym are) (distinct_apart _)

  own_apart : (own : List ℕ) → own ≡ own_keys P b → Apart same_field field_self own
  own_apart own are = subst (Apart same_field field_self) (sym are) (apart_filter same_field field_self _ (below (length P.fields)) (below_apart (length P.fields)))

  -- a sorted key's fact is the bit at its place
  pub known_at : (keys sorted : List Key) (places : List ℕ) (bits : List Bool) (i place : ℕ) (key : Key) → keys ≡ fact_keys P b → sorted ≡ ascending keys → places ≡ places_in keys sorted → length bits ≡ length keys → i < length sorted → key ≡ get_or sorted i no_key → place ≡ get_or places i 0 → get_or bits place false ≡ is_on (is_key key.reg key.field) keys bits
  known_at keys sorted places bits i place key are order at l lt is here =
      let m : IsIn (get_or sorted i no_key) keys = ascending_in keys (get_or sorted i no_key) (subst (IsIn (get_or sorted i no_key)) order (at_in sorted i no_key lt)) in
      let f = place_found keys (get_or sorted i no_key) m in
      let p : place ≡ place_of (get_or sorted i no_key) keys = here ∙ ap (λ ps. get_or ps i 0) at ∙ order_at keys sorted i lt in
      ap (λ n. get_or bits n false) p
      ∙ sym (on_at same_key key_self key_turned keys bits (place_of (get_or sorted i no_key) keys) no_key (keys_apart keys are) l f.0)
      ∙ ap (λ (k : Key). is_on (is_key k.reg k.field) keys bits) (f.1 ∙ sym is)

  pub assigned_at : (own : List ℕ) (bits : List Bool) (i field : ℕ) → own ≡ own_keys P b → length bits ≡ length own → i < length own → field ≡ get_or own i 0 → get_or bits i false ≡ is_on (λ k. eqb k field) own bits
  assigned_at own bits i field are l lt is = sym (on_at same_field field_self field_turned own bits i 0 (own_apart own are) l lt) ∙ ap (λ f. is_on (λ k. eqb k f) own bits) (sym is)

  -- facts at places of sorted keys are known
  pub facts_marked : (keys sorted : List Key) (order places turns marks : List ℕ) (count : ℕ) (old new : List Bool) → keys ≡ fact_keys P b → sorted ≡ ascending keys → order ≡ places_in keys sorted → Rise 0 (length sorted) places → turns ≡ turned_by order places → count ≡ length keys → marks ≡ with_ones turns (replicate count 0) → old ≡ no_bits keys → new ≡ also (is_key 1 1) (map twice marks) old → (x : Key) → IsIn x keys → is_on (is_key x.reg x.field) keys new ≡ among_keys x (items_at no_key sorted places)
  facts_marked keys sorted order places turns marks count old new are asc at rise turn many mark none e x m =
      let inn : (y : Key) → IsIn y sorted → IsIn y keys = λ y i. ascending_in keys y (subst (IsIn y) asc i) in
      let inside = rise_inside 0 (length sorted) places rise in
      let turns_are : turns ≡ turned_by (places_in keys sorted) places = turn ∙ ap (λ o. turned_by o places) at in
      let marks_are : marks ≡ with_ones turns (replicate (length keys) 0) = mark ∙ ap (λ n. with_ones turns (replicate n 0)) many in
      let long : length (map twice marks) ≡ length keys = length-mapped twice marks ∙ marks_long (length keys) turns marks marks_are in
      let test : ℕ → Bool = λ n. is_key 1 1 (twice n) in
      let bits : new ≡ set_all turns (no_bits keys) =
      e ∙ ap (λ bs. also (is_key 1 1) (map twice marks) bs) none ∙ also_marks (is_key 1 1) keys (map twice marks) long ∙ map_twice (is_key 1 1) marks
      ∙ ap (map test) marks_are ∙ ones_set test refl refl turns (replicate (length keys) 0) ∙ ap (set_all turns) (zeros_none test refl refl keys) in
      ap (λ bs. is_on (is_key x.reg x.field) keys bs) bits
      ∙ all_on same_key key_self key_turned x keys no_key turns (no_bits keys) (keys_apart keys are) (no_long keys) (subst (Inside (length keys)) (sym turns_are) (turned_inside keys sorted places inn inside)) m
      ∙ ap (λ t. t || among same_key key_self key_turned x (items_at no_key keys turns)) (none_on_start (is_key x.reg x.field) keys)
      ∙ sym (among_keys_is x (items_at no_key keys turns))
      ∙ ap (among_keys x) (ap (items_at no_key keys) turns_are ∙ turned_items keys sorted places inn inside)
    where
      no_long : (ks : List Key) → length (no_bits ks) ≡ length ks
      no_long [] = refl
      no_long (k ∷ ks) = ap suc (no_long ks)

  pub fields_marked : (own places marks : List ℕ) (count : ℕ) (old new : List Bool) → own ≡ own_keys P b → Rise 0 (length own) places → count ≡ length own → marks ≡ with_ones places (replicate count 0) → old ≡ no_bits own → new ≡ also (λ k. eqb k 1) marks old → (x : ℕ) → IsIn x own → is_on (λ k. eqb k x) own new ≡ among_fields x (items_at 0 own places)
  fields_marked own places marks count old new are rise many mark none e x m =
      let marks_are : marks ≡ with_ones places (replicate (length own) 0) = mark ∙ ap (λ n. with_ones places (replicate n 0)) many in
      let test : ℕ → Bool = λ n. eqb n 1 in
      let bits : new ≡ set_all places (no_bits own) =
      e ∙ ap (λ bs. also (λ k. eqb k 1) marks bs) none ∙ also_marks test own marks (marks_long (length own) places marks marks_are)
      ∙ ap (map test) marks_are ∙ ones_set test refl refl places (replicate (length own) 0) ∙ ap (set_all places) (zeros_none test refl refl own) in
      ap (λ bs. is_on (λ k. eqb k x) own bs) bits
      ∙ all_on same_field field_self field_turned x own 0 places (no_bits own) (own_apart own are) (no_long own) (rise_inside 0 (length own) places rise) m
      ∙ ap (λ t. t || among same_field field_self field_turned x (items_at 0 own places)) (none_on_start (λ k. eqb k x) own)
      ∙ sym (among_fields_is x (items_at 0 own places))
    where
      no_long : (ks : List ℕ) → length (no_bits ks) ≡ length ks
      no_long [] = refl
      no_long (k ∷ ks) = ap suc (no_long ks)

-- where there are none
pub empty_of : (xs : List ℕ) → length xs ≡ 0 → xs ≡ []
empty_of [] e = refl
empty_of (x ∷ xs) e = absurd (omega (arith, e))

pub none_known : (keys sorted : List Key) (places : List ℕ) (bits : List Bool) → bits ≡ no_bits keys → places ≡ [] → (x : Key) → IsIn x keys → is_on (is_key x.reg x.field) keys bits ≡ among_keys x (items_at no_key sorted places)
none_known keys sorted places bits e none x m = ap (λ bs. is_on (is_key x.reg x.field) keys bs) e ∙ none_on_start (is_key x.reg x.field) keys ∙ sym (ap (λ ps. among_keys x (items_at no_key sorted ps)) none)

pub none_assigned : (own places : List ℕ) (bits : List Bool) → bits ≡ no_bits own → places ≡ [] → (x : ℕ) → IsIn x own → is_on (λ k. eqb k x) own bits ≡ among_fields x (items_at 0 own places)
none_assigned own places bits e none x m = ap (λ bs. is_on (λ k. eqb k x) own bs) e ∙ none_on_start (λ k. eqb k x) own ∙ sym (ap (λ ps. among_fields x (items_at 0 own ps)) none)

-- what is chosen among texts is chosen among keys and fields
pub rise_facts : (sorted ks : List Key) (texts : List (List ℕ)) (is js : List ℕ) → sorted ≡ ks → texts ≡ map key_bytes ks → js ≡ is → Rise 0 (length texts) is → Rise 0 (length sorted) js
rise_facts sorted ks texts is js s e same r = subst (Rise 0 (length sorted)) (sym same) (subst (λ n. Rise 0 n is) (ap length e ∙ length-mapped key_bytes ks ∙ sym (ap length s)) r)

pub rise_fields : (own fs : List ℕ) (texts : List (List ℕ)) (is js : List ℕ) → own ≡ fs → texts ≡ map (to_le_bytes w32) fs → js ≡ is → Rise 0 (length texts) is → Rise 0 (length own) js
rise_fields own fs texts is js s e same r = subst (Rise 0 (length own)) (sym same) (subst (λ n. Rise 0 n is) (ap length e ∙ length-mapped (to_le_bytes w32) fs ∙ sym (ap length s)) r)

-- along the body's keys
pub facts_by : (keys facts : List Key) (mid new : List Bool) (ks : List Key) → keys ≡ facts → new ≡ mid → ((x : Key) → IsIn x keys → is_on (is_key x.reg x.field) keys mid ≡ among_keys x ks) → (x : Key) → IsIn x facts → is_on (is_key x.reg x.field) facts new ≡ among_keys x ks
facts_by keys facts mid new ks are same h x m =
    subst (λ (K : List Key). IsIn x K → is_on (is_key x.reg x.field) K new ≡ among_keys x ks) are
    (λ i. ap (λ bs. is_on (is_key x.reg x.field) keys bs) same ∙ h x i) m

pub fields_by : (own fields : List ℕ) (bits : List Bool) (is : List ℕ) → own ≡ fields → ((x : ℕ) → IsIn x own → is_on (λ k. eqb k x) own bits ≡ among_fields x (items_at 0 own is)) → (x : ℕ) → IsIn x fields → is_on (λ k. eqb k x) fields bits ≡ among_fields x (items_at 0 fields is)
fields_by own fields bits is are h x m =
    subst (λ (K : List ℕ). IsIn x K → is_on (λ k. eqb k x) K bits ≡ among_fields x (items_at 0 K is)) are (λ i. h x i) m
