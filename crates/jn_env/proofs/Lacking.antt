-- Walks along keys that leave out some that don't pass.
use Rattle.std.proofs.Common.{◌≡◌, ℕ, zero, suc, ◌+◌, ◌<◌, ◌≤◌, Bool, true, false, ◌&&◌, ◌||◌, cond, List, [], ◌∷◌, ◌++◌, length, take, drop, map, get_or, refl, sym, ap, ◌∙◌, subst, arith}
use Rattle.std.specs.Prelude.{eqb}
use Rattle.std.proofs.lemmas.Bool.{ne_eqb}
use Rattle.std.proofs.lemmas.List.{get_or-map}
use Rattle.jn_base.specs.declared.number.FieldNo.{FieldNo}
use Rattle.jn_base.specs.declared.number.RegNo.{RegNo}
use Rattle.jn_env.specs.Chained.{Chained, Avoids, Lacks}
use Rattle.jn_env.specs.Code.{picks}
use Rattle.jn_env.specs.declared.bits.Which.{Which}
use Rattle.jn_env.specs.declared.bits.Which.TheVariants.{OfReg, OfField, Exactly}
use Rattle.jn_env.specs.Flat.{written}
use Rattle.jn_env.specs.Keys.{is_on, Key, has_reg, has_key_field, is_key}

module _ {K : Type 0} (test : K → Bool) where
  fewer : (k : K) (keys : List K) (i j : ℕ) → Lacks test (k ∷ keys) i (suc j) → (i' : ℕ) → i ≤ suc i' → Lacks test keys i' j
  fewer k keys i j none i' le n d from to lt = none (suc n) d (omega (arith, le, from)) (omega (arith, to)) (omega (arith, lt))

  other_first : (k : K) (keys : List K) (j : ℕ) → Lacks test (k ∷ keys) 0 (suc j) → test k ≡ false
  other_first k keys j none = none 0 k (omega arith) (omega arith) (omega arith)

  -- what is left out isn't written
  pub written_over : (wanted : Bool) (keys : List K) (bits : List Bool) (i j : ℕ) → i ≤ j → Lacks test keys i j → written test wanted (take i keys) bits ≡ written test wanted (take j keys) bits
  written_over wanted [] bits zero zero le none = refl
  written_over wanted [] bits zero (suc j) le none = refl
  written_over wanted [] bits (suc i) zero le none = absurd (omega (arith, le))
  written_over wanted [] bits (suc i) (suc j) le none = refl
  written_over wanted (k ∷ keys) bits zero zero le none = refl
  written_over wanted (k ∷ keys) [] zero (suc j) le none = refl
  written_over wanted (k ∷ keys) (b ∷ bits) zero (suc j) le none =
      let rest : bits ≡ written test wanted (take j keys) bits = written_over wanted keys bits zero j (omega arith) (fewer k keys 0 j none 0 (omega arith)) in
      ap (λ bs. b ∷ bs) rest ∙ ap (λ t. cond t wanted b ∷ written test wanted (take j keys) bits) (sym (other_first k keys j none))
  written_over wanted (k ∷ keys) bits (suc i) zero le none = absurd (omega (arith, le))
  written_over wanted (k ∷ keys) [] (suc i) (suc j) le none = refl
  written_over wanted (k ∷ keys) (b ∷ bits) (suc i) (suc j) le none = ap (λ bs. cond (test k) wanted b ∷ bs) (written_over wanted keys bits i j (omega (arith, le)) (fewer k keys (suc i) j none i (omega arith)))

  -- nothing is written before the first
  pub written_first : (wanted : Bool) (keys : List K) (old : List Bool) (first j : ℕ) → Lacks test keys 0 j → old ≡ take first old ++ written test wanted (take j keys) (drop first old)
  written_first wanted keys old first j none = both first old ∙ ap (λ bs. take first old ++ bs) (nothing keys (drop first old) ∙ written_over wanted keys (drop first old) 0 j (omega arith) none)
    where
      both : (n : ℕ) (bits : List Bool) → bits ≡ take n bits ++ drop n bits
      both zero bits = refl
      both (suc n) [] = refl
      both (suc n) (b ∷ bits) = ap (λ bs. b ∷ bs) (both n bits)

      nothing : (keys : List K) (bits : List Bool) → bits ≡ written test wanted (take 0 keys) bits
      nothing [] bits = refl
      nothing (k ∷ keys) bits = refl

  pub written_next : (wanted : Bool) (keys : List K) (old now : List Bool) (first i j : ℕ) → i ≤ j → Lacks test keys i j → now ≡ take first old ++ written test wanted (take i keys) (drop first old) → now ≡ take first old ++ written test wanted (take j keys) (drop first old)
  written_next wanted keys old now first i j le none h = h ∙ ap (λ bs. take first old ++ bs) (written_over wanted keys (drop first old) i j le none)

  no_bits_on : (keys : List K) → is_on test keys [] ≡ false
  no_bits_on [] = refl
  no_bits_on (k ∷ keys) = refl

  or_no : (b r : Bool) → ((b && false) || r) ≡ r
  or_no true r = refl
  or_no false r = refl

  -- what is left out isn't found
  pub on_skip : (keys : List K) (bits : List Bool) (i j : ℕ) → i ≤ j → Lacks test keys i j → is_on test (drop j keys) (drop j bits) ≡ is_on test (drop i keys) (drop i bits)
  on_skip [] bits zero zero le none = refl
  on_skip [] bits zero (suc j) le none = refl
  on_skip [] bits (suc i) zero le none = absurd (omega (arith, le))
  on_skip [] bits (suc i) (suc j) le none = refl
  on_skip (k ∷ keys) bits zero zero le none = refl
  on_skip (k ∷ keys) [] zero (suc j) le none = no_bits_on (drop j keys)
  on_skip (k ∷ keys) (b ∷ bits) zero (suc j) le none =
      on_skip keys bits zero j (omega arith) (fewer k keys 0 j none 0 (omega arith)) ∙ sym (or_no b (is_on test keys bits)) ∙ ap (λ t. (b && t) || is_on test keys bits) (sym (other_first k keys j none))
  on_skip (k ∷ keys) bits (suc i) zero le none = absurd (omega (arith, le))
  on_skip (k ∷ keys) [] (suc i) (suc j) le none = no_bits_on (drop j keys) ∙ sym (no_bits_on (drop i keys))
  on_skip (k ∷ keys) (b ∷ bits) (suc i) (suc j) le none = on_skip keys bits i j (omega (arith, le)) (fewer k keys (suc i) j none i (omega arith))

-- what doesn't stand as a number doesn't pass
pub lacks_number : (xs : List ℕ) (x from to : ℕ) → Avoids xs x from to → Lacks (λ k. eqb k x) xs from to
lacks_number xs x from to none i k le lt inside = ne_eqb (get_or xs i k) x (λ e. none i le lt (same xs i k 0 inside ∙ e))
  where
    same : (xs : List ℕ) (i k d : ℕ) → i < length xs → get_or xs i d ≡ get_or xs i k
    same [] i k d lt = absurd (omega (arith, lt))
    same (x ∷ xs) zero k d lt = refl
    same (x ∷ xs) (suc i) k d lt = same xs i k d (omega (arith, lt))

pub lacks_reg : (keys : List Key) (r from to : ℕ) → Avoids (map (λ k. k.reg) keys) r from to → Lacks (has_reg r) keys from to
lacks_reg keys r from to none i k le lt inside = ne_eqb (get_or keys i k).reg r (λ e. none i le lt (get_or-map (λ k. k.reg) keys i k 0 inside ∙ e))

pub lacks_field : (keys : List Key) (f from to : ℕ) → Avoids (map (λ k. k.field) keys) f from to → Lacks (has_key_field f) keys from to
lacks_field keys f from to none i k le lt inside = ne_eqb (get_or keys i k).field f (λ e. none i le lt (get_or-map (λ k. k.field) keys i k 0 inside ∙ e))

pub lacks_key : (keys : List Key) (r f from to : ℕ) → Avoids (map (λ k. k.field) keys) f from to → Lacks (is_key r f) keys from to
lacks_key keys r f from to none i k le lt inside = either (eqb (get_or keys i k).reg r) (eqb (get_or keys i k).field f) (lacks_field keys f from to none i k le lt inside)
  where
    either : (a b : Bool) → b ≡ false → (a && b) ≡ false
    either true b e = e
    either false b e = refl

-- between a place and the next one stands nothing
pub lacks_nothing : {K : Type 0} (test : K → Bool) (keys : List K) (from : ℕ) → Lacks test keys from from
lacks_nothing test keys from i k le lt inside = absurd (omega (arith, le, lt))

-- by what is looked for
module _ (which : Which) (keys : List Key) (from to : ℕ) where
  pub of_reg : (reg : RegNo) → which ≡ OfReg reg → Avoids (map (λ k. k.reg) keys) reg.0 from to → Lacks (picks which) keys from to
  of_reg reg is none = subst (λ w. Lacks (picks w) keys from to) (sym is) (lacks_reg keys reg.0 from to none)

  pub of_field : (field : FieldNo) → which ≡ OfField field → Avoids (map (λ k. k.field) keys) field.0 from to → Lacks (picks which) keys from to
  of_field field is none = subst (λ w. Lacks (picks w) keys from to) (sym is) (lacks_field keys field.0 from to none)

  pub of_both : (reg : RegNo) (field : FieldNo) → which ≡ Exactly reg field → Avoids (map (λ k. k.field) keys) field.0 from to → Lacks (picks which) keys from to
  of_both reg field is none = subst (λ w. Lacks (picks w) keys from to) (sym is) (lacks_key keys reg.0 field.0 from to none)

-- chains are of the keys that a list is
pub chained_as : (number : Key → ℕ) (items keys : List Key) (heads nexts : List ℕ) → items ≡ keys → Chained (map number items) heads nexts → Chained (map number keys) heads nexts
chained_as number items keys heads nexts e are = subst (λ ks. Chained (map number ks) heads nexts) e are

-- the number of the key at a place
pub number_at : (number : Key → ℕ) (keys : List Key) (at n : ℕ) (key : Key) → at < length keys → key ≡ get_or keys at key → n ≡ number key → get_or (map number keys) at 0 ≡ n
number_at number keys at n key lt is number_is = get_or-map number keys at key 0 lt ∙ ap number (sym is) ∙ sym number_is
