-- An environment laid out as bits.
use Rattle.std.proofs.Common.{◌≡◌, ℕ, zero, suc, ◌+◌, ◌*◌, ◌<◌, ◌≤◌, Bool, true, false, not, List, [], ◌∷◌, ◌++◌, length, take, drop, map, get_or, set, replicate, refl, sym, ap, ◌∙◌, subst, arith, length-append, length-set, append_assoc, append-nil}
use Rattle.std.proofs.lemmas.List.{take_at, drop_at, drop-drop, take-append-drop, get_or-append-add, get_or_append_left, get_or-map, length-map, length-replicate, replicate-append-replicate}
use Rattle.jn_quals.specs.Qualifier.{Qualifier}
use Rattle.jn_quals.specs.Order.{no_qual}
use Rattle.jn_quals.proofs.Order.{same_qual}
use Rattle.jn_env.specs.Environment.{Env}
use Rattle.jn_env.specs.Packed.{qual_in, with_qual}
use Rattle.jn_env.specs.Flat.{quals_of, env_of, written, marked}
use Rattle.jn_env.proofs.Weight.{same_env}
use Rattle.jn_env.proofs.Written.{length-marked, written_marked}

abbrev pub quals_flat : List Qualifier → List Bool
quals_flat [] = []
quals_flat (q ∷ qs) = q.null ∷ (q.committed ∷ (q.free ∷ quals_flat qs))

abbrev pub flat : Env → List Bool
flat e = quals_flat e.quals ++ (map not e.facts ++ map not e.assigned)

pub length-quals_flat : (qs : List Qualifier) → length (quals_flat qs) ≡ 3 * length qs
length-quals_flat [] = refl
length-quals_flat (q ∷ qs) = omega (arith, length-quals_flat qs)

pub length-flat : (e : Env) → length (flat e) ≡ 3 * length e.quals + (length e.facts + length e.assigned)
length-flat e =
    let whole = length-append (quals_flat e.quals) (map not e.facts ++ map not e.assigned) in
    let bits = length-append (map not e.facts) (map not e.assigned) in
    let facts : length (map not e.facts) ≡ length e.facts = length-map e.facts not in
    let assigned : length (map not e.assigned) ≡ length e.assigned = length-map e.assigned not in
    omega (arith, whole, bits, facts, assigned, length-quals_flat e.quals)

quals_back : (qs : List Qualifier) (rest : List Bool) → quals_of (length qs) (quals_flat qs ++ rest) ≡ qs
quals_back [] rest = refl
quals_back (q ∷ qs) rest = ap (λ zs. q ∷ zs) (quals_back qs rest)

three_more : (n : ℕ) → 3 * suc n ≡ suc (suc (suc (3 * n)))
three_more n = omega arith

quals_forth : (n : ℕ) (bits : List Bool) → 3 * n ≤ length bits → quals_flat (quals_of n bits) ≡ take (3 * n) bits
quals_forth zero bits le = refl
quals_forth (suc n) [] le = absurd (omega (arith, le))
quals_forth (suc n) (x ∷ []) le = absurd (omega (arith, le))
quals_forth (suc n) (x ∷ (y ∷ [])) le = absurd (omega (arith, le))
quals_forth (suc n) (x ∷ (y ∷ (z ∷ bits))) le = ap (λ zs. x ∷ (y ∷ (z ∷ zs))) (quals_forth n bits (omega (arith, le))) ∙ ap (λ k. take k (x ∷ (y ∷ (z ∷ bits)))) (sym (three_more n))

length-quals_of : (n : ℕ) (bits : List Bool) → 3 * n ≤ length bits → length (quals_of n bits) ≡ n
length-quals_of zero bits le = refl
length-quals_of (suc n) [] le = absurd (omega (arith, le))
length-quals_of (suc n) (x ∷ []) le = absurd (omega (arith, le))
length-quals_of (suc n) (x ∷ (y ∷ [])) le = absurd (omega (arith, le))
length-quals_of (suc n) (x ∷ (y ∷ (z ∷ bits))) le = ap suc (length-quals_of n bits (omega (arith, le)))

not_not : (b : Bool) → not (not b) ≡ b
not_not true = refl
not_not false = refl

each_back : (bits : List Bool) → map not (map not bits) ≡ bits
each_back [] = refl
each_back (b ∷ bits) = ap (λ z. z ∷ map not (map not bits)) (not_not b) ∙ ap (λ bs. b ∷ bs) (each_back bits)

-- so many registers and facts, laid out as these bits
pub record Laid (bits : List Bool) (r f : ℕ) (e : Env) : Type 0 where
  pub is : bits ≡ flat e
  pub quals : length e.quals ≡ r
  pub facts : length e.facts ≡ f

laid_view : (bits : List Bool) (r f : ℕ) → 3 * r + f ≤ length bits → Laid bits r f (env_of bits r f)
laid_view bits r f le =
    let rest = drop (3 * r) bits in
    let quals : quals_flat (quals_of r bits) ≡ take (3 * r) bits = quals_forth r bits (omega (arith, le)) in
    let behind : drop f rest ≡ drop (3 * r + f) bits = drop-drop f (3 * r) bits in
    let bits_back : map not (map not (take f rest)) ++ map not (map not (drop (3 * r + f) bits)) ≡ rest = ap (λ z. z ++ map not (map not (drop (3 * r + f) bits))) (each_back (take f rest)) ∙ ap (λ z. take f rest ++ z) (each_back (drop (3 * r + f) bits) ∙ sym behind) ∙ take-append-drop f rest in
    record {
      is = sym (ap (λ z. z ++ (map not (map not (take f rest)) ++ map not (map not (drop (3 * r + f) bits)))) quals ∙ ap (λ z. take (3 * r) bits ++ z) bits_back ∙ take-append-drop (3 * r) bits);
      quals = length-quals_of r bits (omega (arith, le));
      facts = length-map (take f rest) not ∙ length-front f rest (omega (arith, le, length_rest (3 * r) bits));
    }
  where
    length-front : (n : ℕ) (xs : List Bool) → n ≤ length xs → length (take n xs) ≡ n
    length-front zero xs le = refl
    length-front (suc n) [] le = absurd (omega (arith, le))
    length-front (suc n) (x ∷ xs) le = ap suc (length-front n xs (omega (arith, le)))

    length_rest : (n : ℕ) (xs : List Bool) → length xs ≤ n + length (drop n xs)
    length_rest zero xs = omega arith
    length_rest (suc n) [] = omega arith
    length_rest (suc n) (x ∷ xs) = omega (arith, length_rest n xs)

pub laid : (bits : List Bool) (r f : ℕ) (e : Env) → 3 * r + f ≤ length bits → env_of bits r f ≡ e → Laid bits r f e
laid bits r f e le is = subst (Laid bits r f) is (laid_view bits r f le)

flat_back : (e : Env) (r f : ℕ) → length e.quals ≡ r → length e.facts ≡ f → env_of (flat e) r f ≡ e
flat_back e r f l m =
    let facts = map not e.facts in
    let assigned = map not e.assigned in
    let front : length (quals_flat e.quals) ≡ 3 * r = length-quals_flat e.quals ∙ ap (λ n. 3 * n) l in
    let rest : drop (3 * r) (flat e) ≡ facts ++ assigned = drop_at (quals_flat e.quals) (facts ++ assigned) (3 * r) front in
    let long : length facts ≡ f = length-map e.facts not ∙ m in
    same_env _ e
    (ap (λ n. quals_of n (flat e)) (sym l) ∙ quals_back e.quals (facts ++ assigned))
    (ap (λ z. map not (take f z)) rest ∙ ap (map not) (take_at facts assigned f long) ∙ each_back e.facts)
    (ap (map not) (sym (drop-drop f (3 * r) (flat e)) ∙ ap (drop f) rest ∙ drop_at facts assigned f long) ∙ each_back e.assigned)

pub view_of : (bits : List Bool) (r f : ℕ) (e : Env) → Laid bits r f e → env_of bits r f ≡ e
view_of bits r f e l = ap (λ bs. env_of bs r f) l.is ∙ flat_back e r f l.quals l.facts

pub long_enough : (bits : List Bool) (r f : ℕ) (e : Env) → Laid bits r f e → 3 * r + f ≤ length bits
long_enough bits r f e l = omega (arith, l.quals, l.facts, ap length l.is, length-flat e)

pub length_laid : (bits : List Bool) (r f : ℕ) (e : Env) → Laid bits r f e → length bits ≡ (3 * r + f) + length e.assigned
length_laid bits r f e l = omega (arith, l.quals, l.facts, ap length l.is, length-flat e)

-- reading and writing a qualifier
next : (x y z : Bool) (bits : List Bool) (r : ℕ) → qual_in (x ∷ (y ∷ (z ∷ bits))) (suc r) ≡ qual_in bits r
next x y z bits r =
    let all = x ∷ (y ∷ (z ∷ bits)) in
    let second : 3 * suc r + 1 ≡ suc (suc (suc (3 * r + 1))) = omega arith in
    let third : 3 * suc r + 2 ≡ suc (suc (suc (3 * r + 2))) = omega arith in
    same_qual (qual_in all (suc r)) (qual_in bits r) (ap (λ k. get_or all k false) (three_more r)) (ap (λ k. get_or all k false) second) (ap (λ k. get_or all k false) third)

qual_read : (qs : List Qualifier) (rest : List Bool) (r : ℕ) → r < length qs → qual_in (quals_flat qs ++ rest) r ≡ get_or qs r no_qual
qual_read [] rest r lt = absurd (omega (arith, lt))
qual_read (q ∷ qs) rest zero lt = refl
qual_read (q ∷ qs) rest (suc r) lt = next q.null q.committed q.free (quals_flat qs ++ rest) r ∙ qual_read qs rest r (omega (arith, lt))

next_write : (x y z : Bool) (bits : List Bool) (r : ℕ) (q : Qualifier) → with_qual (x ∷ (y ∷ (z ∷ bits))) (suc r) q ≡ x ∷ (y ∷ (z ∷ with_qual bits r q))
next_write x y z bits r q =
    let all = x ∷ (y ∷ (z ∷ bits)) in
    let second : 3 * suc r + 1 ≡ suc (suc (suc (3 * r + 1))) = omega arith in
    let third : 3 * suc r + 2 ≡ suc (suc (suc (3 * r + 2))) = omega arith in
    ap (λ i. set (set (set all i q.null) (3 * suc r + 1) q.committed) (3 * suc r + 2) q.free) (three_more r)
    ∙ ap (λ j. set (set (set all (suc (suc (suc (3 * r)))) q.null) j q.committed) (3 * suc r + 2) q.free) second
    ∙ ap (λ k. set (set (set all (suc (suc (suc (3 * r)))) q.null) (suc (suc (suc (3 * r + 1)))) q.committed) k q.free) third

qual_write : (qs : List Qualifier) (rest : List Bool) (r : ℕ) (q : Qualifier) → r < length qs → with_qual (quals_flat qs ++ rest) r q ≡ quals_flat (set qs r q) ++ rest
qual_write [] rest r q lt = absurd (omega (arith, lt))
qual_write (p ∷ qs) rest zero q lt = refl
qual_write (p ∷ qs) rest (suc r) q lt = next_write p.null p.committed p.free (quals_flat qs ++ rest) r q ∙ ap (λ zs. p.null ∷ (p.committed ∷ (p.free ∷ zs))) (qual_write qs rest r q (omega (arith, lt)))

behind_front : (p ys : List Bool) (n i : ℕ) → length p ≡ n → get_or (p ++ ys) (n + i) false ≡ get_or ys i false
behind_front p ys n i l = ap (λ k. get_or (p ++ ys) (k + i) false) (sym l) ∙ get_or-append-add p ys i false

turned : (bits : List Bool) (i : ℕ) → i < length bits → not (get_or (map not bits) i false) ≡ get_or bits i false
turned bits i lt = ap not (get_or-map not bits i false false lt) ∙ not_not (get_or bits i false)

module _ (bits : List Bool) (r f : ℕ) (e : Env) (l : Laid bits r f e) where
  front : length (quals_flat e.quals) ≡ 3 * r
  front = length-quals_flat e.quals ∙ ap (λ n. 3 * n) l.quals

  facts_long : length (map not e.facts) ≡ f
  facts_long = length-map e.facts not ∙ l.facts

  regrouped : bits ≡ (quals_flat e.quals ++ map not e.facts) ++ map not e.assigned
  regrouped = l.is ∙ sym (append_assoc (quals_flat e.quals) (map not e.facts) (map not e.assigned))

  front_long : length (quals_flat e.quals ++ map not e.facts) ≡ 3 * r + f
  front_long = omega (arith, front, facts_long, length-append (quals_flat e.quals) (map not e.facts))

  pub read_qual : (i : ℕ) → i < r → qual_in bits i ≡ get_or e.quals i no_qual
  read_qual i lt = ap (λ bs. qual_in bs i) l.is ∙ qual_read e.quals (map not e.facts ++ map not e.assigned) i (omega (arith, lt, l.quals))

  pub read_fact : (i first : ℕ) (b : Bool) → i < f → first ≡ 3 * length e.quals → b ≡ get_or bits (first + i) false → not b ≡ get_or e.facts i false
  read_fact i first b lt from is =
      let at : first ≡ 3 * r = from ∙ ap (λ n. 3 * n) l.quals in
      let lt_facts : i < length e.facts = omega (arith, lt, l.facts) in
      ap not (is ∙ ap (λ k. get_or bits (k + i) false) at ∙ ap (λ bs. get_or bs (3 * r + i) false) l.is ∙ behind_front (quals_flat e.quals) (map not e.facts ++ map not e.assigned) (3 * r) i front ∙ get_or_append_left (map not e.facts) (map not e.assigned) false i (omega (arith, lt, facts_long)))
      ∙ turned e.facts i lt_facts

  pub read_own : (i first : ℕ) (b : Bool) → i < length e.assigned → first ≡ 3 * length e.quals + length e.facts → b ≡ get_or bits (first + i) false → not b ≡ get_or e.assigned i false
  read_own i first b lt from is =
      let at : first ≡ 3 * r + f = omega (arith, from, l.quals, l.facts) in
      ap not (is ∙ ap (λ k. get_or bits (k + i) false) at ∙ ap (λ bs. get_or bs ((3 * r + f) + i) false) regrouped ∙ behind_front (quals_flat e.quals ++ map not e.facts) (map not e.assigned) (3 * r + f) i front_long)
      ∙ turned e.assigned i lt

  pub write_qual : (i : ℕ) (q : Qualifier) (now : List Bool) → i < r → now ≡ with_qual bits i q → Laid now r f (record { quals = set e.quals i q; facts = e.facts; assigned = e.assigned })
  write_qual i q now lt is = record {
    is = is ∙ ap (λ bs. with_qual bs i q) l.is ∙ qual_write e.quals (map not e.facts ++ map not e.assigned) i q (omega (arith, lt, l.quals));
    quals = length-set e.quals i q ∙ l.quals;
    facts = l.facts;
  }

  taken : take (3 * r) bits ≡ quals_flat e.quals
  taken = ap (take (3 * r)) l.is ∙ take_at (quals_flat e.quals) (map not e.facts ++ map not e.assigned) (3 * r) front

  dropped : drop (3 * r) bits ≡ map not e.facts ++ map not e.assigned
  dropped = ap (drop (3 * r)) l.is ∙ drop_at (quals_flat e.quals) (map not e.facts ++ map not e.assigned) (3 * r) front

  taken_own : take (3 * r + f) bits ≡ quals_flat e.quals ++ map not e.facts
  taken_own = ap (take (3 * r + f)) regrouped ∙ take_at (quals_flat e.quals ++ map not e.facts) (map not e.assigned) (3 * r + f) front_long

  dropped_own : drop (3 * r + f) bits ≡ map not e.assigned ++ []
  dropped_own = ap (drop (3 * r + f)) regrouped ∙ drop_at (quals_flat e.quals ++ map not e.facts) (map not e.assigned) (3 * r + f) front_long ∙ sym (append-nil (map not e.assigned))

  three : (first : ℕ) → first ≡ 3 * length e.quals → first ≡ 3 * r
  three first from = from ∙ ap (λ n. 3 * n) l.quals

  both : (first : ℕ) → first ≡ 3 * length e.quals + length e.facts → first ≡ 3 * r + f
  both first from = omega (arith, from, l.quals, l.facts)

  regroup : (own : List Bool) → (quals_flat e.quals ++ map not e.facts) ++ (map not own ++ []) ≡ quals_flat e.quals ++ (map not e.facts ++ map not own)
  regroup own = ap (λ z. (quals_flat e.quals ++ map not e.facts) ++ z) (append-nil (map not own)) ∙ append_assoc (quals_flat e.quals) (map not e.facts) (map not own)

  module _ {K : Type 0} (test : K → Bool) (keys : List K) (first : ℕ) where
    pub facts_there : first ≡ 3 * length e.quals → length keys ≡ length e.facts → first + length keys ≤ length bits
    facts_there from m = omega (arith, from, m, l.quals, length_laid bits r f e l, l.facts)

    pub own_there : first ≡ 3 * length e.quals + length e.facts → length keys ≡ length e.assigned → first + length keys ≤ length bits
    own_there from m = omega (arith, from, m, l.quals, l.facts, length_laid bits r f e l)

    on_facts : (wanted : Bool) → first ≡ 3 * length e.quals → take first bits ++ written test wanted keys (drop first bits) ≡ quals_flat e.quals ++ written test wanted keys (map not e.facts ++ map not e.assigned)
    on_facts wanted from =
        ap (λ n. take n bits ++ written test wanted keys (drop n bits)) (three first from)
        ∙ ap (λ z. z ++ written test wanted keys (drop (3 * r) bits)) taken
        ∙ ap (λ z. quals_flat e.quals ++ written test wanted keys z) dropped

    on_own : (wanted : Bool) → first ≡ 3 * length e.quals + length e.facts → take first bits ++ written test wanted keys (drop first bits) ≡ (quals_flat e.quals ++ map not e.facts) ++ written test wanted keys (map not e.assigned ++ [])
    on_own wanted from =
        ap (λ n. take n bits ++ written test wanted keys (drop n bits)) (both first from)
        ∙ ap (λ z. z ++ written test wanted keys (drop (3 * r + f) bits)) taken_own
        ∙ ap (λ z. (quals_flat e.quals ++ map not e.facts) ++ written test wanted keys z) dropped_own

    pub facts_laid : (known : Bool) (now : List Bool) → first ≡ 3 * length e.quals → length keys ≡ length e.facts → now ≡ take first bits ++ written test (not known) keys (drop first bits) → Laid now r f (record { quals = e.quals; facts = marked known test keys e.facts; assigned = e.assigned })
    facts_laid known now from m is = record {
      is = is ∙ on_facts (not known) from ∙ ap (λ z. quals_flat e.quals ++ z) (written_marked test known keys e.facts (map not e.assigned) m);
      quals = l.quals;
      facts = length-marked test known keys e.facts ∙ l.facts;
    }

    pub own_laid : (known : Bool) (now : List Bool) → first ≡ 3 * length e.quals + length e.facts → length keys ≡ length e.assigned → now ≡ take first bits ++ written test (not known) keys (drop first bits) → Laid now r f (record { quals = e.quals; facts = e.facts; assigned = marked known test keys e.assigned })
    own_laid known now from m is = record {
      is = is ∙ on_own (not known) from ∙ ap (λ z. (quals_flat e.quals ++ map not e.facts) ++ z) (written_marked test known keys e.assigned [] m) ∙ regroup (marked known test keys e.assigned);
      quals = l.quals;
      facts = l.facts;
    }

-- nothing may be
none_flat : (r : ℕ) → replicate (3 * r) false ≡ quals_flat (replicate r no_qual)
none_flat zero = refl
none_flat (suc r) = ap (λ n. replicate n false) (three_more r) ∙ ap (λ zs. false ∷ (false ∷ (false ∷ zs))) (none_flat r)

all_known : (n : ℕ) → replicate n false ≡ map not (replicate n true)
all_known zero = refl
all_known (suc n) = ap (λ zs. false ∷ zs) (all_known n)

pub least_laid : (r f a : ℕ) (now : List Bool) → now ≡ replicate ((3 * r + f) + a) false → Laid now r f (record { quals = replicate r no_qual; facts = replicate f true; assigned = replicate a true })
least_laid r f a now is =
    let n = (3 * r + f) + a in
    let sum : n ≡ 3 * r + (f + a) = omega arith in
    record {
      is = is ∙ ap (λ k. replicate k false) sum ∙ sym (replicate-append-replicate (3 * r) (f + a) false) ∙ ap (λ z. replicate (3 * r) false ++ z) (sym (replicate-append-replicate f a false) ∙ ap (λ z. z ++ replicate a false) (all_known f) ∙ ap (λ z. map not (replicate f true) ++ z) (all_known a)) ∙ ap (λ z. z ++ (map not (replicate f true) ++ map not (replicate a true))) (none_flat r);
      quals = length-replicate r no_qual;
      facts = length-replicate f true;
    }
