-- Each key once, where it stands first: by marks at the places of those that were taken.
use Rattle.std.proofs.Common.{◌≡◌, ℕ, zero, suc, ◌+◌, ◌<◌, Bool, true, false, not, ◌&&◌, cond, List, [], ◌∷◌, ◌++◌, length, take, drop, filter, get_or, replicate, refl, sym, ap, ◌∙◌, add-one, arith, append_assoc, append-nil, ◌≤◌}
use Rattle.std.specs.Prelude.{eqb}
use Rattle.std.proofs.lemmas.Bool.{eqb-true}
use Rattle.std.proofs.lemmas.List.{drop_all}
use Rattle.std.proofs.lemmas.List.Elements.{filter_agree}
use Rattle.jn_env.specs.Chained.{unmarked}
use Rattle.jn_env.specs.Flat.{written}
use Rattle.jn_env.specs.Keys.{Key, is_key, distinct}

module _ {K : Type 0} where
  pub unmarked_at : (keys : List K) (bits : List Bool) (i : ℕ) (k : K) → i < length keys → length bits ≡ length keys → unmarked (drop i keys) (drop i bits) ≡ cond (get_or bits i false) (unmarked (drop (suc i) keys) (drop (suc i) bits)) (get_or keys i k ∷ unmarked (drop (suc i) keys) (drop (suc i) bits))
  unmarked_at [] bits i k lt l = absurd (omega (arith, lt))
  unmarked_at (x ∷ keys) [] i k lt l = absurd (omega (arith, l))
  unmarked_at (x ∷ keys) (b ∷ bits) zero k lt l = refl
  unmarked_at (x ∷ keys) (b ∷ bits) (suc i) k lt l = unmarked_at keys bits i k (omega (arith, lt)) (omega (arith, l))

  pub unmarked_all : (keys : List K) → unmarked keys (replicate (length keys) false) ≡ keys
  unmarked_all [] = refl
  unmarked_all (k ∷ keys) = ap (λ ks. k ∷ ks) (unmarked_all keys)

  kept : (t b : Bool) (k : K) (keys : List K) (p : K → Bool) → p k ≡ not t → cond (cond t true b) (filter p keys) (k ∷ filter p keys) ≡ filter p (cond b keys (k ∷ keys))
  kept true true k keys p e = refl
  kept false true k keys p e = refl
  kept true false k keys p e = sym (ap (λ t. cond t (k ∷ filter p keys) (filter p keys)) e)
  kept false false k keys p e = sym (ap (λ t. cond t (k ∷ filter p keys) (filter p keys)) e)

  -- marks at keys that pass leave those that don't
  unmarked_written : (test : K → Bool) (keys : List K) (bits : List Bool) → unmarked keys (written test true keys bits) ≡ filter (λ x. not (test x)) (unmarked keys bits)
  unmarked_written test [] bits = refl
  unmarked_written test (k ∷ keys) [] = refl
  unmarked_written test (k ∷ keys) (b ∷ bits) =
      ap (λ ks. cond (cond (test k) true b) ks (k ∷ ks)) (unmarked_written test keys bits) ∙ kept (test k) b k (unmarked keys bits) (λ x. not (test x)) refl

  drop_written : (test : K → Bool) (i : ℕ) (keys : List K) (bits : List Bool) → drop i (written test true keys bits) ≡ written test true (drop i keys) (drop i bits)
  drop_written test zero keys bits = refl
  drop_written test (suc i) [] bits = refl
  drop_written test (suc i) (k ∷ keys) [] = nothing (drop i keys)
    where
      nothing : (ks : List K) → [] ≡ written test true ks []
      nothing [] = refl
      nothing (x ∷ ks) = refl
  drop_written test (suc i) (k ∷ keys) (b ∷ bits) = drop_written test i keys bits

  twice : (p q : K → Bool) (xs : List K) → filter p (filter q xs) ≡ filter q (filter p xs)
  twice p q [] = refl
  twice p q (x ∷ xs) = by (p x) (q x) refl refl (twice p q xs)
    where
      by : (a b : Bool) → p x ≡ a → q x ≡ b → filter p (filter q xs) ≡ filter q (filter p xs) → filter p (filter q (x ∷ xs)) ≡ filter q (filter p (x ∷ xs))
      by true true e f h =
          ap (λ t. filter p (cond t (x ∷ filter q xs) (filter q xs))) f ∙ ap (λ t. cond t (x ∷ filter p (filter q xs)) (filter p (filter q xs))) e ∙ ap (λ ks. x ∷ ks) h
          ∙ sym (ap (λ t. filter q (cond t (x ∷ filter p xs) (filter p xs))) e ∙ ap (λ t. cond t (x ∷ filter q (filter p xs)) (filter q (filter p xs))) f)
      by true false e f h =
          ap (λ t. filter p (cond t (x ∷ filter q xs) (filter q xs))) f ∙ h
          ∙ sym (ap (λ t. filter q (cond t (x ∷ filter p xs) (filter p xs))) e ∙ ap (λ t. cond t (x ∷ filter q (filter p xs)) (filter q (filter p xs))) f)
      by false true e f h =
          ap (λ t. filter p (cond t (x ∷ filter q xs) (filter q xs))) f ∙ ap (λ t. cond t (x ∷ filter p (filter q xs)) (filter p (filter q xs))) e ∙ h
          ∙ sym (ap (λ t. filter q (cond t (x ∷ filter p xs) (filter p xs))) e)
      by false false e f h =
          ap (λ t. filter p (cond t (x ∷ filter q xs) (filter q xs))) f ∙ h
          ∙ sym (ap (λ t. filter q (cond t (x ∷ filter p xs) (filter p xs))) e)

  once : (p : K → Bool) (xs : List K) → filter p (filter p xs) ≡ filter p xs
  once p [] = refl
  once p (x ∷ xs) = by (p x) refl (once p xs)
    where
      by : (a : Bool) → p x ≡ a → filter p (filter p xs) ≡ filter p xs → filter p (filter p (x ∷ xs)) ≡ filter p (x ∷ xs)
      by true e h =
          ap (λ t. filter p (cond t (x ∷ filter p xs) (filter p xs))) e ∙ ap (λ t. cond t (x ∷ filter p (filter p xs)) (filter p (filter p xs))) e ∙ ap (λ ks. x ∷ ks) h
          ∙ sym (ap (λ t. cond t (x ∷ filter p xs) (filter p xs)) e)
      by false e h =
          ap (λ t. filter p (cond t (x ∷ filter p xs) (filter p xs))) e ∙ h
          ∙ sym (ap (λ t. cond t (x ∷ filter p xs) (filter p xs)) e)

abbrev other : Key → Key → Bool
other k x = not (is_key k.reg k.field x)

both : (a b : Bool) → (a && b) ≡ true → (a ≡ true) × (b ≡ true)
both true b e = (refl, e)
both false b e = absurd (cc)

same_other : (k x : Key) → is_key k.reg k.field x ≡ true → (y : Key) → other x y ≡ other k y
same_other k x e y =
    let parts = both (eqb x.reg k.reg) (eqb x.field k.field) e in
    ap (λ r. not (is_key r x.field y)) (eqb-true x.reg k.reg parts.0) ∙ ap (λ f. not (is_key k.reg f y)) (eqb-true x.field k.field parts.1)

-- a key that is left out before is left out after
distinct_filter : (k : Key) (xs : List Key) → distinct (filter (other k) xs) ≡ filter (other k) (distinct xs)
distinct_filter k [] = refl
distinct_filter k (x ∷ xs) = by (is_key k.reg k.field x) refl (distinct_filter k xs)
  where
    by : (t : Bool) → is_key k.reg k.field x ≡ t → distinct (filter (other k) xs) ≡ filter (other k) (distinct xs) → distinct (filter (other k) (x ∷ xs)) ≡ filter (other k) (distinct (x ∷ xs))
    by true e h =
        let left : other k x ≡ false = ap not e in
        let rest = filter (other x) (distinct xs) in
        ap (λ t. distinct (cond t (x ∷ filter (other k) xs) (filter (other k) xs))) left ∙ h
        ∙ sym (once (other k) (distinct xs)) ∙ ap (filter (other k)) (sym (filter_agree (other x) (other k) (same_other k x e) (distinct xs)))
        ∙ sym (ap (λ t. cond t (x ∷ filter (other k) rest) (filter (other k) rest)) left)
    by false e h =
        let right : other k x ≡ true = ap not e in
        let rest = filter (other x) (distinct xs) in
        ap (λ t. distinct (cond t (x ∷ filter (other k) xs) (filter (other k) xs))) right
        ∙ ap (λ ks. x ∷ filter (other x) ks) h ∙ ap (λ ks. x ∷ ks) (twice (other x) (other k) (distinct xs))
        ∙ sym (ap (λ t. cond t (x ∷ filter (other k) rest) (filter (other k) rest)) right)

-- a key that was seen is passed over
pub seen_step : (list keys : List Key) (seen : List Bool) (i : ℕ) (k : Key) → i < length list → length seen ≡ length list → true ≡ get_or seen i false → keys ++ distinct (unmarked (drop (i + 1) list) (drop (i + 1) seen)) ≡ keys ++ distinct (unmarked (drop i list) (drop i seen))
seen_step list keys seen i k lt l is =
    let rest = unmarked (drop (suc i) list) (drop (suc i) seen) in
    rw add-one (ap (λ ks. keys ++ distinct ks) (ap (λ t. cond t rest (get_or list i k ∷ rest)) is ∙ sym (unmarked_at list seen i k lt l)))

-- one that wasn't is taken, and marked at all places
pub first_step : (list keys more : List Key) (seen now : List Bool) (i : ℕ) (k : Key) → i < length list → length seen ≡ length list → false ≡ get_or seen i false → k ≡ get_or list i k → more ≡ keys ++ k ∷ [] → now ≡ written (is_key k.reg k.field) true list seen → more ++ distinct (unmarked (drop (i + 1) list) (drop (i + 1) now)) ≡ keys ++ distinct (unmarked (drop i list) (drop i seen))
first_step list keys more seen now i k lt l is at pushed marks =
    let ks = drop (suc i) list in
    let bs = drop (suc i) seen in
    let rest = unmarked ks bs in
    let left : unmarked ks (drop (suc i) now) ≡ filter (other k) rest =
    ap (λ bits. unmarked ks (drop (suc i) bits)) marks ∙ ap (unmarked ks) (drop_written (is_key k.reg k.field) (suc i) list seen) ∙ unmarked_written (is_key k.reg k.field) ks bs in
    let here : unmarked (drop i list) (drop i seen) ≡ k ∷ rest =
    unmarked_at list seen i k lt l ∙ ap (λ t. cond t rest (get_or list i k ∷ rest)) (sym is) ∙ ap (λ x. x ∷ rest) (sym at) in
    rw add-one (ap (λ xs. xs ++ distinct (unmarked ks (drop (suc i) now))) pushed ∙ append_assoc keys (k ∷ []) (distinct (unmarked ks (drop (suc i) now)))
    ∙ ap (λ xs. keys ++ k ∷ distinct xs) left ∙ ap (λ xs. keys ++ k ∷ xs) (distinct_filter k rest) ∙ ap (λ xs. keys ++ distinct xs) (sym here))

-- what is written from the front on
pub marked_as : (list : List Key) (seen now : List Bool) (k : Key) (r f : ℕ) → r ≡ k.reg → f ≡ k.field → now ≡ take 0 seen ++ written (is_key r f) true list (drop 0 seen) → now ≡ written (is_key k.reg k.field) true list seen
marked_as list seen now k r f reg field e = e ∙ ap (λ n. written (is_key n f) true list seen) reg ∙ ap (λ n. written (is_key k.reg n) true list seen) field

pub start : (list : List Key) (seen : List Bool) (n : ℕ) → n ≡ length list → seen ≡ replicate n false → distinct (unmarked list seen) ≡ distinct list
start list seen n long is = ap (λ bits. distinct (unmarked list bits)) (is ∙ ap (λ m. replicate m false) long) ∙ ap distinct (unmarked_all list)

pub finished : (list keys : List Key) (seen : List Bool) (i : ℕ) (all : List Key) → length list ≤ i → keys ++ distinct (unmarked (drop i list) (drop i seen)) ≡ all → keys ≡ all
finished list keys seen i all le h = sym (append-nil keys) ∙ ap (λ ks. keys ++ distinct (unmarked ks (drop i seen))) (sym (drop_all i list le)) ∙ h
