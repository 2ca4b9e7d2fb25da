-- Bits along keys, and registers that qualifiers describe.
use Rattle.std.proofs.Common.{◌≡◌, ℕ, zero, suc, Bool, true, false, not, ◌&&◌, ◌||◌, ◌⊎◌, inl, inr, List, [], ◌∷◌, ◌++◌, length, Option, Some, None, refl, sym, ap, subst, replicate, cond}
use Rattle.std.specs.Prelude.{slice_get, slice_set, slice_index_or, IsTrue, eqb}
use Rattle.std.proofs.lemmas.Bool.{eqb-true, eqb-false, and_parts}
use Rattle.jn_quals.specs.Qualifier.{Qualifier}
use Rattle.jn_points.specs.declared.point.Operand.{Operand}
use Rattle.jn_soundness.specs.Checked.{ArgsPass}
use Rattle.jn_heap.specs.Values.{At, NullRef, Plain, Text, Value}
use Rattle.jn_env.specs.Order.{BitsAbove, QualsWithin, qual_at}
use Rattle.jn_env.specs.Environment.{Env}
use Rattle.jn_heap.specs.State.{Regs, gather, gather_more, value_at}
use Rattle.jn_heap.specs.Calls.{pad}
use Rattle.jn_soundness.specs.World.{World}
use Rattle.jn_env.specs.Keys.{also, is_on, mask, no_bits}
use Rattle.jn_quals.specs.Order.{no_qual, within}
use Rattle.jn_transfer.specs.Transfer.{pad_quals}
use Rattle.jn_soundness.specs.Frames.{AllOn, Described}
use Rattle.jn_soundness.specs.Marks.{Committed, Free, Marks, ObjMark, Unborn}
use Rattle.jn_soundness.specs.Heaps.{Describes, MarkFits, Settled}
use Rattle.jn_points.specs.declared.program.Program.{Program}
use Rattle.jn_points.specs.declared.point.BaseType.TheVariants.{Ref}
use Rattle.jn_points.specs.BaseTyping.{given_bases}
use Rattle.jn_points.specs.Lookup.{class_of, static_of, method_at, params_of, body_at, point_at, points_of}
use Rattle.jn_points.specs.declared.point.Point.{Point}
use Rattle.jn_points.specs.declared.program.Body.{Body}

pub implied : (a b : Bool) → IsTrue (not a || b) → a ≡ true → b ≡ true
implied true b h e = h
implied false b h e = cc

pub true_false : {X : Type 0} → (b : Bool) → b ≡ true → b ≡ false → X
true_false b h k = cc

pub within_parts : (a b c : Bool) → IsTrue (a && b && c) → IsTrue a × IsTrue b × IsTrue c
within_parts true true c h = (refl, refl, h)
within_parts true false c h = cc
within_parts false b c h = cc

pub within_refl : (a b c : Bool) → IsTrue ((not a || a) && (not b || b) && (not c || c))
within_refl true true true = refl
within_refl true true false = refl
within_refl true false true = refl
within_refl true false false = refl
within_refl false true true = refl
within_refl false true false = refl
within_refl false false true = refl
within_refl false false false = refl

pub within_null : (a b : Qualifier) → IsTrue (within a b) → a.null ≡ true → b.null ≡ true
within_null a b w = implied a.null b.null (within_parts (not a.null || b.null) (not a.committed || b.committed) (not a.free || b.free) w).0

pub within_committed : (a b : Qualifier) → IsTrue (within a b) → a.committed ≡ true → b.committed ≡ true
within_committed a b w = implied a.committed b.committed (within_parts (not a.null || b.null) (not a.committed || b.committed) (not a.free || b.free) w).1

pub within_free : (a b : Qualifier) → IsTrue (within a b) → a.free ≡ true → b.free ≡ true
within_free a b w = implied a.free b.free (within_parts (not a.null || b.null) (not a.committed || b.committed) (not a.free || b.free) w).2

pub fits_within : (a : ℕ) (p q : Qualifier) (k : ObjMark) → IsTrue (within p q) → MarkFits a p k → MarkFits a q k
fits_within a p q Unborn w h = h
fits_within a p q Committed w h = within_committed p q w h
fits_within a p q (Free e ended) w h = (within_free p q w h.0, h.1)

module _ (m : Marks) (a : ℕ) where
  pub describes_within : (p q : Qualifier) (v : Option Value) → IsTrue (within p q) → Describes m a p v → Describes m a q v
  describes_within p q None w d = tt
  describes_within p q (Some NullRef) w d = within_null p q w d
  describes_within p q (Some (Text t)) w d = within_committed p q w d
  describes_within p q (Some (Plain n)) w d = tt
  describes_within p q (Some (At o)) w d = fits_within a p q (m o) w d

  pub described_within : (ps qs : List Qualifier) (vs : Regs) → QualsWithin ps qs → Described m a ps vs → Described m a qs vs
  described_within [] [] vs w d = d
  described_within [] (b ∷ bs) vs w d = absurd w
  described_within (p ∷ ps) [] vs w d = absurd w
  described_within (p ∷ ps) (b ∷ bs) [] w d = absurd d
  described_within (p ∷ ps) (b ∷ bs) (v ∷ vs) w d = (describes_within p b v w.0 d.0, described_within ps bs vs w.1 d.1)

  pub described_set : (qs : List Qualifier) (vs : Regs) (r : ℕ) (q : Qualifier) (v : Value) → Describes m a q (Some v) → Described m a qs vs → Described m a (slice_set qs r q) (slice_set vs r (Some v))
  described_set [] [] r q v h d = tt
  described_set [] (w ∷ vs) r q v h d = absurd d
  described_set (p ∷ qs) [] r q v h d = absurd d
  described_set (p ∷ qs) (w ∷ vs) zero q v h d = (h, d.1)
  described_set (p ∷ qs) (w ∷ vs) (suc r) q v h d = (d.0, described_set qs vs r q v h d.1)

  pub described_at : (qs : List Qualifier) (vs : Regs) (r : ℕ) → Described m a qs vs → Describes m a (slice_index_or qs r no_qual) (value_at vs r)
  described_at [] [] r d = tt
  described_at [] (w ∷ vs) r d = absurd d
  described_at (p ∷ qs) [] r d = absurd d
  described_at (p ∷ qs) (w ∷ vs) zero d = d.0
  described_at (p ∷ qs) (w ∷ vs) (suc r) d = described_at qs vs r d.1

  pub described_refined : (qs : List Qualifier) (vs : Regs) (r : ℕ) (q : Qualifier) → Describes m a q (value_at vs r) → Described m a qs vs → Described m a (slice_set qs r q) vs
  described_refined [] vs r q h d = d
  described_refined (p ∷ qs) [] r q h d = absurd d
  described_refined (p ∷ qs) (w ∷ vs) zero q h d = (h, d.1)
  described_refined (p ∷ qs) (w ∷ vs) (suc r) q h d = (d.0, described_refined qs vs r q h d.1)

  -- values that qualifiers describe, one for each
  abbrev pub AllDescribed : List Qualifier → List Value → Type 0
  AllDescribed [] [] = Unit {0}
  AllDescribed [] (v ∷ vs) = ⊥
  AllDescribed (q ∷ qs) [] = ⊥
  AllDescribed (q ∷ qs) (v ∷ vs) = Describes m a q (Some v) × AllDescribed qs vs

  pub described_pad : (W : World) (qs : List Qualifier) (vs : List Value) (n : ℕ) → AllDescribed qs vs → Described m a (pad_quals qs n) (pad vs n)
  described_pad W [] [] zero d = tt
  described_pad W [] [] (suc n) d = (tt, described_pad W [] [] n tt)
  described_pad W [] (v ∷ vs) n d = absurd d
  described_pad W (q ∷ qs) [] n d = absurd d
  described_pad W (q ∷ qs) (v ∷ vs) zero d = tt
  described_pad W (q ∷ qs) (v ∷ vs) (suc n) d = (d.0, described_pad W qs vs n d.1)

  pub all_within : (ps qs : List Qualifier) (vs : List Value) → QualsWithin ps qs → AllDescribed ps vs → AllDescribed qs vs
  all_within [] [] vs w d = d
  all_within [] (b ∷ bs) vs w d = absurd w
  all_within (p ∷ ps) [] vs w d = absurd w
  all_within (p ∷ ps) (b ∷ bs) [] w d = absurd d
  all_within (p ∷ ps) (b ∷ bs) (v ∷ vs) w d = (describes_within p b (Some v) w.0 d.0, all_within ps bs vs w.1 d.1)

  gathered_more : (e : Env) (q p : Qualifier) (qs : List Qualifier) (v : Option Value) (o : Option (List Value)) (vs : List Value) → gather_more v o ≡ Some vs → IsTrue (within p q) → Describes m a p v → ((us : List Value) → o ≡ Some us → AllDescribed qs us) → AllDescribed (q ∷ qs) vs
  gathered_more e q p qs None o vs is w d h = cc
  gathered_more e q p qs (Some v) None vs is w d h = cc
  gathered_more e q p qs (Some v) (Some us) vs is w d h =
      let same : v ∷ us ≡ vs = cc in
      subst (λ x. AllDescribed (q ∷ qs) x) same (describes_within p q (Some v) w d, h us refl)

  -- the arguments are described by the slots that they pass
  pub gathered : (e : Env) (regs : Regs) (qs : List Qualifier) (args : List Operand) (vs : List Value) → Described m a e.quals regs → ArgsPass e qs args → gather regs args ≡ Some vs → AllDescribed qs vs
  gathered e regs [] [] vs d p is = let same : [] ≡ vs = cc in subst (λ x. AllDescribed [] x) same tt
  gathered e regs [] (x ∷ args) vs d p is = absurd p
  gathered e regs (q ∷ qs) [] vs d p is = absurd p
  gathered e regs (q ∷ qs) (x ∷ args) vs d p is =
      gathered_more e q (qual_at e x.reg.0) qs (value_at regs x.reg.0) (gather regs args) vs is p.0 (described_at e.quals regs x.reg.0 d) (λ us h. gathered e regs qs args us d p.1 h)

-- a value without a free part is described in every era
pub fits_era : (a b : ℕ) (q : Qualifier) (k : ObjMark) → q.free ≡ false → MarkFits a q k → MarkFits b q k
fits_era a b q Unborn n h = h
fits_era a b q Committed n h = h
fits_era a b q (Free e ended) n h = true_false q.free h.0 n

pub describes_era : (m : Marks) (a b : ℕ) (q : Qualifier) (v : Option Value) → q.free ≡ false → Describes m a q v → Describes m b q v
describes_era m a b q None n d = tt
describes_era m a b q (Some NullRef) n d = d
describes_era m a b q (Some (Text t)) n d = d
describes_era m a b q (Some (Plain p)) n d = tt
describes_era m a b q (Some (At o)) n d = fits_era a b q (m o) n d

committed_fits : (a : ℕ) (q : Qualifier) (k : ObjMark) → q.free ≡ false → MarkFits a q k → (k ≡ Committed) × (q.committed ≡ true)
committed_fits a q Unborn n h = absurd h
committed_fits a q Committed n h = (refl, h)
committed_fits a q (Free e ended) n h = true_false q.free h.0 n

pub settled_of : (m : Marks) (a : ℕ) (q : Qualifier) (v : Value) → q.free ≡ false → Describes m a q (Some v) → Settled m q v
settled_of m a q NullRef n d = d
settled_of m a q (Text t) n d = d
settled_of m a q (Plain p) n d = tt
settled_of m a q (At o) n d = committed_fits a q (m o) n d

pub settled_describes : (m : Marks) (a : ℕ) (q : Qualifier) (v : Value) → Settled m q v → Describes m a q (Some v)
settled_describes m a q NullRef d = d
settled_describes m a q (Text t) d = d
settled_describes m a q (Plain p) d = tt
settled_describes m a q (At o) d = subst (λ k. MarkFits a q k) (sym d.0) d.1

pub settled_within : (m : Marks) (p q : Qualifier) (v : Value) → (p.null ≡ true → q.null ≡ true) → (p.committed ≡ true → q.committed ≡ true) → Settled m p v → Settled m q v
settled_within m p q NullRef n c d = n d
settled_within m p q (Text t) n c d = c d
settled_within m p q (Plain x) n c d = tt
settled_within m p q (At o) n c d = (d.0, c d.1)

pub on_or : {X : Type 0} → (a b : Bool) → (a || b) ≡ true → (a ≡ true → X) → (b ≡ true → X) → X
on_or true b h f g = f refl
on_or false b h f g = g h

module _ {K : Type 0} where
  pub on_above : (P : K → Type 0) (keys : List K) (as' bs : List Bool) → BitsAbove as' bs → AllOn P keys as' → AllOn P keys bs
  on_above P [] as' bs w h = tt
  on_above P (k ∷ keys) [] [] w h = tt
  on_above P (k ∷ keys) [] (b ∷ bs) w h = absurd w
  on_above P (k ∷ keys) (a ∷ as') [] w h = tt
  on_above P (k ∷ keys) (a ∷ as') (b ∷ bs) w h = (λ e. h.0 (implied b a w.0 e), on_above P keys as' bs w.1 h.1)

  pub on_mask : (P Q : K → Type 0) (keep : K → Bool) (keys : List K) (bits : List Bool) → AllOn P keys bits → ((k : K) → keep k ≡ true → P k → Q k) → AllOn Q keys (mask keep keys bits)
  on_mask P Q keep [] bits h g = tt
  on_mask P Q keep (k ∷ keys) [] h g = tt
  on_mask P Q keep (k ∷ keys) (b ∷ bits) h g = (λ e. let x = and_parts b (keep k) e in g k x.1 (h.0 x.0), on_mask P Q keep keys bits h.1 g)

  pub on_cleared : (Q : K → Type 0) (keys : List K) (bits : List Bool) → AllOn Q keys (mask (λ k. false) keys bits)
  on_cleared Q [] bits = tt
  on_cleared Q (k ∷ keys) [] = tt
  on_cleared Q (k ∷ keys) (b ∷ bits) = (λ e. true_false false (and_parts b false e).1 refl, on_cleared Q keys bits)

  pub on_also : (P Q : K → Type 0) (test : K → Bool) (keys : List K) (bits : List Bool) → AllOn P keys bits → ((k : K) → P k → Q k) → ((k : K) → test k ≡ true → Q k) → AllOn Q keys (also test keys bits)
  on_also P Q test [] bits h g t = tt
  on_also P Q test (k ∷ keys) [] h g t = tt
  on_also P Q test (k ∷ keys) (b ∷ bits) h g t = (λ e. on_or b (test k) e (λ x. g k (h.0 x)) (λ y. t k y), on_also P Q test keys bits h.1 g t)

  pub on_is_on : {X : Type 0} → (P : K → Type 0) (test : K → Bool) (keys : List K) (bits : List Bool) → AllOn P keys bits → is_on test keys bits ≡ true → ((k : K) → test k ≡ true → P k → X) → X
  on_is_on P test [] bits h e f = cc
  on_is_on P test (k ∷ keys) [] h e f = cc
  on_is_on P test (k ∷ keys) (b ∷ bits) h e f =
      on_or (b && test k) (is_on test keys bits) e
      (λ x. let y = and_parts b (test k) x in f k y.1 (h.0 y.0))
      (λ x. on_is_on P test keys bits h.1 x f)

  pub on_map : (P Q : K → Type 0) (keys : List K) (bits : List Bool) → ((k : K) → P k → Q k) → AllOn P keys bits → AllOn Q keys bits
  on_map P Q [] bits g h = tt
  on_map P Q (k ∷ keys) [] g h = tt
  on_map P Q (k ∷ keys) (b ∷ bits) g h = (λ e. g k (h.0 e), on_map P Q keys bits g h.1)

  pub on_none : (P : K → Type 0) (keys : List K) → AllOn P keys (no_bits keys)
  on_none P [] = tt
  on_none P (k ∷ keys) = (λ e. cc, on_none P keys)

-- a list after a write
pub set_cases : {X : Type 0} → (xs : List X) (i : ℕ) (y : X) (j : ℕ) → ((i ≡ j) × (slice_get (slice_set xs i y) j ≡ Some y)) ⊎ (slice_get (slice_set xs i y) j ≡ slice_get xs j)
set_cases [] i y j = inr refl
set_cases (x ∷ xs) zero y zero = inl (refl, refl)
set_cases (x ∷ xs) zero y (suc j) = inr refl
set_cases (x ∷ xs) (suc i) y zero = inr refl
set_cases (x ∷ xs) (suc i) y (suc j) = suc_cases (set_cases xs i y j)
  where
    suc_cases : ((i ≡ j) × (slice_get (slice_set xs i y) j ≡ Some y)) ⊎ (slice_get (slice_set xs i y) j ≡ slice_get xs j) → ((suc i ≡ suc j) × (slice_get (slice_set xs i y) j ≡ Some y)) ⊎ (slice_get (slice_set xs i y) j ≡ slice_get xs j)
    suc_cases (inl h) = inl (ap suc h.0, h.1)
    suc_cases (inr h) = inr h

-- a list with one more at its end
pub append_cases : {X : Type 0} → (xs : List X) (y : X) (j : ℕ) → ((j ≡ length xs) × (slice_get (xs ++ y ∷ []) j ≡ Some y) × (slice_get xs j ≡ None)) ⊎ (slice_get (xs ++ y ∷ []) j ≡ slice_get xs j)
append_cases [] y zero = inl (refl, refl, refl)
append_cases [] y (suc j) = inr refl
append_cases (x ∷ xs) y zero = inr refl
append_cases (x ∷ xs) y (suc j) = suc_cases (append_cases xs y j)
  where
    suc_cases : ((j ≡ length xs) × (slice_get (xs ++ y ∷ []) j ≡ Some y) × (slice_get xs j ≡ None)) ⊎ (slice_get (xs ++ y ∷ []) j ≡ slice_get xs j) → ((suc j ≡ length (x ∷ xs)) × (slice_get (xs ++ y ∷ []) j ≡ Some y) × (slice_get xs j ≡ None)) ⊎ (slice_get (xs ++ y ∷ []) j ≡ slice_get xs j)
    suc_cases (inl h) = inl (ap suc h.0, h.1, h.2)
    suc_cases (inr h) = inr h

-- another register after a write
pub value_other : (regs : Regs) (dst r : ℕ) (v : Option Value) → (r ≡ dst → ⊥) → value_at (slice_set regs dst v) r ≡ value_at regs r
value_other [] dst r v n = refl
value_other (x ∷ xs) zero zero v n = absurd (n refl)
value_other (x ∷ xs) zero (suc r) v n = refl
value_other (x ∷ xs) (suc d) zero v n = refl
value_other (x ∷ xs) (suc d) (suc r) v n = value_other xs d r v (λ e. n (ap suc e))

pub value_same : (regs : Regs) (r : ℕ) (v w : Value) → value_at (slice_set regs r (Some v)) r ≡ Some w → v ≡ w
value_same [] r v w h = cc
value_same (x ∷ xs) zero v w h = cc
value_same (x ∷ xs) (suc r) v w h = value_same xs r v w h

-- register 0 is kept where it isn't the one written
pub value_zero : (regs : Regs) (dst : ℕ) (v : Option Value) → (dst ≡ 0 → ⊥) → value_at (slice_set regs dst v) 0 ≡ value_at regs 0
value_zero [] dst v n = refl
value_zero (x ∷ xs) zero v n = absurd (n refl)
value_zero (x ∷ xs) (suc d) v n = refl

pub eqb_cases : (a b : ℕ) → (a ≡ b) ⊎ (a ≡ b → ⊥)
eqb_cases a b = go (eqb a b) refl
  where
    go : (t : Bool) → eqb a b ≡ t → (a ≡ b) ⊎ (a ≡ b → ⊥)
    go true h = inl (eqb-true a b h)
    go false h = inr (λ e. eqb-false a b h e)

pub replicated : {X : Type 0} → (n : ℕ) (x : X) (i : ℕ) (v : X) → slice_get (replicate n x) i ≡ Some v → x ≡ v
replicated zero x i v h = cc
replicated (suc n) x zero v h = cc
replicated (suc n) x (suc i) v h = replicated n x i v h

-- what a method's body is given: its parameters, after `this` where the method isn't static
pub given_static : (P : Program) (m : ℕ) → static_of (method_at P m) ≡ true → given_bases P m ≡ params_of (method_at P m)
given_static P m h = ap (λ t. cond t (params_of (method_at P m)) (Ref (record { 0 = class_of (method_at P m) }) ∷ params_of (method_at P m))) h

pub given_this : (P : Program) (m : ℕ) → static_of (method_at P m) ≡ false → given_bases P m ≡ Ref (record { 0 = class_of (method_at P m) }) ∷ params_of (method_at P m)
given_this P m h = ap (λ t. cond t (params_of (method_at P m)) (Ref (record { 0 = class_of (method_at P m) }) ∷ params_of (method_at P m))) h

-- the body of a point is there
pub body_there : (P : Program) (b p : ℕ) (pt : Point) → point_at P b p ≡ Some pt → (x : Body) × (body_at P b ≡ Some x)
body_there P b p pt is = by (body_at P b) refl is
  where
    by : (o : Option Body) → body_at P b ≡ o → slice_get (points_of o) p ≡ Some pt → (x : Body) × (body_at P b ≡ Some x)
    by None e is = cc
    by (Some x) e is = (x, e)
