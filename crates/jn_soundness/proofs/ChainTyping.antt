-- The example with a chain of constructors is base-typed.
use Rattle.std.proofs.Common.{◌≡◌, ℕ, zero, suc, Bool, true, false, ◌||◌, ◌⊎◌, inl, inr, [], ◌∷◌, length, Option, Some, None, refl, sym, ◌∙◌, subst, arith, eqb, ◌&&◌, not}
use Rattle.std.proofs.lemmas.Bool.{eqb-true, eq-eqb, or_cases}
use Rattle.jn_base.specs.declared.number.ClassNo.{ClassNo}
use Rattle.jn_points.specs.declared.point.Point.{Point}
use Rattle.jn_points.specs.declared.program.Class.{Class}
use Rattle.jn_points.specs.declared.program.Method.{Method}
use Rattle.jn_points.specs.Lookup.{body_of, point_at, method_at, ctor_of, class_of, class_info, reg_base, supers_of}
use Rattle.jn_points.specs.Members.{some_of, reaches, sub, pairs_of, is_pair, is_named, class_pairs, interface_pairs}
use Rattle.jn_points.specs.BaseTyping.{Ordered, PointTyped, StartsWith, given_bases, BaseTyped}
use Rattle.jn_soundness.specs.ExampleParts.{strings}
use Rattle.jn_soundness.specs.ChainExample.{chain_program, ref}
use Rattle.jn_soundness.proofs.Fits.{sub_self, or_left}
use Rattle.jn_soundness.proofs.Finite.{each_at, points_each}

-- subtyping

or_none : (a : Bool) → (a || false) ≡ true → a ≡ true
or_none true h = refl
or_none false h = cc

-- which classes are within which
abbrev Within : ℕ → ℕ → Type 0
Within a b = (b ≡ 0) ⊎ ((a ≡ b) ⊎ ((a ≡ 3) × (b ≡ 2)))

equal_within : (a b : ℕ) → eqb a b ≡ true → Within a b
equal_within a b h = inr (inl (eqb-true a b h))

-- from a class other than B nothing is reached but itself and Object
alone : (n a b : ℕ) → supers_of (class_info chain_program a) ≡ [] → reaches chain_program n a b ≡ true → Within a b
alone zero a b s h = equal_within a b h
alone (suc n) a b s h = by (or_cases (eqb a b) (some_of (λ s. reaches chain_program n s.0 b) (supers_of (class_info chain_program a))) h)
  where
    by : (eqb a b ≡ true) ⊎ (some_of (λ s. reaches chain_program n s.0 b) (supers_of (class_info chain_program a)) ≡ true) → Within a b
    by (inl e) = equal_within a b e
    by (inr r) = absurd (let k : false ≡ true = subst (λ xs. some_of {A = ClassNo} (λ s. reaches chain_program n s.0 b) xs ≡ true) s r in cc)

object_only : (n b : ℕ) → reaches chain_program n 0 b ≡ true → b ≡ 0
object_only n b h = by (alone n 0 b refl h)
  where
    by : Within 0 b → b ≡ 0
    by (inl e) = e
    by (inr (inl e)) = sym e
    by (inr (inr x)) = x.1 ∙ absurd (let y : 0 ≡ 3 = x.0 in omega (y, arith))

-- a class whose only supertype is Object
under_object : (n a b : ℕ) → supers_of (class_info chain_program a) ≡ record { 0 = 0 } ∷ [] → reaches chain_program n a b ≡ true → (b ≡ 0) ⊎ (a ≡ b)
under_object zero a b s h = inr (eqb-true a b h)
under_object (suc n) a b s h = by (or_cases (eqb a b) (some_of (λ s. reaches chain_program n s.0 b) (supers_of (class_info chain_program a))) h)
  where
    by : (eqb a b ≡ true) ⊎ (some_of (λ s. reaches chain_program n s.0 b) (supers_of (class_info chain_program a)) ≡ true) → (b ≡ 0) ⊎ (a ≡ b)
    by (inl e) = inr (eqb-true a b e)
    by (inr r) = inl (object_only n b (or_none (reaches chain_program n 0 b) (subst (λ xs. some_of (λ s. reaches chain_program n s.0 b) xs ≡ true) s r)))

widen : (a b : ℕ) → (b ≡ 0) ⊎ (a ≡ b) → Within a b
widen a b (inl e) = inl e
widen a b (inr e) = inr (inl e)

reached : (a b : ℕ) → reaches chain_program 4 a b ≡ true → Within a b
reached zero b h = alone 4 0 b refl h
reached (suc zero) b h = widen 1 b (under_object 4 1 b refl h)
reached (suc (suc zero)) b h = widen 2 b (under_object 4 2 b refl h)
reached (suc (suc (suc zero))) b h = by (or_cases (eqb 3 b) (reaches chain_program 3 2 b || false) h)
  where
    upper : (b ≡ 0) ⊎ (2 ≡ b) → Within 3 b
    upper (inl e) = inl e
    upper (inr e) = inr (inr (refl, sym e))

    by : (eqb 3 b ≡ true) ⊎ ((reaches chain_program 3 2 b || false) ≡ true) → Within 3 b
    by (inl e) = equal_within 3 b e
    by (inr r) = upper (under_object 3 2 b refl (or_none (reaches chain_program 3 2 b) r))
reached (suc (suc (suc (suc a)))) b h = alone 4 (suc (suc (suc (suc a)))) b refl h

sub_within : (a b : ℕ) → sub chain_program a b ≡ true → Within a b
sub_within a b h = by (or_cases (eqb b 0) (reaches chain_program 4 a b) h)
  where
    by : (eqb b 0 ≡ true) ⊎ (reaches chain_program 4 a b ≡ true) → Within a b
    by (inl e) = inl (eqb-true b 0 e)
    by (inr r) = reached a b r

within_sub : (a b : ℕ) → Within a b → sub chain_program a b ≡ true
within_sub a b (inl e) = or_left (eqb b 0) (reaches chain_program 4 a b) (eq-eqb b 0 e)
within_sub a b (inr (inl e)) = subst (λ b. sub chain_program a b ≡ true) e (sub_self chain_program a)
within_sub a b (inr (inr x)) = subst (λ a. sub chain_program a b ≡ true) (sym x.0) (subst (λ b. sub chain_program 3 b ≡ true) (sym x.1) refl)

within_trans : (a b c : ℕ) → Within a b → Within b c → Within a c
within_trans a b c x (inl e) = inl e
within_trans a b c x (inr (inl e)) = subst (λ c. Within a c) e x
within_trans a b c (inl f) (inr (inr y)) = absurd (let p : b ≡ 3 = y.0 in omega (f, p, arith))
within_trans a b c (inr (inl f)) (inr (inr y)) = inr (inr (f ∙ y.0, y.1))
within_trans a b c (inr (inr x)) (inr (inr y)) = absurd (let p : b ≡ 2 = x.1 in let q : b ≡ 3 = y.0 in omega (p, q, arith))

chain_ordered : Ordered chain_program
chain_ordered = record {
  trans = λ a b c x y. within_sub a c (within_trans a b c (sub_within a b x) (sub_within b c y));
  object = λ c h. top c (sub_within 0 c h);
  string = λ c h. flat c (sub_within c 1 h);
}
  where
    top : (c : ℕ) → Within 0 c → c ≡ 0
    top c (inl e) = e
    top c (inr (inl e)) = sym e
    top c (inr (inr x)) = absurd (let p : 0 ≡ 3 = x.0 in omega (p, arith))

    flat : (c : ℕ) → Within c 1 → c ≡ 1
    flat c (inl e) = absurd (let p : 1 ≡ 0 = e in omega (p, arith))
    flat c (inr (inl e)) = e
    flat c (inr (inr x)) = absurd (let p : 1 ≡ 2 = x.1 in omega (p, arith))

parents : (c : ℕ) (x : Class) → class_info chain_program c ≡ Some x → (p : ClassNo) → x.parent ≡ Some p → some_of (λ s. eqb s.0 p.0) x.supers ≡ true
parents = each_at (λ c x. (p : ClassNo) → x.parent ≡ Some p → some_of (λ s. eqb s.0 p.0) x.supers ≡ true) chain_program.classes
    ((λ p h. cc), ((λ p h. parent (record { 0 = 0 }) p h), ((λ p h. parent (record { 0 = 0 }) p h), ((λ p h. parent (record { 0 = 2 }) p h), tt))))
  where
    parent : (q p : ClassNo) → Some q ≡ Some p → (eqb q.0 p.0 || false) ≡ true
    parent q p h = let same : q ≡ p = cc in subst (λ p. (eqb q.0 p.0 || false) ≡ true) same (or_left (eqb q.0 q.0) false (eq-eqb q.0 q.0 refl))

-- points
typed : (b p : ℕ) (pt : Point) → point_at chain_program b p ≡ Some pt → PointTyped chain_program b pt.kind
typed = points_each chain_program (λ b p pt. PointTyped chain_program b pt.kind) (
  ((refl, (refl, tt)), (refl, (tt, tt))),
  (
    (refl, (tt, tt)),
    (
      ((refl, tt), (refl, (refl, (tt, tt)))),
      (((refl, tt), (refl, ((refl, refl, (refl, tt)), (refl, (refl, (refl, (tt, tt))))))), tt),
    ),
  ),
)

-- registers that a body begins with
on_bodies : (S : ℕ → ℕ → Type 0) → S 0 0 → S 1 1 → S 2 2 → S 3 3 → (m b : ℕ) → body_of (method_at chain_program m) ≡ Some b → S m b
on_bodies S a c d e zero b is = let same : 0 ≡ b = cc in subst (λ b. S 0 b) same a
on_bodies S a c d e (suc zero) b is = let same : 1 ≡ b = cc in subst (λ b. S 1 b) same c
on_bodies S a c d e (suc (suc zero)) b is = let same : 2 ≡ b = cc in subst (λ b. S 2 b) same d
on_bodies S a c d e (suc (suc (suc zero))) b is = let same : 3 ≡ b = cc in subst (λ b. S 3 b) same e
on_bodies S a c d e (suc (suc (suc (suc m)))) b is = cc

-- no method overrides another
ctor_pairs : (m k : ℕ) (x y : Option Method) → ctor_of x ≡ true → pairs_of chain_program m k x y ≡ false
ctor_pairs m k None y h = refl
ctor_pairs m k (Some x) None h = refl
ctor_pairs m k (Some x) (Some y) h = by x.ctor h
  where
    by : (t : Bool) → t ≡ true → (not t && is_named y x.name.0 (length x.params) && (class_pairs chain_program m k x y || interface_pairs chain_program x y)) ≡ false
    by true h = refl
    by false h = cc

pub no_pairs : (m k : ℕ) → is_pair chain_program m k ≡ false
no_pairs zero k = ctor_pairs 0 k (method_at chain_program 0) (method_at chain_program k) refl
no_pairs (suc zero) k = ctor_pairs 1 k (method_at chain_program 1) (method_at chain_program k) refl
no_pairs (suc (suc zero)) k = ctor_pairs 2 k (method_at chain_program 2) (method_at chain_program k) refl
no_pairs (suc (suc (suc zero))) zero = refl
no_pairs (suc (suc (suc zero))) (suc zero) = refl
no_pairs (suc (suc (suc zero))) (suc (suc zero)) = refl
no_pairs (suc (suc (suc zero))) (suc (suc (suc zero))) = refl
no_pairs (suc (suc (suc zero))) (suc (suc (suc (suc k)))) = refl
no_pairs (suc (suc (suc (suc m)))) k = refl

-- the whole
pub chain_typed : BaseTyped chain_program
chain_typed = record {
  ordered = chain_ordered;
  parents = λ c x p is h. parents c x is p h;
  points = typed;
  starts = on_bodies (λ m b. StartsWith chain_program (reg_base chain_program b) (given_bases chain_program m)) (refl, tt) (refl, (refl, tt)) (refl, tt) (refl, tt);
  ctor_reg = on_bodies (λ m b. ctor_of (method_at chain_program m) ≡ true → reg_base chain_program b 0 ≡ ref (class_of (method_at chain_program m))) (λ c. refl) (λ c. refl) (λ c. refl) (λ c. cc);
  pairs = λ m k h. let bad : false ≡ true = sym (no_pairs m k) ∙ h in cc;
  mains = each_at (λ m x. x.is_main ≡ true → x.params ≡ strings ∷ []) chain_program.methods ((λ h. cc), ((λ h. cc), ((λ h. cc), ((λ h. refl), tt))));
}
