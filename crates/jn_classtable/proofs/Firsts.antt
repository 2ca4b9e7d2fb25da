-- A class stands after another of its name exactly where the first class of that name stands before it.
use Rattle.std.proofs.Common.{◌≡◌, ◌≤◌, ◌+◌, ℕ, zero, suc, Bool, true, false, cond, ◌||◌, List, [], ◌∷◌, map, take, Option, Some, None, refl, sym, ap, ◌∙◌, subst, eqb, arith}
use Rattle.std.proofs.lemmas.Bool.{le-ltb, lt-ltb}
use Rattle.jn_points.specs.declared.program.Class.{Class}
use Rattle.jn_points.specs.Members.{first_at, some_of}
use Rattle.jn_heads.specs.declared.head.ClassHead.{ClassHead}
use Rattle.jn_heads.specs.Heads.{number, object_head, string_head}
use Rattle.jn_classtable.specs.Table.{declared_class, table}
use Rattle.jn_heads.specs.TypePlaces.{is_before}
use Rattle.jn_declaration_rules.specs.Rows.{earlier}
use Rattle.jn_classtable.specs.Rows.{same_class_name}

-- a first place isn't below the one from which it is looked for
from_place : {A : Type 0} (test : A → Bool) (n : ℕ) (xs : List A) → is_before (first_at test n xs) n ≡ false
from_place test n [] = refl
from_place {A} test n (x ∷ xs) = by (test x) (from_place test (n + 1) xs)
  where
    least : (m : ℕ) (o : Option ℕ) → is_before o (suc m) ≡ false → is_before o m ≡ false
    least m None h = refl
    least m (Some k) h = le-ltb k m (let l : suc m ≤ k = grind arith in omega arith)

    by : (b : Bool) → is_before (first_at test (n + 1) xs) (n + 1) ≡ false → is_before (cond b (Some n) (first_at test (n + 1) xs)) n ≡ false
    by true rest = le-ltb n n (omega arith)
    by false rest = least n (first_at test (n + 1) xs) (subst (λ m. is_before (first_at test (n + 1) xs) m ≡ false) (let e : n + 1 ≡ suc n = omega arith in e) rest)

some_before : {A B : Type 0} (like : B → Bool) (test : A → Bool) (f : A → B) → ((a : A) → like (f a) ≡ test a) → (i n : ℕ) (xs : List A) → some_of like (take i (map f xs)) ≡ is_before (first_at test n xs) (n + i)
some_before like test f same zero n xs = sym (subst (λ m. is_before (first_at test n xs) m ≡ false) (let e : n ≡ n + 0 = omega arith in e) (from_place test n xs))
some_before like test f same (suc i) n [] = refl
some_before {A} {B} like test f same (suc i) n (x ∷ xs) = ap (λ b. b || some_of like (take i (map f xs))) (same x) ∙ by (test x) (some_before like test f same i (n + 1) xs)
  where
    by : (b : Bool) → some_of like (take i (map f xs)) ≡ is_before (first_at test (n + 1) xs) (n + 1 + i) → (b || some_of like (take i (map f xs))) ≡ is_before (cond b (Some n) (first_at test (n + 1) xs)) (n + suc i)
    by true rest = sym (lt-ltb n (n + suc i) (omega arith))
    by false rest = rest ∙ ap (is_before (first_at test (n + 1) xs)) (let e : n + 1 + i ≡ n + suc i = omega arith in e)

turn : (a b : ℕ) → eqb a b ≡ eqb b a
turn a b = grind arith

pub earlier_class : (hs : List ClassHead) (i : ℕ) (x : Class) → earlier same_class_name (table hs).classes i x ≡ is_before (number hs x.name) i
earlier_class hs zero x = sym (from_place (λ h. eqb h.name.name.0 x.name.0) 0 (object_head ∷ string_head ∷ hs))
earlier_class hs (suc i) x = ap (λ b. b || some_of (same_class_name x) (take i (map (declared_class hs) (string_head ∷ hs)))) (turn x.name.0 object_head.name.name.0) ∙ by (eqb object_head.name.name.0 x.name.0)
  where
    by : (b : Bool) → (b || some_of (same_class_name x) (take i (map (declared_class hs) (string_head ∷ hs)))) ≡ is_before (cond b (Some 0) (first_at (λ h. eqb h.name.name.0 x.name.0) 1 (string_head ∷ hs))) (suc i)
    by true = sym (lt-ltb 0 (suc i) (omega arith))
    by false = some_before (same_class_name x) (λ (h : ClassHead). eqb h.name.name.0 x.name.0) (declared_class hs) (λ h. turn x.name.0 h.name.name.0) i 1 (string_head ∷ hs) ∙ ap (is_before (first_at (λ h. eqb h.name.name.0 x.name.0) 1 (string_head ∷ hs))) (let e : 1 + i ≡ suc i = omega arith in e)
