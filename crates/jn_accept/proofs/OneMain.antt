-- The form of a main as a test, and the one method that has it.
use Rattle.std.proofs.Common.{◌≡◌, ℕ, zero, suc, ◌<◌, ◌+◌, ◌≤◌, ◌⊎◌, inl, inr, ⊎_elim, arith, Bool, true, false, not, ◌&&◌, List, [], ◌∷◌, Option, Some, None, length, refl, sym, ap, ◌∙◌, subst}
use Rattle.std.specs.Prelude.{slice_get}
use Rattle.std.proofs.lemmas.Bool.{and_from, and_parts, both_ways, not-true}
use Rattle.std.proofs.lemmas.Option.{slice_get_within}
use Rattle.jn_base.specs.declared.number.BodyNo.{BodyNo}
use Rattle.jn_base.specs.declared.number.SlotNo.{SlotNo}
use Rattle.jn_quals.specs.Qualifier.{Qualifier}
use Rattle.jn_quals.specs.Order.{committed_only, within}
use Rattle.jn_points.specs.declared.program.Method.{Method}
use Rattle.jn_points.specs.declared.program.SlotInfo.{SlotInfo}
use Rattle.jn_points.specs.declared.program.Program.{Program}
use Rattle.jn_points.specs.Lookup.{body_no, method_at}
use Rattle.jn_points.specs.Regular.{has_body}
use Rattle.jn_accept.specs.Mains.{IsFirst, IsMain, IsOnlyMain, NoneBetween, NoneFrom, has_form, is_committed, takes_committed}

quals_are : (n c f : Bool) → (within (record { null = n; committed = c; free = f }) committed_only && within committed_only (record { null = n; committed = c; free = f })) ≡ true → ◌≡◌ {A = Qualifier} (record { null = n; committed = c; free = f }) committed_only
quals_are false false false h = cc
quals_are false false true h = cc
quals_are false true false h = refl
quals_are false true true h = cc
quals_are true false false h = cc
quals_are true false true h = cc
quals_are true true false h = cc
quals_are true true true h = cc

only_committed : (q : Qualifier) → (within q committed_only && within committed_only q) ≡ true → q ≡ committed_only
only_committed q h = quals_are q.null q.committed q.free h

lt_or_is : (k n : ℕ) → k < n + 1 → (k < n) ⊎ (k ≡ n)
lt_or_is k n lt = nat_cases k n (omega (arith, lt))
  where
    nat_cases : (k n : ℕ) → k ≤ n → (k < n) ⊎ (k ≡ n)
    nat_cases zero zero le = inr refl
    nat_cases zero (suc n) le = inl (omega arith)
    nat_cases (suc k) zero le = absurd (omega (arith, le))
    nat_cases (suc k) (suc n) le = ⊎_elim (λ (h : k < n). inl (omega (arith, h))) (λ (h : k ≡ n). inr (ap suc h)) (nat_cases k n (omega (arith, le)))

module _ (P : Program) (m : ℕ) where
  slot_form : (o : Option SlotInfo) → is_committed o ≡ true → (info : SlotInfo) × (o ≡ Some info) × (info.inferred ≡ false) × (info.start ≡ committed_only)
  slot_form None h = cc
  slot_form (Some info) h =
      let all = and_parts (not info.inferred && within info.start committed_only) (within committed_only info.start) h in
      let front = and_parts (not info.inferred) (within info.start committed_only) all.0 in
      (info, refl, not-true info.inferred front.0, only_committed info.start (and_from (within info.start committed_only) (within committed_only info.start) front.1 all.1))

  form_by : (x : Method) → method_at P m ≡ Some x → x.is_main ≡ true → (o : Option BodyNo) → x.body ≡ o → has_body o ≡ true → (xs : List (Option SlotNo)) → x.param_slots ≡ xs → takes_committed P xs ≡ true → IsMain P m
  form_by x at main None ob h xs e t = cc
  form_by x at main (Some b) ob h [] e t = cc
  form_by x at main (Some b) ob h (None ∷ xs) e t = cc
  form_by x at main (Some b) ob h (Some slot ∷ y ∷ xs) e t = cc
  form_by x at main (Some b) ob h (Some slot ∷ []) e t =
      let f = slot_form (slice_get P.slots slot.0) t in
      (b.0, record { method = x; there = at; is_main = main; body = ap body_no ob; slot = slot; info = f.0; param = e; start = f.1; written = f.2; committed = f.3 })

  pub form_is : (x : Method) → method_at P m ≡ Some x → has_form P x ≡ true → IsMain P m
  form_is x at h =
      let all = and_parts (x.is_main && has_body x.body) (takes_committed P x.param_slots) h in
      let front = and_parts x.is_main (has_body x.body) all.0 in
      form_by x at front.0 x.body refl front.1 x.param_slots refl all.1

  has_some : (o : Option BodyNo) (b : ℕ) → body_no o ≡ Some b → has_body o ≡ true
  has_some None b e = cc
  has_some (Some n) b e = refl

  committed_is : (o : Option SlotInfo) (info : SlotInfo) → o ≡ Some info → info.inferred ≡ false → info.start ≡ committed_only → is_committed o ≡ true
  committed_is o info e w c = subst (λ o. is_committed o ≡ true) (sym e) (subst (λ t. (not t && within info.start committed_only && within committed_only info.start) ≡ true) (sym w) (subst (λ q. (within q committed_only && within committed_only q) ≡ true) (sym c) refl))

  pub is_form : (x : Method) → method_at P m ≡ Some x → IsMain P m → has_form P x ≡ true
  is_form x at y =
      let F = y.1 in
      let same : Some F.method ≡ Some x = sym F.there ∙ at in
      let eq : F.method ≡ x = cc in
      let takes : takes_committed P F.method.param_slots ≡ true = subst (λ xs. takes_committed P xs ≡ true) (sym F.param) (committed_is (slice_get P.slots F.slot.0) F.info F.start F.written F.committed) in
      let all : has_form P F.method ≡ true = and_from (F.method.is_main && has_body F.method.body) (takes_committed P F.method.param_slots) (and_from F.method.is_main (has_body F.method.body) F.is_main (has_some F.method.body y.0 F.body)) takes in
      subst (λ z. has_form P z ≡ true) eq all

module _ (P : Program) where
  -- a method that isn't of the form is passed
  pub none_more : (i n : ℕ) (x : Method) → method_at P n ≡ Some x → has_form P x ≡ false → NoneBetween P i n → NoneBetween P i (n + 1)
  none_more i n x at isnt h k le lt f = ⊎_elim (λ (below : k < n). h k le below f) (λ (same : k ≡ n). both_ways (has_form P x) isnt (is_form P k x (ap (method_at P) same ∙ at) f)) (lt_or_is k n lt)

  -- the first from a place on
  pub first_there : (i n : ℕ) (x : Method) → i ≤ n → method_at P n ≡ Some x → has_form P x ≡ true → NoneBetween P i n → IsFirst P i n
  first_there i n x le at is h = record { from = le; main = form_is P n x at is; none = h }

  pub none_from : (i n : ℕ) → length P.methods ≤ n → NoneBetween P i n → NoneFrom P i
  none_from i n le h k from f = h k from (let lt = slice_get_within P.methods k f.1.method f.1.there in omega (arith, lt, le)) f

  pub none_only : NoneFrom P 0 → (m : ℕ) → IsOnlyMain P m → ⊥
  none_only h m o = h m (omega arith) o.0

  pub one_only : (m : ℕ) → IsFirst P 0 m → NoneFrom P (m + 1) → IsOnlyMain P m
  one_only m F h = (F.main, λ k f. nat_elim_cases k f (nat_split k m))
    where
      nat_split : (k m : ℕ) → ((k < m) ⊎ (k ≡ m)) ⊎ (m + 1 ≤ k)
      nat_split zero zero = inl (inr refl)
      nat_split zero (suc m) = inl (inl (omega arith))
      nat_split (suc k) zero = inr (omega arith)
      nat_split (suc k) (suc m) = ⊎_elim (λ (l : (k < m) ⊎ (k ≡ m)). inl (⊎_elim (λ (h : k < m). inl (omega (arith, h))) (λ (h : k ≡ m). inr (ap suc h)) l)) (λ (h : m + 1 ≤ k). inr (omega (arith, h))) (nat_split k m)

      nat_elim_cases : (k : ℕ) → IsMain P k → ((k < m) ⊎ (k ≡ m)) ⊎ (m + 1 ≤ k) → k ≡ m
      nat_elim_cases k f (inl (inl lt)) = absurd (F.none k (omega arith) lt f)
      nat_elim_cases k f (inl (inr same)) = same
      nat_elim_cases k f (inr le) = absurd (h k le f)

  pub two_mains : (m n : ℕ) → IsFirst P 0 m → IsFirst P (m + 1) n → (k : ℕ) → IsOnlyMain P k → ⊥
  two_mains m n F G k o =
      let a : m ≡ k = o.1 m F.main in
      let b : n ≡ k = o.1 n G.main in
      let lt : m + 1 ≤ n = G.from in
      absurd (omega (arith, a, b, lt))
