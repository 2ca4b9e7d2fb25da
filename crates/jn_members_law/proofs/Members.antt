-- The method that a class has is one of its members, and the only one that a class declares.
use Rattle.std.proofs.Common.{◌≡◌, ◌+◌, ℕ, zero, suc, Bool, true, false, not, ◌||◌, ◌&&◌, ◌⊎◌, inl, inr, [], ◌∷◌, ◌++◌, length, Option, Some, None, refl, sym, ap, ◌∙◌, subst, eqb, arith}
use Rattle.std.specs.Prelude.{slice_get, flat_map}
use Rattle.std.proofs.lemmas.Bool.{eqb-true, eq-eqb}
use Rattle.jn_base.specs.declared.number.ClassNo.{ClassNo}
use Rattle.jn_points.specs.declared.program.Method.{Method}
use Rattle.jn_points.specs.declared.program.Program.{Program}
use Rattle.jn_points.specs.Lookup.{class_info, supers_of, parent_of, method_at}
use Rattle.jn_points.specs.Members.{some_of, first_at, first_some, is_class, is_named, walk_by, walk_parent, interfaces, declared_method}
use Rattle.jn_points.specs.Regular.{RegularClasses}
use Rattle.jn_points.proofs.Walks.{first_some_append}
use Rattle.jn_members_law.specs.Inherited.{SameSignature, IsDirectSuper, Declares, DeclaresNone, IsMember, KeepsAccess}
use Rattle.jn_members_law.proofs.Searches.{true_or_not, and_true, and_both, first_passes, none_passes, same_first, found_or_none, passes_found, or_found, along_one, in_filter}
use Rattle.jn_members_law.proofs.Supers.{parent_super}

-- class d declares a method of the signature for class c, where one that is private counts at class c alone
abbrev pub declared_for : ℕ → ℕ → ℕ → ℕ → Method → Bool
declared_for c name arity d m = is_named m name arity && eqb m.owner.0 d && (not m.is_private || eqb d c)

-- class d declares a method of the signature that isn't private
abbrev pub open_for : ℕ → ℕ → ℕ → Method → Bool
open_for name arity d m = is_named m name arity && eqb m.owner.0 d && not m.is_private

abbrev pub open_method : Program → ℕ → ℕ → ℕ → Option ℕ
open_method P name arity d = first_at (open_for name arity d) 0 P.methods

pub named_parts : (m : Method) (name arity : ℕ) → is_named m name arity ≡ true → (m.ctor ≡ false) × (m.name.0 ≡ name) × (length m.params ≡ arity)
named_parts m name arity h = by m.ctor refl h
  where
    by : (b : Bool) → m.ctor ≡ b → (not b && eqb m.name.0 name && eqb (length m.params) arity) ≡ true → (m.ctor ≡ false) × (m.name.0 ≡ name) × (length m.params ≡ arity)
    by true e h = cc
    by false e h = let r = and_true (eqb m.name.0 name) (eqb (length m.params) arity) h in (e, eqb-true m.name.0 name r.0, eqb-true (length m.params) arity r.1)

pub parts_named : (m : Method) (name arity : ℕ) → m.ctor ≡ false → m.name.0 ≡ name → length m.params ≡ arity → is_named m name arity ≡ true
parts_named m name arity c n a = rw c (and_both (eqb m.name.0 name) (eqb (length m.params) arity) (eq-eqb m.name.0 name n) (eq-eqb (length m.params) arity a))

pub three : (a b c : Bool) → (a && b && c) ≡ true → (a ≡ true) × (b ≡ true) × (c ≡ true)
three true true c h = (refl, refl, h)
three true false c h = cc
three false b c h = cc

pub three_both : (a b c : Bool) → a ≡ true → b ≡ true → c ≡ true → (a && b && c) ≡ true
three_both true true c e f h = h
three_both true false c e f h = cc
three_both false b c e f h = cc

pub not_true : (b : Bool) → not b ≡ true → b ≡ false
not_true true h = cc
not_true false h = refl

module _ (P : Program) (name arity : ℕ) where
  -- what is declared, as the specification says it
  pub declared_is : (c d m : ℕ) → declared_method P c name arity d ≡ Some m → (x : Method) × Declares P d m x × (is_named x name arity ≡ true) × (x.is_private ≡ true → d ≡ c)
  declared_is c d m h =
      let f = first_passes (declared_for c name arity d) 0 P.methods m h in
      let number : m ≡ f.0 = (let e : m ≡ 0 + f.0 = f.4 in omega arith) in
      let t = three (is_named f.1 name arity) (eqb f.1.owner.0 d) (not f.1.is_private || eqb d c) f.3 in
      (f.1, record { there = subst (λ n. method_at P n ≡ Some f.1) (sym number) f.2; method = (named_parts f.1 name arity t.0).0; owner = eqb-true f.1.owner.0 d t.1 }, t.0, own f.1.is_private t.2)
    where
      own : (b : Bool) → (not b || eqb d c) ≡ true → b ≡ true → d ≡ c
      own true h e = eqb-true d c h
      own false h e = cc

  pub open_is : (d m : ℕ) → open_method P name arity d ≡ Some m → (x : Method) × Declares P d m x × (is_named x name arity ≡ true) × (x.is_private ≡ false)
  open_is d m h =
      let f = first_passes (open_for name arity d) 0 P.methods m h in
      let number : m ≡ f.0 = (let e : m ≡ 0 + f.0 = f.4 in omega arith) in
      let t = three (is_named f.1 name arity) (eqb f.1.owner.0 d) (not f.1.is_private) f.3 in
      (f.1, record { there = subst (λ n. method_at P n ≡ Some f.1) (sym number) f.2; method = (named_parts f.1 name arity t.0).0; owner = eqb-true f.1.owner.0 d t.1 }, t.0, not_true f.1.is_private t.2)

  named_by : (d m : ℕ) (x y : Method) → Declares P d m y → SameSignature y x → x.name.0 ≡ name → length x.params ≡ arity → is_named y name arity ≡ true
  named_by d m x y dec same n a = parts_named y name arity dec.method (same.0 ∙ n) (same.1 ∙ a)

  -- what is declared is found, or another one
  pub is_declared : (c d m : ℕ) (x : Method) → Declares P d m x → is_named x name arity ≡ true → (x.is_private ≡ true → d ≡ c) → (j : ℕ) × (declared_method P c name arity d ≡ Some j)
  is_declared c d m x dec named own = passes_found (declared_for c name arity d) P.methods m x dec.there (three_both (is_named x name arity) (eqb x.owner.0 d) (not x.is_private || eqb d c) named (eq-eqb x.owner.0 d dec.owner) (counts x.is_private own))
    where
      counts : (b : Bool) → (b ≡ true → d ≡ c) → (not b || eqb d c) ≡ true
      counts true own = eq-eqb d c (own refl)
      counts false own = refl

  pub is_open : (d m : ℕ) (x : Method) → Declares P d m x → is_named x name arity ≡ true → x.is_private ≡ false → (j : ℕ) × (open_method P name arity d ≡ Some j)
  is_open d m x dec named own = passes_found (open_for name arity d) P.methods m x dec.there (three_both (is_named x name arity) (eqb x.owner.0 d) (not x.is_private) named (eq-eqb x.owner.0 d dec.owner) (ap not own))

  -- where class c declares none, only open methods are found along it
  pub open_alone : (c : ℕ) → declared_method P c name arity c ≡ None → (d : ℕ) → declared_method P c name arity d ≡ open_method P name arity d
  open_alone c none d = same_first (declared_for c name arity d) (open_for name arity d) 0 P.methods same
    where
      by : (x : Method) (k : ℕ) → slice_get P.methods k ≡ Some x → (eqb d c ≡ true) ⊎ (eqb d c ≡ false) → declared_for c name arity d x ≡ open_for name arity d x
      by x k at (inr e) = rw e (side (is_named x name arity) (eqb x.owner.0 d) (not x.is_private))
        where
          side : (a b p : Bool) → (a && b && (p || false)) ≡ (a && b && p)
          side a b true = refl
          side a b false = refl
      by x k at (inl e) =
          let same : d ≡ c = eqb-true d c e in
          let off : declared_for c name arity c x ≡ false = none_passes (declared_for c name arity c) 0 P.methods none k x at in
          subst (λ z. declared_for c name arity z x ≡ open_for name arity z x) (sym same) (off ∙ sym (neither (is_named x name arity) (eqb x.owner.0 c) (not x.is_private) (eqb c c) off))
        where
          neither : (a b p q : Bool) → (a && b && (p || q)) ≡ false → (a && b && p) ≡ false
          neither true true true q h = h
          neither true true false q h = refl
          neither true false p q h = refl
          neither false b p q h = refl

      same : (k : ℕ) (x : Method) → slice_get P.methods k ≡ Some x → declared_for c name arity d x ≡ open_for name arity d x
      same k x at = by x k at (true_or_not (eqb d c))

  -- where none is found in a class, it declares none that isn't private
  pub none_open : (c : ℕ) (x : Method) → open_method P name arity c ≡ None → is_named x name arity ≡ true → x.is_private ≡ false → ((k : ℕ) (y : Method) → Declares P c k y → SameSignature y x → y.is_private ≡ true → x.is_private ≡ true) → DeclaresNone P c x
  none_open c x none named open_to access k y dec same = by (true_or_not y.is_private)
    where
      parts : (x.ctor ≡ false) × (x.name.0 ≡ name) × (length x.params ≡ arity)
      parts = named_parts x name arity named

      by : (y.is_private ≡ true) ⊎ (y.is_private ≡ false) → ⊥
      by (inl p) = let t : x.is_private ≡ true = access k y dec same p in cc
      by (inr p) = let f = is_open c k y dec (named_by c k x y dec same parts.1 parts.2) p in cc

  pub kept_none : (c : ℕ) (x : Method) → DeclaresNone P c x → is_named x name arity ≡ true → open_method P name arity c ≡ None
  kept_none c x kept named = by (found_or_none (open_method P name arity c))
    where
      by : (open_method P name arity c ≡ None) ⊎ ((j : ℕ) × (open_method P name arity c ≡ Some j)) → open_method P name arity c ≡ None
      by (inl e) = e
      by (inr r) =
          let y = open_is c r.0 r.1 in
          let a = named_parts y.0 name arity y.2 in
          let b = named_parts x name arity named in
          absurd (kept r.0 y.0 y.1 (a.1 ∙ sym b.1, a.2 ∙ sym b.2))

  -- what is found along a walk: in the class, else along its parent, else along an interface
  pub walk_cases : (f : ℕ → Option ℕ) (k c m : ℕ) → first_some f (walk_by P (suc k) c) ≡ Some m → (f c ≡ Some m) ⊎ ((f c ≡ None) × (((p : ClassNo) × (parent_of (class_info P c) ≡ Some p) × (first_some f (walk_by P k p.0) ≡ Some m)) ⊎ ((s : ClassNo) × (some_of (λ (t : ClassNo). eqb t.0 s.0) (interfaces P c) ≡ true) × (first_some f (walk_by P k s.0) ≡ Some m))))
  walk_cases f k c m h = by (or_found (f c) (first_some f (walk_parent P (walk_by P k) (parent_of (class_info P c)) ++ flat_map (λ (s : ClassNo). walk_by P k s.0) (interfaces P c))) m h)
    where
      above : (o : Option ClassNo) → parent_of (class_info P c) ≡ o → first_some f (walk_parent P (walk_by P k) o) ≡ Some m → (p : ClassNo) × (parent_of (class_info P c) ≡ Some p) × (first_some f (walk_by P k p.0) ≡ Some m)
      above None e h = cc
      above (Some p) e h = (p, e, h)

      on : (first_some f (walk_parent P (walk_by P k) (parent_of (class_info P c))) ≡ Some m) ⊎ ((first_some f (walk_parent P (walk_by P k) (parent_of (class_info P c))) ≡ None) × (first_some f (flat_map (λ (s : ClassNo). walk_by P k s.0) (interfaces P c)) ≡ Some m)) → ((p : ClassNo) × (parent_of (class_info P c) ≡ Some p) × (first_some f (walk_by P k p.0) ≡ Some m)) ⊎ ((s : ClassNo) × (some_of (λ (t : ClassNo). eqb t.0 s.0) (interfaces P c) ≡ true) × (first_some f (walk_by P k s.0) ≡ Some m))
      on (inl e) = inl (above (parent_of (class_info P c)) refl e)
      on (inr e) = inr (along_one f (walk_by P k) (interfaces P c) m e.1)

      by : (f c ≡ Some m) ⊎ ((f c ≡ None) × (first_some f (walk_parent P (walk_by P k) (parent_of (class_info P c)) ++ flat_map (λ (s : ClassNo). walk_by P k s.0) (interfaces P c)) ≡ Some m)) → (f c ≡ Some m) ⊎ ((f c ≡ None) × (((p : ClassNo) × (parent_of (class_info P c) ≡ Some p) × (first_some f (walk_by P k p.0) ≡ Some m)) ⊎ ((s : ClassNo) × (some_of (λ (t : ClassNo). eqb t.0 s.0) (interfaces P c) ≡ true) × (first_some f (walk_by P k s.0) ≡ Some m))))
      by (inl e) = inl e
      by (inr e) = inr (e.0, on (or_found (first_some f (walk_parent P (walk_by P k) (parent_of (class_info P c)))) (first_some f (flat_map (λ (s : ClassNo). walk_by P k s.0) (interfaces P c))) m (sym (first_some_append f (walk_parent P (walk_by P k) (parent_of (class_info P c))) (flat_map (λ (s : ClassNo). walk_by P k s.0) (interfaces P c))) ∙ e.1)))

  module _ (C : RegularClasses P) where
    pub interface_super : (c : ℕ) (s : ClassNo) → some_of (λ (t : ClassNo). eqb t.0 s.0) (interfaces P c) ≡ true → IsDirectSuper P c s.0
    interface_super c s h = in_filter (λ (t : ClassNo). eqb t.0 s.0) (λ (t : ClassNo). not (is_class (parent_of (class_info P c)) t)) (supers_of (class_info P c)) h

    module _ (A : KeepsAccess P) where
      pub open_member : (k c m : ℕ) → first_some (open_method P name arity) (walk_by P k c) ≡ Some m → (x : Method) × IsMember P c m x × (is_named x name arity ≡ true) × (x.is_private ≡ false)
      open_member zero c m h = cc
      open_member (suc k) c m h = by (walk_cases (open_method P name arity) k c m h) (λ s. open_member k s m)
        where
          inherited : (s : ℕ) → open_method P name arity c ≡ None → IsDirectSuper P c s → (x : Method) × IsMember P s m x × (is_named x name arity ≡ true) × (x.is_private ≡ false) → (x : Method) × IsMember P c m x × (is_named x name arity ≡ true) × (x.is_private ≡ false)
          inherited s none u r =
              let kept = none_open c r.0 none r.2 r.3 (λ k y dec same. A c s m k r.0 y u r.1 dec same) in
              (r.0, record { from = s ∷ r.1.from; by = (record { from = u; open_to_all = r.3; kept = kept }, r.1.by) }, r.2, r.3)

          by : (open_method P name arity c ≡ Some m) ⊎ ((open_method P name arity c ≡ None) × (((p : ClassNo) × (parent_of (class_info P c) ≡ Some p) × (first_some (open_method P name arity) (walk_by P k p.0) ≡ Some m)) ⊎ ((s : ClassNo) × (some_of (λ (t : ClassNo). eqb t.0 s.0) (interfaces P c) ≡ true) × (first_some (open_method P name arity) (walk_by P k s.0) ≡ Some m)))) → ((s : ℕ) → first_some (open_method P name arity) (walk_by P k s) ≡ Some m → (x : Method) × IsMember P s m x × (is_named x name arity ≡ true) × (x.is_private ≡ false)) → (x : Method) × IsMember P c m x × (is_named x name arity ≡ true) × (x.is_private ≡ false)
          by (inl e) rest = let r = open_is c m e in (r.0, record { from = []; by = r.1 }, r.2, r.3)
          by (inr (e, inl p)) rest = inherited p.0.0 e (parent_super P C c p.0.0 p.1) (rest p.0.0 p.2)
          by (inr (e, inr s)) rest = inherited s.0.0 e (interface_super c s.0 s.1) (rest s.0.0 s.2)
