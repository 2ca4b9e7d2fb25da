-- The sources of files are those of the bodies of their class table.
use Rattle.std.proofs.Common.{◌≡◌, ◌<◌, ◌+◌, ℕ, zero, suc, Bool, true, false, cond, not, ◌&&◌, ◌⊎◌, inl, inr, List, [], ◌∷◌, length, map, Option, Some, None, refl, sym, ap, ◌∙◌, subst, eqb, arith}
use Rattle.std.specs.Prelude.{slice_get, flat_map}
use Rattle.std.proofs.lemmas.Bool.{eqb-true, eqb-false}
use Rattle.std.proofs.lemmas.Option.{slice_get_within}
use Rattle.jn_base.specs.declared.number.BodyNo.{BodyNo}
use Rattle.jn_base.specs.declared.number.ClassNo.{ClassNo}
use Rattle.jn_trees.specs.declared.expression.Identifier.{Identifier}
use Rattle.jn_points.specs.declared.program.Body.{Body}
use Rattle.jn_points.specs.declared.program.Class.{Class}
use Rattle.jn_points.specs.declared.program.Method.{Method}
use Rattle.jn_points.specs.declared.program.Program.{Program}
use Rattle.jn_points.specs.Lookup.{body_no, body_of, class_info, class_of, ctor_of, interface_of, method_at, parent_of}
use Rattle.jn_points.specs.Members.{constructor_of}
use Rattle.jn_points.specs.Regular.{has_body}
use Rattle.jn_places.specs.Placed.{PlacedFile, PlacedMember, PlacedMethod, PlacedConstructor, PlacedFieldMember, PlacedType, PlacedClass, PlacedInterface}
use Rattle.jn_heads.specs.declared.head.MethodHead.{MethodHead}
use Rattle.jn_heads.specs.declared.head.ClassHead.{ClassHead}
use Rattle.jn_heads.specs.Heads.{all_heads, object_head, string_head}
use Rattle.jn_heads.specs.Extract.{class_head, heads, method_heads}
use Rattle.jn_classtable.specs.Table.{bodies_of_all, class_under, declared_class, parent_class, program_with, table}
use Rattle.jn_classtable.specs.Rows.{called, called_from}
use Rattle.jn_classtable.specs.RegularTable.{RegularTable}
use Rattle.jn_declaration_rules.proofs.Tests.{and_true, member}
use Rattle.jn_declaration_rules.proofs.Lists.{append_at, first_at_passes, map_at}
use Rattle.jn_classtable.proofs.Classes.{class_is, head_interface}
use Rattle.jn_classtable.proofs.Numbering.{MethodFrom, methods_from_at}
use Rattle.jn_lowering.specs.Bodies.{Source, class, own_arity}
use Rattle.jn_lowering.specs.Sources.{IsSource}
use Rattle.jn_program_law.specs.FileSources.{body_trees, sources}
use Rattle.jn_program_law.proofs.Aligned.{AllAgree, SourceAt, source_at, counted, one_method}
use Rattle.jn_program_law.proofs.Methods.{all_agree}

-- methods of an interface are abstract (JLS 8, 9.4)

only : {A : Type 0} (x y : A) (j : ℕ) → slice_get (x ∷ []) j ≡ Some y → x ≡ y
only x y zero e = cc
only x y (suc j) e = cc

abstract_member : (x : PlacedMember) (j : ℕ) (m : MethodHead) → slice_get (method_heads true x) j ≡ Some m → m.is_abstract ≡ true
abstract_member (PlacedMethod ms result n receiver ps body s) j m at = sym (ap (λ (z : MethodHead). z.is_abstract) (only _ m j at))
abstract_member (PlacedConstructor ms n ps body s) j m at = cc
abstract_member (PlacedFieldMember ms u d ds s) j m at = cc

abstract_members : (xs : List PlacedMember) (j : ℕ) (m : MethodHead) → slice_get (flat_map (method_heads true) xs) j ≡ Some m → m.is_abstract ≡ true
abstract_members [] j m at = cc
abstract_members (x ∷ xs) j m at = by (append_at (method_heads true x) (flat_map (method_heads true) xs) j m at) (abstract_members xs)
  where
    by : (slice_get (method_heads true x) j ≡ Some m) ⊎ ((i : ℕ) × (slice_get (flat_map (method_heads true) xs) i ≡ Some m)) → ((j : ℕ) (m : MethodHead) → slice_get (flat_map (method_heads true) xs) j ≡ Some m → m.is_abstract ≡ true) → m.is_abstract ≡ true
    by (inl e) rest = abstract_member x j m e
    by (inr e) rest = rest e.0 m e.1

abstract_type : (t : PlacedType) (j : ℕ) (m : MethodHead) → (class_head t).interface ≡ true → slice_get (class_head t).methods j ≡ Some m → m.is_abstract ≡ true
abstract_type (PlacedClass ms n parent interfaces members s) j m i at = cc
abstract_type (PlacedInterface ms n parents members s) j m i at = abstract_members members j m at

abstract_head : (files : List PlacedFile) (k : ℕ) (h : ClassHead) (j : ℕ) (m : MethodHead) → slice_get (heads files) k ≡ Some h → h.interface ≡ true → slice_get h.methods j ≡ Some m → m.is_abstract ≡ true
abstract_head [] k h j m at i among = cc
abstract_head (f ∷ fs) k h j m at i among = by (append_at (map class_head f.types) (heads fs) k h at) (λ n e. abstract_head fs n h j m e i among)
  where
    by : (slice_get (map class_head f.types) k ≡ Some h) ⊎ ((n : ℕ) × (slice_get (heads fs) n ≡ Some h)) → ((n : ℕ) → slice_get (heads fs) n ≡ Some h → m.is_abstract ≡ true) → m.is_abstract ≡ true
    by (inl e) rest = let t = map_at class_head f.types k h e in abstract_type t.0 j m (ap (λ (z : ClassHead). z.interface) (sym t.2) ∙ i) (subst (λ (z : ClassHead). slice_get z.methods j ≡ Some m) t.2 among)
    by (inr e) rest = rest e.0 e.1

not_interface : {A : Type 0} (h : ClassHead) (a : ClassHead) → Some a ≡ Some h → a.interface ≡ false → h.interface ≡ true → A
not_interface h a e f i = let same : a ≡ h = cc in let bad : true ≡ false = sym i ∙ (ap (λ (z : ClassHead). z.interface) (sym same) ∙ f) in cc

abstract_all : (files : List PlacedFile) (k : ℕ) (h : ClassHead) (j : ℕ) (m : MethodHead) → slice_get (all_heads (heads files)) k ≡ Some h → h.interface ≡ true → slice_get h.methods j ≡ Some m → m.is_abstract ≡ true
abstract_all files zero h j m at i among = not_interface h object_head at refl i
abstract_all files (suc zero) h j m at i among = not_interface h string_head at refl i
abstract_all files (suc (suc k)) h j m at i among = abstract_head files k h j m at i among

-- the sum of the ranks of the methods below a number
total : (ℕ → ℕ) → ℕ → ℕ
total rank zero = 0
total rank (suc n) = rank n + total rank n

module _ (files : List PlacedFile) (bodies : List Body) (R : RegularTable (program_with (heads files) bodies) (called (heads files))) where
  abbrev hs : List ClassHead
  hs = heads files

  abbrev P : Program
  P = table hs

  -- a method with a body isn't that of an interface, so its class has a parent, unless it is Object
  plain_class : (m : ℕ) (x : Method) → method_at P m ≡ Some x → has_body x.body ≡ true → interface_of (class_info P x.owner.0) ≡ false
  plain_class m x at h = by (interface_of (class_info P x.owner.0)) refl
    where
      r : MethodFrom hs 0 0 0 (all_heads hs) x
      r = methods_from_at hs 0 0 0 (all_heads hs) m x at

      owner : x.owner.0 ≡ r.k
      owner = ap (λ (z : Method). z.owner.0) r.method.is ∙ (let c : r.owner ≡ 0 + r.k = r.counted in let e : r.owner ≡ r.k = omega arith in e)

      abstract : r.class.interface ≡ true → x.is_abstract ≡ true
      abstract i = ap (λ (z : Method). z.is_abstract) r.method.is ∙ abstract_all files r.k r.class r.method.j r.method.head r.there i r.method.among

      concrete : x.is_abstract ≡ false
      concrete = (R.methods m x at).abstract ∙ ap not h

      by : (i : Bool) → interface_of (class_info P x.owner.0) ≡ i → interface_of (class_info P x.owner.0) ≡ false
      by false e = e
      by true e =
          let i : r.class.interface ≡ true = sym (head_interface hs r.k r.class r.there) ∙ (ap (λ c. interface_of (class_info P c)) (sym owner) ∙ e) in
          let bad : true ≡ false = sym (abstract i) ∙ concrete in
          cc

  parent_there : (i : Bool) (o : Option Identifier) → i ≡ false → (p : ClassNo) × (parent_class hs i o ≡ Some p)
  parent_there true o e = cc
  parent_there false None e = (record { 0 = 0 }, refl)
  parent_there false (Some n) e = (_, refl)

  parented : (c : ℕ) (y : Class) → class_info P c ≡ Some y → y.interface ≡ false → (c ≡ 0 → ⊥) → (p : ClassNo) × (y.parent ≡ Some p)
  parented c y at i d = by (class_is hs c y at)
    where
      by : ((c ≡ 0) × (class_under hs None object_head ≡ y)) ⊎ ((k : ℕ) × (h : ClassHead) × (c ≡ suc k) × (slice_get (string_head ∷ hs) k ≡ Some h) × (y ≡ declared_class hs h)) → (p : ClassNo) × (y.parent ≡ Some p)
      by (inl e) = absurd (d e.0)
      by (inr e) =
          let p = parent_there e.1.interface e.1.parent (ap (λ (z : Class). z.interface) (sym e.4) ∙ i) in
          (p.0, ap (λ (z : Class). z.parent) e.4 ∙ p.1)

  there_at : {A : Type 0} (xs : List A) (n : ℕ) → n < length xs → (x : A) × (slice_get xs n ≡ Some x)
  there_at [] n l = absurd (omega arith)
  there_at (x ∷ xs) zero l = (x, refl)
  there_at (x ∷ xs) (suc n) l = there_at xs n (omega arith)

  -- constructors fall in rank along `this(..)`, and any other method is above all
  pub source_rank : ℕ → ℕ
  source_rank m = cond (ctor_of (method_at P m)) (R.ctor_rank m) (suc (total R.ctor_rank (length P.methods)))

  below_total : (rank : ℕ → ℕ) (n k : ℕ) → k < n → rank k < suc (total rank n)
  unfolding total
  below_total rank zero k l = absurd (omega arith)
  below_total rank (suc n) k l = by (eqb k n) refl (below_total rank n k)
    where
      by : (b : Bool) → eqb k n ≡ b → (k < n → rank k < suc (total rank n)) → rank k < suc (rank n + total rank n)
      by true e rest = let same : rank k ≡ rank n = ap rank (eqb-true k n e) in omega arith
      by false e rest =
          let d : k ≡ n → ⊥ = eqb-false k n e in
          let m : k < n = omega arith in
          let t : rank k < suc (total rank n) = rest m in
          omega arith

  ctor_found : (c n k : ℕ) → constructor_of P c n ≡ Some k → (k < length P.methods) × (ctor_of (method_at P k) ≡ true)
  ctor_found c n k e =
      let f = first_at_passes (λ (y : Method). y.ctor && eqb y.owner.0 c && eqb (length y.params) n) 0 P.methods k e in
      let z : k ≡ 0 + f.0 = f.4 in
      let s : f.0 ≡ k = omega arith in
      let a = and_true (f.1.ctor && eqb f.1.owner.0 c) (eqb (length f.1.params) n) f.3 in
      let b = and_true f.1.ctor (eqb f.1.owner.0 c) a.0 in
      let at : method_at P k ≡ Some f.1 = subst (λ i. slice_get P.methods i ≡ Some f.1) s f.2 in
      (slice_get_within P.methods k f.1 at, ap ctor_of at ∙ b.0)

  pub agreed : AllAgree P 0 (bodies_of_all (all_heads hs)) P.methods (called_from P 0 (all_heads hs)) (body_trees files)
  agreed = all_agree files

  pub is_source : (b : ℕ) (s : Source) → slice_get (sources files) b ≡ Some s → IsSource P source_rank b s
  unfolding source_rank
  is_source b s at = record {
    there = slice_get_within P.methods s.method r.method here;
    of_method = ap body_of here ∙ ap body_no bodied;
    its_own = λ m e. own m e (there_or m);
    parent = λ d. parent d;
    object = λ z. r.object (sym owner ∙ z);
    ranked = ranked;
  }
    where
      r : SourceAt P 0 0 b P.methods (called_from P 0 (all_heads hs)) s
      r = source_at P 0 0 (bodies_of_all (all_heads hs)) P.methods (called_from P 0 (all_heads hs)) (body_trees files) agreed b s at

      number : s.method ≡ r.at
      number = let e : s.method ≡ 0 + r.at = r.number in omega arith

      here : method_at P s.method ≡ Some r.method
      here = subst (λ i. slice_get P.methods i ≡ Some r.method) (sym number) r.there

      bodied : r.method.body ≡ Some (record { 0 = b })
      bodied = subst (λ n. r.method.body ≡ Some (record { 0 = n })) (omega arith) r.bodied

      owner : class P s.method ≡ r.method.owner.0
      owner = ap class_of here

      there_or : (m : ℕ) → (body_of (method_at P m) ≡ Some b) → (x : Method) × (method_at P m ≡ Some x) × (x.body ≡ Some (record { 0 = b }))
      there_or m e = by (method_at P m) refl e
        where
          number_is : (o : Option BodyNo) → body_no o ≡ Some b → o ≡ Some (record { 0 = b })
          number_is None e = cc
          number_is (Some n) e = let same : n.0 ≡ b = cc in ap (λ z. Some (record { 0 = z })) same

          by : (o : Option Method) → method_at P m ≡ o → body_of o ≡ Some b → (x : Method) × (method_at P m ≡ Some x) × (x.body ≡ Some (record { 0 = b }))
          by None i e = cc
          by (Some x) i e = (x, i, number_is x.body e)

      own : (m : ℕ) → body_of (method_at P m) ≡ Some b → ((body_of (method_at P m) ≡ Some b) → (x : Method) × (method_at P m ≡ Some x) × (x.body ≡ Some (record { 0 = b }))) → m ≡ s.method
      own m e f = let x = f e in one_method P 0 (bodies_of_all (all_heads hs)) P.methods (called_from P 0 (all_heads hs)) (body_trees files) agreed m s.method x.0 r.method (record { 0 = b }) x.1 here x.2 bodied

      parent : (class P s.method ≡ 0 → ⊥) → (p : ClassNo) × (parent_of (class_info P (class P s.method)) ≡ Some p)
      parent d =
          let y = there_at P.classes r.method.owner.0 ((R.methods s.method r.method here).owner) in
          let plain : y.0.interface ≡ false = sym (ap interface_of y.1) ∙ plain_class s.method r.method here (ap has_body bodied) in
          let p = parented r.method.owner.0 y.0 y.1 plain (λ z. d (owner ∙ z)) in
          (p.0, ap (λ c. parent_of (class_info P c)) owner ∙ (ap parent_of y.1 ∙ p.1))

      ranked : (n k : ℕ) → own_arity s.body ≡ Some n → constructor_of P (class P s.method) n ≡ Some k → source_rank k < source_rank s.method
      ranked n k e f = by (ctor_of (method_at P s.method)) refl
        where
          found : (k < length P.methods) × (ctor_of (method_at P k) ≡ true)
          found = ctor_found (class P s.method) n k f

          by : (t : Bool) → ctor_of (method_at P s.method) ≡ t → cond (ctor_of (method_at P k)) (R.ctor_rank k) (suc (total R.ctor_rank (length P.methods))) < cond (ctor_of (method_at P s.method)) (R.ctor_rank s.method) (suc (total R.ctor_rank (length P.methods)))
          by true t =
              let c = r.called (sym (ap ctor_of here) ∙ t) n k e (ap (λ z. constructor_of P z n) (sym owner) ∙ f) in
              rw (t, found.1) (R.ranked s.method k (subst (λ i. member k (called hs i) ≡ true) (sym number) c))
          by false t = rw (t, found.1) (below_total R.ctor_rank (length P.methods) k found.0)

-- as many sources as bodies
pub as_many : (files : List PlacedFile) → length (sources files) ≡ bodies_of_all (all_heads (heads files))
as_many files = let e : 0 + length (sources files) ≡ bodies_of_all (all_heads (heads files)) = counted (table (heads files)) 0 0 (bodies_of_all (all_heads (heads files))) (table (heads files)).methods (called_from (table (heads files)) 0 (all_heads (heads files))) (body_trees files) (all_agree files) in omega arith
