-- Each slot of a class table is of one position: a field's, a receiver's, or a value's.
use Rattle.std.proofs.Common.{◌≡◌, ℕ, zero, suc, ◌+◌, Bool, true, false, not, ◌&&◌, cond, List, [], ◌∷◌, ◌++◌, length, Option, Some, None, refl, sym, ap, ◌∙◌, arith, append_assoc, length-append}
use Rattle.std.specs.Prelude.{drop, take, slice_get}
use Rattle.std.proofs.lemmas.List.{append-nil}
use Rattle.jn_base.specs.declared.number.SlotNo.{SlotNo}
use Rattle.jn_points.specs.declared.program.Field.{Field}
use Rattle.jn_points.specs.declared.program.Method.{Method}
use Rattle.jn_points.specs.declared.program.SlotInfo.{SlotInfo}
use Rattle.jn_quals.specs.Order.{no_qual}
use Rattle.jn_points.specs.Lookup.{slots_of}
use Rattle.jn_transfer.specs.Contributions.{field_slot_of, receiver_slot_of, result_slot_of}
use Rattle.jn_places_law.proofs.Sent.{Each, each_append}
use Rattle.jn_heads.specs.declared.head.TypeHead.{TypeHead}
use Rattle.jn_heads.specs.declared.head.FieldHead.{FieldHead}
use Rattle.jn_heads.specs.declared.head.ParamHead.{ParamHead}
use Rattle.jn_heads.specs.declared.head.MethodHead.{MethodHead}
use Rattle.jn_heads.specs.declared.head.ClassHead.{ClassHead}
use Rattle.jn_heads.specs.Types.{is_written, slot_of, written_qual, receiver_qual, is_position, has_receiver, field_slots, value_slots, params_slots, result_slots, receiver_slots, method_slots, fields_slots, methods_slots, class_slots, slots_of_all}
use Rattle.jn_classtable.specs.Table.{slot_at, count, bodies_of, fields_of, fields_from, param_slots, result_slot, method_of, methods_of, methods_from}

pub each_drop : {A : Type 0} (F : A → Type 0) (xs : List A) (n : ℕ) → Each F xs → Each F (drop n xs)
each_drop F xs zero a = a
each_drop F [] (suc n) a = tt
each_drop F (x ∷ xs) (suc n) a = each_drop F xs n a.1

pub each_take : {A : Type 0} (F : A → Type 0) (xs : List A) (n : ℕ) → Each F xs → Each F (take n xs)
each_take F xs zero a = tt
each_take F [] (suc n) a = tt
each_take F (x ∷ xs) (suc n) a = (a.0, each_take F xs n a.1)

module _ (roles : List ℕ) where
  -- the slot, where there is one, has the role
  abbrev pub Plays : ℕ → Option SlotNo → Type 0
  Plays n None = Unit {0}
  Plays n (Some i) = slice_get roles i.0 ≡ Some n

  abbrev pub FieldPlays : Field → Type 0
  FieldPlays f = Plays 0 f.slot

  abbrev pub MethodPlays : Method → Type 0
  MethodPlays m = Plays 1 m.receiver × (Each (Plays 2) m.param_slots × Plays 2 m.result_slot)

  pub field_plays : (fs : List Field) (f : ℕ) → Each FieldPlays fs → Plays 0 (field_slot_of (slice_get fs f))
  field_plays [] f h = tt
  field_plays (x ∷ fs) zero h = h.0
  field_plays (x ∷ fs) (suc f) h = field_plays fs f h.1

  abbrev pub MethodAt : Option Method → Type 0
  MethodAt m = Plays 1 (receiver_slot_of m) × (Each (Plays 2) (slots_of m) × Plays 2 (result_slot_of m))

  pub method_at_plays : (ms : List Method) (m : ℕ) → Each MethodPlays ms → MethodAt (slice_get ms m)
  method_at_plays [] m h = (tt, (tt, tt))
  method_at_plays (x ∷ ms) zero h = h.0
  method_at_plays (x ∷ ms) (suc m) h = method_at_plays ms m h.1

-- the role of each slot: 0 of fields, 1 of receivers, 2 of values
abbrev all_are : ℕ → List SlotInfo → List ℕ
all_are n [] = []
all_are n (x ∷ xs) = n ∷ all_are n xs

all_long : (n : ℕ) (xs : List SlotInfo) → length (all_are n xs) ≡ length xs
all_long n [] = refl
all_long n (x ∷ xs) = ap suc (all_long n xs)

both_long : {A B : Type 0} (xs ys : List A) (zs ws : List B) → length xs ≡ length zs → length ys ≡ length ws → length (xs ++ ys) ≡ length (zs ++ ws)
both_long xs ys zs ws a b = let l = length-append xs ys in let r = length-append zs ws in omega (arith, l, r, a, b)

module _ (hs : List ClassHead) where
  abbrev field_roles : List FieldHead → List ℕ
  field_roles [] = []
  field_roles (f ∷ fs) = all_are 0 (field_slots hs f) ++ field_roles fs

  abbrev param_roles : Bool → List ParamHead → List ℕ
  param_roles secret [] = []
  param_roles secret (p ∷ ps) = all_are 2 (value_slots hs secret p.kind) ++ param_roles secret ps

  abbrev method_roles : MethodHead → List ℕ
  method_roles m = all_are 1 (receiver_slots m) ++ (param_roles m.is_private m.params ++ all_are 2 (result_slots hs m.is_private m.result))

  abbrev methods_roles : List MethodHead → List ℕ
  methods_roles [] = []
  methods_roles (m ∷ ms) = method_roles m ++ methods_roles ms

  abbrev class_roles : ClassHead → List ℕ
  class_roles h = field_roles h.fields ++ methods_roles h.methods

  abbrev pub roles_of_all : List ClassHead → List ℕ
  roles_of_all [] = []
  roles_of_all (c ∷ cs) = class_roles c ++ roles_of_all cs

  fields_long : (fs : List FieldHead) → length (field_roles fs) ≡ length (fields_slots hs fs)
  fields_long [] = refl
  fields_long (f ∷ fs) = both_long (all_are 0 (field_slots hs f)) (field_roles fs) (field_slots hs f) (fields_slots hs fs) (all_long 0 (field_slots hs f)) (fields_long fs)

  params_long : (secret : Bool) (ps : List ParamHead) → length (param_roles secret ps) ≡ length (params_slots hs secret ps)
  params_long secret [] = refl
  params_long secret (p ∷ ps) = both_long (all_are 2 (value_slots hs secret p.kind)) (param_roles secret ps) (value_slots hs secret p.kind) (params_slots hs secret ps) (all_long 2 (value_slots hs secret p.kind)) (params_long secret ps)

  method_long : (m : MethodHead) → length (method_roles m) ≡ length (method_slots hs m)
  method_long m =
      let P : List SlotInfo = params_slots hs m.is_private m.params in
      let R : List SlotInfo = result_slots hs m.is_private m.result in
      both_long (all_are 1 (receiver_slots m)) (param_roles m.is_private m.params ++ all_are 2 R) (receiver_slots m) (P ++ R) (all_long 1 (receiver_slots m))
      (both_long (param_roles m.is_private m.params) (all_are 2 R) P R (params_long m.is_private m.params) (all_long 2 R))

  methods_long : (ms : List MethodHead) → length (methods_roles ms) ≡ length (methods_slots hs ms)
  methods_long [] = refl
  methods_long (m ∷ ms) = both_long (method_roles m) (methods_roles ms) (method_slots hs m) (methods_slots hs ms) (method_long m) (methods_long ms)

  class_long : (h : ClassHead) → length (class_roles h) ≡ length (class_slots hs h)
  class_long h = both_long (field_roles h.fields) (methods_roles h.methods) (fields_slots hs h.fields) (methods_slots hs h.methods) (fields_long h.fields) (methods_long h.methods)

  module _ (roles : List ℕ) where
    -- these roles stand from the k-th on
    record Stand (k : ℕ) (xs : List ℕ) : Type 0 where
      pub before : List ℕ
      pub behind' : List ℕ
      pub is : roles ≡ before ++ (xs ++ behind')
      pub long : length before ≡ k

    stand_left : (k : ℕ) (xs ys : List ℕ) → Stand k (xs ++ ys) → Stand k xs
    stand_left k xs ys h = record { before = h.before; behind' = ys ++ h.behind'; is = h.is ∙ ap (λ x. h.before ++ x) (append_assoc xs ys h.behind'); long = h.long }

    stand_right : (k n : ℕ) (xs ys : List ℕ) → length xs ≡ n → Stand k (xs ++ ys) → Stand (k + n) ys
    stand_right k n xs ys e h = record {
      before = h.before ++ xs;
      behind' = h.behind';
      is = h.is ∙ ap (λ x. h.before ++ x) (append_assoc xs ys h.behind') ∙ sym (append_assoc h.before xs (ys ++ h.behind'));
      long = length-append h.before xs ∙ ap (λ n. n + length xs) h.long ∙ ap (λ x. k + x) e;
    }

    at_place : (xs ys : List ℕ) (y : ℕ) → slice_get (xs ++ y ∷ ys) (length xs) ≡ Some y
    at_place [] ys y = refl
    at_place (x ∷ xs) ys y = at_place xs ys y

    stand_one : (k x : ℕ) → Stand k (x ∷ []) → slice_get roles k ≡ Some x
    stand_one k x h = ap (λ l. slice_get l k) h.is ∙ ap (slice_get (h.before ++ x ∷ h.behind')) (sym h.long) ∙ at_place h.before h.behind' x

    one_plays : (n k : ℕ) (b : Bool) (x : SlotInfo) → Stand k (all_are n (cond b (x ∷ []) [])) → Plays roles n (slot_at b k)
    one_plays n k true x h = stand_one k n h
    one_plays n k false x h = tt

    fields_play : (fs : List FieldHead) (c k : ℕ) → Stand k (field_roles fs) → Each (FieldPlays roles) (fields_of hs c k fs)
    fields_play [] c k h = tt
    fields_play (f ∷ fs) c k h = (
      one_plays 0 k (is_position hs f.kind) _ (stand_left k (all_are 0 (field_slots hs f)) (field_roles fs) h),
      fields_play fs c (k + length (field_slots hs f)) (stand_right k (length (field_slots hs f)) (all_are 0 (field_slots hs f)) (field_roles fs) (all_long 0 (field_slots hs f)) h),
    )

    params_play : (secret : Bool) (ps : List ParamHead) (k : ℕ) → Stand k (param_roles secret ps) → Each (Plays roles 2) (param_slots hs secret k ps)
    params_play secret [] k h = tt
    params_play secret (p ∷ ps) k h = (
      one_plays 2 k (is_position hs p.kind) _ (stand_left k (all_are 2 (value_slots hs secret p.kind)) (param_roles secret ps) h),
      params_play secret ps (k + length (value_slots hs secret p.kind)) (stand_right k (length (value_slots hs secret p.kind)) (all_are 2 (value_slots hs secret p.kind)) (param_roles secret ps) (all_long 2 (value_slots hs secret p.kind)) h),
    )

    result_plays : (secret : Bool) (k : ℕ) (r : Option TypeHead) → Stand k (all_are 2 (result_slots hs secret r)) → Plays roles 2 (result_slot hs k r)
    result_plays secret k None h = tt
    result_plays secret k (Some t) h = one_plays 2 k (is_position hs t) (slot_of secret t.notes (written_qual t.notes)) h

    method_plays : (m : MethodHead) (c k b : ℕ) → Stand k (method_roles m) → MethodPlays roles (method_of hs c k b m)
    method_plays m c k b h =
        let secret : Bool = m.is_private in
        let R : List ℕ = all_are 1 (receiver_slots m) in
        let P : List ℕ = param_roles secret m.params in
        let V : List ℕ = all_are 2 (result_slots hs secret m.result) in
        let t : ℕ = k + length (receiver_slots m) in
        let later = stand_right k (length (receiver_slots m)) R (P ++ V) (all_long 1 (receiver_slots m)) h in (
          one_plays 1 k (has_receiver m) _ (stand_left k R (P ++ V) h),
          (
            params_play secret m.params t (stand_left t P V later),
            result_plays secret (t + length (params_slots hs secret m.params)) m.result (stand_right t (length (params_slots hs secret m.params)) P V (params_long secret m.params) later),
          ),
        )

    methods_play : (ms : List MethodHead) (c k b : ℕ) → Stand k (methods_roles ms) → Each (MethodPlays roles) (methods_of hs c k b ms)
    methods_play [] c k b h = tt
    methods_play (m ∷ ms) c k b h = (
      method_plays m c k b (stand_left k (method_roles m) (methods_roles ms) h),
      methods_play ms c (k + length (method_slots hs m)) (b + count m.has_body) (stand_right k (length (method_slots hs m)) (method_roles m) (methods_roles ms) (method_long m) h),
    )

    all_fields_play : (xs : List ClassHead) (c k : ℕ) → Stand k (roles_of_all xs) → Each (FieldPlays roles) (fields_from hs c k xs)
    all_fields_play [] c k h = tt
    all_fields_play (x ∷ xs) c k h =
        each_append (FieldPlays roles) (fields_of hs c k x.fields) (fields_from hs (suc c) (k + length (class_slots hs x)) xs)
        (fields_play x.fields c k (stand_left k (field_roles x.fields) (methods_roles x.methods) (stand_left k (class_roles x) (roles_of_all xs) h)))
        (all_fields_play xs (suc c) (k + length (class_slots hs x)) (stand_right k (length (class_slots hs x)) (class_roles x) (roles_of_all xs) (class_long x) h))

    all_methods_play : (xs : List ClassHead) (c k b : ℕ) → Stand k (roles_of_all xs) → Each (MethodPlays roles) (methods_from hs c k b xs)
    all_methods_play [] c k b h = tt
    all_methods_play (x ∷ xs) c k b h =
        let n : ℕ = k + length (fields_slots hs x.fields) in
        each_append (MethodPlays roles) (methods_of hs c n b x.methods) (methods_from hs (suc c) (k + length (class_slots hs x)) (b + bodies_of x.methods) xs)
        (methods_play x.methods c n b (stand_right k (length (fields_slots hs x.fields)) (field_roles x.fields) (methods_roles x.methods) (fields_long x.fields) (stand_left k (class_roles x) (roles_of_all xs) h)))
        (all_methods_play xs (suc c) (k + length (class_slots hs x)) (b + bodies_of x.methods) (stand_right k (length (class_slots hs x)) (class_roles x) (roles_of_all xs) (class_long x) h))

  -- the fields and methods of these classes play the roles of their slots
  pub table_fields_play : (xs : List ClassHead) → Each (FieldPlays (roles_of_all xs)) (fields_from hs 0 0 xs)
  table_fields_play xs = all_fields_play (roles_of_all xs) xs 0 0 (record { before = []; behind' = []; is = sym (append-nil (roles_of_all xs)); long = refl })

  pub table_methods_play : (xs : List ClassHead) → Each (MethodPlays (roles_of_all xs)) (methods_from hs 0 0 0 xs)
  table_methods_play xs = all_methods_play (roles_of_all xs) xs 0 0 0 (record { before = []; behind' = []; is = sym (append-nil (roles_of_all xs)); long = refl })

-- ---- what receivers start with

-- a slot of this role starts without null
abbrev pub Agree : List ℕ → List SlotInfo → Type 0
Agree [] xs = Unit {0}
Agree (n ∷ ns) [] = Unit {0}
Agree (n ∷ ns) (x ∷ xs) = (n ≡ 1 → x.start.null ≡ false) × Agree ns xs

agree_append : (ns ms : List ℕ) (xs ys : List SlotInfo) → length ns ≡ length xs → Agree ns xs → Agree ms ys → Agree (ns ++ ms) (xs ++ ys)
agree_append [] ms [] ys e a b = b
agree_append [] ms (x ∷ xs) ys e a b = absurd (omega (arith, e))
agree_append (n ∷ ns) ms [] ys e a b = absurd (omega (arith, e))
agree_append (n ∷ ns) ms (x ∷ xs) ys e a b = (a.0, agree_append ns ms xs ys (omega (arith, e)) a.1 b)

agree_all : (n : ℕ) (xs : List SlotInfo) → (n ≡ 1 → ⊥) → Agree (all_are n xs) xs
agree_all n [] h = tt
agree_all n (x ∷ xs) h = ((λ e. absurd (h e)), agree_all n xs h)

receivers_agree : (m : MethodHead) → Agree (all_are 1 (receiver_slots m)) (receiver_slots m)
receivers_agree m = go (has_receiver m)
  where
    at : (c : Bool) → (cond {A = SlotInfo} c (record { start = no_qual; inferred = true }) (record { start = receiver_qual m.receiver; inferred = false })).start.null ≡ false
    at true = refl
    at false = refl

    go : (b : Bool) → Agree (all_are 1 (cond b (slot_of m.is_private m.receiver (receiver_qual m.receiver) ∷ []) [])) (cond b (slot_of m.is_private m.receiver (receiver_qual m.receiver) ∷ []) [])
    go true = ((λ e. at (m.is_private && not (is_written m.receiver))), tt)
    go false = tt

module _ (hs : List ClassHead) where
  fields_agree : (fs : List FieldHead) → Agree (field_roles hs fs) (fields_slots hs fs)
  fields_agree [] = tt
  fields_agree (f ∷ fs) = agree_append (all_are 0 (field_slots hs f)) (field_roles hs fs) (field_slots hs f) (fields_slots hs fs) (all_long 0 (field_slots hs f)) (agree_all 0 (field_slots hs f) (λ e. absurd (omega (arith, e)))) (fields_agree fs)

  params_agree : (secret : Bool) (ps : List ParamHead) → Agree (param_roles hs secret ps) (params_slots hs secret ps)
  params_agree secret [] = tt
  params_agree secret (p ∷ ps) = agree_append (all_are 2 (value_slots hs secret p.kind)) (param_roles hs secret ps) (value_slots hs secret p.kind) (params_slots hs secret ps) (all_long 2 (value_slots hs secret p.kind)) (agree_all 2 (value_slots hs secret p.kind) (λ e. absurd (omega (arith, e)))) (params_agree secret ps)

  method_agrees : (m : MethodHead) → Agree (method_roles hs m) (method_slots hs m)
  method_agrees m =
      let P : List SlotInfo = params_slots hs m.is_private m.params in
      let R : List SlotInfo = result_slots hs m.is_private m.result in
      agree_append (all_are 1 (receiver_slots m)) (param_roles hs m.is_private m.params ++ all_are 2 R) (receiver_slots m) (P ++ R) (all_long 1 (receiver_slots m)) (receivers_agree m)
      (agree_append (param_roles hs m.is_private m.params) (all_are 2 R) P R (params_long hs m.is_private m.params) (params_agree m.is_private m.params) (agree_all 2 R (λ e. absurd (omega (arith, e)))))

  methods_agree : (ms : List MethodHead) → Agree (methods_roles hs ms) (methods_slots hs ms)
  methods_agree [] = tt
  methods_agree (m ∷ ms) = agree_append (method_roles hs m) (methods_roles hs ms) (method_slots hs m) (methods_slots hs ms) (method_long hs m) (method_agrees m) (methods_agree ms)

  class_agrees : (h : ClassHead) → Agree (class_roles hs h) (class_slots hs h)
  class_agrees h = agree_append (field_roles hs h.fields) (methods_roles hs h.methods) (fields_slots hs h.fields) (methods_slots hs h.methods) (fields_long hs h.fields) (fields_agree h.fields) (methods_agree h.methods)

  pub all_agree : (xs : List ClassHead) → Agree (roles_of_all hs xs) (slots_of_all hs xs)
  all_agree [] = tt
  all_agree (x ∷ xs) = agree_append (class_roles hs x) (roles_of_all hs xs) (class_slots hs x) (slots_of_all hs xs) (class_long hs x) (class_agrees x) (all_agree xs)

pub starts_agree : (ns : List ℕ) (xs : List SlotInfo) (i : ℕ) (info : SlotInfo) → Agree ns xs → slice_get ns i ≡ Some 1 → slice_get xs i ≡ Some info → info.start.null ≡ false
starts_agree [] xs i info a r e = absurd (let f : ◌≡◌ {A = Option ℕ} None (Some 1) = r in cc)
starts_agree (n ∷ ns) [] i info a r e = absurd (let f : ◌≡◌ {A = Option SlotInfo} None (Some info) = e in cc)
starts_agree (n ∷ ns) (x ∷ xs) zero info a r e = ap (λ (y : SlotInfo). y.start.null) (let f : ◌≡◌ {A = Option SlotInfo} (Some x) (Some info) = e in let g : info ≡ x = cc in g) ∙ a.0 (let f : ◌≡◌ {A = Option ℕ} (Some n) (Some 1) = r in cc)
starts_agree (n ∷ ns) (x ∷ xs) (suc i) info a r e = starts_agree ns xs i info a.1 r e
