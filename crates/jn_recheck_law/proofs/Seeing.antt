-- What is looked up in two programs that declare the same, and in two bodies that do the same, is the same.
use Rattle.std.proofs.Common.{◌≡◌, ℕ, zero, suc, ◌+◌, List, [], ◌∷◌, ◌++◌, length, Option, Some, None, refl, sym, ap, ◌∙◌}
use Rattle.std.specs.Prelude.{slice_get, flat_map, filter, eqb, ltb, ◌&&◌}
use Rattle.jn_base.specs.declared.number.MethodNo.{MethodNo}
use Rattle.jn_points.specs.declared.point.BaseType.{BaseType}
use Rattle.jn_points.specs.declared.point.Literal.TheVariants.{Int, Truth, Str, Null}
use Rattle.jn_points.specs.declared.point.Point.{Point}
use Rattle.jn_points.specs.declared.point.PointKind.{PointKind}
use Rattle.jn_points.specs.declared.point.PointKind.TheVariants.{Const}
use Rattle.jn_points.specs.declared.program.Field.{Field}
use Rattle.jn_points.specs.declared.program.Method.{Method}
use Rattle.jn_points.specs.declared.program.Body.{Body}
use Rattle.jn_points.specs.declared.program.Program.{Program}
use Rattle.jn_points.specs.Lookup.{base_in, body_at, class_of, ctor_of, field_info, flat_field, flat_of, is_flat, has_slot, locals, locals_of, method_at, method_in, method_of_body, monotonic, monotonic_of, owner, owner_of, points_of, reg_base, ref_field, ref_of, regs_of, slots_of, static_of}
use Rattle.jn_points.specs.Members.{below}
use Rattle.jn_env.specs.Keys.{distinct, fact_keys, kind_keys, own_keys}
use Rattle.jn_transfer.specs.Contributions.{field_slot_of, receiver_slot_of, result_slot_of}
use Rattle.jn_recheck_law.specs.Alike.{ActsAlike, AllAlike, SameBody, SameDeclarations, SameField, SameKind, SameMethod, SamePoint, acting_kind, bare_kind}
use Rattle.jn_recheck_law.specs.Reusable.{ActAlike, SameBodies}
use Rattle.jn_places_law.specs.Bare.{bare_kind as placeless}

-- what is seen of the i-th items of lists that are alike
pub alike_seen : {A C : Type 0} (R : ℕ → A → A → Type 0) (look : Option A → C) → ((i : ℕ) (x y : A) → R i x y → look (Some x) ≡ look (Some y)) → (k : ℕ) (xs ys : List A) → AllAlike R k xs ys → (i : ℕ) → look (slice_get xs i) ≡ look (slice_get ys i)
alike_seen R look same k [] [] h i = refl
alike_seen R look same k [] (y ∷ ys) h i = absurd h
alike_seen R look same k (x ∷ xs) [] h i = absurd h
alike_seen R look same k (x ∷ xs) (y ∷ ys) h zero = same k x y h.0
alike_seen R look same k (x ∷ xs) (y ∷ ys) h (suc i) = alike_seen R look same (k + 1) xs ys h.1 i

pub alike_long : {A : Type 0} (R : ℕ → A → A → Type 0) (k : ℕ) (xs ys : List A) → AllAlike R k xs ys → length xs ≡ length ys
alike_long R k [] [] h = refl
alike_long R k [] (y ∷ ys) h = absurd h
alike_long R k (x ∷ xs) [] h = absurd h
alike_long R k (x ∷ xs) (y ∷ ys) h = ap suc (alike_long R (k + 1) xs ys h.1)

-- what is blind to the number of a string
pub by_kind : {C : Type 0} (look : PointKind → C) → ((k : PointKind) → look k ≡ look (bare_kind k)) → (x y : PointKind) → bare_kind x ≡ bare_kind y → look x ≡ look y
by_kind look blind x y e = blind x ∙ ap look e ∙ sym (blind y)

-- what is blind to the places of operands, too
pub by_act : {C : Type 0} (look : PointKind → C) → ((k : PointKind) → look k ≡ look (bare_kind k)) → ((k : PointKind) → look k ≡ look (placeless k)) → (x y : PointKind) → acting_kind x ≡ acting_kind y → look x ≡ look y
by_act look strings places x y e = places x ∙ by_kind look strings (placeless x) (placeless y) e ∙ sym (places y)

acting_blind : (k : PointKind) → acting_kind k ≡ acting_kind (bare_kind k)
acting_blind (Const dst (Int n)) = refl
acting_blind (Const dst (Truth n)) = refl
acting_blind (Const dst (Str n)) = refl
acting_blind (Const dst Null) = refl
acting_blind k = refl

-- bodies that do the same at the same places act alike
same_kinds : (names more : List (List ℕ)) (i : ℕ) (xs ys : List Point) → AllAlike (SamePoint names more) i xs ys → AllAlike SameKind i xs ys
same_kinds names more i [] [] h = tt
same_kinds names more i [] (y ∷ ys) h = absurd h
same_kinds names more i (x ∷ xs) [] h = absurd h
same_kinds names more i (x ∷ xs) (y ∷ ys) h = (record { kind = by_kind acting_kind acting_blind x.kind y.kind h.0.kind }, same_kinds names more (i + 1) xs ys h.1)

same_acts : (names more : List (List ℕ)) (x y : Body) → SameBody names more x y → ActsAlike x y
same_acts names more x y h = record { method = h.method; regs = h.regs; locals = h.locals; points = same_kinds names more 0 x.points y.points h.points }

pub acts : (names more : List (List ℕ)) (o p : Option Body) → SameBodies names more o p → ActAlike o p
acts names more None p h = absurd h
acts names more (Some x) None h = absurd h
acts names more (Some x) (Some y) h = same_acts names more x y h

pub placed_alike : (names more : List (List ℕ)) (o p : Option Body) → SameBodies names more o p → AllAlike (SamePoint names more) 0 (points_of o) (points_of p)
placed_alike names more None p h = absurd h
placed_alike names more (Some x) None h = absurd h
placed_alike names more (Some x) (Some y) h = h.points

module _ (names more : List (List ℕ)) where
  keys_alike : (k : ℕ) (xs ys : List Point) → AllAlike SameKind k xs ys → flat_map (λ pt. kind_keys pt.kind) xs ≡ flat_map (λ pt. kind_keys pt.kind) ys
  keys_alike k [] [] h = refl
  keys_alike k [] (y ∷ ys) h = absurd h
  keys_alike k (x ∷ xs) [] h = absurd h
  keys_alike k (x ∷ xs) (y ∷ ys) h =
      let a = by_act kind_keys blind placed x.kind y.kind h.0.kind in
      let c = keys_alike (k + 1) xs ys h.1 in
      (λ i. a i ++ c i)
    where
      blind : (k : PointKind) → kind_keys k ≡ kind_keys (bare_kind k)
      blind (Const dst (Int n)) = refl
      blind (Const dst (Truth n)) = refl
      blind (Const dst (Str n)) = refl
      blind (Const dst Null) = refl
      blind k = refl

      placed : (k : PointKind) → kind_keys k ≡ kind_keys (placeless k)
      placed (Const dst value) = refl
      placed k = refl

  module _ (P Q : Program) (d : SameDeclarations names more P Q) where
    pub field_seen : {C : Type 0} (look : Option Field → C) → ((i : ℕ) (x y : Field) → SameField names more i x y → look (Some x) ≡ look (Some y)) → (f : ℕ) → look (field_info P f) ≡ look (field_info Q f)
    field_seen look same f = alike_seen (SameField names more) look same 0 P.fields Q.fields d.fields f

    pub method_seen : {C : Type 0} (look : Option Method → C) → ((i : ℕ) (x y : Method) → SameMethod names more i x y → look (Some x) ≡ look (Some y)) → (m : ℕ) → look (method_at P m) ≡ look (method_at Q m)
    method_seen look same m = alike_seen (SameMethod names more) look same 0 P.methods Q.methods d.methods m

    pub owner_seen : (f : ℕ) → owner P f ≡ owner Q f
    owner_seen f = field_seen owner_of (λ i x y r j. (r.owner j).0) f

    pub ref_seen : (f : ℕ) → ref_field P f ≡ ref_field Q f
    ref_seen f = field_seen ref_of (λ i x y r j. has_slot (r.slot j)) f

    pub flat_seen : (f : ℕ) → flat_field P f ≡ flat_field Q f
    flat_seen f = field_seen flat_of (λ i x y r j. is_flat (r.base j)) f

    pub monotonic_seen : (f : ℕ) → monotonic P f ≡ monotonic Q f
    monotonic_seen f = field_seen monotonic_of (λ i x y r. r.is_monotonic) f

    pub field_slot_seen : (f : ℕ) → field_slot_of (field_info P f) ≡ field_slot_of (field_info Q f)
    field_slot_seen f = field_seen field_slot_of (λ i x y r. r.slot) f

    pub slots_seen : (m : ℕ) → slots_of (method_at P m) ≡ slots_of (method_at Q m)
    slots_seen m = method_seen slots_of (λ i x y r. r.param_slots) m

    pub receiver_slot_seen : (m : ℕ) → receiver_slot_of (method_at P m) ≡ receiver_slot_of (method_at Q m)
    receiver_slot_seen m = method_seen receiver_slot_of (λ i x y r. r.receiver) m

    pub result_slot_seen : (m : ℕ) → result_slot_of (method_at P m) ≡ result_slot_of (method_at Q m)
    result_slot_seen m = method_seen result_slot_of (λ i x y r. r.result_slot) m

    method_by : {C : Type 0} (look : Option Method → C) → ((m : ℕ) → look (method_at P m) ≡ look (method_at Q m)) → (o p : Option Body) → ActAlike o p → look (method_of_body P o) ≡ look (method_of_body Q p)
    method_by look same None p h = absurd h
    method_by look same (Some x) None h = absurd h
    method_by look same (Some x) (Some y) h = same x.method.0 ∙ ap (λ (n : MethodNo). look (method_at Q n.0)) h.method

    body_by : {C : Type 0} (look : Option Body → C) → ((x y : Body) → ActsAlike x y → look (Some x) ≡ look (Some y)) → (o p : Option Body) → ActAlike o p → look o ≡ look p
    body_by look same None p h = absurd h
    body_by look same (Some x) None h = absurd h
    body_by look same (Some x) (Some y) h = same x y h

    points_by : (o p : Option Body) → ActAlike o p → AllAlike SameKind 0 (points_of o) (points_of p)
    points_by None p h = absurd h
    points_by (Some x) None h = absurd h
    points_by (Some x) (Some y) h = h.points

    module _ (b : ℕ) (same : ActAlike (body_at P b) (body_at Q b)) where
      pub in_seen : {C : Type 0} (look : Option Method → C) → ((m : ℕ) → look (method_at P m) ≡ look (method_at Q m)) → look (method_in P b) ≡ look (method_in Q b)
      in_seen look h = method_by look h (body_at P b) (body_at Q b) same

      pub points_alike : AllAlike SameKind 0 (points_of (body_at P b)) (points_of (body_at Q b))
      points_alike = points_by (body_at P b) (body_at Q b) same

      pub points_long : length (points_of (body_at P b)) ≡ length (points_of (body_at Q b))
      points_long = alike_long SameKind 0 (points_of (body_at P b)) (points_of (body_at Q b)) points_alike

      pub regs_seen : regs_of (body_at P b) ≡ regs_of (body_at Q b)
      regs_seen = body_by regs_of (λ x y h j. length (h.regs j)) (body_at P b) (body_at Q b) same

      pub locals_seen : locals P b ≡ locals Q b
      locals_seen = body_by locals_of (λ x y h. h.locals) (body_at P b) (body_at Q b) same

      pub base_seen : (r : ℕ) → reg_base P b r ≡ reg_base Q b r
      base_seen r = body_by (λ o. base_in o r) (λ x y h. ap (λ (bs : List BaseType). base_in (Some (record x { regs = bs })) r) h.regs) (body_at P b) (body_at Q b) same

      pub ctor_seen : ctor_of (method_in P b) ≡ ctor_of (method_in Q b)
      ctor_seen = in_seen ctor_of (λ m. method_seen ctor_of (λ i x y r. r.ctor) m)

      pub static_seen : static_of (method_in P b) ≡ static_of (method_in Q b)
      static_seen = in_seen static_of (λ m. method_seen static_of (λ i x y r. r.is_static) m)

      pub class_seen : class_of (method_in P b) ≡ class_of (method_in Q b)
      class_seen = in_seen class_of (λ m. method_seen class_of (λ i x y r j. (r.owner j).0) m)

      pub given_slots_seen : slots_of (method_in P b) ≡ slots_of (method_in Q b)
      given_slots_seen = in_seen slots_of slots_seen

      pub given_receiver_seen : receiver_slot_of (method_in P b) ≡ receiver_slot_of (method_in Q b)
      given_receiver_seen = in_seen receiver_slot_of receiver_slot_seen

      pub given_result_seen : result_slot_of (method_in P b) ≡ result_slot_of (method_in Q b)
      given_result_seen = in_seen result_slot_of result_slot_seen

      pub facts_seen : fact_keys P b ≡ fact_keys Q b
      facts_seen =
          let keys : flat_map (λ pt. kind_keys pt.kind) (points_of (body_at P b)) ≡ flat_map (λ pt. kind_keys pt.kind) (points_of (body_at Q b)) = keys_alike 0 (points_of (body_at P b)) (points_of (body_at Q b)) points_alike in
          (λ i. distinct (filter (λ k. ltb k.reg (locals_seen i) && ref_seen k.field i) (keys i)))

      pub own_seen : own_keys P b ≡ own_keys Q b
      own_seen = (λ i. filter (λ f. (ctor_seen i && eqb (owner_seen f i) (class_seen i)) && ref_seen f i) (below (alike_long (SameField names more) 0 P.fields Q.fields d.fields i)))
