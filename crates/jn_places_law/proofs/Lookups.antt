-- What stands where in a bare program.
use Rattle.std.proofs.Common.{◌≡◌, ℕ, zero, suc, ◌+◌, Bool, not, cond, ◌&&◌, ◌||◌, List, [], ◌∷◌, ◌++◌, length, Option, Some, None, refl, ap, ◌∙◌}
use Rattle.std.specs.Prelude.{eqb, map, filter, flat_map, option_map}
use Rattle.std.proofs.Math.Path.{fun_ext}
use Rattle.std.proofs.lemmas.List.{length-map}
use Rattle.std.proofs.lemmas.Option.{slice_get-map}
use Rattle.jn_base.specs.declared.number.ClassNo.{ClassNo}
use Rattle.jn_points.specs.declared.program.Class.{Class}
use Rattle.jn_points.specs.declared.program.Field.{Field}
use Rattle.jn_points.specs.declared.program.Method.{Method}
use Rattle.jn_points.specs.declared.program.Body.{Body}
use Rattle.jn_points.specs.declared.program.Program.{Program}
use Rattle.jn_points.specs.Lookup.{points_of, regs_of, locals_of, base_in, owner_of, ref_of, monotonic_of, flat_of, class_of, ctor_of, static_of, slots_of, supers_of, parent_of, interface_of, body_of, class_info, body_at, reg_base, locals, field_info, owner, ref_field, monotonic, flat_field, method_at, method_of_body, method_in}
use Rattle.jn_points.specs.Members.{below, some_of, first_at, first_some, is_class, is_named, is_number, reaches, sub, interfaces, walk_parent, walk_by, walk, declared_method, method_of, in_interface, class_pair, class_pairs, interface_pairs, pairs_of, is_pair}
use Rattle.jn_places_law.specs.Bare.{bare, bare_class, bare_field, bare_method, bare_body, bare_points}

-- lists

pub first_at-map : {A B : Type 0} (f : A → B) (test : B → Bool) (i : ℕ) (xs : List A) → first_at test i (map f xs) ≡ first_at (λ x. test (f x)) i xs
first_at-map f test i [] = refl
first_at-map f test i (x ∷ xs) = ap (λ r. cond (test (f x)) (Some i) r) (first_at-map f test (i + 1) xs)

pub some_same : {A : Type 0} (f g : A → Bool) (xs : List A) → ((x : A) → f x ≡ g x) → some_of f xs ≡ some_of g xs
some_same f g xs h = ap (λ t. some_of t xs) (fun_ext h)

pub filter_same : {A : Type 0} (f g : A → Bool) (xs : List A) → ((x : A) → f x ≡ g x) → filter f xs ≡ filter g xs
filter_same f g xs h = ap (λ t. filter t xs) (fun_ext h)

pub flat_same : {A B : Type 0} (f g : A → List B) (xs : List A) → ((x : A) → f x ≡ g x) → flat_map f xs ≡ flat_map g xs
flat_same f g xs h = ap (λ t. flat_map t xs) (fun_ext h)

-- items

pub points_bare : (b : Option Body) → points_of (option_map bare_body b) ≡ bare_points (points_of b)
points_bare None = refl
points_bare (Some b) = refl

pub regs_bare : (b : Option Body) → regs_of (option_map bare_body b) ≡ regs_of b
regs_bare None = refl
regs_bare (Some b) = refl

pub locals_bare : (b : Option Body) → locals_of (option_map bare_body b) ≡ locals_of b
locals_bare None = refl
locals_bare (Some b) = refl

pub base_bare : (b : Option Body) (r : ℕ) → base_in (option_map bare_body b) r ≡ base_in b r
base_bare None r = refl
base_bare (Some b) r = refl

pub owner_bare : (f : Option Field) → owner_of (option_map bare_field f) ≡ owner_of f
owner_bare None = refl
owner_bare (Some f) = refl

pub ref_bare : (f : Option Field) → ref_of (option_map bare_field f) ≡ ref_of f
ref_bare None = refl
ref_bare (Some f) = refl

monotonic_bare : (f : Option Field) → monotonic_of (option_map bare_field f) ≡ monotonic_of f
monotonic_bare None = refl
monotonic_bare (Some f) = refl

pub flat_bare : (f : Option Field) → flat_of (option_map bare_field f) ≡ flat_of f
flat_bare None = refl
flat_bare (Some f) = refl

pub class_bare : (m : Option Method) → class_of (option_map bare_method m) ≡ class_of m
class_bare None = refl
class_bare (Some m) = refl

pub ctor_bare : (m : Option Method) → ctor_of (option_map bare_method m) ≡ ctor_of m
ctor_bare None = refl
ctor_bare (Some m) = refl

pub static_bare : (m : Option Method) → static_of (option_map bare_method m) ≡ static_of m
static_bare None = refl
static_bare (Some m) = refl

pub slots_bare : (m : Option Method) → slots_of (option_map bare_method m) ≡ slots_of m
slots_bare None = refl
slots_bare (Some m) = refl

pub body_bare : (m : Option Method) → body_of (option_map bare_method m) ≡ body_of m
body_bare None = refl
body_bare (Some m) = refl

pub supers_bare : (c : Option Class) → supers_of (option_map bare_class c) ≡ supers_of c
supers_bare None = refl
supers_bare (Some c) = refl

pub parent_bare : (c : Option Class) → parent_of (option_map bare_class c) ≡ parent_of c
parent_bare None = refl
parent_bare (Some c) = refl

interface_bare : (c : Option Class) → interface_of (option_map bare_class c) ≡ interface_of c
interface_bare None = refl
interface_bare (Some c) = refl

module _ (P : Program) where
  pub body_at_is : (b : ℕ) → body_at (bare P) b ≡ option_map bare_body (body_at P b)
  body_at_is b = slice_get-map bare_body P.bodies b

  pub method_at_is : (m : ℕ) → method_at (bare P) m ≡ option_map bare_method (method_at P m)
  method_at_is m = slice_get-map bare_method P.methods m

  pub field_info_is : (f : ℕ) → field_info (bare P) f ≡ option_map bare_field (field_info P f)
  field_info_is f = slice_get-map bare_field P.fields f

  pub class_info_is : (c : ℕ) → class_info (bare P) c ≡ option_map bare_class (class_info P c)
  class_info_is c = slice_get-map bare_class P.classes c

  pub points_is : (b : ℕ) → points_of (body_at (bare P) b) ≡ bare_points (points_of (body_at P b))
  points_is b = ap points_of (body_at_is b) ∙ points_bare (body_at P b)

  pub regs_is : (b : ℕ) → regs_of (body_at (bare P) b) ≡ regs_of (body_at P b)
  regs_is b = ap regs_of (body_at_is b) ∙ regs_bare (body_at P b)

  pub locals_is : (b : ℕ) → locals (bare P) b ≡ locals P b
  locals_is b = ap locals_of (body_at_is b) ∙ locals_bare (body_at P b)

  pub reg_base_is : (b r : ℕ) → reg_base (bare P) b r ≡ reg_base P b r
  reg_base_is b r = ap (λ x. base_in x r) (body_at_is b) ∙ base_bare (body_at P b) r

  pub owner_is : (f : ℕ) → owner (bare P) f ≡ owner P f
  owner_is f = ap owner_of (field_info_is f) ∙ owner_bare (field_info P f)

  pub ref_field_is : (f : ℕ) → ref_field (bare P) f ≡ ref_field P f
  ref_field_is f = ap ref_of (field_info_is f) ∙ ref_bare (field_info P f)

  pub monotonic_is : (f : ℕ) → monotonic (bare P) f ≡ monotonic P f
  monotonic_is f = ap monotonic_of (field_info_is f) ∙ monotonic_bare (field_info P f)

  pub flat_field_is : (f : ℕ) → flat_field (bare P) f ≡ flat_field P f
  flat_field_is f = ap flat_of (field_info_is f) ∙ flat_bare (field_info P f)

  of_body : (b : Option Body) → method_of_body (bare P) (option_map bare_body b) ≡ option_map bare_method (method_of_body P b)
  of_body None = refl
  of_body (Some b) = method_at_is b.method.0

  pub method_in_is : (b : ℕ) → method_in (bare P) b ≡ option_map bare_method (method_in P b)
  method_in_is b = ap (method_of_body (bare P)) (body_at_is b) ∙ of_body (body_at P b)

  pub ctor_in_is : (b : ℕ) → ctor_of (method_in (bare P) b) ≡ ctor_of (method_in P b)
  ctor_in_is b = ap ctor_of (method_in_is b) ∙ ctor_bare (method_in P b)

  pub class_in_is : (b : ℕ) → class_of (method_in (bare P) b) ≡ class_of (method_in P b)
  class_in_is b = ap class_of (method_in_is b) ∙ class_bare (method_in P b)

  pub slots_at_is : (m : ℕ) → slots_of (method_at (bare P) m) ≡ slots_of (method_at P m)
  slots_at_is m = ap slots_of (method_at_is m) ∙ slots_bare (method_at P m)

  -- ---- subtypes, walks and pairs

  pub classes_long : length (bare P).classes ≡ length P.classes
  classes_long = length-map P.classes bare_class

  supers_is : (c : ℕ) → supers_of (class_info (bare P) c) ≡ supers_of (class_info P c)
  supers_is c = ap supers_of (class_info_is c) ∙ supers_bare (class_info P c)

  pub parent_is : (c : ℕ) → parent_of (class_info (bare P) c) ≡ parent_of (class_info P c)
  parent_is c = ap parent_of (class_info_is c) ∙ parent_bare (class_info P c)

  pub interface_is : (c : ℕ) → interface_of (class_info (bare P) c) ≡ interface_of (class_info P c)
  interface_is c = ap interface_of (class_info_is c) ∙ interface_bare (class_info P c)

  pub reaches_is : (steps c d : ℕ) → reaches (bare P) steps c d ≡ reaches P steps c d
  reaches_is zero c d = refl
  reaches_is (suc steps) c d =
      ap (λ x. eqb c d || some_of (λ (s : ClassNo). reaches (bare P) steps s.0 d) x) (supers_is c)
      ∙ ap (λ x. eqb c d || x) (some_same (λ (s : ClassNo). reaches (bare P) steps s.0 d) (λ (s : ClassNo). reaches P steps s.0 d) (supers_of (class_info P c)) (λ s. reaches_is steps s.0 d))

  pub sub_is : (c d : ℕ) → sub (bare P) c d ≡ sub P c d
  sub_is c d = ap (λ n. eqb d 0 || reaches (bare P) n c d) classes_long ∙ ap (λ x. eqb d 0 || x) (reaches_is (length P.classes) c d)

  interfaces_is : (c : ℕ) → interfaces (bare P) c ≡ interfaces P c
  interfaces_is c = ap (λ x. filter (λ s. not (is_class x s)) (supers_of (class_info (bare P) c))) (parent_is c) ∙ ap (filter (λ s. not (is_class (parent_of (class_info P c)) s))) (supers_is c)

  parents_same : (f g : ℕ → List ℕ) (p : Option ClassNo) → ((c : ℕ) → f c ≡ g c) → walk_parent P f p ≡ walk_parent P g p
  parents_same f g None h = refl
  parents_same f g (Some c) h = h c.0

  walk_by_is : (steps c : ℕ) → walk_by (bare P) steps c ≡ walk_by P steps c
  walk_by_is zero c = refl
  walk_by_is (suc steps) c =
      ap (λ x. c ∷ walk_parent (bare P) (walk_by (bare P) steps) x ++ flat_map (λ (s : ClassNo). walk_by (bare P) steps s.0) (interfaces (bare P) c)) (parent_is c)
      ∙ ap (λ x. c ∷ walk_parent (bare P) (walk_by (bare P) steps) (parent_of (class_info P c)) ++ flat_map (λ (s : ClassNo). walk_by (bare P) steps s.0) x) (interfaces_is c)
      ∙ ap (λ (w : ℕ → List ℕ). c ∷ walk_parent P w (parent_of (class_info P c)) ++ flat_map (λ (s : ClassNo). w s.0) (interfaces P c)) (fun_ext (walk_by_is steps))

  pub walk_is : (c : ℕ) → walk (bare P) c ≡ walk P c
  walk_is c = ap (λ n. walk_by (bare P) n c) classes_long ∙ walk_by_is (length P.classes) c

  declared_is : (c name arity d : ℕ) → declared_method (bare P) c name arity d ≡ declared_method P c name arity d
  declared_is c name arity d = first_at-map bare_method (λ m. is_named m name arity && eqb m.owner.0 d && (not m.is_private || eqb d c)) 0 P.methods

  pub method_of_is : (c name arity : ℕ) → method_of (bare P) c name arity ≡ method_of P c name arity
  method_of_is c name arity = ap (λ f. first_some f (walk (bare P) c)) (fun_ext (declared_is c name arity)) ∙ ap (first_some (declared_method P c name arity)) (walk_is c)

  in_interface_is : (m : Method) → in_interface (bare P) (bare_method m) ≡ in_interface P m
  in_interface_is m = interface_is m.owner.0

  class_pair_is : (m : ℕ) (over under : Method) (c : ℕ) → class_pair (bare P) m (bare_method over) (bare_method under) c ≡ class_pair P m over under c
  class_pair_is m over under c =
      ap (λ x. not x && is_number (method_of (bare P) c over.name.0 (length over.params)) m && sub (bare P) c under.owner.0) (interface_is c)
      ∙ ap (λ x. not (interface_of (class_info P c)) && is_number x m && sub (bare P) c under.owner.0) (method_of_is c over.name.0 (length over.params))
      ∙ ap (λ x. not (interface_of (class_info P c)) && is_number (method_of P c over.name.0 (length over.params)) m && x) (sub_is c under.owner.0)

  class_pairs_is : (m k : ℕ) (over under : Method) → class_pairs (bare P) m k (bare_method over) (bare_method under) ≡ class_pairs P m k over under
  class_pairs_is m k over under =
      ap (λ n. not (eqb m k) && not under.is_private && not under.is_static && some_of (class_pair (bare P) m (bare_method over) (bare_method under)) (below n)) classes_long
      ∙ ap (λ x. not (eqb m k) && not under.is_private && not under.is_static && some_of x (below (length P.classes))) (fun_ext (class_pair_is m over under))

  interface_pairs_is : (over under : Method) → interface_pairs (bare P) (bare_method over) (bare_method under) ≡ interface_pairs P over under
  interface_pairs_is over under =
      ap (λ x. x && in_interface (bare P) (bare_method under) && not (eqb over.owner.0 under.owner.0) && sub (bare P) over.owner.0 under.owner.0) (in_interface_is over)
      ∙ ap (λ x. in_interface P over && x && not (eqb over.owner.0 under.owner.0) && sub (bare P) over.owner.0 under.owner.0) (in_interface_is under)
      ∙ ap (λ x. in_interface P over && in_interface P under && not (eqb over.owner.0 under.owner.0) && x) (sub_is over.owner.0 under.owner.0)

  pairs_of_is : (m k : ℕ) (over under : Option Method) → pairs_of (bare P) m k (option_map bare_method over) (option_map bare_method under) ≡ pairs_of P m k over under
  pairs_of_is m k None under = refl
  pairs_of_is m k (Some over) None = refl
  pairs_of_is m k (Some over) (Some under) =
      ap (λ x. not over.ctor && is_named under over.name.0 (length over.params) && (x || interface_pairs (bare P) (bare_method over) (bare_method under))) (class_pairs_is m k over under)
      ∙ ap (λ x. not over.ctor && is_named under over.name.0 (length over.params) && (class_pairs P m k over under || x)) (interface_pairs_is over under)

  pub is_pair_is : (m k : ℕ) → is_pair (bare P) m k ≡ is_pair P m k
  is_pair_is m k =
      ap (λ x. pairs_of (bare P) m k x (method_at (bare P) k)) (method_at_is m)
      ∙ ap (pairs_of (bare P) m k (option_map bare_method (method_at P m))) (method_at_is k)
      ∙ pairs_of_is m k (method_at P m) (method_at P k)
