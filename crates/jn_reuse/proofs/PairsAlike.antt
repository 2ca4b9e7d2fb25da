-- The overriding pairs of programs that declare the same but for places.
use Rattle.std.proofs.Common.{◌≡◌, ℕ, ◌<◌, not, ◌&&◌, ◌||◌, List, length, Option, Some, None, refl, sym, ap, ◌∙◌, subst}
use Rattle.std.specs.Prelude.{eqb, filter, option_map}
use Rattle.std.proofs.lemmas.List.{length-map}
use Rattle.jn_points.specs.declared.program.Class.{Class}
use Rattle.jn_points.specs.declared.program.Method.{Method}
use Rattle.jn_points.specs.declared.program.Program.{Program}
use Rattle.jn_points.specs.Lookup.{interface_of, class_info, method_at}
use Rattle.jn_points.specs.Members.{below, some_of, first_some, is_named, is_number, declared_method, method_of, class_pair, class_pairs, interface_pairs, pairs_of, is_pair}
use Rattle.jn_transfer.specs.Pairs.{under, overrides}
use Rattle.jn_contrib.specs.declared.listed.Overrider.{Overrider}
use Rattle.jn_contrib.specs.Entries.{AreOverriders}
use Rattle.jn_places_law.specs.Bare.{bare_class, bare_method}
use Rattle.jn_heads_law.specs.Heads.{HeadsAlike}
use Rattle.jn_heads_law.proofs.Heads.{class_same, first_same, long_same, method_same, sub_same, walk_same}

-- an interface is one without its place, too
interface_bare : (c : Option Class) → interface_of (option_map bare_class c) ≡ interface_of c
interface_bare None = refl
interface_bare (Some c) = refl

module _ (P : Program) (m k : ℕ) where
  -- pairs don't look at the places of methods
  over_bare : (under over : Option Method) → pairs_of P m k (option_map bare_method over) under ≡ pairs_of P m k over under
  over_bare under None = refl
  over_bare None (Some over) = refl
  over_bare (Some under) (Some over) = refl

  under_bare : (over under : Option Method) → pairs_of P m k over (option_map bare_method under) ≡ pairs_of P m k over under
  under_bare None under = refl
  under_bare (Some over) None = refl
  under_bare (Some over) (Some under) = refl

module _ (P Q : Program) (h : HeadsAlike P Q) where
  pub methods_long : length P.methods ≡ length Q.methods
  methods_long = sym (length-map P.methods bare_method) ∙ ap length h.methods ∙ length-map Q.methods bare_method

  -- ---- what a class has

  interface_same : (c : ℕ) → interface_of (class_info P c) ≡ interface_of (class_info Q c)
  interface_same c = class_same P Q h interface_of interface_bare c

  declared_same : (c name arity d : ℕ) → declared_method P c name arity d ≡ declared_method Q c name arity d
  declared_same c name arity d = first_same bare_method P.methods Q.methods h.methods (λ m. is_named m name arity && eqb m.owner.0 d && (not m.is_private || eqb d c)) (λ m. refl)

  method_of_same : (c name arity : ℕ) → method_of P c name arity ≡ method_of Q c name arity
  method_of_same c name arity = λ i. first_some (λ d. declared_same c name arity d i) (walk_same P Q h c i)

  -- ---- pairs

  class_pair_same : (m : ℕ) (over under : Method) (c : ℕ) → class_pair P m over under c ≡ class_pair Q m over under c
  class_pair_same m over under c = λ i. not (interface_same c i) && is_number (method_of_same c over.name.0 (length over.params) i) m && sub_same P Q h c under.owner.0 i

  class_pairs_same : (m k : ℕ) (over under : Method) → class_pairs P m k over under ≡ class_pairs Q m k over under
  class_pairs_same m k over under = λ i. not (eqb m k) && not under.is_private && not under.is_static && some_of (λ c. class_pair_same m over under c i) (below (long_same P Q h i))

  interface_pairs_same : (over under : Method) → interface_pairs P over under ≡ interface_pairs Q over under
  interface_pairs_same over under = λ i. interface_same over.owner.0 i && interface_same under.owner.0 i && not (eqb over.owner.0 under.owner.0) && sub_same P Q h over.owner.0 under.owner.0 i

  pairs_of_same : (m k : ℕ) (over under : Option Method) → pairs_of P m k over under ≡ pairs_of Q m k over under
  pairs_of_same m k None under = refl
  pairs_of_same m k (Some over) None = refl
  pairs_of_same m k (Some over) (Some under) = λ i. not over.ctor && is_named under over.name.0 (length over.params) && (class_pairs_same m k over under i || interface_pairs_same over under i)

  pub is_pair_same : (m k : ℕ) → is_pair P m k ≡ is_pair Q m k
  is_pair_same m k =
      method_same P Q h (λ over. pairs_of P m k over (method_at P k)) (over_bare P m k (method_at P k)) m
      ∙ method_same P Q h (λ under. pairs_of P m k (method_at Q m) under) (under_bare P m k (method_at Q m)) k
      ∙ pairs_of_same m k (method_at Q m) (method_at Q k)

  -- ---- what a method overrides, and which do

  under_same : (m : ℕ) → under P m ≡ under Q m
  under_same m = λ i. filter (λ k. is_pair_same m k i) (below (methods_long i))

  overrides_same : (m : ℕ) → overrides P m ≡ overrides Q m
  overrides_same m = λ i. some_of (λ k. is_pair_same m k i) (below (methods_long i))

  -- the methods that override in the one are those that do in the other
  pub overriders_same : (list : List Overrider) → AreOverriders P list → AreOverriders Q list
  overriders_same list e = record {
    methods = e.methods ∙ (λ i. filter (λ m. overrides_same m i) (below (methods_long i)));
    inside = λ j o at. subst (λ n. o.method < n) methods_long (e.inside j o at);
    under = λ j o at. e.under j o at ∙ under_same o.method;
  }
