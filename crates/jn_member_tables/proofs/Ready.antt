-- A class whose supertypes have their trees gets its own by joining them.
use Rattle.std.proofs.Common.{◌≡◌, ◌<◌, ◌≤◌, ◌+◌, ℕ, zero, suc, Bool, true, false, not, cond, ◌||◌, ◌&&◌, ◌⊎◌, inl, inr, List, [], ◌∷◌, length, Option, Some, None, refl, sym, ap, ◌∙◌, subst, eqb, arith}
use Rattle.std.specs.Prelude.{filter, flat_map, slice_get}
use Rattle.std.proofs.lemmas.Bool.{eqb-true, eq-eqb, or_left, or_right}
use Rattle.jn_base.specs.declared.number.ClassNo.{ClassNo}
use Rattle.jn_points.specs.declared.program.Class.{Class}
use Rattle.jn_points.specs.declared.program.Program.{Program}
use Rattle.jn_points.specs.Lookup.{class_info, supers_of, parent_of}
use Rattle.jn_points.specs.Members.{some_of, first_or, first_some, is_class, walk_by, walk_parent, interfaces, reaches}
use Rattle.jn_member_tables.specs.Numbers.{contains}
use Rattle.jn_member_tables.specs.declared.nodes.Node.{Node}
use Rattle.jn_member_tables.specs.declared.tables.Entry.{Entry}
use Rattle.jn_member_tables.specs.Nodes.{find, keys, Grown}
use Rattle.jn_member_tables.specs.Along.{IsWalk, is_some, parent_found, others_found, names_parent, root_at, has_root, all_rooted, is_ready}
use Rattle.jn_member_tables.specs.Tables.{entries_at, offers, root_or, look, IsJoined, HasTree}
use Rattle.jn_member_tables.proofs.Found.{first_some_append, true_or_not, or_true}

pub and_true : (a b : Bool) → (a && b) ≡ true → (a ≡ true) × (b ≡ true)
and_true true b h = (refl, h)
and_true false b h = cc

-- a number is found where it stands
abbrev pub hit : ℕ → ℕ → Option ℕ
hit d x = cond (eqb x d) (Some x) None

found_or : (a b : Option ℕ) → is_some (first_or a b) ≡ (is_some a || is_some b)
found_or None b = refl
found_or (Some n) b = refl

found_hit : (d x : ℕ) → is_some (hit d x) ≡ eqb x d
found_hit d x = by (eqb x d)
  where
    by : (b : Bool) → is_some (cond b (Some x) None) ≡ b
    by true = refl
    by false = refl

pub contains_found : (d : ℕ) (xs : List ℕ) → contains xs d ≡ is_some (first_some (hit d) xs)
contains_found d [] = refl
contains_found d (x ∷ xs) = sym (found_or (hit d x) (first_some (hit d) xs) ∙ (ap (λ b. b || is_some (first_some (hit d) xs)) (found_hit d x) ∙ ap (λ b. eqb x d || b) (sym (contains_found d xs))))

or_twice : (a b x c : Bool) → ((x && a) || b) ≡ c → (a || b) ≡ (a || c)
or_twice true b x c h = refl
or_twice false b true c h = h
or_twice false b false c h = h

or_second : (x a b c g : Bool) → ((x && a) || b) ≡ c → ((x && a) || (g || b)) ≡ (g || c)
or_second x a b c true h = grind arith
or_second x a b c false h = h

-- some supertype finds something: the parent, or one of the others
parent_split : (g : ℕ → Option ℕ) (p : ClassNo) (ss : List ClassNo) → ((some_of (λ s. is_class (Some p) s) ss && is_some (g p.0)) || is_some (others_found g (Some p) ss)) ≡ some_of (λ (s : ClassNo). is_some (g s.0)) ss
parent_split g p [] = refl
parent_split g p (s ∷ ss) = by (true_or_not (eqb p.0 s.0)) (parent_split g p ss)
  where
    by : (eqb p.0 s.0 ≡ true) ⊎ (eqb p.0 s.0 ≡ false) → ((some_of (λ s. is_class (Some p) s) ss && is_some (g p.0)) || is_some (others_found g (Some p) ss)) ≡ some_of (λ (s : ClassNo). is_some (g s.0)) ss → ((some_of (λ s. is_class (Some p) s) (s ∷ ss) && is_some (g p.0)) || is_some (others_found g (Some p) (s ∷ ss))) ≡ some_of (λ (s : ClassNo). is_some (g s.0)) (s ∷ ss)
    by (inl e) rest =
        let same : is_some (g p.0) ≡ is_some (g s.0) = ap (λ n. is_some (g n)) (eqb-true p.0 s.0 e) in
        rw e (or_twice (is_some (g p.0)) (is_some (others_found g (Some p) ss)) (some_of (λ s. is_class (Some p) s) ss) (some_of (λ (s : ClassNo). is_some (g s.0)) ss) rest ∙ ap (λ b. b || some_of (λ (s : ClassNo). is_some (g s.0)) ss) same)
    by (inr e) rest = rw e (ap (λ b. (some_of (λ s. is_class (Some p) s) ss && is_some (g p.0)) || b) (found_or (g s.0) (others_found g (Some p) ss)) ∙ or_second (some_of (λ s. is_class (Some p) s) ss) (is_some (g p.0)) (is_some (others_found g (Some p) ss)) (some_of (λ (s : ClassNo). is_some (g s.0)) ss) (is_some (g s.0)) rest)

none_split : (g : ℕ → Option ℕ) (ss : List ClassNo) → is_some (others_found g None ss) ≡ some_of (λ (s : ClassNo). is_some (g s.0)) ss
none_split g [] = refl
none_split g (s ∷ ss) = found_or (g s.0) (others_found g None ss) ∙ ap (λ b. is_some (g s.0) || b) (none_split g ss)

supers_split : (g : ℕ → Option ℕ) (o : Option ClassNo) (ss : List ClassNo) → names_parent o ss ≡ true → (is_some (parent_found g o) || is_some (others_found g o ss)) ≡ some_of (λ (s : ClassNo). is_some (g s.0)) ss
supers_split g None ss h = none_split g ss
supers_split g (Some p) ss h = subst (λ b. ((b && is_some (g p.0)) || is_some (others_found g (Some p) ss)) ≡ some_of (λ (s : ClassNo). is_some (g s.0)) ss) h (parent_split g p ss)

pub rooted_at : (roots : List (Option ℕ)) (ss : List ClassNo) (s : ℕ) → all_rooted roots ss ≡ true → some_of (λ (t : ClassNo). eqb t.0 s) ss ≡ true → has_root roots s ≡ true
rooted_at roots [] s h k = cc
rooted_at roots (t ∷ ss) s h k = by (or_true (eqb t.0 s) (some_of (λ (t : ClassNo). eqb t.0 s) ss) k) (and_true (has_root roots t.0) (all_rooted roots ss) h) (rooted_at roots ss s)
  where
    by : (eqb t.0 s ≡ true) ⊎ (some_of (λ (t : ClassNo). eqb t.0 s) ss ≡ true) → (has_root roots t.0 ≡ true) × (all_rooted roots ss ≡ true) → (all_rooted roots ss ≡ true → some_of (λ (t : ClassNo). eqb t.0 s) ss ≡ true → has_root roots s ≡ true) → has_root roots s ≡ true
    by (inl e) both rest = subst (λ c. has_root roots c ≡ true) (eqb-true t.0 s e) both.0
    by (inr e) both rest = rest both.1 e

module _ (roots : List (Option ℕ)) (f g : ℕ → Option ℕ) (same : (s : ℕ) → has_root roots s ≡ true → f s ≡ g s) where
  others_same : (o : Option ClassNo) (ss : List ClassNo) → all_rooted roots ss ≡ true → others_found f o ss ≡ others_found g o ss
  others_same o [] h = refl
  others_same o (s ∷ ss) h =
      let both = and_true (has_root roots s.0) (all_rooted roots ss) h in
      ap (λ a. cond (is_class o s) (others_found f o ss) (first_or a (others_found f o ss))) (same s.0 both.0)
      ∙ ap (λ a. cond (is_class o s) a (first_or (g s.0) a)) (others_same o ss both.1)

  parent_same : (o : Option ClassNo) (ss : List ClassNo) → all_rooted roots ss ≡ true → names_parent o ss ≡ true → parent_found f o ≡ parent_found g o
  parent_same None ss h n = refl
  parent_same (Some p) ss h n = same p.0 (rooted_at roots ss p.0 h (swap p ss n))
    where
      swap : (p : ClassNo) (ss : List ClassNo) → some_of (λ s. is_class (Some p) s) ss ≡ true → some_of (λ (t : ClassNo). eqb t.0 p.0) ss ≡ true
      swap p [] h = cc
      swap p (s ∷ ss) h = by (or_true (eqb p.0 s.0) (some_of (λ s. is_class (Some p) s) ss) h) (swap p ss)
        where
          by : (eqb p.0 s.0 ≡ true) ⊎ (some_of (λ s. is_class (Some p) s) ss ≡ true) → (some_of (λ s. is_class (Some p) s) ss ≡ true → some_of (λ (t : ClassNo). eqb t.0 p.0) ss ≡ true) → some_of (λ (t : ClassNo). eqb t.0 p.0) (s ∷ ss) ≡ true
          by (inl e) rest = or_left (eqb s.0 p.0) (some_of (λ (t : ClassNo). eqb t.0 p.0) ss) (eq-eqb s.0 p.0 (sym (eqb-true p.0 s.0 e)))
          by (inr e) rest = or_right (eqb s.0 p.0) (some_of (λ (t : ClassNo). eqb t.0 p.0) ss) (rest e)

  pub supers_same : (x : Class) → is_ready roots x ≡ true → first_or (parent_found f x.parent) (others_found f x.parent x.supers) ≡ first_or (parent_found g x.parent) (others_found g x.parent x.supers)
  supers_same x ready =
      let parts = and_true (all_rooted roots x.supers) (names_parent x.parent x.supers) ready in
      ap (λ a. first_or a (others_found f x.parent x.supers)) (parent_same x.parent x.supers parts.0 parts.1)
      ∙ ap (first_or (parent_found g x.parent)) (others_same x.parent x.supers parts.0)

-- one step of a walk
module _ (P : Program) (f : ℕ → Option ℕ) (k : ℕ) where
  abbrev along : ℕ → Option ℕ
  along s = first_some f (walk_by P k s)

  others_walk : (o : Option ClassNo) (ss : List ClassNo) → first_some f (flat_map (λ (s : ClassNo). walk_by P k s.0) (filter (λ (s : ClassNo). not (is_class o s)) ss)) ≡ others_found along o ss
  others_walk o [] = refl
  others_walk o (s ∷ ss) = by (true_or_not (is_class o s)) (others_walk o ss)
    where
      by : (is_class o s ≡ true) ⊎ (is_class o s ≡ false) → first_some f (flat_map (λ (s : ClassNo). walk_by P k s.0) (filter (λ (s : ClassNo). not (is_class o s)) ss)) ≡ others_found along o ss → first_some f (flat_map (λ (s : ClassNo). walk_by P k s.0) (filter (λ (s : ClassNo). not (is_class o s)) (s ∷ ss))) ≡ others_found along o (s ∷ ss)
      by (inl e) rest = rw e rest
      by (inr e) rest = rw e (first_some_append f (walk_by P k s.0) (flat_map (λ (s : ClassNo). walk_by P k s.0) (filter (λ (s : ClassNo). not (is_class o s)) ss)) ∙ ap (first_or (along s.0)) rest)

  parent_walk : (o : Option ClassNo) → first_some f (walk_parent P (walk_by P k) o) ≡ parent_found along o
  parent_walk None = refl
  parent_walk (Some p) = refl

  pub walk_step : (c : ℕ) (x : Class) → class_info P c ≡ Some x → first_some f (walk_by P (suc k) c) ≡ first_or (f c) (first_or (parent_found along x.parent) (others_found along x.parent x.supers))
  walk_step c x at =
      ap (first_or (f c)) (first_some_append f (walk_parent P (walk_by P k) (parent_of (class_info P c))) (flat_map (λ (s : ClassNo). walk_by P k s.0) (interfaces P c)))
      ∙ (ap (λ o. first_or (f c) (first_or (first_some f (walk_parent P (walk_by P k) (parent_of o))) (first_some f (flat_map (λ (s : ClassNo). walk_by P k s.0) (filter (λ (s : ClassNo). not (is_class (parent_of o) s)) (supers_of o)))))) at
      ∙ (ap (λ a. first_or (f c) (first_or a (first_some f (flat_map (λ (s : ClassNo). walk_by P k s.0) (filter (λ (s : ClassNo). not (is_class x.parent s)) x.supers))))) (parent_walk x.parent)
      ∙ ap (λ a. first_or (f c) (first_or (parent_found along x.parent) a)) (others_walk x.parent x.supers)))

pub class_inside : {A : Type 0} (xs : List A) (n : ℕ) (x : A) → slice_get xs n ≡ Some x → n < length xs
class_inside [] n x e = cc
class_inside (y ∷ xs) zero x e = omega arith
class_inside (y ∷ xs) (suc n) x e = let lt = class_inside xs n x e in omega (arith, lt)

pub some_super : (f : ClassNo → Bool) (ss : List ClassNo) → some_of f ss ≡ true → (s : ClassNo) × (some_of (λ (t : ClassNo). eqb t.0 s.0) ss ≡ true) × (f s ≡ true)
some_super f [] h = cc
some_super f (s ∷ ss) h = by (or_true (f s) (some_of f ss) h) (some_super f ss)
  where
    by : (f s ≡ true) ⊎ (some_of f ss ≡ true) → (some_of f ss ≡ true → (r : ClassNo) × (some_of (λ (t : ClassNo). eqb t.0 r.0) ss ≡ true) × (f r ≡ true)) → (r : ClassNo) × (some_of (λ (t : ClassNo). eqb t.0 r.0) (s ∷ ss) ≡ true) × (f r ≡ true)
    by (inl e) rest = (s, or_left (eqb s.0 s.0) (some_of (λ (t : ClassNo). eqb t.0 s.0) ss) (eq-eqb s.0 s.0 refl), e)
    by (inr e) rest = let r = rest e in (r.0, or_right (eqb s.0 r.0.0) (some_of (λ (t : ClassNo). eqb t.0 r.0.0) ss) r.1, r.2)

module _ (P : Program) (own : List (List Entry)) (h : ℕ) (old : List Node) (roots : List (Option ℕ)) (i : ℕ) (trees : (c r : ℕ) → root_at roots c ≡ Some r → HasTree P own old h i c r) where
  tree_of : (c : ℕ) → has_root roots c ≡ true → (r : ℕ) × (root_at roots c ≡ Some r) × HasTree P own old h i c r
  tree_of c e = by (root_at roots c) refl e
    where
      by : (o : Option ℕ) → root_at roots c ≡ o → is_some o ≡ true → (r : ℕ) × (root_at roots c ≡ Some r) × HasTree P own old h i c r
      by None at e = cc
      by (Some r) at e = (r, at, trees c r at)

  module _ (c : ℕ) (x : Class) (new : List Node) (r : ℕ) (at : class_info P c ≡ Some x) (ready : is_ready roots x ≡ true) (joined : IsJoined old new h roots x (entries_at own c) r) where
    rooted : all_rooted roots x.supers ≡ true
    rooted = (and_true (all_rooted roots x.supers) (names_parent x.parent x.supers) ready).0

    first_more : (f : ℕ → Option ℕ) (k : ℕ) → suc i ≤ k → first_some f (walk_by P k c) ≡ first_some f (walk_by P (suc i) c)
    first_more f zero le = absurd (omega arith)
    first_more f (suc k) le =
        walk_step P f k c x at
        ∙ (ap (first_or (f c)) (supers_same roots (λ s. first_some f (walk_by P k s)) (λ s. first_some f (walk_by P i s)) (λ s e. (let t = tree_of s e in t.2.steady.first f k (omega (arith, le)))) x ready)
        ∙ sym (walk_step P f i c x at))

    supers_reach : (d k : ℕ) → i ≤ k → (ss : List ClassNo) → all_rooted roots ss ≡ true → some_of (λ (s : ClassNo). reaches P k s.0 d) ss ≡ some_of (λ (s : ClassNo). is_some (first_some (hit d) (walk_by P i s.0))) ss
    supers_reach d k le [] e = refl
    supers_reach d k le (s ∷ ss) e =
        let both = and_true (has_root roots s.0) (all_rooted roots ss) e in
        let t = tree_of s.0 both.0 in
        ap (λ b. b || some_of (λ (s : ClassNo). reaches P k s.0 d) ss) (t.2.steady.reach d k le ∙ contains_found d (walk_by P i s.0))
        ∙ ap (λ b. is_some (first_some (hit d) (walk_by P i s.0)) || b) (supers_reach d k le ss both.1)

    reach_more : (d k : ℕ) → suc i ≤ k → reaches P k c d ≡ contains (walk_by P (suc i) c) d
    reach_more d zero le = absurd (omega arith)
    reach_more d (suc k) le =
        let g : ℕ → Option ℕ = λ s. first_some (hit d) (walk_by P i s) in
        let above : Option ℕ = first_or (parent_found g x.parent) (others_found g x.parent x.supers) in
        let left : reaches P (suc k) c d ≡ (eqb c d || some_of (λ (s : ClassNo). is_some (g s.0)) x.supers) = ap (λ o. eqb c d || some_of (λ (s : ClassNo). reaches P k s.0 d) (supers_of o)) at ∙ ap (λ b. eqb c d || b) (supers_reach d k (omega (arith, le)) x.supers rooted) in
        let right : contains (walk_by P (suc i) c) d ≡ (eqb c d || is_some above) = contains_found d (walk_by P (suc i) c) ∙ (ap is_some (walk_step P (hit d) i c x at) ∙ (found_or (hit d c) above ∙ ap (λ b. b || is_some above) (found_hit d c))) in
        let split : is_some above ≡ some_of (λ (s : ClassNo). is_some (g s.0)) x.supers = found_or (parent_found g x.parent) (others_found g x.parent x.supers) ∙ supers_split g x.parent x.supers (and_true (all_rooted roots x.supers) (names_parent x.parent x.supers) ready).1 in
        left ∙ sym (right ∙ ap (λ b. eqb c d || b) split)

    within_more : (k d : ℕ) → reaches P k c d ≡ true → d < length P.classes
    within_more zero d e = subst (λ n. n < length P.classes) (eqb-true c d e) (class_inside P.classes c x at)
    within_more (suc k) d e = by (or_true (eqb c d) (some_of (λ (s : ClassNo). reaches P k s.0 d) x.supers) (subst (λ o. (eqb c d || some_of (λ (s : ClassNo). reaches P k s.0 d) (supers_of o)) ≡ true) at e))
      where
        by : (eqb c d ≡ true) ⊎ (some_of (λ (s : ClassNo). reaches P k s.0 d) x.supers ≡ true) → d < length P.classes
        by (inl e) = subst (λ n. n < length P.classes) (eqb-true c d e) (class_inside P.classes c x at)
        by (inr e) =
            let s = some_super (λ (s : ClassNo). reaches P k s.0 d) x.supers e in
            let t = tree_of s.0.0 (rooted_at roots x.supers s.0.0 rooted s.1) in
            t.2.within k d s.2

    found_more : (k : ℕ) → k < keys h → find new h r k ≡ first_some (offers own k) (walk_by P (suc i) c)
    found_more k low =
        joined.found k low
        ∙ (ap (first_or (offers own k c)) (supers_same roots (look old h roots k) (λ s. first_some (offers own k) (walk_by P i s)) (λ s e. (let t = tree_of s e in ap (λ o. find old h (root_or o) k) t.1 ∙ t.2.finds k low)) x ready)
        ∙ sym (walk_step P (offers own k) i c x at))

    pub joined_tree : HasTree P own new h (suc i) c r
    joined_tree = record {
      inside = joined.grown.inside;
      steady = record { first = first_more; reach = reach_more };
      within = within_more;
      finds = found_more;
    }

  -- a tree stays that of its class
  pub later : (new : List Node) (q c r : ℕ) → Grown old new q → HasTree P own old h i c r → HasTree P own new h (suc i) c r
  later new q c r grown t = record {
    inside = (let a = t.inside in let b = grown.longer in omega (arith, a, b));
    steady = record {
      first = λ f k le. t.steady.first f k (omega (arith, le)) ∙ sym (t.steady.first f (suc i) (omega arith));
      reach = λ d k le. t.steady.reach d k (omega (arith, le)) ∙ (contains_found d (walk_by P i c) ∙ (ap is_some (sym (t.steady.first (hit d) (suc i) (omega arith))) ∙ sym (contains_found d (walk_by P (suc i) c))));
    };
    within = t.within;
    finds = λ k low. grown.kept h r k t.inside ∙ (t.finds k low ∙ sym (t.steady.first (offers own k) (suc i) (omega arith)));
  }
