-- Where no class is its own supertype, rounds give each class its tree: after so many rounds, all classes of lower rank have theirs.
use Rattle.std.proofs.Common.{◌≡◌, ◌<◌, ◌≤◌, ◌+◌, ℕ, zero, suc, Bool, true, false, ◌&&◌, ◌⊎◌, inl, inr, List, [], ◌∷◌, length, Option, Some, None, refl, sym, ap, ◌∙◌, subst, eqb, arith}
use Rattle.std.specs.Prelude.{slice_get}
use Rattle.std.proofs.lemmas.Bool.{eqb-true, eq-eqb, or_left, or_right}
use Rattle.jn_base.specs.declared.number.ClassNo.{ClassNo}
use Rattle.jn_points.specs.declared.program.Class.{Class}
use Rattle.jn_points.specs.declared.program.Program.{Program}
use Rattle.jn_points.specs.Lookup.{class_info, supers_of}
use Rattle.jn_points.specs.Members.{some_of, is_class, reaches}
use Rattle.jn_points.specs.Regular.{RegularClasses, AllClasses}
use Rattle.jn_member_tables.specs.declared.nodes.Node.{Node}
use Rattle.jn_member_tables.specs.declared.tables.Entry.{Entry}
use Rattle.jn_member_tables.specs.Nodes.{no_node, node_at, side, find, keys, Closed}
use Rattle.jn_member_tables.specs.Along.{is_some, root_at, has_root, all_rooted, names_parent, is_ready, rooted_count, Keeps, GetsRoot, AllRooted}
use Rattle.jn_member_tables.specs.Tables.{entries_at, SmallKeys, root_or, look, HasTree, AreTrees, IsTable}
use Rattle.jn_member_tables.proofs.Found.{true_or_not, or_true}
use Rattle.jn_member_tables.proofs.Ready.{and_true}
use Rattle.jn_member_tables.proofs.Filled.{count_all}

and_both : (a b : Bool) → a ≡ true → b ≡ true → (a && b) ≡ true
and_both true b e h = h
and_both false b e h = cc

rooted_kept : (old new : List (Option ℕ)) → Keeps old new → (ss : List ClassNo) → all_rooted old ss ≡ true → all_rooted new ss ≡ true
rooted_kept old new kept [] h = refl
rooted_kept old new kept (s ∷ ss) h =
    let both = and_true (has_root old s.0) (all_rooted old ss) h in
    and_both (has_root new s.0) (all_rooted new ss) (kept s.0 both.0) (rooted_kept old new kept ss both.1)

ready_kept : (old new : List (Option ℕ)) → Keeps old new → (x : Class) → is_ready old x ≡ true → is_ready new x ≡ true
ready_kept old new kept x h =
    let both = and_true (all_rooted old x.supers) (names_parent x.parent x.supers) h in
    and_both (all_rooted new x.supers) (names_parent x.parent x.supers) (rooted_kept old new kept x.supers both.0) both.1

module _ (P : Program) (old now new : List (Option ℕ)) (before : Keeps old now) (after : Keeps now new) where
  pub kept_step : Keeps old new
  kept_step d h = after d (before d h)

  -- a round comes to one class more
  pub round_step : (i : ℕ) → length now ≡ length old → ((c : ℕ) → c < i → GetsRoot P old now c) → GetsRoot P now new i → (c : ℕ) → c < i + 1 → GetsRoot P old new c
  round_step i long done here c lt x at inside ready = by (true_or_not (eqb c i))
    where
      by : (eqb c i ≡ true) ⊎ (eqb c i ≡ false) → has_root new c ≡ true
      by (inl e) =
          let s : c ≡ i = eqb-true c i e in
          subst (λ z. has_root new z ≡ true) (sym s) (here x (subst (λ z. class_info P z ≡ Some x) s at) (omega arith) (ready_kept old now before x ready))
      by (inr e) =
          let other : c ≡ i → ⊥ = λ s. (let t : eqb c i ≡ true = eq-eqb c i s in cc) in
          after c (done c (omega (arith, lt, other)) x at inside ready)

all_at : (roots : List (Option ℕ)) (ss : List ClassNo) → ((s : ClassNo) → some_of (λ t. eqb t.0 s.0) ss ≡ true → has_root roots s.0 ≡ true) → all_rooted roots ss ≡ true
all_at roots [] h = refl
all_at roots (s ∷ ss) h = and_both (has_root roots s.0) (all_rooted roots ss) (h s (or_left (eqb s.0 s.0) (some_of (λ t. eqb t.0 s.0) ss) (eq-eqb s.0 s.0 refl))) (all_at roots ss (λ r there. h r (or_right (eqb s.0 r.0) (some_of (λ t. eqb t.0 r.0) ss) there)))

swapped : (p : ClassNo) (ss : List ClassNo) → some_of (λ t. eqb t.0 p.0) ss ≡ true → some_of (λ s. is_class (Some p) s) ss ≡ true
swapped p [] h = cc
swapped p (s ∷ ss) h = by (or_true (eqb s.0 p.0) (some_of (λ t. eqb t.0 p.0) ss) h) (swapped p ss)
  where
    by : (eqb s.0 p.0 ≡ true) ⊎ (some_of (λ t. eqb t.0 p.0) ss ≡ true) → (some_of (λ t. eqb t.0 p.0) ss ≡ true → some_of (λ s. is_class (Some p) s) ss ≡ true) → some_of (λ s. is_class (Some p) s) (s ∷ ss) ≡ true
    by (inl e) rest = or_left (eqb p.0 s.0) (some_of (λ s. is_class (Some p) s) ss) (eq-eqb p.0 s.0 (sym (eqb-true s.0 p.0 e)))
    by (inr e) rest = or_right (eqb p.0 s.0) (some_of (λ s. is_class (Some p) s) ss) (rest e)

class_at : (P : Program) (ss : List ClassNo) → AllClasses P ss → (s : ClassNo) → some_of (λ t. eqb t.0 s.0) ss ≡ true → s.0 < length P.classes
class_at P [] all s h = cc
class_at P (t ∷ ss) all s h = by (or_true (eqb t.0 s.0) (some_of (λ t. eqb t.0 s.0) ss) h) (class_at P ss all.1 s)
  where
    by : (eqb t.0 s.0 ≡ true) ⊎ (some_of (λ t. eqb t.0 s.0) ss ≡ true) → (some_of (λ t. eqb t.0 s.0) ss ≡ true → s.0 < length P.classes) → s.0 < length P.classes
    by (inl e) rest = subst (λ n. n < length P.classes) (eqb-true t.0 s.0 e) all.0
    by (inr e) rest = rest e

there_at : {A : Type 0} (xs : List A) (n : ℕ) → n < length xs → (x : A) × (slice_get xs n ≡ Some x)
there_at [] n l = absurd (omega (arith, l))
there_at (x ∷ xs) zero l = (x, refl)
there_at (x ∷ xs) (suc n) l = there_at xs n (omega (arith, l))

module _ (P : Program) where
  -- one round more
  pub lower_rooted : (now new : List (Option ℕ)) (i : ℕ) → length now ≡ length P.classes → ((C : RegularClasses P) (c : ℕ) → c < length P.classes → C.rank c < i → has_root now c ≡ true) → ((c : ℕ) → c < length now → GetsRoot P now new c) → (C : RegularClasses P) (c : ℕ) → c < length P.classes → C.rank c < i + 1 → has_root new c ≡ true
  lower_rooted now new i long low round C c lt rank =
      let x = there_at P.classes c lt in
      let r = C.classes c x.0 x.1 in
      let supers : all_rooted now x.0.supers ≡ true = all_at now x.0.supers (λ s there. (let l : C.rank s.0 < C.rank c = r.ranked s there in low C s.0 (class_at P x.0.supers r.supers s there) (omega arith))) in
      round c (omega arith) x.0 x.1 (omega arith) (and_both (all_rooted now x.0.supers) (names_parent x.0.parent x.0.supers) supers (parent x.0 x.0.parent r.parent refl))
    where
      parent : (x : Class) (o : Option ClassNo) → ((p : ClassNo) → x.parent ≡ Some p → some_of (λ t. eqb t.0 p.0) x.supers ≡ true) → x.parent ≡ o → names_parent o x.supers ≡ true
      parent x None of e = refl
      parent x (Some p) of e = swapped p x.supers (of p e)

  pub all_rooted_end : (roots : List (Option ℕ)) → ((C : RegularClasses P) (c : ℕ) → c < length P.classes → C.rank c < length P.classes → has_root roots c ≡ true) → (C : RegularClasses P) → AllRooted P roots
  all_rooted_end roots low C c lt = low C c lt (C.few c)

  pub not_all : (roots : List (Option ℕ)) → length roots ≡ length P.classes → (RegularClasses P → AllRooted P roots) → (c : ℕ) × (c < length roots) × (has_root roots c ≡ false) → RegularClasses P → ⊥
  not_all roots long all missing regular = (let t : has_root roots missing.0 ≡ true = all regular missing.0 (subst (λ n. missing.0 < n) long missing.1) in let f : has_root roots missing.0 ≡ false = missing.2 in cc)

  module _ (own : List (List Entry)) (n h : ℕ) where
    small_more : (es : List Entry) → n ≤ keys h → SmallKeys n es → SmallKeys (keys h) es
    small_more [] le small = tt
    small_more (e ∷ es) le small = let a = small.0 in (omega (arith, a, le), small_more es le small.1)

    pub no_trees : (nodes : List Node) (roots : List (Option ℕ)) → nodes ≡ no_node ∷ [] → length roots ≡ length P.classes → ((c : ℕ) → root_at roots c ≡ None) → n ≤ keys h → ((c : ℕ) → SmallKeys n (entries_at own c)) → AreTrees P own h nodes roots
    no_trees nodes roots is long none le small = record {
      closed = subst Closed (sym is) one;
      long = long;
      small = λ c. small_more (entries_at own c) le (small c);
      trees = λ c r e. absurd (let f : None ≡ Some r = sym (none c) ∙ e in cc);
    }
      where
        sides : (k : ℕ) (right : Bool) → k < 1 → side right (node_at (no_node ∷ []) k) < 1
        sides zero true lt = omega arith
        sides zero false lt = omega arith
        sides (suc k) right lt = absurd (omega (arith, lt))

        one : Closed (no_node ∷ [])
        one = record { some = omega arith; empty = refl; sides = sides }

    pub are_table : (nodes : List Node) (roots : List (Option ℕ)) → n ≤ keys h → AreTrees P own h nodes roots → ((c : ℕ) → c < length roots → has_root roots c ≡ true) → IsTable P own n (record { height = h; nodes = nodes; roots = roots })
    are_table nodes roots le are all = record {
      steady = λ c lt. (tree c lt).2.steady;
      within = λ c d k lt. (tree c lt).2.within k d;
      finds = λ c k lt low. (let t = tree c lt in ap (λ o. find nodes h (root_or o) k) t.1 ∙ t.2.finds k (omega (arith, low, le)));
    }
      where
        count : rooted_count roots ≡ length P.classes
        count = count_all roots all ∙ are.long

        tree : (c : ℕ) → c < length P.classes → (r : ℕ) × (root_at roots c ≡ Some r) × HasTree P own nodes h (length P.classes) c r
        tree c lt = by (root_at roots c) refl (all c (subst (λ m. c < m) (sym are.long) lt))
          where
            by : (o : Option ℕ) → root_at roots c ≡ o → is_some o ≡ true → (r : ℕ) × (root_at roots c ≡ Some r) × HasTree P own nodes h (length P.classes) c r
            by None e k = cc
            by (Some r) e k = (r, e, subst (λ i. HasTree P own nodes h i c r) count (are.trees c r e))
