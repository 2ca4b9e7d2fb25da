-- One class more has its tree.
use Rattle.std.proofs.Common.{◌≡◌, ◌<◌, ◌+◌, ℕ, zero, suc, Bool, true, false, cond, ◌⊎◌, inl, inr, List, [], ◌∷◌, length, set, Option, Some, None, refl, sym, ap, ◌∙◌, subst, eqb, arith}
use Rattle.std.proofs.lemmas.Bool.{eqb-true, eq-eqb}
use Rattle.std.proofs.lemmas.List.{get_or-set_same, get_or-set_other, length-set}
use Rattle.jn_points.specs.declared.program.Class.{Class}
use Rattle.jn_points.specs.declared.program.Program.{Program}
use Rattle.jn_points.specs.Lookup.{class_info}
use Rattle.jn_member_tables.specs.declared.nodes.Node.{Node}
use Rattle.jn_member_tables.specs.declared.tables.Entry.{Entry}
use Rattle.jn_member_tables.specs.Along.{is_some, root_at, has_root, is_ready, rooted_count}
use Rattle.jn_member_tables.specs.Tables.{entries_at, IsJoined, HasTree, AreTrees}
use Rattle.jn_member_tables.proofs.Found.{true_or_not}
use Rattle.jn_member_tables.proofs.Ready.{later, joined_tree}

count_set : (roots : List (Option ℕ)) (c r : ℕ) → c < length roots → has_root roots c ≡ false → rooted_count (set roots c (Some r)) ≡ suc (rooted_count roots)
count_set [] c r lt empty = absurd (omega (arith, lt))
count_set (o ∷ os) zero r lt empty = rw empty refl
count_set (o ∷ os) (suc c) r lt empty = by (is_some o) (count_set os c r (omega (arith, lt)) empty)
  where
    by : (b : Bool) → rooted_count (set os c (Some r)) ≡ suc (rooted_count os) → cond b (suc (rooted_count (set os c (Some r)))) (rooted_count (set os c (Some r))) ≡ suc (cond b (suc (rooted_count os)) (rooted_count os))
    by true e = ap suc e
    by false e = e

pub count_all : (roots : List (Option ℕ)) → ((c : ℕ) → c < length roots → has_root roots c ≡ true) → rooted_count roots ≡ length roots
count_all [] all = refl
count_all (o ∷ os) all = rw (all 0 (omega arith)) (ap suc (count_all os (λ c lt. all (suc c) (omega arith))))

pub roots_inside : (P : Program) (own : List (List Entry)) (h : ℕ) (nodes : List Node) (roots : List (Option ℕ)) → AreTrees P own h nodes roots → (c r : ℕ) → root_at roots c ≡ Some r → r < length nodes
roots_inside P own h nodes roots are c r e = (are.trees c r e).inside

module _ (old new : List (Option ℕ)) (c r : ℕ) (e : new ≡ set old c (Some r)) (lt : c < length old) where
  new_same : root_at new c ≡ Some r
  new_same = ap (λ os. root_at os c) e ∙ get_or-set_same old c (Some r) None lt

  new_other : (d : ℕ) → eqb c d ≡ false → root_at new d ≡ root_at old d
  new_other d k =
      let other : d ≡ c → ⊥ = λ s. (let t : eqb c d ≡ true = eq-eqb c d (sym s) in cc) in
      ap (λ os. root_at os d) e ∙ get_or-set_other old c d (Some r) None other

  pub set_rooted : has_root new c ≡ true
  set_rooted = ap is_some new_same

  pub set_kept : (d : ℕ) → has_root old d ≡ true → has_root new d ≡ true
  set_kept d h = by (true_or_not (eqb c d))
    where
      by : (eqb c d ≡ true) ⊎ (eqb c d ≡ false) → has_root new d ≡ true
      by (inl k) = subst (λ z. has_root new z ≡ true) (eqb-true c d k) set_rooted
      by (inr k) = ap is_some (new_other d k) ∙ h

  pub more_trees : (P : Program) (own : List (List Entry)) (h : ℕ) (x : Class) (nodes more : List Node) → class_info P c ≡ Some x → has_root old c ≡ false → is_ready old x ≡ true → IsJoined nodes more h old x (entries_at own c) r → AreTrees P own h nodes old → AreTrees P own h more new
  more_trees P own h x nodes more at empty ready joined are = record {
    closed = joined.grown.closed;
    long = (ap length e ∙ length-set old c (Some r)) ∙ are.long;
    small = are.small;
    trees = trees;
  }
    where
      count : rooted_count new ≡ suc (rooted_count old)
      count = ap rooted_count e ∙ count_set old c r lt empty

      trees : (d q : ℕ) → root_at new d ≡ Some q → HasTree P own more h (rooted_count new) d q
      trees d q is = subst (λ i. HasTree P own more h i d q) (sym count) (by (true_or_not (eqb c d)))
        where
          by : (eqb c d ≡ true) ⊎ (eqb c d ≡ false) → HasTree P own more h (suc (rooted_count old)) d q
          by (inl k) =
              let same : c ≡ d = eqb-true c d k in
              let root : Some r ≡ Some q = sym new_same ∙ (ap (root_at new) same ∙ is) in
              let number : r ≡ q = cc in
              subst (λ z. HasTree P own more h (suc (rooted_count old)) z q) same (subst (λ z. HasTree P own more h (suc (rooted_count old)) c z) number (joined_tree P own h nodes old (rooted_count old) are.trees c x more r at ready joined))
          by (inr k) = later P own h nodes old (rooted_count old) are.trees more r d q joined.grown (are.trees d q (sym (new_other d k) ∙ is))
