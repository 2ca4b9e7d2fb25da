-- What a step leaves as it was.
use Rattle.std.proofs.Common.{◌≡◌, ◌⊎◌, ℕ, zero, suc, ◌<◌, ◌≤◌, true, List, [], ◌∷◌, length, set, take, get_or, sym, refl, ap, ◌∙◌, subst, inl, inr, ⊎_elim, arith, ◌-◌, ◌^◌, sum_by, length-take, get_or-take}
use mathlib.Core.Option.{some, some-injective, some-ne-none}
use mathlib.Core.Logic.{dite}
use native.Mathlib.Decide.{ℕ_discrete}
use lib.ListN.{get_elem?}
use Rattle.std.specs.Prelude.{slice_index}
use Rattle.atomic_table.proofs.Lists.{at_set, set_here, set_else}
use Rattle.jn_sigtable.specs.declared.view.View.{View}
use Rattle.jn_sigtable.specs.System.{System, IsLawful, Within, Covers, bits_for}
use Rattle.jn_sigtable.specs.Machine.{IsClosedFor, IsCurrent, IsFinished, IsBelow, Has, IsUnseen, IsFine, AddUp, weight}
use Rattle.std.proofs.lemmas.List.Sums.{sum_by-set}
use Rattle.jn_sigtable.proofs.Bits.{within_trans}

pub at_below : {A : Type 0} (l : List A) (i : ℕ) (a : A) → get_elem? l i ≡ some a → i < length l
at_below [] i a e = absurd (some-ne-none a (sym e))
at_below (x ∷ xs) zero a e = omega arith
at_below (x ∷ xs) (suc i) a e = let h = at_below xs i a e in omega arith

-- an element of the list before is the one that was changed, or stands in the list after
pub at_before : {A : Type 0} (l : List A) (id : ℕ) (v w : A) → get_elem? l id ≡ some v → (i : ℕ) (u : A) → get_elem? l i ≡ some u → (u ≡ v) ⊎ (get_elem? (set l id w) i ≡ some u)
at_before l id v w at i u there =
    dite (ℕ_discrete i id) (λ same. inl (some-injective u v (sym there ∙ (ap (λ k. get_elem? l k) same ∙ at))))
    (λ ne. inr (set_else l id i w ne ∙ there))

pub at_after : {A : Type 0} (l : List A) (id : ℕ) (v w : A) → get_elem? l id ≡ some v → get_elem? (set l id w) id ≡ some w
at_after l id v w at = set_here l id w (at_below l id v at)

pub get_of : {A : Type 0} (l : List A) (i : ℕ) (a : A) → get_elem? l i ≡ some a → get_or l i a ≡ a
get_of [] i a e = refl
get_of (x ∷ xs) zero a e = some-injective x a e
get_of (x ∷ xs) (suc i) a e = get_of xs i a e

-- a fact of each element is kept where it holds of the new one
pub each_set : {A : Type 0} (P Q : A → Type 0) (l : List A) (id : ℕ) (w : A) → ((i : ℕ) (u : A) → get_elem? l i ≡ some u → P u) → ((u : A) → P u → Q u) → Q w
    → (i : ℕ) (u : A) → get_elem? (set l id w) i ≡ some u → Q u
each_set P Q l id w before keeps mine i u there =
    ⊎_elim (λ t. subst Q t.1 mine) (λ t. keeps u (before i u t.1)) (at_set l id i w u there)

module _ {C : Type 0} where
  -- a step that leaves a pass's share leaves the sum
  pub shares_kept : (views : List (View C)) (id : ℕ) (v w : View C) → get_elem? views id ≡ some v → w.share ≡ v.share → AddUp views → AddUp (set views id w)
  shares_kept views id v w at same sum e fine =
      let fine' : IsFine e views = λ i u there d has.
      ⊎_elim (λ is. fine id w (at_after views id v w at) d (subst (λ x. Has x d) (ap (λ (x : View C). x.share) is ∙ sym same) has)) (λ still. fine i u still d has) (at_before views id v w at i u there) in
      let old : get_or views id v ≡ v = get_of views id v at in
      let s = sum_by-set (weight e) views id w v (at_below views id v at) in
      let p : weight e (get_or views id v) ≡ weight e w = ap (weight e) old ∙ ap (sum_by (λ d. 2 ^ (e - d))) (sym same) in
      let q : sum_by (weight e) views ≡ 2 ^ e = sum e fine' in
      omega arith

  -- a body that is unseen stays unseen where the pass has seen no more of it
  pub unseen_kept : (views : List (View C)) (id : ℕ) (v w : View C) (b : ℕ) → get_elem? views id ≡ some v → w.share ≡ v.share → (Has w.clear b → Has v.clear b) → IsUnseen views b → IsUnseen (set views id w) b
  unseen_kept views id v w b at same back u =
      ⊎_elim
      (λ (is : u.1 ≡ v). (id, w, at_after views id v w at, subst (λ x. 0 < length x) (ap (λ (x : View C). x.share) is ∙ sym same) u.3, λ has. u.4 (subst (λ (x : View C). Has x.clear b) (sym is) (back has))))
      (λ still. (u.0, u.1, still, u.3, u.4))
      (at_before views id v w at u.0 u.1 u.2)

module _ (sys : System) (law : IsLawful sys) where
  pub front : List ℕ → List ℕ
  front words = take sys.words words

  pub front_count : (words : List ℕ) → sys.words ≤ length words → length (take sys.words words) ≡ sys.words
  front_count words h = omega (arith, ◌-◌, ◌^◌, sum_by, length-take sys.words words)

  -- words that rose only where the body does not read
  pub closed_kept : (words after : List ℕ) (b : ℕ) → b < sys.bodies → sys.words ≤ length words → Covers sys.words words after
      → ((u : ℕ) → u < sys.words → sys.reads b u ≡ true → slice_index after u ≡ slice_index words u) → IsClosedFor sys words b → IsClosedFor sys after b
  closed_kept words after b inside long rises same closed on count agrees w below =
      let on_before : List ℕ = take sys.words words in
      let c : length on_before ≡ sys.words = front_count words long in
      let is : (u : ℕ) → u < sys.words → slice_index on_before u ≡ slice_index words u = λ u h. get_or-take sys.words words u 0 h in
      let out : sys.output b on ≡ sys.output b on_before = law.reads_only b on on_before inside count c (λ u h r. agrees u h ∙ (same u h r ∙ sym (is u h))) in
      within_trans _ (slice_index words w) _
      (subst (λ o. Within (bits_for o w) (slice_index words w)) (sym out) (closed on_before c is w below))
      (rises w below)

  module _ {C : Type 0} where
    -- a finished body whose values are the present words is closed
    pub finished_closed : (words : List ℕ) (v : View C) (b : ℕ) → b < sys.bodies → IsBelow sys words v → IsFinished sys v b → IsCurrent sys b v words → IsClosedFor sys words b
    finished_closed words v b inside fit done current on count agrees w below =
        let out : sys.output b on ≡ sys.output b v.values = law.reads_only b on v.values inside count fit.count (λ u h r. agrees u h ∙ sym (current u h r (done.0 u h r))) in
        within_trans _ (bits_for v.raised w) _
        (subst (λ o. Within (bits_for o w) (bits_for v.raised w)) (sym out) (done.1 w below))
        (fit.raised w below)
