-- From one stage of a body to the next.
use Rattle.std.proofs.Common.{◌≡◌, ℕ, ◌-◌, ◌/◌, ◌%◌, ◌==◌, ◌&&◌, Bool, true, false, if◌then◌else◌, Option, Some, None, List, [], length, replicate, filter, not, sym, refl, ap, ◌∙◌, subst, inl, inr, arith, eq-eqb}
use mathlib.Core.Logic.{dite}
use native.Mathlib.Decide.{ℕ_discrete}
use Rattle.std.specs.Prelude.{slice_index}
use Rattle.std.specs.Int.{bit_at}
use Rattle.std.proofs.lemmas.Bool.{eqb-true}
use Rattle.std.proofs.lemmas.List.{length-replicate}
use Rattle.jn_sigtable.specs.declared.view.View.{View}
use Rattle.jn_base.specs.declared.number.WordNo.{WordNo}
use Rattle.jn_sigtable.specs.System.{System, Within, bits_for, IsReadList}
use Rattle.jn_sigtable.specs.Machine.{IsAtRest, MayMark, is_marked, own_marked, own_owed, has, after_mark, one_at, dirty_words, described}
use Rattle.jn_sigtable.proofs.Bits.{one_same, one_other, same_number, zero_within}
use Rattle.jn_sigtable.proofs.TakeKept.{at_replicate}
use Rattle.jn_sigtable.proofs.Keeping.{both_true, none_has}
use Rattle.jn_worklist.specs.Plans.{IsNoneDue}
use Rattle.jn_worklist.specs.Runs.{IsFresh, IsReading, IsRaising, IsMarking, HasGivenBack}
use Rattle.jn_worklist.proofs.RaiseSteps.{take_whole}

-- the outputs that the system told are those of the table's system
pub output_is : {C : Type 0} (describe : C → System) (told it : C) (b : ℕ) (seen outputs : List (WordNo × ℕ)) (lent values : List ℕ) → told ≡ it → seen ≡ outputs → outputs ≡ (describe told).output b lent → lent ≡ values → seen ≡ (describe it).output b values
output_is describe told it b seen outputs lent values same e is f = e ∙ (is ∙ (ap (λ x. (describe x).output b lent) same ∙ ap (λ (l : List ℕ). (describe it).output b l) f))

none_some : (b : ℕ) → None ≡ Some b → ⊥
none_some b e = cc

module _ {C : Type 0} where
  pub begins_reading : (sys : System) (b : ℕ) (v : View C) (values : List ℕ) → IsFresh sys b v → values ≡ replicate sys.words 0 → IsReading sys b v v values []
  begins_reading sys b v values h e = record {
    body = h.body;
    owed = h.owed;
    raised = h.raised;
    same_share = refl;
    same_taken = refl;
    are = h.are ∙ sym e;
    count = ap (λ (l : List ℕ). length l) h.are ∙ length-replicate {A = ℕ} sys.words 0;
    read = λ u m. absurd cc;
    rest = λ u. inl (ap (λ (l : List ℕ). slice_index l u) e ∙ at_replicate sys.words u);
  }

  pub begins_raising : (sys : System) (b : ℕ) (from v : View C) (values : List ℕ) (os : List (WordNo × ℕ)) (due : List ℕ) (reads : List WordNo) → IsReadList sys b reads → IsReading sys b from v values reads → length due ≡ dirty_words sys → IsNoneDue due → IsRaising sys b v values v os 0 due
  begins_raising sys b from v values os due reads list h size none = record {
    body = h.body;
    same_share = refl;
    same_taken = refl;
    are = h.are;
    read = λ w lt r. h.read w (list.all w lt r);
    raised = λ w. zero_within (bits_for v.raised w);
    count = size;
    owes = λ x. ((λ has. absurd (none_has v.owed x h.owed has)), (λ is. absurd (none x is)));
    own = λ is. absurd (none b is);
  }

  pub begins_marking : (sys : System) (b : ℕ) (from : View C) (values : List ℕ) (v : View C) (os : List (WordNo × ℕ)) (n : ℕ) (due : List ℕ) → IsRaising sys b from values v os n due → n ≡ length os → os ≡ sys.output b values → IsMarking sys b v v due
  begins_marking sys b from values v os n due h e out = record {
    same_share = refl;
    same_taken = refl;
    body = inl h.body;
    read = h.read;
    raised = λ w below. subst (λ (l : List (WordNo × ℕ)). Within (bits_for l w) (bits_for v.raised w)) (take_whole os n e ∙ (out ∙ ap (λ (l : List ℕ). sys.output b l) (sym h.are))) (h.raised w);
    owes = h.owes;
    own = h.own;
  }

-- the bit of one body
pub own_only : (b x : ℕ) → is_marked (b / 64) (one_at (b % 64)) x ≡ true → b ≡ x
own_only b x e =
    let t = both_true (x / 64 == b / 64) (bit_at (one_at (b % 64)) (x % 64) == 1) e in
    let d : x / 64 ≡ b / 64 = eqb-true (x / 64) (b / 64) t.0 in
    let o : bit_at (one_at (b % 64)) (x % 64) ≡ 1 = eqb-true (bit_at (one_at (b % 64)) (x % 64)) 1 t.1 in
    dite (ℕ_discrete (x % 64) (b % 64)) (λ r. sym (same_number x b d r)) (λ ne. let z = one_other b (x % 64) ne in absurd (omega arith))

own_set : (b : ℕ) → is_marked (b / 64) (one_at (b % 64)) b ≡ true
own_set b = λ i. eq-eqb (b / 64) (b / 64) refl i && eq-eqb (bit_at (one_at (b % 64)) (b % 64)) 1 (one_same b) i

module _ {C : Type 0} (describe : C → System) where
  pub may_mark_own : (v : View (Option C)) (b : ℕ) → v.body ≡ Some b → MayMark v (b / 64) (one_at (b % 64))
  may_mark_own v b runs x e = inr (runs ∙ ap (λ (y : ℕ). Some y) (own_only b x e))

  module _ (v w : View (Option C)) (b : ℕ) (runs : v.body ≡ Some b) (none : v.owed ≡ []) (e : w ≡ after_mark (described describe) v (b / 64) (one_at (b % 64))) where
    body_gone : w.body ≡ None
    body_gone = ap (λ (x : View (Option C)). x.body) e ∙ (ap (λ (o : Option ℕ). if own_marked o (b / 64) (one_at (b % 64)) then None else o) runs ∙ ap (λ (t : Bool). if t then None else Some b) (own_set b))

    pub marked_again : (sys : System) → IsAtRest sys w
    marked_again sys = (owed, λ d is. absurd (none_some d (sym body_gone ∙ is)))
      where
        owed : w.owed ≡ []
        owed = ap (λ (x : View (Option C)). x.owed) e ∙ ap (λ (l : List ℕ). filter (λ y. not (is_marked (b / 64) (one_at (b % 64)) y)) l) none

    pub given_back : HasGivenBack v w
    given_back = record { taken = taken; body = body_gone }
      where
        own : own_marked v.body (b / 64) (one_at (b % 64)) ≡ true
        own = ap (λ (o : Option ℕ). own_marked o (b / 64) (one_at (b % 64))) runs ∙ own_set b

        not_owed : own_owed v.body v.owed ≡ false
        not_owed = ap (λ (o : Option ℕ). own_owed o v.owed) runs ∙ ap (λ (l : List ℕ). has l b) none

        taken : w.taken ≡ v.taken - 1
        taken = ap (λ (x : View (Option C)). x.taken) e
            ∙ (ap (λ (t : Bool). if t && not (own_owed v.body v.owed) then (v.taken - 1) else v.taken) own ∙ ap (λ (t : Bool). if true && not t then (v.taken - 1) else v.taken) not_owed)
