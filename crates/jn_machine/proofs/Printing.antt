-- Runs that print to a sink, a step more.
use Rattle.std.proofs.Common.{◌≡◌, ℕ, ◌+◌, ◌-◌, ◌<◌, ◌≤◌, List, [], ◌++◌, length, take, Option, Some, None, refl, sym, ap, append-nil, append_assoc, length-append, ◌∙◌, arith}
use Rattle.std.proofs.Math.Seq.{take-append-add}
use Rattle.jn_outside.specs.Sink.{Appends, AppendsPrefix}
use Rattle.jn_points.specs.declared.program.Program.{Program}
use Rattle.jn_heap.specs.State.{Next, Goes}
use Rattle.jn_heap.specs.Runs.{step, run}
use Rattle.jn_machine.specs.declared.prim.End.{End as Ended}
use Rattle.jn_machine.specs.declared.state.MachineState.{MachineState}
use Rattle.jn_machine.specs.declared.state.Stepped.{Stepped}
use Rattle.jn_machine.specs.declared.state.Stepped.TheVariants.{Goes as WillGo, Ends as WillEnd, Stuck as WillStick}
use Rattle.jn_machine.specs.Ends.{end_of}
use Rattle.jn_machine.specs.StateView.{state_of, next_of}
use Rattle.jn_machine.specs.Printed.{PrintsTo, PrintsSome}
use Rattle.jn_machine.proofs.Ending.{run_more, stays_ended, stays_stuck}

pub appends_none : (w : Option (List ℕ)) → Appends w w []
appends_none None = refl
appends_none (Some bytes) = ap Some (sym (append-nil bytes))

pub appends_both : (a b c : Option (List ℕ)) (x y : List ℕ) → Appends a b x → Appends b c y → Appends a c (x ++ y)
appends_both None None c x y h k = k
appends_both None (Some v) c x y h k = cc
appends_both (Some w) None c x y h k = cc
appends_both (Some w) (Some v) c x y h k =
    let e : v ≡ w ++ x = cc in
    k ∙ ap (λ z. Some (z ++ y)) e ∙ ap Some (append_assoc w x y)

pub prefix_both : (a b c : Option (List ℕ)) (x y : List ℕ) → Appends a b x → AppendsPrefix b c y → AppendsPrefix a c (x ++ y)
prefix_both a b c x y h k = record {
  count = length x + k.count;
  within = let w : k.count ≤ length y = k.within in rw length-append (omega arith);
  taken = rw take-append-add (appends_both a b c x (take k.count y) h k.taken);
}

module _ (P : Program) (names : List (List ℕ)) (first : MachineState) where
  abbrev pub runs : ℕ → List ℕ → Next
  runs n out = run P names (Goes (state_of first out)) n

  pub prints_first : (w : Option (List ℕ)) → PrintsTo (runs 0) WillGo first w w
  prints_first w = record {
    text = [];
    gives = λ out. ap (λ x. Goes (state_of first x)) (sym (append-nil out));
    taken = appends_none w;
  }

  pub prints_more : (n : ℕ) (at next : MachineState) (stepped : Stepped) (a b c : Option (List ℕ)) → PrintsTo (runs n) WillGo at a b → PrintsTo (λ out. step P names (state_of at out)) stepped next b c → PrintsTo (runs (n + 1)) stepped next a c
  prints_more n at next stepped a b c h k = record {
    text = h.text ++ k.text;
    gives = λ out. run_more P names (Goes (state_of first out)) (next_of stepped next ((out ++ h.text) ++ k.text)) n (state_of at (out ++ h.text)) (h.gives out) (k.gives (out ++ h.text)) ∙ ap (next_of stepped next) (append_assoc out h.text k.text);
    taken = appends_both a b c h.text k.text h.taken k.taken;
  }

  pub prints_prefix : (n : ℕ) (at next : MachineState) (a b c : Option (List ℕ)) → PrintsTo (runs n) WillGo at a b → PrintsSome (λ out. step P names (state_of at out)) next b c → PrintsSome (runs (n + 1)) next a c
  prints_prefix n at next a b c h k = record {
    text = h.text ++ k.text;
    gives = λ out. run_more P names (Goes (state_of first out)) (Goes (state_of next ((out ++ h.text) ++ k.text))) n (state_of at (out ++ h.text)) (h.gives out) (k.gives (out ++ h.text)) ∙ ap (λ x. Goes (state_of next x)) (append_assoc out h.text k.text);
    taken = prefix_both a b c h.text k.text h.taken k.taken;
  }

  pub prints_ended : (n all : ℕ) (at next : MachineState) (e : Ended) (a b c : Option (List ℕ)) → n < all → PrintsTo (runs n) WillGo at a b → PrintsTo (λ out. step P names (state_of at out)) (WillEnd e) next b c → PrintsTo (runs all) (WillEnd e) next a c
  prints_ended n all at next e a b c lt h k =
      let m = prints_more n at next (WillEnd e) a b c h k in
      let is : all ≡ (n + 1) + (all - (n + 1)) = omega arith in
      record {
        text = m.text;
        gives = λ out. rw is (stays_ended P names (Goes (state_of first out)) (end_of e) (state_of next (out ++ m.text)) (n + 1) (all - (n + 1)) (m.gives out));
        taken = m.taken;
      }

  pub prints_stuck : (n all : ℕ) (at next : MachineState) (a b c : Option (List ℕ)) → n < all → PrintsTo (runs n) WillGo at a b → PrintsTo (λ out. step P names (state_of at out)) WillStick next b c → PrintsTo (runs all) WillStick next a c
  prints_stuck n all at next a b c lt h k =
      let m = prints_more n at next WillStick a b c h k in
      let is : all ≡ (n + 1) + (all - (n + 1)) = omega arith in
      record {
        text = m.text;
        gives = λ out. rw is (stays_stuck P names (Goes (state_of first out)) (n + 1) (all - (n + 1)) (m.gives out));
        taken = m.taken;
      }
