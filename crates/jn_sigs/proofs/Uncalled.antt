-- Methods without a call site that counts, told over those that are left.
use Rattle.std.proofs.Common.{◌≡◌, ℕ, ◌+◌, ◌<◌, Bool, true, false, not, ◌||◌, ◌&&◌, ◌∷◌, length, get_or, drop, Some, refl, sym, ap, ◌∙◌}
use Rattle.std.proofs.Math.Bool.{or_assoc}
use Rattle.std.proofs.lemmas.List.{drop_more}
use Rattle.std.proofs.lemmas.Option.{slice_get-get_or}
use Rattle.jn_points.specs.declared.program.Method.{Method}
use Rattle.jn_points.specs.declared.program.Program.{Program}
use Rattle.jn_points.specs.Lookup.{class_of, private_of, method_at}
use Rattle.jn_points.specs.Members.{some_of}
use Rattle.jn_sigs.specs.Signature.{method_has_slot}
use Rattle.jn_sigs.specs.Signature.{calls_from, has_call_site, is_called, uncalled_from}

module _ (P : Program) where
  -- the flag of a method says whether it has a call site
  called : (m : ℕ) (x : Method) → m < length P.methods → x ≡ get_or P.methods m x → is_called P m ≡ has_call_site P m x
  called m x lt is =
      let there : method_at P m ≡ Some x = slice_get-get_or P.methods m x lt ∙ ap Some (sym is) in
      ap (λ info. some_of (calls_from P m (private_of info) (class_of info)) P.bodies) there

  uncalled_more : (i m : ℕ) (x : Method) (f g : Bool) → m < length P.methods → x ≡ get_or P.methods m x → g ≡ (f || (method_has_slot i x && not (has_call_site P m x))) → (g || uncalled_from P i (m + 1) (drop (m + 1) P.methods)) ≡ (f || uncalled_from P i m (drop m P.methods))
  uncalled_more i m x f g lt is step =
      let here : drop m P.methods ≡ x ∷ drop (m + 1) P.methods = drop_more P.methods m x lt ∙ ap (λ y. y ∷ drop (m + 1) P.methods) (sym is) in
      ap (λ b. b || uncalled_from P i (m + 1) (drop (m + 1) P.methods)) step
      ∙ or_assoc f (method_has_slot i x && not (has_call_site P m x)) (uncalled_from P i (m + 1) (drop (m + 1) P.methods))
      ∙ ap (λ left. f || uncalled_from P i m left) (sym here)

  without_site : (b c : Bool) → c ≡ false → b ≡ (b && not c)
  without_site true c e = sym (ap not e)
  without_site false c e = refl

  with_site : (f b c : Bool) → c ≡ true → f ≡ (f || (b && not c))
  with_site true b c e = refl
  with_site false true c e = sym (ap not e)
  with_site false false c e = refl

  -- a method without call site, whose slots are marked
  pub marked : (i m : ℕ) (x : Method) (f g : Bool) → m < length P.methods → x ≡ get_or P.methods m x → is_called P m ≡ false → g ≡ (f || method_has_slot i x) → (g || uncalled_from P i (m + 1) (drop (m + 1) P.methods)) ≡ (f || uncalled_from P i m (drop m P.methods))
  marked i m x f g lt is none step = uncalled_more i m x f g lt is (step ∙ ap (λ b. f || b) (without_site (method_has_slot i x) (has_call_site P m x) (sym (called m x lt is) ∙ none)))

  -- a method with a call site, whose slots are not
  pub passed : (i m : ℕ) (x : Method) (f g : Bool) → m < length P.methods → x ≡ get_or P.methods m x → is_called P m ≡ true → g ≡ f → (g || uncalled_from P i (m + 1) (drop (m + 1) P.methods)) ≡ (f || uncalled_from P i m (drop m P.methods))
  passed i m x f g lt is some step = uncalled_more i m x f g lt is (step ∙ with_site f (method_has_slot i x) (has_call_site P m x) (sym (called m x lt is) ∙ some))
