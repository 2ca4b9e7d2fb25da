-- What is noted of methods that override, one after another.
use Rattle.std.proofs.Common.{◌≡◌, ℕ, zero, suc, ◌+◌, ◌≤◌, List, [], ◌∷◌, ◌++◌, length, map, drop, Option, refl, sym, ap, ◌∙◌, arith}
use Rattle.std.specs.Prelude.{flat_map}
use Rattle.jn_quals.specs.Qualifier.{Qualifier}
use Rattle.jn_points.specs.declared.program.Program.{Program}
use Rattle.jn_transfer.specs.Pairs.{pair_sends}
use Rattle.jn_contrib.specs.Entries.{AreOverriders}
use Rattle.jn_contrib.specs.declared.listed.Overrider.{Overrider}
use Rattle.jn_cert_judge.specs.Judging.{note_all, overriding_sends}
use Rattle.jn_cert_judge.proofs.Noting.{note_append}

module _ (P : Program) (s : List Qualifier) where
  -- what these send, one after another
  abbrev pub sends_of : List Overrider → List (ℕ × Qualifier)
  sends_of [] = []
  sends_of (o ∷ os) = pair_sends P s o.method ++ sends_of os

  sends_are : (os : List Overrider) → sends_of os ≡ flat_map (pair_sends P s) (map (λ (o : Overrider). o.method) os)
  sends_are [] = refl
  sends_are (o ∷ os) = ap (λ r. pair_sends P s o.method ++ r) (sends_are os)

  -- after the last one nothing is left
  nothing_left : (os : List Overrider) (i : ℕ) → length os ≤ i → drop i os ≡ []
  nothing_left [] zero le = refl
  nothing_left [] (suc i) le = refl
  nothing_left (o ∷ os) zero le = absurd (omega (arith, le))
  nothing_left (o ∷ os) (suc i) le = nothing_left os i (omega (arith, le))

  pub all_noted : (list : List Overrider) (i : ℕ) (least noted : Option ℕ) → length list ≤ i → AreOverriders P list → note_all s noted (sends_of (drop i list)) ≡ note_all s least (sends_of list) → noted ≡ note_all s least (overriding_sends P s)
  all_noted list i least noted le are h =
      sym (ap (λ os. note_all s noted (sends_of os)) (nothing_left list i le)) ∙ h ∙ ap (note_all s least) (sends_are list ∙ ap (flat_map (pair_sends P s)) are.methods)

  pub noted_more : (list : List Overrider) (i : ℕ) (o : Overrider) (old new last : Option ℕ) → drop i list ≡ o ∷ drop (i + 1) list → new ≡ note_all s old (pair_sends P s o.method) → note_all s old (sends_of (drop i list)) ≡ last → note_all s new (sends_of (drop (i + 1) list)) ≡ last
  noted_more list i o old new last d noted h =
      let rest = drop (i + 1) list in
      ap (λ n. note_all s n (sends_of rest)) noted ∙ sym (note_append s old (pair_sends P s o.method) (sends_of rest)) ∙ sym (ap (λ xs. note_all s old (sends_of xs)) d) ∙ h
