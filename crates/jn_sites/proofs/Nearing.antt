-- The methods that override which stand at a place, of a list of all.
use Rattle.std.proofs.Common.{◌≡◌, ℕ, suc, ◌+◌, ◌<◌, ◌≤◌, Bool, true, false, cond, List, [], ◌∷◌, ◌++◌, length, map, take, Option, Some, None, refl, sym, ap, ◌∙◌, subst}
use Rattle.std.specs.Prelude.{flat_map, slice_get, slice_index_or}
use Rattle.std.proofs.lemmas.List.{append-nil, take_more, take_all}
use Rattle.std.proofs.lemmas.List.Concat.{flat_map-append}
use Rattle.jn_base.specs.declared.place.Span.{Span}
use Rattle.jn_points.specs.declared.program.Method.{Method}
use Rattle.jn_points.specs.declared.program.Program.{Program}
use Rattle.jn_points.specs.Lookup.{method_at}
use Rattle.jn_transfer.specs.Pairs.{under}
use Rattle.jn_contrib.specs.declared.listed.Overrider.{Overrider}
use Rattle.jn_contrib.specs.Entries.{AreOverriders}
use Rattle.jn_sites.specs.Near.{is_there, near_if, standing, near, HaveUnder, AreNear}
use Rattle.jn_sites.specs.Sites.{Key, Adds, AreKept, key_eq, key_of}
use Rattle.jn_sites.proofs.Siting.{kept_alike, kept_both}

module _ (P : Program) where
  -- of the overriders' methods those that stand at the place
  abbrev picks : Span → List Overrider → List ℕ
  picks z list = standing P z (map (λ (o : Overrider). o.method) list)

  next_same : (z : Span) (o : Overrider) (xs os : List Overrider) → picks z xs ≡ picks z os → (t : Bool) → is_there z (method_at P o.method) ≡ t → picks z (cond t (o ∷ []) [] ++ xs) ≡ picks z (o ∷ os)
  next_same z o xs os e true h =
      ap (λ (t : Bool). cond t (o.method ∷ picks z xs) (picks z xs)) h ∙ ap (λ (ms : List ℕ). o.method ∷ ms) e
      ∙ sym (ap (λ (t : Bool). cond t (o.method ∷ picks z os) (picks z os)) h)
  next_same z o xs os e false h = e ∙ sym (ap (λ (t : Bool). cond t (o.method ∷ picks z os) (picks z os)) h)

  next_near : (z : Span) (o : Overrider) (xs os : List Overrider) → picks z xs ≡ picks z os → (m : Option Method) → method_at P o.method ≡ m → picks z (near_if m o z ++ xs) ≡ picks z (o ∷ os)
  next_near z o xs os e None h = next_same z o xs os e false (ap (is_there z) h)
  next_near z o xs os e (Some m) h = next_same z o xs os e (key_eq (key_of m.span) (key_of z)) (ap (is_there z) h)

  methods_near : (z : Span) (list : List Overrider) → picks z (near P list z) ≡ picks z list
  methods_near z [] = refl
  methods_near z (o ∷ os) = next_near z o (near P os z) os (methods_near z os) (method_at P o.method) refl

  under_on : (o : Overrider) (xs : List Overrider) → o.under ≡ under P o.method → HaveUnder P xs → (t : Bool) → HaveUnder P (cond t (o ∷ []) [] ++ xs)
  under_on o xs own h true = (own, h)
  under_on o xs own h false = h

  under_if : (z : Span) (o : Overrider) (xs : List Overrider) → o.under ≡ under P o.method → HaveUnder P xs → (m : Option Method) → HaveUnder P (near_if m o z ++ xs)
  under_if z o xs own h None = h
  under_if z o xs own h (Some m) = under_on o xs own h (key_eq (key_of m.span) (key_of z))

  under_near : (z : Span) (list : List Overrider) → HaveUnder P list → HaveUnder P (near P list z)
  under_near z [] h = tt
  under_near z (o ∷ os) h = under_if z o (near P os z) h.0 (under_near z os h.1) (method_at P o.method)

  have_under : (list : List Overrider) → ((j : ℕ) (o : Overrider) → slice_get list j ≡ Some o → o.under ≡ under P o.method) → HaveUnder P list
  have_under [] h = tt
  have_under (o ∷ os) h = (h 0 o refl, have_under os (λ j. h (suc j)))

  pub all_near : (z : Span) (list : List Overrider) → AreOverriders P list → AreNear P z list
  all_near z list h = record { methods = ap (standing P z) h.methods; under = have_under list h.under }

  pub kept_near : (z : Span) (list kept : List Overrider) → AreOverriders P list → kept ≡ near P list z → AreNear P z kept
  kept_near z list kept h is =
      subst (AreNear P z) (sym is) (record { methods = methods_near z list ∙ ap (standing P z) h.methods; under = under_near z list (have_under list h.under) })

  -- an overrider more
  pub near_more : (list : List Overrider) (i : ℕ) (d o : Overrider) (old new : List (Key × List Overrider)) → i < length list → o ≡ slice_index_or list i d → AreKept Overrider (near P (take i list)) old
      → Adds Overrider (near_if (method_at P o.method) o) old new → AreKept Overrider (near P (take (i + 1) list)) new
  near_more list i d o old new lt is k h =
      kept_alike Overrider (λ z. near P (take i list) z ++ near_if (method_at P o.method) o z) (near P (take (i + 1) list)) new grown (kept_both Overrider (near P (take i list)) (near_if (method_at P o.method) o) old new k h)
    where
      grown : (z : Span) → near P (take i list) z ++ near_if (method_at P o.method) o z ≡ near P (take (i + 1) list) z
      grown z =
          ap (λ (xs : List Overrider). near P (take i list) z ++ xs) (sym (append-nil (near_if (method_at P o.method) o z)))
          ∙ sym (flat_map-append (λ (x : Overrider). near_if (method_at P x.method) x z) (take i list) (o ∷ []))
          ∙ ap (λ (xs : List Overrider). near P xs z) (ap (λ (x : Overrider). take i list ++ x ∷ []) is ∙ sym (take_more list i d lt))

  pub near_done : (list : List Overrider) (i : ℕ) (old : List (Key × List Overrider)) → length list ≤ i → AreKept Overrider (near P (take i list)) old → AreKept Overrider (near P list) old
  near_done list i old le h = subst (λ (xs : List Overrider). AreKept Overrider (near P xs) old) (take_all i list le) h
