-- The only pass, at rest with every bit seen clear, finds the least words.
use Rattle.std.proofs.Common.{◌≡◌, ◌≢◌, ℕ, zero, suc, ◌+◌, ◌-◌, ◌<◌, ◌≤◌, List, [], ◌∷◌, length, set, get_or, Some, sym, refl, ap, ◌∙◌, subst, ⊎_elim, arith}
use mathlib.Core.Option.{some, some-injective, some-ne-none}
use mathlib.Core.Logic.{dite}
use native.Mathlib.Decide.{ℕ_discrete}
use lib.ListN.{get_elem?}
use Rattle.atomic_table.proofs.Lists.{set_else}
use Rattle.std.specs.Prelude.{slice_index}
use Rattle.atomic_table.specs.Table.{State}
use Rattle.jn_sigtable.specs.declared.view.View.{View}
use Rattle.jn_sigtable.specs.declared.view.Setting.{Setting}
use Rattle.jn_sigtable.specs.System.{System, IsLawful, IsClosed, Within, Covers, bits_for, least}
use Rattle.jn_sigtable.specs.Machine.IsCovered.{closed, dirty, owed, run}
use Rattle.jn_sigtable.proofs.Frames.{at_below, finished_closed}
use Rattle.std.proofs.Common.{◌*◌, ◌^◌, sum_by, max, pow_pos, length-take, get_or-take, take, ext_get_or}
use Rattle.std.proofs.lemmas.List.Sums.{sum_by-set, sum_by-cons}
use Rattle.std.proofs.lemmas.Nat.Bits.{same_from_bits}
use Rattle.jn_sigtable.proofs.LeastWords.{rounds_within}
use Rattle.jn_sigtable.proofs.Frames.{get_of}
use Rattle.jn_sigtable.proofs.Counting.{part_of}
use Rattle.jn_sigtable.specs.Machine.{start_of, AreBetween, HasAll, dirty_words, IsClosedFor, IsCurrent, IsAtRest, IsLive, IsFine, AddUp, IsWhole, Has, Holds, weight}
use Rattle.jn_sigtable.proofs.Keeping.{none_has}

pub within_same : (a b : ℕ) → Within a b → Within b a → a ≡ b
within_same a b p q = same_from_bits a b (λ i. let x = p i in let y = q i in omega arith)

-- ---- shares
bound_share : (xs : List ℕ) → (e : ℕ) × ((d : ℕ) → Has xs d → d ≤ e)
bound_share [] = (0, λ d h. absurd h)
bound_share (x ∷ xs) = let r = bound_share xs in (max x r.0, λ d h. ⊎_elim (λ s. omega arith) (λ t. let p = r.1 d t in omega arith) h)

module _ {C : Type 0} where
  fine_for : (views : List (View C)) → (e : ℕ) × ((f : ℕ) → e ≤ f → IsFine f views)
  fine_for [] = (0, λ f le i v at. absurd (some-ne-none v (sym at)))
  fine_for (x ∷ xs) =
      let r = fine_for xs in
      let b = bound_share x.share in
      (max b.0 r.0, λ f le i v at. fine_step x xs b.0 r.0 f le b.1 (r.1 f (omega arith)) i v at)
    where
      fine_step : (x : View C) (xs : List (View C)) (a b f : ℕ) → max a b ≤ f → ((d : ℕ) → Has x.share d → d ≤ a) → IsFine f xs → (i : ℕ) (v : View C) → get_elem? (x ∷ xs) i ≡ some v → (d : ℕ) → Has v.share d → d ≤ f
      fine_step x xs a b f le mine rest zero v at d h = let p = mine d (subst (λ (y : View C). Has y.share d) (sym (some-injective x v at)) h) in omega arith
      fine_step x xs a b f le mine rest (suc i) v at d h = rest i v at d h

  live_weighs : (e : ℕ) (v : View C) → IsLive v → 0 < weight e v
  live_weighs e v live = go v.share live
    where
      go : (xs : List ℕ) → 0 < length xs → 0 < sum_by (λ d. 2 ^ (e - d)) xs
      go [] h = absurd (omega arith)
      go (x ∷ xs) h = let p = sum_by-cons (λ d. 2 ^ (e - d)) x xs in let q = pow_pos (e - x) in omega arith

  -- where one pass is whole, no other is live
  pub alone : (views : List (View C)) (id : ℕ) (v : View C) → get_elem? views id ≡ some v → IsWhole v → AddUp views → (i : ℕ) (u : View C) → get_elem? views i ≡ some u → i ≢ id → IsLive u → ⊥
  alone views id v at whole sum i u there apart live =
      let r = fine_for views in
      let e : ℕ = r.0 in
      let fine : IsFine e views = r.1 e (omega arith) in
      let all : sum_by (weight e) views ≡ 2 ^ e = sum e fine in
      let mine : weight e v ≡ 2 ^ e = whole e (λ d h. fine id v at d h) in
      let gone : View C = record v { share = [] } in
      let s = sum_by-set (weight e) views id gone v (at_below views id v at) in
      let old : weight e (get_or views id v) ≡ weight e v = ap (weight e) (get_of views id v at) in
      let z : weight e gone ≡ 0 = refl in
      let still : get_elem? (set views id gone) i ≡ some u = set_else views id i gone apart ∙ there in
      let p = part_of (weight e) (set views id gone) i u still in
      let q = live_weighs e u live in
      absurd (omega arith)

module _ {C : Type 0} (describe : C → System) (k : Setting C) (law : IsLawful (describe k.system)) where
  pub closes : (s : State ℕ (View C)) (id : ℕ) (v : View C) → Holds describe k s → get_elem? s.views id ≡ some v → length (start_of describe k) ≡ (describe k.system).words → IsLive v → IsWhole v → IsAtRest (describe k.system) v
      → ((b : ℕ) → b < (describe k.system).bodies → Has v.clear b) → (w : ℕ) → w < (describe k.system).words → slice_index s.words w ≡ slice_index (least (describe k.system) (start_of describe k)) w
  closes s id v h at size live whole rest clear w less =
      let sys : System = describe k.system in
      let only : (i : ℕ) (u : View C) → get_elem? s.views i ≡ some u → IsLive u → u ≡ v = λ i u there alive. dite (ℕ_discrete i id)
      (λ e. some-injective u v (sym there ∙ (ap (λ x. get_elem? s.views x) e ∙ at)))
      (λ ne. absurd (alone s.views id v at whole h.shares i u there ne alive)) in
      let long : sys.words ≤ length s.words = let e = h.count in omega arith in
      let on : List ℕ = take sys.words s.words in
      let count : length on ≡ sys.words = omega (arith, length-take sys.words s.words) in
      let is : (u : ℕ) → u < sys.words → slice_index on u ≡ slice_index s.words u = λ u l. get_or-take sys.words s.words u 0 l in
      let each : (b : ℕ) → b < sys.bodies → IsClosedFor sys s.words b = λ b inside. elim (h.cover b inside) [
        | closed f ↦ f
        | dirty f ↦ let u = h.scanned b inside f in absurd (u.4 (subst (λ (x : View C). Has x.clear b) (sym (only u.0 u.1 u.2 u.3)) (clear b inside)))
        | owed j x there alive due ↦ absurd (none_has v.owed b rest.0 (subst (λ (y : View C). Has y.owed b) (only j x there alive) due))
        | run j x there alive runs now ↦
            let e = only j x there alive in
            finished_closed sys law s.words v b inside (h.fits id v at live) (rest.1 b (subst (λ (y : View C). y.body ≡ Some b) e runs)) (subst (λ (y : View C). IsCurrent sys b y s.words) e now)
      ] in
      let top : IsClosed sys on = record { count = count; closed = λ b inside u l. subst (Within (bits_for (sys.output b on) u)) (sym (is u l)) (each b inside on count is u l) } in
      let start : Covers sys.words (start_of describe k) on = λ u l. subst (Within (slice_index (start_of describe k) u)) (sym (is u l)) (h.start u l) in
      let low : Within (slice_index (least sys (start_of describe k)) w) (slice_index on w) = rounds_within sys law (64 * sys.words) (start_of describe k) on size start top w less in
      within_same _ _ (h.below w less) (subst (Within (slice_index (least sys (start_of describe k)) w)) (is w less) low)

  index_of : (l : List ℕ) (i a : ℕ) → get_elem? l i ≡ some a → slice_index l i ≡ a
  index_of [] i a e = absurd (some-ne-none a (sym e))
  index_of (x ∷ xs) zero a e = some-injective x a e
  index_of (x ∷ xs) (suc i) a e = index_of xs i a e

  -- the words that are read off a closed table
  module _ (s : State ℕ (View C)) (id : ℕ) (v : View C) (ws out : List ℕ) (h : Holds describe k s) (at : get_elem? s.views id ≡ some v) (same : s.words ≡ ws)
      (count : length out ≡ (describe k.system).words) (read : (i : ℕ) → i < (describe k.system).words → get_elem? ws i ≡ some (slice_index out i)) where
    word_is : (w : ℕ) → w < (describe k.system).words → slice_index s.words w ≡ slice_index out w
    word_is w less = ap (λ (l : List ℕ). slice_index l w) same ∙ index_of ws w (slice_index out w) (read w less)

    pub closed_between : AreBetween (describe k.system) (start_of describe k) out
    closed_between = (count, (λ w less. subst (Within (slice_index (start_of describe k) w)) (word_is w less) (h.start w less)), (λ w less. subst (λ x. Within x (slice_index (least (describe k.system) (start_of describe k)) w)) (word_is w less) (h.below w less)))

    pub closed_least : length k.words.items ≡ (describe k.system).words + dirty_words (describe k.system) → IsLive v → HasAll (describe k.system) v → out ≡ least (describe k.system) (start_of describe k)
    closed_least size live all =
        let sys : System = describe k.system in
        let n : length (start_of describe k) ≡ sys.words = omega (arith, length-take sys.words k.words.items) in
        ext_get_or 0 out (least sys (start_of describe k)) (count ∙ sym h.top.count) (λ i less. sym (word_is i (omega arith)) ∙ closes s id v h at n live all.0 all.1 all.2 i (omega arith))
