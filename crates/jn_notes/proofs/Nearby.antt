-- The first of the overriders that stand at a place is the first of all.
use Rattle.std.proofs.Common.{◌≡◌, ℕ, zero, suc, ◌<◌, ◌≤◌, Bool, true, false, cond, List, [], ◌∷◌, length, map, take, Option, Some, None, refl, sym, ap, ◌∙◌, arith, add-one}
use Rattle.std.specs.Prelude.{filter, slice_index_or}
use Rattle.std.specs.Option.{option_or}
use Rattle.std.proofs.lemmas.List.{take_more, take_all}
use Rattle.jn_base.specs.declared.place.Span.{Span}
use Rattle.jn_quals.specs.Qualifier.{Qualifier}
use Rattle.jn_points.specs.declared.program.Method.{Method}
use Rattle.jn_points.specs.declared.program.Program.{Program}
use Rattle.jn_points.specs.Lookup.{method_at}
use Rattle.jn_transfer.specs.Pairs.{overriders, under}
use Rattle.jn_contrib.specs.declared.listed.Overrider.{Overrider}
use Rattle.jn_reasons_law.specs.declared.item.Item.{Item}
use Rattle.jn_note_words.specs.declared.owners.Owner.{Owner}
use Rattle.jn_sites.specs.Near.{is_there, HaveUnder, AreNear}
use Rattle.jn_note_words.specs.Owned.{first_below, first_of}
use Rattle.jn_notes.specs.declared.pairs.Part.{Part}
use Rattle.jn_notes.specs.Asked.{stands_at, by_lower, by_under, by_overrider, slot_item}
use Rattle.jn_notes.specs.Spoken.{changed_at, changed_by, overridden_of}
use Rattle.jn_notes.proofs.Firsts.{first_append, or_none_right}

same_there : (z : Span) (o : Option Method) → stands_at z o ≡ is_there z o
same_there z None = refl
same_there z (Some m) = refl

module _ {A : Type 0} (f : ℕ → Option A) where
  -- what is left out gives none
  first_filter : (test : ℕ → Bool) (ms : List ℕ) → ((m : ℕ) → test m ≡ false → f m ≡ None) → first_of f (filter test ms) ≡ first_of f ms
  first_filter test [] h = refl
  first_filter test (m ∷ ms) h = by (first_filter test ms h) (test m) refl
    where
      by : first_of f (filter test ms) ≡ first_of f ms → (t : Bool) → test m ≡ t → first_of f (cond (test m) (m ∷ filter test ms) (filter test ms)) ≡ option_or (f m) (first_of f ms)
      by rest true e = ap (λ (t : Bool). first_of f (cond t (m ∷ filter test ms) (filter test ms))) e ∙ ap (option_or (f m)) rest
      by rest false e =
          ap (λ (t : Bool). first_of f (cond t (m ∷ filter test ms) (filter test ms))) e ∙ rest
          ∙ sym (ap (λ (o : Option A). option_or o (first_of f ms)) (h m e))

  abbrev at : List ℕ → ℕ → Option A
  at ms j = f (slice_index_or ms j 0)

  nothing : (ms : List ℕ) → first_of f (take 0 ms) ≡ None
  nothing [] = refl
  nothing (m ∷ ms) = refl

  taken_first : (ms : List ℕ) (n : ℕ) → n ≤ length ms → first_of f (take n ms) ≡ first_below (at ms) n
  taken_first ms zero le = nothing ms
  taken_first ms (suc n) le =
      let lt : n < length ms = omega (arith, le) in
      let low : n ≤ length ms = omega (arith, le) in
      let x = slice_index_or ms n 0 in
      ap (λ (k : ℕ). first_of f (take k ms)) (sym (add-one n))
      ∙ ap (first_of f) (take_more ms n 0 lt)
      ∙ first_append f (take n ms) (x ∷ [])
      ∙ ap (option_or (first_of f (take n ms))) (or_none_right (f x))
      ∙ ap (λ (o : Option A). option_or o (f x)) (taken_first ms n low)

  -- of a list, by the numbers below its length
  whole_first : (ms : List ℕ) → first_of f ms ≡ first_below (at ms) (length ms)
  whole_first ms =
      let low : length ms ≤ length ms = omega arith in
      ap (first_of f) (sym (take_all (length ms) ms low)) ∙ taken_first ms (length ms) low

-- ---- overriders near a place

module _ {A : Type 0} (P : Program) (span : Span) (by : Option Method → List ℕ → Option A)
    (apart : (m : ℕ) → is_there span (method_at P m) ≡ false → by (method_at P m) (under P m) ≡ None) where
  -- of an overrider with what it is said to override
  abbrev listed : Overrider → Option A
  listed o = by (method_at P o.method) o.under

  abbrev numbered : ℕ → Option A
  numbered m = by (method_at P m) (under P m)

  all_listed : (list : List Overrider) → HaveUnder P list → first_of listed list ≡ first_of numbered (map (λ (o : Overrider). o.method) list)
  all_listed [] h = refl
  all_listed (o ∷ os) h = λ i. option_or (by (method_at P o.method) (h.0 i)) (all_listed os h.1 i)

  near : (list : List Overrider) → AreNear P span list → first_of listed list ≡ first_below (at numbered (overriders P)) (length (overriders P))
  near list h =
      all_listed list h.under
      ∙ sym (first_filter numbered (λ m. is_there span (method_at P m)) (map (λ (o : Overrider). o.method) list) apart)
      ∙ ap (first_of numbered) h.methods
      ∙ first_filter numbered (λ m. is_there span (method_at P m)) (overriders P) apart
      ∙ whole_first numbered (overriders P)

module _ (P : Program) (s : List Qualifier) (span : Span) (part : Part) where
  abbrev pub listed_item : Overrider → Option Item
  listed_item o = by_under P s span part (method_at P o.method) o.under

  item_apart : (m : ℕ) → is_there span (method_at P m) ≡ false → by_overrider P s span part m ≡ None
  item_apart m h = ap (λ (t : Bool). cond t (first_below (by_lower P s part (method_at P m) (under P m)) (length (under P m))) None) (same_there span (method_at P m) ∙ h)

  pub near_item : (list : List Overrider) → AreNear P span list → first_of listed_item list ≡ slot_item P s span (Some part)
  near_item = near P span (by_under P s span part) item_apart

  abbrev pub listed_owner : Overrider → Option Owner
  listed_owner o = changed_by P s span part (method_at P o.method) o.under

  owner_apart : (m : ℕ) → is_there span (method_at P m) ≡ false → changed_by P s span part (method_at P m) (under P m) ≡ None
  owner_apart m h = ap (λ (t : Bool). cond t (first_below (changed_at P s part (method_at P m) (under P m)) (length (under P m))) None) (same_there span (method_at P m) ∙ h)

  pub near_owner : (list : List Overrider) → AreNear P span list → first_of listed_owner list ≡ overridden_of P s span part
  near_owner = near P span (changed_by P s span part) owner_apart
