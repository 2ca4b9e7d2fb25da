-- Lists kept for places, put there and read.
use Rattle.std.proofs.Common.{◌≡◌, ℕ, ◌+◌, Bool, true, false, cond, List, [], ◌∷◌, ◌++◌, Option, Some, None, refl, sym, ap, ◌∙◌, add-one}
use Rattle.std.specs.Prelude.{eqb, ◌&&◌, flat_map}
use Rattle.std.specs.HashMap.{HashMap, get}
use Rattle.std.specs.Map.{lookup}
use Rattle.std.proofs.lemmas.Bool.{and_parts, eqb-true}
use Rattle.std.proofs.lemmas.List.{append_assoc, append-nil}
use Rattle.std.proofs.lemmas.List.Concat.{flat_map-append}
use Rattle.jn_base.specs.declared.place.Span.{Span}
use Rattle.jn_points.specs.Members.{below}
use Rattle.jn_sites.specs.Sites.{Key, key_of, key_eq, kept_at, grown, Adds, AreKept, at_place}

same_key : (x y : Key) → key_eq x y ≡ true → x ≡ y
same_key x y h =
    let f = and_parts (eqb x.0.0 y.0.0 && eqb x.0.1 y.0.1) (eqb x.1 y.1) h in
    let g = and_parts (eqb x.0.0 y.0.0) (eqb x.0.1 y.0.1) f.0 in
    let a = eqb-true x.0.0 y.0.0 g.0 in
    let b = eqb-true x.0.1 y.0.1 g.1 in
    let d = eqb-true x.1 y.1 f.1 in
    λ i. ((a i, b i), d i)

module _ (A : Type 0) where
  never : (list : List A) → Some list ≡ None → ⊥
  never list e = cc

  one_list : (xs ys : List A) → Some xs ≡ Some ys → xs ≡ ys
  one_list xs ys e = cc

  grown_twice : (o : Option (List A)) (xs ys : List A) → grown A (grown A o xs) ys ≡ grown A o (xs ++ ys)
  grown_twice None xs ys = refl
  grown_twice (Some list) xs ys = ap Some (append_assoc list xs ys)

  grown_none : (o : Option (List A)) → o ≡ grown A o []
  grown_none None = refl
  grown_none (Some list) = ap Some (sym (append-nil list))

  -- ---- one after the other

  pub both : (f g : Span → List A) (old mid new : List (Key × List A)) → Adds A f old mid → Adds A g mid new → Adds A (λ z. f z ++ g z) old new
  both f g old mid new h i z = i z ∙ ap (λ (o : Option (List A)). grown A o (g z)) (h z) ∙ grown_twice (kept_at A old z) (f z) (g z)

  pub nothing : (old : List (Key × List A)) → Adds A (λ z. []) old old
  nothing old z = grown_none (kept_at A old z)

  pub alike : (f g : Span → List A) (old new : List (Key × List A)) → ((z : Span) → f z ≡ g z) → Adds A f old new → Adds A g old new
  alike f g old new e h z = h z ∙ ap (grown A (kept_at A old z)) (e z)

  -- ---- what is kept

  pub none_kept : (entries : List (Key × List A)) → entries ≡ [] → AreKept A (λ z. []) entries
  none_kept entries e z list h = absurd (never list (sym h ∙ ap (lookup (key_eq (key_of z))) e))

  pub kept_both : (f g : Span → List A) (old new : List (Key × List A)) → AreKept A f old → Adds A g old new → AreKept A (λ z. f z ++ g z) new
  kept_both f g old new k h z list e = by (kept_at A old z) refl
    where
      by : (o : Option (List A)) → kept_at A old z ≡ o → list ≡ f z ++ g z
      by None is = absurd (never list (sym e ∙ h z ∙ ap (λ (o : Option (List A)). grown A o (g z)) is))
      by (Some l) is = one_list list (l ++ g z) (sym e ∙ h z ∙ ap (λ (o : Option (List A)). grown A o (g z)) is) ∙ ap (λ (xs : List A). xs ++ g z) (k z l is)

  pub kept_alike : (f g : Span → List A) (entries : List (Key × List A)) → ((z : Span) → f z ≡ g z) → AreKept A f entries → AreKept A g entries
  kept_alike f g entries e k z list h = k z list h ∙ e z

  -- ---- number by number

  number_grows : (f : ℕ → Span → List A) (n : ℕ) (z : Span) → flat_map (λ k. f k z) (below n) ++ f n z ≡ flat_map (λ k. f k z) (below (n + 1))
  number_grows f n z =
      ap (λ (xs : List A). flat_map (λ k. f k z) (below n) ++ xs) (sym (append-nil (f n z)))
      ∙ sym (flat_map-append (λ k. f k z) (below n) (n ∷ []))
      ∙ ap (λ (m : ℕ). flat_map (λ k. f k z) (below m)) (sym (add-one n))

  pub number_more : (f : ℕ → Span → List A) (n : ℕ) (first old new : List (Key × List A)) → Adds A (λ z. flat_map (λ k. f k z) (below n)) first old → Adds A (f n) old new → Adds A (λ z. flat_map (λ k. f k z) (below (n + 1))) first new
  number_more f n first old new h g =
      alike (λ z. flat_map (λ k. f k z) (below n) ++ f n z) (λ z. flat_map (λ k. f k z) (below (n + 1))) first new (number_grows f n)
      (both (λ z. flat_map (λ k. f k z) (below n)) (f n) first old new h g)

  pub number_kept : (f : ℕ → Span → List A) (n : ℕ) (old new : List (Key × List A)) → AreKept A (λ z. flat_map (λ k. f k z) (below n)) old → Adds A (f n) old new → AreKept A (λ z. flat_map (λ k. f k z) (below (n + 1))) new
  number_kept f n old new k g =
      kept_alike (λ z. flat_map (λ k. f k z) (below n) ++ f n z) (λ z. flat_map (λ k. f k z) (below (n + 1))) new (number_grows f n)
      (kept_both (λ z. flat_map (λ k. f k z) (below n)) (f n) old new k g)

  -- ---- a map

  module _ {S : Type 0} where
    pub got : (entries : List (Key × List A)) (map : HashMap Key (List A) S) (key : Key) (span : Span) (o : Option (List A)) → key ≡ key_of span → map.entries ≡ entries → o ≡ get key_eq map key → kept_at A entries span ≡ o
    got entries map key span o is e h = sym (h ∙ ap (λ (k : Key). lookup (key_eq k) map.entries) is ∙ ap (lookup (key_eq (key_of span))) e)

    -- a place more, with no item
    pub started : (old new : HashMap Key (List A) S) (view : List (Key × List A)) (key : Key) (list : List A) → old.entries ≡ view → list ≡ [] → AreKept A (λ z. []) view
        → ((q : Key) → get key_eq new q ≡ cond (key_eq key q) (Some list) (get key_eq old q)) → AreKept A (λ z. []) new.entries
    started old new view key list e l k inserts z other h = by (key_eq key (key_of z)) refl
      where
        by : (t : Bool) → key_eq key (key_of z) ≡ t → other ≡ []
        by true is = one_list other list (sym h ∙ inserts (key_of z) ∙ ap (λ (t : Bool). cond t (Some list) (get key_eq old (key_of z))) is) ∙ l
        by false is = k z other (ap (lookup (key_eq (key_of z))) (sym e) ∙ sym (sym h ∙ inserts (key_of z) ∙ ap (λ (t : Bool). cond t (Some list) (get key_eq old (key_of z))) is))

    -- the list of a place is taken out and put back with an item after it
    pub put_more : (old mid new : HashMap Key (List A) S) (view : List (Key × List A)) (span : Span) (item : A) (key : Key) (list more : List A) → key ≡ key_of span → old.entries ≡ view
        → Some list ≡ get key_eq old key → more ≡ list ++ item ∷ []
        → ((q : Key) → get key_eq mid q ≡ cond (key_eq key q) None (get key_eq old q))
        → ((q : Key) → get key_eq new q ≡ cond (key_eq key q) (Some more) (get key_eq mid q))
        → Adds A (at_place A span item) view new.entries
    put_more old mid new view span item key list more is e got m removes inserts z = by (key_eq (key_of span) (key_of z)) refl
      where
        kept : (t : Bool) → key_eq (key_of span) (key_of z) ≡ t → key_eq key (key_of z) ≡ t
        kept t h = ap (λ (k : Key). key_eq k (key_of z)) is ∙ h

        was : kept_at A view z ≡ get key_eq old (key_of z)
        was = ap (lookup (key_eq (key_of z))) (sym e)

        by : (t : Bool) → key_eq (key_of span) (key_of z) ≡ t → kept_at A new.entries z ≡ grown A (kept_at A view z) (at_place A span item z)
        by true h =
            inserts (key_of z) ∙ ap (λ (t : Bool). cond t (Some more) (get key_eq mid (key_of z))) (kept true h)
            ∙ ap Some m ∙ ap (λ (o : Option (List A)). grown A o (item ∷ [])) (got ∙ ap (get key_eq old) (is ∙ same_key (key_of span) (key_of z) h) ∙ sym was)
            ∙ ap (λ (t : Bool). grown A (kept_at A view z) (cond t (item ∷ []) [])) (sym h)
        by false h =
            inserts (key_of z) ∙ ap (λ (t : Bool). cond t (Some more) (get key_eq mid (key_of z))) (kept false h)
            ∙ removes (key_of z) ∙ ap (λ (t : Bool). cond t None (get key_eq old (key_of z))) (kept false h)
            ∙ sym was ∙ grown_none (kept_at A view z)
            ∙ ap (λ (t : Bool). grown A (kept_at A view z) (cond t (item ∷ []) [])) (sym h)

    -- a place without a list
    pub put_none : (old mid : HashMap Key (List A) S) (view : List (Key × List A)) (span : Span) (item : A) (key : Key) → key ≡ key_of span → old.entries ≡ view
        → None ≡ get key_eq old key → ((q : Key) → get key_eq mid q ≡ cond (key_eq key q) None (get key_eq old q))
        → Adds A (at_place A span item) view mid.entries
    put_none old mid view span item key is e got removes z = by (key_eq (key_of span) (key_of z)) refl
      where
        kept : (t : Bool) → key_eq (key_of span) (key_of z) ≡ t → key_eq key (key_of z) ≡ t
        kept t h = ap (λ (k : Key). key_eq k (key_of z)) is ∙ h

        was : kept_at A view z ≡ get key_eq old (key_of z)
        was = ap (lookup (key_eq (key_of z))) (sym e)

        by : (t : Bool) → key_eq (key_of span) (key_of z) ≡ t → kept_at A mid.entries z ≡ grown A (kept_at A view z) (at_place A span item z)
        by true h =
            removes (key_of z) ∙ ap (λ (t : Bool). cond t None (get key_eq old (key_of z))) (kept true h)
            ∙ ap (λ (o : Option (List A)). grown A o (at_place A span item z)) (got ∙ ap (get key_eq old) (is ∙ same_key (key_of span) (key_of z) h) ∙ sym was)
        by false h =
            removes (key_of z) ∙ ap (λ (t : Bool). cond t None (get key_eq old (key_of z))) (kept false h)
            ∙ sym was ∙ grown_none (kept_at A view z)
            ∙ ap (λ (t : Bool). grown A (kept_at A view z) (cond t (item ∷ []) [])) (sym h)
