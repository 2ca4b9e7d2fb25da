-- The first of the points that are kept for a place is the first of all.
use Rattle.std.proofs.Common.{◌≡◌, ℕ, zero, suc, ◌+◌, ◌<◌, ◌≤◌, Bool, true, false, cond, ◌||◌, List, [], ◌∷◌, ◌++◌, length, drop, Option, Some, None, refl, sym, ap, ◌∙◌}
use Rattle.std.specs.Prelude.{flat_map, is_some, slice_index_or}
use Rattle.std.specs.Option.{option_or}
use Rattle.std.proofs.lemmas.Bool.{false≢true}
use Rattle.std.proofs.lemmas.List.{append-nil, at_drop_all, drop_more}
use Rattle.std.proofs.lemmas.List.Concat.{flat_map-append}
use Rattle.jn_base.specs.declared.place.Span.{Span}
use Rattle.jn_quals.specs.Qualifier.{Qualifier}
use Rattle.jn_points.specs.declared.point.Operand.{Operand}
use Rattle.jn_points.specs.declared.point.Point.{Point}
use Rattle.jn_points.specs.declared.program.Program.{Program}
use Rattle.jn_points.specs.Lookup.{body_at, point_at, points_of}
use Rattle.jn_points.specs.Members.{below}
use Rattle.jn_env.specs.Environment.{Env}
use Rattle.jn_env.specs.Order.{Table, env_in}
use Rattle.jn_reasons.specs.declared.sources.Spot.{Spot}
use Rattle.jn_reasons_law.specs.declared.item.Item.{Item}
use Rattle.jn_note_words.specs.declared.owners.Owner.{Owner}
use Rattle.jn_note_words.specs.Owned.{first_below, first_of}
use Rattle.jn_notes.specs.declared.reads.Sought.{Sought}
use Rattle.jn_notes.specs.Asked.{same_span, by_point, register_item}
use Rattle.jn_sites.specs.Marks.{AreSites, asked, body_marks, marks, point_marks, spot_of, stands_there}
use Rattle.jn_sites.specs.Sites.{Key, kept_at}
use Rattle.jn_notes.specs.Found.{item_by, owner_by}
use Rattle.jn_notes.specs.Spoken.{taker, taker_by}
use Rattle.jn_notes.proofs.Apart.{asks_apart, either_not, passes_apart}

module _ {A : Type 0} where
  pub or_none_right : (x : Option A) → option_or x None ≡ x
  or_none_right None = refl
  or_none_right (Some x) = refl

  or_assoc : (x y z : Option A) → option_or (option_or x y) z ≡ option_or x (option_or y z)
  or_assoc None y z = refl
  or_assoc (Some x) y z = refl

module _ {A B : Type 0} (f : B → Option A) where
  pub first_append : (xs ys : List B) → first_of f (xs ++ ys) ≡ option_or (first_of f xs) (first_of f ys)
  first_append [] ys = refl
  first_append (x ∷ xs) ys = ap (option_or (f x)) (first_append xs ys) ∙ sym (or_assoc (f x) (first_of f xs) (first_of f ys))

module _ {A : Type 0} where
  module _ (f : Spot → Option A) where
    -- ---- a point of which some value stands there, and one of which none does

    marks_none : (spot : Spot) (vs : List Operand) (z : Span) → f spot ≡ None → first_of f (marks spot vs z) ≡ None
    marks_none spot [] z h = refl
    marks_none spot (v ∷ vs) z h = by (marks_none spot vs z h) (same_span v.span z)
      where
        by : first_of f (marks spot vs z) ≡ None → (t : Bool) → first_of f (cond t (spot ∷ []) [] ++ marks spot vs z) ≡ None
        by none true = ap (λ (o : Option A). option_or o (first_of f (marks spot vs z))) h ∙ none
        by none false = none

    marks_once : (spot : Spot) (vs : List Operand) (z : Span) (o : Option A) → f spot ≡ o → option_or (f spot) (first_of f (marks spot vs z)) ≡ f spot
    marks_once spot vs z None h = ap (λ (o : Option A). option_or o (first_of f (marks spot vs z))) h ∙ marks_none spot vs z h ∙ sym h
    marks_once spot vs z (Some x) h = ap (λ (o : Option A). option_or o (first_of f (marks spot vs z))) h ∙ sym h

    marks_some : (spot : Spot) (vs : List Operand) (z : Span) → stands_there z vs ≡ true → first_of f (marks spot vs z) ≡ f spot
    marks_some spot [] z h = absurd (false≢true h)
    marks_some spot (v ∷ vs) z h = by (marks_some spot vs z) (same_span v.span z) refl
      where
        by : (stands_there z vs ≡ true → first_of f (marks spot vs z) ≡ f spot) → (t : Bool) → same_span v.span z ≡ t → first_of f (cond (same_span v.span z) (spot ∷ []) [] ++ marks spot vs z) ≡ f spot
        by rest true e = ap (λ (t : Bool). first_of f (cond t (spot ∷ []) [] ++ marks spot vs z)) e ∙ marks_once spot vs z (f spot) refl
        by rest false e =
            ap (λ (t : Bool). first_of f (cond t (spot ∷ []) [] ++ marks spot vs z)) e
            ∙ rest (ap (λ (t : Bool). t || stands_there z vs) (sym e) ∙ h)

    marks_apart : (spot : Spot) (vs : List Operand) (z : Span) → stands_there z vs ≡ false → marks spot vs z ≡ []
    marks_apart spot [] z h = refl
    marks_apart spot (v ∷ vs) z h =
        let e = either_not (same_span v.span z) (stands_there z vs) h in
        ap (λ (t : Bool). cond t (spot ∷ []) [] ++ marks spot vs z) e.0 ∙ marks_apart spot vs z e.1

    -- where none gives something that has no value there, the point's own
    pub point_first : (spot : Spot) (o : Option Point) (z : Span) (r : Option A) → f spot ≡ r → (o ≡ None → r ≡ None)
        → ((pt : Point) → o ≡ Some pt → stands_there z (asked pt.kind) ≡ false → r ≡ None) → first_of f (point_marks spot o z) ≡ r
    point_first spot None z r h none apart = sym (none refl)
    point_first spot (Some pt) z r h none apart = by (stands_there z (asked pt.kind)) refl
      where
        by : (t : Bool) → stands_there z (asked pt.kind) ≡ t → first_of f (marks spot (asked pt.kind) z) ≡ r
        by true e = marks_some spot (asked pt.kind) z e ∙ h
        by false e = ap (first_of f) (marks_apart spot (asked pt.kind) z e) ∙ sym (apart pt refl e)

    -- ---- number by number

    pub numbers_first : (g : ℕ → List Spot) (h : ℕ → Option A) (n : ℕ) → ((k : ℕ) → first_of f (g k) ≡ h k) → first_of f (flat_map g (below n)) ≡ first_below h n
    numbers_first g h zero e = refl
    numbers_first g h (suc n) e =
        ap (first_of f) (flat_map-append g (below n) (n ∷ []))
        ∙ first_append f (flat_map g (below n)) (flat_map g (n ∷ []))
        ∙ ap (option_or (first_of f (flat_map g (below n)))) (ap (first_of f) (append-nil (g n)) ∙ e n)
        ∙ ap (λ (o : Option A). option_or o (h n)) (numbers_first g h n e)

-- ---- points of which nothing is given where none stands, or no value stands at the place

module _ {A : Type 0} (P : Program) (z : Span) (tables : List Table) (by : ℕ → ℕ → Option Point → Option Env → Option A)
    (none : (b p : ℕ) (e : Option Env) → by b p None e ≡ None)
    (apart : (b p : ℕ) (e : Option Env) (pt : Point) → stands_there z (asked pt.kind) ≡ false → by b p (Some pt) e ≡ None) where
  abbrev at : ℕ → ℕ → Option A
  at b p = by b p (point_at P b p) (env_in (slice_index_or tables b []) p)

  abbrev at_spot : Spot → Option A
  at_spot x = at x.body.0 x.point.0

  of_body : (b : ℕ) → first_of at_spot (body_marks P b z) ≡ first_below (at b) (length (points_of (body_at P b)))
  of_body b = numbers_first at_spot (λ p. point_marks (spot_of b p) (point_at P b p) z) (at b) (length (points_of (body_at P b))) (λ p.
      let e = env_in (slice_index_or tables b []) p in
      point_first at_spot (spot_of b p) (point_at P b p) z (at b p) refl
      (λ h. ap (λ (o : Option Point). by b p o e) h ∙ none b p e)
      (λ pt h g. ap (λ (o : Option Point). by b p o e) h ∙ apart b p e pt g))

  -- the first of the points that are kept is the first of all
  kept_first : (sites : List (Key × List Spot)) (spots : List Spot) (r : Option A) → AreSites P sites → kept_at Spot sites z ≡ Some spots → r ≡ first_of at_spot spots
      → r ≡ first_below (λ b. first_below (at b) (length (points_of (body_at P b)))) (length P.bodies)
  kept_first sites spots r h is e =
      e ∙ ap (first_of at_spot) (h z spots is)
      ∙ numbers_first at_spot (λ b. body_marks P b z) (λ b. first_below (at b) (length (points_of (body_at P b)))) (length P.bodies) of_body

module _ (P : Program) (s : List Qualifier) (q : Sought) where
  item_apart : (b p : ℕ) (e : Option Env) (pt : Point) → stands_there q.span (asked pt.kind) ≡ false → by_point P s q b p (Some pt) e ≡ None
  item_apart b p None pt apart = refl
  item_apart b p (Some e) pt apart = asks_apart q b p e P s q.rule pt.kind apart

  owner_apart : (b p : ℕ) (e : Option Env) (pt : Point) → stands_there q.span (asked pt.kind) ≡ false → taker_by P s q b (Some pt) e ≡ None
  owner_apart b p None pt apart = refl
  owner_apart b p (Some e) pt apart = passes_apart q e P s q.rule b pt.kind apart

  module _ (tables : List Table) (sites : List (Key × List Spot)) (spots : List Spot) where
    pub item_is_first : (r : Option Item) → AreSites P sites → kept_at Spot sites q.span ≡ Some spots → r ≡ first_of (item_by P s q tables) spots → r ≡ register_item P s q tables
    item_is_first = kept_first P q.span tables (by_point P s q) (λ b p e. refl) item_apart sites spots

    pub owner_is_first : (r : Option Owner) → AreSites P sites → kept_at Spot sites q.span ≡ Some spots → r ≡ first_of (owner_by P s q tables) spots → r ≡ taker P s q tables
    owner_is_first = kept_first P q.span tables (λ b p. taker_by P s q b) (λ b p e. refl) owner_apart sites spots

-- ---- one after the other

module _ {A B : Type 0} (f : B → Option A) where
  pub next_none : (list : List B) (i : ℕ) (d : B) (r whole : Option A) → i < length list → r ≡ f (slice_index_or list i d) → is_some r ≡ false
      → first_of f (drop i list) ≡ whole → first_of f (drop (i + 1) list) ≡ whole
  next_none list i d (Some x) whole lt is lacks h = absurd (false≢true (sym lacks))
  next_none list i d None whole lt is lacks h =
      ap (λ (o : Option A). option_or o (first_of f (drop (i + 1) list))) is ∙ sym (ap (first_of f) (drop_more list i d lt)) ∙ h

  pub next_found : (list : List B) (i : ℕ) (d : B) (r whole : Option A) → i < length list → r ≡ f (slice_index_or list i d) → is_some r ≡ true
      → first_of f (drop i list) ≡ whole → r ≡ whole
  next_found list i d None whole lt is some h = absurd (false≢true some)
  next_found list i d (Some x) whole lt is some h =
      ap (λ (o : Option A). option_or o (first_of f (drop (i + 1) list))) is ∙ sym (ap (first_of f) (drop_more list i d lt)) ∙ h

  pub next_done : (list : List B) (i : ℕ) (whole : Option A) → length list ≤ i → first_of f (drop i list) ≡ whole → None ≡ whole
  next_done list i whole le h = sym (at_drop_all (first_of f) list i le) ∙ h
