-- What a row speaks of stands: so it has a chain.
use Rattle.std.proofs.Common.{◌≡◌, ◌⊎◌, inl, inr, ⊎_elim, ℕ, zero, suc, Bool, true, false, cond, ◌&&◌, not, List, [], ◌∷◌, length, Option, Some, None, refl, ap, subst}
use Rattle.std.specs.Prelude.{slice_index_or}
use Rattle.std.specs.Option.{option_or}
use Rattle.std.proofs.lemmas.Bool.{false≢true, true≢false}
use Rattle.jn_base.specs.declared.number.SlotNo.{SlotNo}
use Rattle.jn_base.specs.declared.place.Span.{Span}
use Rattle.jn_base.specs.declared.place.Row.{Row}
use Rattle.jn_quals.specs.Qualifier.{Qualifier}
use Rattle.jn_quals.specs.Order.{no_qual}
use Rattle.jn_points.specs.declared.point.Point.{Point}
use Rattle.jn_points.specs.declared.program.Method.{Method}
use Rattle.jn_points.specs.declared.program.Program.{Program}
use Rattle.jn_points.specs.Lookup.{body_at, method_at, point_at, points_of}
use Rattle.jn_sigs.specs.Signature.{slot_qual}
use Rattle.jn_env.specs.Environment.{Env}
use Rattle.jn_env.specs.Order.{Table, env_in, qual_at}
use Rattle.jn_transfer.specs.Pairs.{overriders, under}
use Rattle.jn_transfer.specs.Rules.{lacks_null}
use Rattle.jn_reasons_law.specs.declared.item.Bit.TheVariants.{Nullable, Free}
use Rattle.jn_reasons_law.specs.declared.item.Item.{Item}
use Rattle.jn_reasons_law.specs.declared.item.Item.TheVariants.{AtSlot, AtRegister}
use Rattle.jn_reasons_law.specs.Items.{on, Stands}
use Rattle.jn_note_words.specs.Owned.{first_below}
use Rattle.jn_notes.specs.Asks.{Ask, asks}
use Rattle.jn_notes.specs.declared.reads.Sought.{Sought}
use Rattle.jn_notes.specs.declared.pairs.Part.{Part}
use Rattle.jn_notes.specs.declared.pairs.Part.TheVariants.{OverParameters, OverReceiver, OverResult}
use Rattle.jn_notes.specs.Asked.{sought_of, part_of, same_span, by_ask, by_asks, by_point, by_number, by_body, lacking, lacking_bit, some_lacking, by_part, by_override, by_lower, by_under, by_overriders, slot_item, item_by, item_of, stands_at}

abbrev is_nothing : Option Item → Bool
is_nothing None = true
is_nothing (Some x) = false

pub none_some : (x : Item) → None ≡ Some x → ⊥
none_some x e = true≢false (ap is_nothing e)

pub split_or : {A : Type 0} (u v : Option A) (x : A) → option_or u v ≡ Some x → (u ≡ Some x) ⊎ (v ≡ Some x)
split_or None v x e = inr e
split_or (Some y) v x e = inl e

-- a number gives it
pub given_by : (f : ℕ → Option Item) (n : ℕ) (x : Item) → first_below f n ≡ Some x → (i : ℕ) × (f i ≡ Some x)
given_by f zero x e = absurd (none_some x e)
given_by f (suc n) x e = by (λ h. given_by f n x h) (split_or (first_below f n) (f n) x e)
  where
    by : (first_below f n ≡ Some x → (i : ℕ) × (f i ≡ Some x)) → (first_below f n ≡ Some x) ⊎ (f n ≡ Some x) → (i : ℕ) × (f i ≡ Some x)
    by before (inl h) = before h
    by before (inr h) = (n, h)

pub and_right : (a b : Bool) → (a && b) ≡ true → b ≡ true
and_right true b e = e
and_right false b e = absurd (false≢true e)

pub and_left : (a b : Bool) → (a && b) ≡ true → a ≡ true
and_left true b e = refl
and_left false b e = absurd (false≢true e)

pub if_there : (t : Bool) (y x : Item) → cond t (Some y) None ≡ Some x → (t ≡ true) × (y ≡ x)
if_there true y x e = (refl, some_is e)
  where
    get : Option Item → Item
    get None = y
    get (Some z) = z

    some_is : Some y ≡ Some x → y ≡ x
    some_is h = ap get h
if_there false y x e = absurd (none_some x e)

module _ (s : List Qualifier) (tables : List Table) where
  module _ (q : Sought) (b : ℕ) where
    abbrev T : Table
    T = slice_index_or tables b []

    ask_stands : (p : ℕ) (e : Env) (a : Ask) (x : Item) → env_in T p ≡ Some e → by_ask q b p e a ≡ Some x → Stands s tables x
    ask_stands p e a x reached h =
        let here = same_span a.value.span q.span in
        let has = on q.bit (qual_at e a.value.reg.0) in
        let r = if_there (here && has && not (on q.bit a.taken)) (AtRegister b p a.value.reg.0 q.bit) x h in
        subst (Stands s tables) r.1 (record { env = e; reached = reached; has = and_right here has (and_left (here && has) (not (on q.bit a.taken)) r.0) })

    asks_stand : (p : ℕ) (e : Env) (list : List Ask) (x : Item) → env_in T p ≡ Some e → by_asks q b p e list ≡ Some x → Stands s tables x
    asks_stand p e [] x reached h = absurd (none_some x h)
    asks_stand p e (a ∷ list) x reached h = ⊎_elim (λ g. ask_stands p e a x reached g) (λ g. asks_stand p e list x reached g) (split_or (by_ask q b p e a) (by_asks q b p e list) x h)

    point_stands : (P : Program) (p : ℕ) (o : Option Point) (slot : Option Env) (x : Item) → env_in T p ≡ slot → by_point P s q b p o slot ≡ Some x → Stands s tables x
    point_stands P p None slot x reached h = absurd (none_some x h)
    point_stands P p (Some pt) None x reached h = absurd (none_some x h)
    point_stands P p (Some pt) (Some e) x reached h = asks_stand p e (asks P s q.rule b e pt.kind) x reached h

  abbrev slot_bit : ℕ → Qualifier
  slot_bit k = slice_index_or s k no_qual

  lacking_stands : (k : ℕ) (t : Qualifier) (x : Item) → lacking_bit k (slot_bit k) t ≡ Some x → Stands s tables x
  lacking_stands k t x h = by (lacks_null (slot_bit k) t) refl h
    where
      by : (c : Bool) → lacks_null (slot_bit k) t ≡ c → cond c (Some (AtSlot k Nullable)) (cond ((slot_bit k).free && not t.free) (Some (AtSlot k Free)) None) ≡ Some x → Stands s tables x
      by true e g = subst (Stands s tables) (if_there true (AtSlot k Nullable) x g).1 (and_left (slot_bit k).null (not t.null) e)
      by false e g =
          let r = if_there ((slot_bit k).free && not t.free) (AtSlot k Free) x g in
          subst (Stands s tables) r.1 (and_left (slot_bit k).free (not t.free) r.0)

  slot_stands : (from to : Option SlotNo) (x : Item) → lacking s from to ≡ Some x → Stands s tables x
  slot_stands None to x h = absurd (none_some x h)
  slot_stands (Some n) to x h = lacking_stands n.0 (slot_qual s to) x h

  slots_stand : (xs ys : List (Option SlotNo)) (x : Item) → some_lacking s xs ys ≡ Some x → Stands s tables x
  slots_stand [] ys x h = absurd (none_some x h)
  slots_stand (a ∷ xs) [] x h = absurd (none_some x h)
  slots_stand (a ∷ xs) (c ∷ ys) x h = ⊎_elim (λ g. slot_stands a c x g) (λ g. slots_stand xs ys x g) (split_or (lacking s a c) (some_lacking s xs ys) x h)

  part_stands : (part : Part) (over lower : Method) (x : Item) → by_part s part over lower ≡ Some x → Stands s tables x
  part_stands OverParameters over lower x h = slots_stand lower.param_slots over.param_slots x h
  part_stands OverReceiver over lower x h = slot_stands lower.receiver over.receiver x h
  part_stands OverResult over lower x h = slot_stands over.result_slot lower.result_slot x h

  override_stands : (part : Part) (over lower : Option Method) (x : Item) → by_override s part over lower ≡ Some x → Stands s tables x
  override_stands part None lower x h = absurd (none_some x h)
  override_stands part (Some over) None x h = absurd (none_some x h)
  override_stands part (Some over) (Some lower) x h = part_stands part over lower x h

  module _ (P : Program) where
    under_stands : (span : Span) (part : Part) (over : Option Method) (ks : List ℕ) (x : Item) → by_under P s span part over ks ≡ Some x → Stands s tables x
    under_stands span part over ks x h = by (stands_at span over) h
      where
        by : (t : Bool) → cond t (first_below (by_lower P s part over ks) (length ks)) None ≡ Some x → Stands s tables x
        by true g = let r = given_by (by_lower P s part over ks) (length ks) x g in override_stands part over (method_at P (slice_index_or ks r.0 0)) x r.1
        by false g = absurd (none_some x g)

    pair_stands : (span : Span) (part : Option Part) (x : Item) → slot_item P s span part ≡ Some x → Stands s tables x
    pair_stands span None x h = absurd (none_some x h)
    pair_stands span (Some part) x h =
        let r = given_by (by_overriders P s span part) (length (overriders P)) x h in
        let m = slice_index_or (overriders P) r.0 0 in
        under_stands span part (method_at P m) (under P m) x r.1

    item_stands : (row : Row) (q : Option Sought) (x : Item) → item_by P s row tables q ≡ Some x → Stands s tables x
    item_stands row None x h = pair_stands row.span (part_of row.code) x h
    item_stands row (Some q) x h =
        let r = given_by (λ b. by_body P s q b (slice_index_or tables b [])) (length P.bodies) x h in
        let p = given_by (by_number P s q r.0 (slice_index_or tables r.0 [])) (length (points_of (body_at P r.0))) x r.1 in
        point_stands q r.0 P p.0 (point_at P r.0 p.0) (env_in (slice_index_or tables r.0 []) p.0) x refl p.1

    -- what a row speaks of stands
    pub row_stands : (row : Row) (x : Item) → item_of P s row tables ≡ Some x → Stands s tables x
    row_stands row x h = item_stands row (sought_of row.span row.code) x h
