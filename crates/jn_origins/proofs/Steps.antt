-- Lists of causes that grow: by a number's, and by those of all tasks.
use Rattle.std.proofs.Common.{◌≡◌, ℕ, zero, suc, ◌+◌, ◌-◌, ◌<◌, ◌≤◌, Bool, true, false, cond, List, [], ◌∷◌, ◌++◌, length, map, Option, Some, None, refl, sym, ap, ◌∙◌, subst, append_assoc, append-nil, add-one, arith}
use Rattle.std.specs.Prelude.{slice_get, slice_index_or}
use Rattle.std.proofs.lemmas.Bool.{le-ltb, lt-ltb}
use Rattle.jn_quals.specs.Qualifier.{Qualifier}
use Rattle.jn_quals.specs.Order.{no_qual}
use Rattle.jn_points.specs.declared.point.Point.{Point}
use Rattle.jn_points.specs.declared.program.Body.{Body}
use Rattle.jn_points.specs.declared.program.Program.{Program}
use Rattle.jn_points.specs.Lookup.{points_of, body_at, point_at, method_of_body}
use Rattle.jn_sigs.specs.Signature.{start_signature}
use Rattle.jn_env.specs.Order.{Table, env_in, qual_at}
use Rattle.jn_env.specs.Sized.{Sized}
use Rattle.jn_transfer.specs.Transfer.{entry_env}
use Rattle.jn_transfer.specs.Pairs.{overriders}
use Rattle.jn_contrib.specs.declared.listed.Overrider.{Overrider}
use Rattle.jn_contrib.specs.Entries.{AreOverriders}
use Rattle.jn_tables_law.specs.Tasks.{task_method, is_body_task}
use Rattle.jn_reasons_law.specs.declared.item.Bit.{Bit}
use Rattle.jn_reasons_law.specs.declared.item.Item.TheVariants.{AtSlot, AtRegister}
use Rattle.jn_reasons_law.specs.declared.item.Place.TheVariants.{OfSlot, OfBody}
use Rattle.jn_reasons_law.specs.Items.{on}
use Rattle.jn_reasons_law.specs.Sources.{the_text, at_entry}
use Rattle.jn_reasons.specs.declared.causes.Cause.{Cause}
use Rattle.jn_reasons.specs.Listed.{firsts, placed, sent_at, sent_by, body_causes, started, pair_causes, carried, entered, task_causes, causes}
use Rattle.jn_origins.specs.Standing.{AreSized}

abbrev nothing : List Cause
nothing = []

-- one more
pub firsts_more : (f : ℕ → List Cause) (n : ℕ) (old list new part : List Cause) → part ≡ f n → new ≡ list ++ part → list ≡ old ++ firsts f n → new ≡ old ++ firsts f (n + 1)
firsts_more f n old list new part e h l =
    h ∙ ap (λ (xs : List Cause). xs ++ part) l ∙ ap (λ (xs : List Cause). (old ++ firsts f n) ++ xs) e ∙ append_assoc old (firsts f n) (f n) ∙ ap (λ (m : ℕ). old ++ firsts f m) (sym (add-one n))

-- equal below a number
pub firsts_same : (f g : ℕ → List Cause) (n : ℕ) → ((m : ℕ) → m < n → f m ≡ g m) → firsts f n ≡ firsts g n
firsts_same f g zero h = refl
firsts_same f g (suc n) h = ap (λ (xs : List Cause). xs ++ f n) (firsts_same f g n (λ m lt. h m (omega (arith, lt)))) ∙ ap (λ (xs : List Cause). firsts g n ++ xs) (h n (omega arith))

-- of the front, and after it
pub firsts_split : (f : ℕ → List Cause) (a n : ℕ) → firsts f (a + n) ≡ firsts f a ++ firsts (λ j. f (a + j)) n
firsts_split f a zero =
    let e : a + 0 ≡ a = omega arith in
    ap (λ (m : ℕ). firsts f m) e ∙ sym (append-nil (firsts f a))
firsts_split f a (suc n) =
    let e : a + suc n ≡ suc (a + n) = omega arith in
    ap (λ (m : ℕ). firsts f m) e ∙ ap (λ (xs : List Cause). xs ++ f (a + n)) (firsts_split f a n) ∙ append_assoc (firsts f a) (firsts (λ j. f (a + j)) n) (f (a + n))

length_methods : (list : List Overrider) → length (map (λ (o : Overrider). o.method) list) ≡ length list
length_methods [] = refl
length_methods (x ∷ list) = ap suc (length_methods list)

-- there are as many as methods that override
as_many : (P : Program) (list : List Overrider) → AreOverriders P list → length list ≡ length (overriders P)
as_many P list h = sym (length_methods list) ∙ ap (λ (ms : List ℕ). length ms) h.methods

method_there : (list : List Overrider) (j : ℕ) (d : Overrider) → j < length list → slice_index_or (map (λ (o : Overrider). o.method) list) j 0 ≡ (slice_index_or list j d).method
method_there [] j d lt = absurd (omega (arith, lt))
method_there (x ∷ list) zero d lt = refl
method_there (x ∷ list) (suc j) d lt = method_there list j d (omega (arith, lt))

pub there : (A : Type 0) (list : List A) (j : ℕ) (d : A) → j < length list → slice_get list j ≡ Some (slice_index_or list j d)
there A [] j d lt = absurd (omega (arith, lt))
there A (x ∷ list) zero d lt = refl
there A (x ∷ list) (suc j) d lt = there A list j d (omega (arith, lt))

-- an overrider of the list is the program's
pub got_at : (P : Program) (list : List Overrider) (j : ℕ) (o : Overrider) → j < length list → o ≡ slice_index_or list j o → slice_get list j ≡ Some o
got_at P list j o lt e = there Overrider list j o lt ∙ sym (ap Some e)

pub method_is : (P : Program) (list : List Overrider) (j : ℕ) (o : Overrider) → AreOverriders P list → j < length list → o ≡ slice_index_or list j o → o.method ≡ slice_index_or (overriders P) j 0
method_is P list j o h lt e = ap (λ (x : Overrider). x.method) e ∙ sym (method_there list j o lt) ∙ ap (λ (ms : List ℕ). slice_index_or ms j 0) h.methods

not_body : (P : Program) (t : ℕ) → length P.bodies ≤ t → is_body_task P t ≡ false
not_body P t le = le-ltb t (length P.bodies) le

module _ (P : Program) (s : List Qualifier) (tables : List Table) (k : ℕ) (bit : Bit) where
  task_body : (b : ℕ) → b < length P.bodies → task_causes P s tables k bit b ≡ body_causes P b (slice_index_or tables b []) k bit
  task_body b lt = ap (λ (c : Bool). cond c (body_causes P b (slice_index_or tables b []) k bit) (pair_causes P s k bit (task_method P b))) (lt-ltb b (length P.bodies) lt)

  task_pair : (j : ℕ) → task_causes P s tables k bit (length P.bodies + j) ≡ pair_causes P s k bit (slice_index_or (overriders P) j 0)
  task_pair j =
      let t = length P.bodies + j in
      let e : (length P.bodies + j) - length P.bodies ≡ j = omega arith in
      ap (λ (c : Bool). cond c (body_causes P t (slice_index_or tables t []) k bit) (pair_causes P s k bit (task_method P t))) (not_body P t (omega arith))
      ∙ ap (λ (i : ℕ). pair_causes P s k bit (slice_index_or (overriders P) i 0)) e

  -- the start, all bodies and all methods that override
  pub all_tasks : (list : List Overrider) (a b c : List Cause) → AreOverriders P list
      → a ≡ started P k bit
      → b ≡ a ++ firsts (λ b. body_causes P b (slice_index_or tables b []) k bit) (length P.bodies)
      → c ≡ b ++ firsts (λ j. pair_causes P s k bit (slice_index_or (overriders P) j 0)) (length list)
      → c ≡ causes P s tables (AtSlot k bit)
  all_tasks list a b c h ea eb ec =
      let F = task_causes P s tables k bit in
      let B = length P.bodies in
      let front : firsts F B ≡ firsts (λ b. body_causes P b (slice_index_or tables b []) k bit) B = firsts_same F (λ b. body_causes P b (slice_index_or tables b []) k bit) B task_body in
      let back : firsts (λ j. F (B + j)) (length list) ≡ firsts (λ j. pair_causes P s k bit (slice_index_or (overriders P) j 0)) (length list) = firsts_same (λ j. F (B + j)) (λ j. pair_causes P s k bit (slice_index_or (overriders P) j 0)) (length list) (λ j lt. task_pair j) in
      let both : firsts F (B + length list) ≡ firsts (λ b. body_causes P b (slice_index_or tables b []) k bit) B ++ firsts (λ j. pair_causes P s k bit (slice_index_or (overriders P) j 0)) (length list) = firsts_split F B (length list) ∙ ap (λ (xs : List Cause). xs ++ firsts (λ j. F (B + j)) (length list)) front ∙ ap (λ (xs : List Cause). firsts (λ b. body_causes P b (slice_index_or tables b []) k bit) B ++ xs) back in
      ec ∙ ap (λ (xs : List Cause). xs ++ firsts (λ j. pair_causes P s k bit (slice_index_or (overriders P) j 0)) (length list)) (eb ∙ ap (λ (xs : List Cause). xs ++ firsts (λ b. body_causes P b (slice_index_or tables b []) k bit) B) ea)
      ∙ append_assoc (started P k bit) (firsts (λ b. body_causes P b (slice_index_or tables b []) k bit) B) (firsts (λ j. pair_causes P s k bit (slice_index_or (overriders P) j 0)) (length list))
      ∙ ap (λ (xs : List Cause). started P k bit ++ xs) (sym both)
      ∙ ap (λ (n : ℕ). started P k bit ++ firsts F (B + n)) (as_many P list h)

pub point_is : (P : Program) (b : ℕ) (points : List Point) (at : ℕ) (pt : Point) → points ≡ points_of (body_at P b) → at < length points → pt ≡ slice_index_or points at pt → point_at P b at ≡ Some pt
point_is P b points at pt is lt e = ap (λ (l : List Point). slice_get l at) (sym is) ∙ there Point points at pt lt ∙ sym (ap Some e)

-- a point more
pub sent_more : (P : Program) (b : ℕ) (T : Table) (k : ℕ) (bit : Bit) (points : List Point) (at : ℕ) (pt : Point) (old list new : List Cause)
    → points ≡ points_of (body_at P b) → at < length points → pt ≡ slice_index_or points at pt
    → new ≡ list ++ sent_at P b k bit at (Some pt) (env_in T at)
    → list ≡ old ++ firsts (sent_by P b T k bit) at
    → new ≡ old ++ firsts (sent_by P b T k bit) (at + 1)
sent_more P b T k bit points at pt old list new is lt e h l =
    firsts_more (sent_by P b T k bit) at old list new (sent_at P b k bit at (Some pt) (env_in T at)) (ap (λ (o : Option Point). sent_at P b k bit at o (env_in T at)) (sym (point_is P b points at pt is lt e))) h l

pub no_such : (xs : List Body) (n : ℕ) → length xs ≤ n → slice_get xs n ≡ None
no_such [] n le = refl
no_such (x ∷ xs) zero le = absurd (omega (arith, le))
no_such (x ∷ xs) (suc n) le = no_such xs n (omega (arith, le))

both_none : (c : Bool) → cond c nothing nothing ≡ nothing
both_none true = refl
both_none false = refl

no_entry : (P : Program) (s : List Qualifier) (b p r : ℕ) (bit : Bit) → body_at P b ≡ None → entered P s b p r bit ≡ []
no_entry P s b zero r bit e =
    ap (λ (o : Option Body). cond (on bit (qual_at (entry_env P s b) r)) (placed (OfBody b) (at_entry (method_of_body P o) r bit)) []) e ∙ both_none (on bit (qual_at (entry_env P s b) r))
no_entry P s b (suc p) r bit e = refl

-- the start alone
pub start_added : (P : Program) (start : List Qualifier) (k : ℕ) (bit : Bit) (list new : List Cause) → list ≡ [] → start ≡ start_signature P
    → new ≡ list ++ cond (on bit (slice_index_or start k no_qual)) (placed (OfSlot k) the_text) [] → new ≡ started P k bit
start_added P start k bit list new e is h =
    h
    ∙ ap (λ (xs : List Cause). xs ++ cond (on bit (slice_index_or start k no_qual)) (placed (OfSlot k) the_text) []) e
    ∙ ap (λ (q : List Qualifier). cond (on bit (slice_index_or q k no_qual)) (placed (OfSlot k) the_text) []) is

-- a body that isn't there has none
pub no_body : (P : Program) (s : List Qualifier) (tables : List Table) (b p r : ℕ) (bit : Bit) (list : List Cause) → length P.bodies ≤ b → list ≡ [] → list ≡ causes P s tables (AtRegister b p r bit)
no_body P s tables b p r bit list le e =
    let none : body_at P b ≡ None = no_such P.bodies b le in
    let F = carried P s b (slice_index_or tables b []) p r bit in
    e
    ∙ sym (ap (λ (o : Option Body). firsts F (length (points_of o))) none)
    ∙ sym (ap (λ (xs : List Cause). xs ++ firsts F (length (points_of (body_at P b)))) (no_entry P s b p r bit none))

-- the table of a body
pub sized_for : (P Q : Program) (tables : List Table) (b d : ℕ) (T : Table) → AreSized P tables → b < length P.bodies → Q ≡ P → d ≡ b → T ≡ slice_index_or tables b [] → Sized Q d T
sized_for P Q tables b d T h lt eq ed et =
    subst (λ (x : Program). Sized x d T) (sym eq) (subst (λ (n : ℕ). Sized P n T) (sym ed) (subst (λ (t : Table). Sized P b t) (sym et) (h b lt)))
