-- The causes of an item as a list: place by place, in the order of bodies, their points and their edges.
use Rattle.std.specs.Prelude.{ℕ, zero, suc, ◌≡◌, ◌⊎◌, Bool, false, cond, ◌&&◌, ◌||◌, eqb, List, [], ◌∷◌, ◌++◌, length, Option, Some, None, slice_index_or}
use Rattle.jn_quals.specs.Qualifier.{Qualifier}
use Rattle.jn_quals.specs.Order.{no_qual}
use Rattle.jn_points.specs.declared.point.Point.{Point}
use Rattle.jn_points.specs.declared.point.PointKind.{PointKind}
use Rattle.jn_points.specs.declared.program.Program.{Program}
use Rattle.jn_points.specs.Lookup.{points_of, body_at, point_at, method_in}
use Rattle.jn_sigs.specs.Signature.{start_signature}
use Rattle.jn_env.specs.Environment.{Env}
use Rattle.jn_env.specs.Order.{Table, env_in, qual_at}
use Rattle.jn_transfer.specs.Contributions.{kind_sends}
use Rattle.jn_transfer.specs.Pairs.{pair_sends}
use Rattle.jn_transfer.specs.Transfer.{transfer, entry_env}
use Rattle.jn_tables_law.specs.Tasks.{task_count, task_method, is_body_task}
use Rattle.jn_reasons_law.specs.declared.item.Bit.{Bit}
use Rattle.jn_reasons_law.specs.declared.item.Item.{Item}
use Rattle.jn_reasons_law.specs.declared.item.Item.TheVariants.{AtSlot, AtRegister}
use Rattle.jn_reasons_law.specs.declared.item.Place.{Place}
use Rattle.jn_reasons_law.specs.declared.item.Place.TheVariants.{OfSlot, OfMethod, OfBody, OfPoint}
use Rattle.jn_reasons_law.specs.Items.{on}
use Rattle.jn_reasons_law.specs.Sources.{the_text, at_entry, behind, sent_from, from_pairs}
use Rattle.jn_reasons.specs.declared.causes.Cause.{Cause}

abbrev pub IsListed : Cause → List Cause → Type 0
IsListed x [] = ⊥
IsListed x (y ∷ ys) = (x ≡ y) ⊎ IsListed x ys

abbrev pub cause_at : Place → Option Item → Cause
cause_at p z = record { place = p; source = z }

-- each source, from the place
abbrev pub placed : Place → List (Option Item) → List Cause
placed p [] = []
placed p (z ∷ zs) = cause_at p z ∷ placed p zs

-- those of the first n numbers
abbrev pub firsts : (ℕ → List Cause) → ℕ → List Cause
firsts f zero = []
firsts f (suc n) = firsts f n ++ f n

-- the bit is among what is sent to slot k
abbrev pub is_sent : ℕ → Bit → List (ℕ × Qualifier) → Bool
is_sent k bit [] = false
is_sent k bit (x ∷ xs) = (eqb x.0 k && on bit x.1) || is_sent k bit xs

module _ (P : Program) where
  module _ (b p r : ℕ) (bit : Bit) where
    -- an edge of point q that goes to point p, after which the register has the bit
    abbrev pub over_edge : ℕ → PointKind → Env → ℕ × Env → List Cause
    over_edge q kind e x = cond (eqb x.0 p && on bit (qual_at x.1 r)) (placed (OfPoint b q) (behind b q P e kind r bit)) []

    abbrev pub over_edges : ℕ → PointKind → Env → List (ℕ × Env) → List Cause
    over_edges q kind e [] = []
    over_edges q kind e (x ∷ xs) = over_edge q kind e x ++ over_edges q kind e xs

  module _ (b k : ℕ) (bit : Bit) where
    -- what point q sends, where it is reached
    abbrev pub sent_at : ℕ → Option Point → Option Env → List Cause
    sent_at q None o = []
    sent_at q (Some pt) None = []
    sent_at q (Some pt) (Some e) = cond (is_sent k bit (kind_sends P b e pt.kind)) (placed (OfPoint b q) (sent_from b q P e k pt.kind bit)) []

  module _ (b : ℕ) (T : Table) (k : ℕ) (bit : Bit) where
    abbrev pub sent_by : ℕ → List Cause
    sent_by q = sent_at b k bit q (point_at P b q) (env_in T q)

    abbrev pub body_causes : List Cause
    body_causes = firsts sent_by (length (points_of (body_at P b)))

  -- the declaration, or the start
  abbrev pub started : ℕ → Bit → List Cause
  started k bit = cond (on bit (slice_index_or (start_signature P) k no_qual)) (placed (OfSlot k) the_text) []

module _ (P : Program) (s : List Qualifier) where
  abbrev pub pair_causes : ℕ → Bit → ℕ → List Cause
  pair_causes k bit m = cond (is_sent k bit (pair_sends P s m)) (placed (OfMethod m) (from_pairs P m k bit)) []

  module _ (b : ℕ) where
    -- over point q, where it is reached
    abbrev pub over_point : ℕ → ℕ → Bit → ℕ → Option Point → Option Env → List Cause
    over_point p r bit q None o = []
    over_point p r bit q (Some pt) None = []
    over_point p r bit q (Some pt) (Some e) = over_edges P b p r bit q pt.kind e (transfer P s b pt.kind q e)

    abbrev pub entered : ℕ → ℕ → Bit → List Cause
    entered zero r bit = cond (on bit (qual_at (entry_env P s b) r)) (placed (OfBody b) (at_entry (method_in P b) r bit)) []
    entered (suc p) r bit = []

  module _ (b : ℕ) (T : Table) where
    abbrev pub carried : ℕ → ℕ → Bit → ℕ → List Cause
    carried p r bit q = over_point b p r bit q (point_at P b q) (env_in T q)

    abbrev pub register_causes : ℕ → ℕ → Bit → List Cause
    register_causes p r bit = entered b p r bit ++ firsts (carried p r bit) (length (points_of (body_at P b)))

module _ (P : Program) (s : List Qualifier) (tables : List Table) where
  -- of a body, or of a method that overrides
  abbrev pub task_causes : ℕ → Bit → ℕ → List Cause
  task_causes k bit n = cond (is_body_task P n) (body_causes P n (slice_index_or tables n []) k bit) (pair_causes P s k bit (task_method P n))

  abbrev pub causes : Item → List Cause
  causes (AtSlot k bit) = started P k bit ++ firsts (task_causes k bit) (task_count P)
  causes (AtRegister b p r bit) = register_causes P s b (slice_index_or tables b []) p r bit
