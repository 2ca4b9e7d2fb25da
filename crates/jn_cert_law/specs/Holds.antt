-- What a certificate claims of a program: a signature and a table for each body that respect all edges, break no rule and send nothing that the signature lacks.
use Rattle.std.specs.Prelude.{ℕ, ◌≡◌, ◌<◌, false, IsTrue, List, [], length, Option, Some, slice_get, slice_index_or}
use Rattle.jn_quals.specs.Qualifier.{Qualifier}
use Rattle.jn_quals.specs.Order.{no_qual, within}
use Rattle.jn_points.specs.declared.point.Point.{Point}
use Rattle.jn_points.specs.declared.program.Program.{Program}
use Rattle.jn_points.specs.Lookup.{points_of, body_at, point_at, method_in}
use Rattle.jn_sigs.specs.Signature.{start_signature}
use Rattle.jn_env.specs.Environment.{Env}
use Rattle.jn_env.specs.Order.{SlotWithin, env_in}
use Rattle.jn_transfer.specs.Transfer.{IsAmong, entry_env, transfer}
use Rattle.jn_transfer.specs.Least.{Respects}
use Rattle.jn_transfer.specs.Contributions.{Closed, IsSent, is_inferred, kind_sends}
use Rattle.jn_transfer.specs.Closing.{IsNotBelowStart}
use Rattle.jn_transfer.specs.Pairs.{pair_sends}
use Rattle.jn_transfer.specs.Rules.{ctor_rows, pairs_rows, rows, rows_at}

module _ (P : Program) (s : List Qualifier) where
  -- a slot that isn't inferred has just what it starts with
  abbrev pub KeepsWritten : Type 0
  KeepsWritten = (n : ℕ) → n < length P.slots → is_inferred (slice_get P.slots n) ≡ false → slice_index_or s n no_qual ≡ slice_index_or (start_signature P) n no_qual

  -- what methods that override send is within the signature
  abbrev pub KeepsPairs : Type 0
  KeepsPairs = (m : ℕ) (x : ℕ × Qualifier) → IsSent x (pair_sends P s m) → IsTrue (within x.1 (slice_index_or s x.0 no_qual))

  -- the claim, whoever made it: a signature with what its slots start with, tables that respect entries and edges, no row of the rules under
  -- them, and all that is sent under them, and by methods that override, within the signature
  pub record Holds (tables : List (List (Option Env))) : Type 0 where
    pub starts : IsNotBelowStart P s
    pub written : KeepsWritten
    pub respects : (b : ℕ) → b < length P.bodies → Respects P s b (slice_index_or tables b [])
    pub unbroken : rows P s tables ≡ []
    pub closed : Closed P s tables
    pub pairs : KeepsPairs

  -- a slot has what it starts with, and no more where it isn't inferred
  pub record SlotOk (n : ℕ) : Type 0 where
    pub starts : IsTrue (within (slice_index_or (start_signature P) n no_qual) (slice_index_or s n no_qual))
    pub written : is_inferred (slice_get P.slots n) ≡ false → slice_index_or s n no_qual ≡ slice_index_or (start_signature P) n no_qual

  module _ (b : ℕ) (t : List (Option Env)) where
    -- the entry is covered
    abbrev pub EntryOk : Type 0
    EntryOk = SlotWithin (Some (entry_env P s b)) (env_in t 0)

    -- each edge of the point, where it is reached, stays within the table
    abbrev pub EdgesOk : ℕ → Type 0
    EdgesOk p = (pt : Point) (e : Env) → point_at P b p ≡ Some pt → env_in t p ≡ Some e → (x : ℕ × Env) → IsAmong x (transfer P s b pt.kind p e) → SlotWithin (Some x.1) (env_in t x.0)

    -- no rule is broken at the point, where it is reached
    abbrev pub RulesOk : ℕ → Type 0
    RulesOk p = (pt : Point) → point_at P b p ≡ Some pt → rows_at P s b pt (env_in t p) ≡ []

    -- a constructor's end has its fields
    abbrev pub EndOk : Type 0
    EndOk = ctor_rows P s b (method_in P b) t ≡ []

    pub record PointOk (p : ℕ) : Type 0 where
      pub edges : EdgesOk p
      pub rules : RulesOk p

    abbrev pub PointsOk : ℕ → Type 0
    PointsOk n = (p : ℕ) → p < n → PointOk p

    pub record BodyOk : Type 0 where
      pub entry : EntryOk
      pub points : PointsOk (length (points_of (body_at P b)))
      pub end : EndOk

  module _ (tables : List (List (Option Env))) where
    -- what is sent to the slot, under the tables and by methods that override, is within it
    pub record SentOk (n : ℕ) : Type 0 where
      pub bodies : (b p : ℕ) (pt : Point) (e : Env) → point_at P b p ≡ Some pt → env_in (slice_index_or tables b []) p ≡ Some e → (q : Qualifier) → IsSent (n, q) (kind_sends P b e pt.kind) → IsTrue (within q (slice_index_or s n no_qual))
      pub pairs : (m : ℕ) (q : Qualifier) → IsSent (n, q) (pair_sends P s m) → IsTrue (within q (slice_index_or s n no_qual))

    abbrev pub SlotsOk : ℕ → Type 0
    SlotsOk n = (k : ℕ) → k < n → SlotOk k

    abbrev pub BodiesOk : ℕ → Type 0
    BodiesOk n = (b : ℕ) → b < n → BodyOk b (slice_index_or tables b [])

    -- no test of the claim fails
    pub record AllOk : Type 0 where
      pub slots : SlotsOk (length P.slots)
      pub bodies : BodiesOk (length P.bodies)
      pub sent : (n : ℕ) → SentOk n
      pub pairs : pairs_rows P s ≡ []
