-- The first that fails of what a certificate claims, in the order in which it is told: slots, then body by body the entry, point by point its edges and its rules, and the constructor's end, then what is sent, and last the overriding pairs.
use Rattle.std.specs.Prelude.{ℕ, ◌+◌, ◌≡◌, min, Bool, true, false, cond, not, ◌&&◌, ◌||◌, List, [], ◌∷◌, ◌++◌, Option, Some, None, flat_map, slice_index_or}
use Rattle.jn_base.specs.declared.number.BodyNo.{BodyNo}
use Rattle.jn_base.specs.declared.number.PointNo.{PointNo}
use Rattle.jn_base.specs.declared.number.SlotNo.{SlotNo}
use Rattle.jn_base.specs.declared.place.Row.{Row}
use Rattle.jn_quals.specs.Qualifier.{Qualifier}
use Rattle.jn_quals.specs.Order.{no_qual, within}
use Rattle.jn_points.specs.declared.point.Point.{Point}
use Rattle.jn_points.specs.declared.program.SlotInfo.{SlotInfo}
use Rattle.jn_points.specs.declared.program.Program.{Program}
use Rattle.jn_points.specs.Lookup.{points_of, body_at, method_in}
use Rattle.jn_sigs.specs.Signature.{start_signature}
use Rattle.jn_env.specs.Environment.{Env}
use Rattle.jn_env.specs.Order.{env_in}
use Rattle.jn_transfer.specs.Transfer.{entry_env, transfer}
use Rattle.jn_transfer.specs.Pairs.{overriders, pair_sends}
use Rattle.jn_transfer.specs.Rules.{ctor_rows, pairs_rows, rows_at}
use Rattle.jn_contrib.specs.Sends.{body_sends}
use Rattle.jn_diag.specs.Order.{IsOrderOf}
use Rattle.jn_cert_judge.specs.declared.fault.CertFault.{CertFault}
use Rattle.jn_cert_judge.specs.declared.fault.CertFault.TheVariants.{Slot, Entry, Edge, Broken, Open}

-- the first of the two that is there
abbrev pub or_else : Option CertFault → Option CertFault → Option CertFault
or_else None rest = rest
or_else (Some fault) rest = Some fault

abbrev pub unless : Bool → CertFault → Option CertFault
unless true fault = None
unless false fault = Some fault

abbrev pub slot_no : ℕ → SlotNo
slot_no n = record { 0 = n }

abbrev pub body_no : ℕ → BodyNo
body_no b = record { 0 = b }

abbrev pub point_no : ℕ → PointNo
point_no p = record { 0 = p }

-- each qualifier of the first list is within the other's at its place
abbrev pub quals_in : List Qualifier → List Qualifier → Bool
quals_in [] [] = true
quals_in [] (b ∷ bs) = false
quals_in (a ∷ as') [] = false
quals_in (a ∷ as') (b ∷ bs) = within a b && quals_in as' bs

-- the first list has all bits of the other
abbrev pub bits_in : List Bool → List Bool → Bool
bits_in [] [] = true
bits_in [] (b ∷ bs) = false
bits_in (a ∷ as') [] = false
bits_in (a ∷ as') (b ∷ bs) = (not b || a) && bits_in as' bs

-- an environment is within that of a point, which is reached
abbrev pub is_inside : Env → Option Env → Bool
is_inside e None = false
is_inside e (Some f) = quals_in e.quals f.quals && (bits_in e.facts f.facts && bits_in e.assigned f.assigned)

-- all edges stay within the table
abbrev pub all_stay : List (ℕ × Env) → List (Option Env) → Bool
all_stay [] t = true
all_stay (x ∷ xs) t = is_inside x.1 (env_in t x.0) && all_stay xs t

-- the first row, where there is one
abbrev pub broken : List Row → Option CertFault
broken [] = None
broken (row ∷ rows) = Some (Broken row)

abbrev pub lesser : Option ℕ → ℕ → Option ℕ
lesser None n = Some n
lesser (Some k) n = Some (min k n)

module _ (s : List Qualifier) where
  -- the least slot that isn't within, with one thing more that is sent
  abbrev pub note : Option ℕ → ℕ × Qualifier → Option ℕ
  note least x = cond (within x.1 (slice_index_or s x.0 no_qual)) least (lesser least x.0)

  abbrev pub note_all : Option ℕ → List (ℕ × Qualifier) → Option ℕ
  note_all least [] = least
  note_all least (x ∷ xs) = note_all (note least x) xs

abbrev pub open_fault : Option ℕ → Option CertFault
open_fault None = None
open_fault (Some n) = Some (Open (slot_no n))

module _ (P : Program) where
  -- what the bodies from number b on send
  abbrev pub all_sends : List (List (Option Env)) → ℕ → List (ℕ × Qualifier)
  all_sends [] b = []
  all_sends (t ∷ tables) b = body_sends P b t ++ all_sends tables (b + 1)

module _ (P : Program) (s : List Qualifier) where
  -- what methods that override send
  abbrev pub overriding_sends : List (ℕ × Qualifier)
  overriding_sends = flat_map (pair_sends P s) (overriders P)

  -- all that is sent: by the bodies, and after them by methods that override
  abbrev pub every_send : List (List (Option Env)) → List (ℕ × Qualifier)
  every_send tables = all_sends P tables 0 ++ overriding_sends

  -- the slot has what it starts with, and no more where it isn't inferred
  abbrev pub slot_keeps : ℕ → SlotInfo → Bool
  slot_keeps n info =
      let start = slice_index_or (start_signature P) n no_qual in
      let now = slice_index_or s n no_qual in
      within start now && (info.inferred || within now start)

  abbrev pub slots_fault : List SlotInfo → ℕ → Option CertFault
  slots_fault [] n = None
  slots_fault (info ∷ slots) n = or_else (unless (slot_keeps n info) (Slot (slot_no n))) (slots_fault slots (n + 1))

  module _ (b : ℕ) (t : List (Option Env)) where
    -- a reached point's: an edge that doesn't stay within the table, then its first row
    abbrev pub point_fault : Point → ℕ → Option Env → Option CertFault
    point_fault pt p None = None
    point_fault pt p (Some e) = or_else (unless (all_stay (transfer P s b pt.kind p e) t) (Edge (body_no b) (point_no p))) (broken (rows_at P s b pt (Some e)))

    abbrev pub points_fault : List Point → ℕ → Option CertFault
    points_fault [] p = None
    points_fault (pt ∷ pts) p = or_else (point_fault pt p (env_in t p)) (points_fault pts (p + 1))

    abbrev pub body_fault : Option CertFault
    body_fault =
        or_else (unless (is_inside (entry_env P s b) (env_in t 0)) (Entry (body_no b)))
        (or_else (points_fault (points_of (body_at P b)) 0) (broken (ctor_rows P s b (method_in P b) t)))

  -- of the bodies from number b on
  abbrev pub bodies_fault : List (List (Option Env)) → ℕ → Option CertFault
  bodies_fault [] b = None
  bodies_fault (t ∷ tables) b = or_else (body_fault b t) (bodies_fault tables (b + 1))

  -- all but the pairs
  abbrev pub first_fault : List (List (Option Env)) → Option CertFault
  first_fault tables = or_else (slots_fault P.slots 0) (or_else (bodies_fault tables 0) (open_fault (note_all s None (every_send tables))))

  -- after all else the least row of an overriding pair
  abbrev pub IsFoundAfter : Option CertFault → Option CertFault → Type 0
  IsFoundAfter None found = (pairs : List Row) × IsOrderOf (pairs_rows P s) pairs × (found ≡ broken pairs)
  IsFoundAfter (Some fault) found = found ≡ Some fault

  -- the first that fails, or that nothing does
  abbrev pub IsFirstFault : List (List (Option Env)) → Option CertFault → Type 0
  IsFirstFault tables found = IsFoundAfter (first_fault tables) found
