-- Causes of bits, and chains of them that end in the text. A chain is a finite list, so circles alone give none.
use Rattle.std.specs.Prelude.{ℕ, ◌≡◌, true, List, [], ◌∷◌, Option, Some, None, slice_index_or}
use Rattle.jn_quals.specs.Qualifier.{Qualifier}
use Rattle.jn_quals.specs.Order.{no_qual}
use Rattle.jn_points.specs.declared.point.Point.{Point}
use Rattle.jn_points.specs.declared.program.Program.{Program}
use Rattle.jn_points.specs.Lookup.{point_at, method_in}
use Rattle.jn_sigs.specs.Signature.{start_signature}
use Rattle.jn_env.specs.Environment.{Env}
use Rattle.jn_env.specs.Order.{Table, env_in, qual_at}
use Rattle.jn_transfer.specs.Contributions.{IsSent, kind_sends}
use Rattle.jn_transfer.specs.Transfer.{transfer, entry_env, IsAmong}
use Rattle.jn_transfer.specs.Pairs.{pair_sends}
use Rattle.jn_reasons_law.specs.declared.item.Bit.{Bit}
use Rattle.jn_reasons_law.specs.declared.item.Item.{Item}
use Rattle.jn_reasons_law.specs.declared.item.Item.TheVariants.{AtSlot, AtRegister}
use Rattle.jn_reasons_law.specs.declared.item.Place.{Place}
use Rattle.jn_reasons_law.specs.declared.item.Place.TheVariants.{OfSlot, OfMethod, OfBody, OfPoint}
use Rattle.jn_reasons_law.specs.declared.item.Step.{Step}
use Rattle.jn_reasons_law.specs.Items.{on, Stands}
use Rattle.jn_reasons_law.specs.Sources.{IsOneOf, at_entry, behind, sent_from, from_pairs}

-- the source of what a point sends is there before the point: the text, or a register's bit
abbrev pub StandsBefore : Env → Option Item → Type 0
StandsBefore e None = Unit {0}
StandsBefore e (Some (AtSlot k bit)) = ⊥
StandsBefore e (Some (AtRegister b p r bit)) = on bit (qual_at e r) ≡ true

-- the source of what an overriding pair sends is there: a slot's bit
abbrev pub StandsIn : List Qualifier → Option Item → Type 0
StandsIn s None = ⊥
StandsIn s (Some (AtSlot k bit)) = on bit (slice_index_or s k no_qual) ≡ true
StandsIn s (Some (AtRegister b p r bit)) = ⊥

-- the bit is sent to slot k
pub record SendsBit (k : ℕ) (bit : Bit) (sent : List (ℕ × Qualifier)) : Type 0 where
  pub qual : Qualifier
  pub there : IsSent (k, qual) sent
  pub has : on bit qual ≡ true

module _ (P : Program) (s : List Qualifier) (tables : List Table) where
  -- point p of body b is reached and sends the bit to slot k, and has it from z
  pub record IsSender (b p k : ℕ) (bit : Bit) (z : Option Item) : Type 0 where
    pub point : Point
    pub env : Env
    pub qual : Qualifier
    pub there : point_at P b p ≡ Some point
    pub reached : env_in (slice_index_or tables b []) p ≡ Some env
    pub sent : IsSent (k, qual) (kind_sends P b env point.kind)
    pub has : on bit qual ≡ true
    pub source : IsOneOf z (sent_from b p P env k point.kind bit)

  -- method m sends the bit to slot k for one that it overrides, and has it from z
  pub record IsPairSender (m k : ℕ) (bit : Bit) (z : Option Item) : Type 0 where
    pub qual : Qualifier
    pub sent : IsSent (k, qual) (pair_sends P s m)
    pub has : on bit qual ≡ true
    pub source : IsOneOf z (from_pairs P m k bit)

  -- point q of body b is reached, an edge carries the bit from there to register r before point p, and has it from z
  pub record IsCarrier (b q p r : ℕ) (bit : Bit) (z : Option Item) : Type 0 where
    pub point : Point
    pub env : Env
    pub after : Env
    pub there : point_at P b q ≡ Some point
    pub reached : env_in (slice_index_or tables b []) q ≡ Some env
    pub edge : IsAmong (p, after) (transfer P s b point.kind q env)
    pub has : on bit (qual_at after r) ≡ true
    pub source : IsOneOf z (behind b q P env point.kind r bit)

  -- a body's entry has the bit in register r, and has it from z
  pub record IsEntrant (b r : ℕ) (bit : Bit) (z : Option Item) : Type 0 where
    pub has : on bit (qual_at (entry_env P s b) r) ≡ true
    pub source : IsOneOf z (at_entry (method_in P b) r bit)

  -- why a bit stands, and where the text says so: it is written or the start's, is sent by a point or by a method that overrides, is given at the
  -- entry, or is carried there
  pub data IsCause : Item → Place → Option Item → Type 0 where
    starts : (k : ℕ) (bit : Bit) → on bit (slice_index_or (start_signature P) k no_qual) ≡ true → IsCause (AtSlot k bit) (OfSlot k) None
    sends : (b p k : ℕ) (bit : Bit) (z : Option Item) → IsSender b p k bit z → IsCause (AtSlot k bit) (OfPoint b p) z
    overrides : (m k : ℕ) (bit : Bit) (z : Option Item) → IsPairSender m k bit z → IsCause (AtSlot k bit) (OfMethod m) z
    enters : (b r : ℕ) (bit : Bit) (z : Option Item) → IsEntrant b r bit z → IsCause (AtRegister b 0 r bit) (OfBody b) z
    carries : (b q p r : ℕ) (bit : Bit) (z : Option Item) → IsCarrier b q p r bit z → IsCause (AtRegister b p r bit) (OfPoint b q) z

  -- each item stands, and comes from the next by its place; the last comes from the text there
  abbrev pub IsChain : List Step → Type 0
  IsChain [] = ⊥
  IsChain (x ∷ []) = Stands s tables x.item × IsCause x.item x.place None
  IsChain (x ∷ y ∷ more) = Stands s tables x.item × IsCause x.item x.place (Some y.item) × IsChain (y ∷ more)

  -- a chain that begins with the item
  pub record HasChain (x : Item) : Type 0 where
    pub place : Place
    pub more : List Step
    pub chain : IsChain (record { item = x; place = place } ∷ more)
