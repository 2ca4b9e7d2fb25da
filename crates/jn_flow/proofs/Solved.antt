-- A solution of the dataflow problem of qualifiers is the least table.
use Rattle.std.proofs.Common.{◌≡◌, ℕ, suc, ◌<◌, IsTrue, List, [], ◌∷◌, length, Option, Some, None, refl, sym, ◌∙◌, subst, arith}
use Rattle.std.proofs.lemmas.Option.{slice_get_within}
use Rattle.jn_fixpoint.specs.Climb.{rounds as rounds_of}
use Rattle.jn_quals.specs.Qualifier.{Qualifier}
use Rattle.jn_points.specs.declared.point.Point.{Point}
use Rattle.jn_points.specs.declared.program.Program.{Program}
use Rattle.jn_points.specs.Lookup.{points_of, body_at, point_at}
use Rattle.jn_env.specs.Environment.{Env}
use Rattle.jn_env.specs.Order.{Table, env_in, EnvWithin, SlotWithin, TableWithin}
use Rattle.jn_env.proofs.Order.{env_join_right, slot_trans, slot_join_least}
use Rattle.jn_env.proofs.Weight.{table_antisym}
use Rattle.jn_transfer.specs.Transfer.{transfer, entry_env}
use Rattle.jn_transfer.specs.Least.{round, start_table, IsLeastTable, Respects}
use Rattle.jn_transfer.specs.Sized.{StaysInside}
use Rattle.jn_transfer.proofs.Monotone.{edge_above}
use Rattle.jn_dataflow.specs.Problem.{IsAmong}
use Rattle.jn_dataflow.specs.Solution.{Arises, entered, followed, joined, Absorbs, Solves}
use Rattle.jn_tables_law.specs.Size.{height}
use Rattle.jn_flow.specs.Quals.{is_sized, edges_after, qualifiers}
use Rattle.jn_flow.specs.QualsLaws.{to_edge, from_edge, like, qualifiers_lawful}
use Rattle.jn_tables_law.proofs.Climbing.{least_exists, least_is_table, least_least, least_respects}

-- tables by their slots
by_slots : (t u : Table) → length t ≡ length u → ((p : ℕ) → SlotWithin (env_in t p) (env_in u p)) → TableWithin t u
by_slots [] [] l h = tt
by_slots [] (b ∷ u) l h = absurd (omega (arith, l))
by_slots (a ∷ t) [] l h = absurd (omega (arith, l))
by_slots (a ∷ t) (b ∷ u) l h = (h 0, by_slots t u (omega (arith, l)) (λ p. h (suc p)))

module _ (P : Program) (s : List Qualifier) (b : ℕ) where
  -- what arises is within each table that respects all edges
  edge_below : (u : Table) → Respects P s b u → (q : ℕ) (o : Option Point) → point_at P b q ≡ o → (f : Env) (x : ℕ × Env) (g : Option Env) → env_in u q ≡ g → SlotWithin (Some f) g → IsAmong x (edges_after P s b o q f) → SlotWithin (Some x.1) (env_in u x.0)
  edge_below u r q None there f x g is h m = absurd m
  edge_below u r q (Some pt) there f x None is h m = absurd h
  edge_below u r q (Some pt) there f x (Some g) is h m =
      let a = edge_above P s b pt.kind q f g x h (to_edge x (transfer P s b pt.kind q f) m) in
      slot_trans (Some x.1) (Some a.env) (env_in u x.0) a.above (r.edges q pt g there is (x.0, a.env) a.there)

  arises_below : (u : Table) → Respects P s b u → (p : ℕ) (e : Env) → Arises (qualifiers P s b) p e → SlotWithin (Some e) (env_in u p)
  arises_below u r p e entered = r.entry
  arises_below u r p e (followed q f p' e' before m) = edge_below u r q (point_at P b q) refl f (p, e) (env_in u q) refl (arises_below u r q f before) m
  arises_below u r p e (joined p' x y hx hy) = slot_join_least (Some x) y (env_in u p) (arises_below u r p x hx) (arises_below u r p y hy)

  module _ (stays : StaysInside P b) (t : Table) (is : Solves (qualifiers P s b) t) where
    absorbed : (q : ℕ) (e : Env) (o : Option Env) → env_in t q ≡ o → IsTrue (is_sized P b e) → Absorbs (qualifiers P s b) o e → SlotWithin (Some e) o
    absorbed q e None at v h = absurd h
    absorbed q e (Some a) at v h = subst (λ z. EnvWithin e z) h (env_join_right a e (like P s b a e (is.valid q a at) v))

    edges_within : (p : ℕ) (pt : Point) (e : Env) → point_at P b p ≡ Some pt → env_in t p ≡ Some e → (x : ℕ × Env) → IsAmong x (transfer P s b pt.kind p e) → SlotWithin (Some x.1) (env_in t x.0)
    edges_within p pt e there at x m =
        let edge : IsAmong x (edges_after P s b (point_at P b p) p e) = subst (λ o. IsAmong x (edges_after P s b o p e)) (sym there) m in
        absorbed x.0 x.1 (env_in t x.0) refl ((qualifiers_lawful P s b stays.edges).carries p e x (inside_of p pt there) (is.valid p e at) edge) (is.edges p e at x edge)
      where
        inside_of : (q : ℕ) (qt : Point) → point_at P b q ≡ Some qt → q < length (points_of (body_at P b))
        inside_of q qt h = slice_get_within (points_of (body_at P b)) q qt h

    respects : Respects P s b t
    respects = record {
      entry = absorbed 0 (entry_env P s b) (env_in t 0) refl (qualifiers_lawful P s b stays.edges).starts is.entry;
      edges = λ p pt e there at x m. edges_within p pt e there at x (from_edge x (transfer P s b pt.kind p e) m);
    }

    slot_below : (u : Table) → Respects P s b u → (p : ℕ) (o : Option Env) → env_in t p ≡ o → SlotWithin o (env_in u p)
    slot_below u r p None at = tt
    slot_below u r p (Some e) at = arises_below u r p e (is.arises p e at)

    pub solved_least : IsLeastTable P s b t
    solved_least =
        let top = rounds_of (round P s b) (height P b) (start_table P s b) in
        let low : IsLeastTable P s b top = least_exists P s b stays in
        let valid = least_is_table P s b stays top low in
        let r = least_respects P s b stays top low in
        subst (λ z. IsLeastTable P s b z) (table_antisym top t (least_least P s b stays top t low is.long respects) (by_slots t top (is.long ∙ sym valid.long) (λ p. slot_below top r p (env_in t p) refl))) low
