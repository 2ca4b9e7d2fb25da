-- The least tables of a program's bodies as functions.
use Rattle.std.proofs.Common.{◌≡◌, ⊎_elim, ℕ, zero, suc, ◌<◌, ◌≤◌, List, [], ◌∷◌, length, map, Some, None, refl, sym, ap, ◌∙◌, subst, arith}
use Rattle.std.specs.Prelude.{replicate, slice_get, slice_index_or, slice_set}
use Rattle.std.specs.List.{range_with_len}
use Rattle.std.proofs.lemmas.Bool.{cases_lt}
use Rattle.std.proofs.lemmas.List.{get_or_past}
use Rattle.std.proofs.lemmas.List.FromFn.{get_or-map-range_with_len, length-map-range_with_len}
use Rattle.jn_quals.specs.Qualifier.{Qualifier}
use Rattle.jn_points.specs.declared.point.Point.{Point}
use Rattle.jn_points.specs.declared.program.Body.{Body}
use Rattle.jn_points.specs.declared.program.Program.{Program}
use Rattle.jn_points.specs.Lookup.{body_at, points_of}
use Rattle.jn_env.specs.Order.{Table, TableWithin}
use Rattle.jn_env.specs.Weight.{weight}
use Rattle.jn_transfer.specs.Least.{IsLeastTable, all_edges, flow_all, round, start_table}
use Rattle.jn_transfer.specs.Sized.{StaysInside}
use Rattle.jn_transfer.specs.Transfer.{entry_env}
use Rattle.jn_fixpoint.proofs.Fixpoint.{exists}
use Rattle.jn_contrib.specs.Sends.{body_sends, sends_from}
use Rattle.jn_tables_law.specs.Size.{IsTableOf, height}
use Rattle.jn_tables_law.specs.Inferable.{IsInferable, least_sends, least_table}
use Rattle.jn_tables_law.proofs.Climbing.{climb, fixpoint_is, least_unique, start_is_table}

-- the least table is one
pub least_is : (P : Program) (s : List Qualifier) (b : ℕ) → StaysInside P b → IsLeastTable P s b (least_table P s b)
unfolding least_table
least_is P s b inside = fixpoint_is P s b (least_table P s b) (exists (IsTableOf P b) TableWithin weight (height P b) (round P s b) (climb P s b inside) (start_table P s b) (start_is_table P s b inside))

pub least_sends_is : (P : Program) (s : List Qualifier) (b : ℕ) (T : Table) → StaysInside P b → IsLeastTable P s b T → least_sends P s b ≡ body_sends P b T
unfolding least_sends
least_sends_is P s b T inside is = ap (body_sends P b) (least_unique P s b (least_table P s b) T (least_is P s b inside) is)

-- bodies that are not there have no points, so nothing is sent
pub past_points : (b : ℕ) (bodies : List Body) → length bodies ≤ b → points_of (slice_get bodies b) ≡ []
past_points b [] le = refl
past_points zero (x ∷ bodies) le = absurd (omega (arith, le))
past_points (suc b) (x ∷ bodies) le = past_points b bodies (omega (arith, le))

pub sends_are : (P : Program) (s : List Qualifier) (b : ℕ) (T : Table) → IsInferable P → IsLeastTable P s b T → least_sends P s b ≡ body_sends P b T
unfolding least_sends
sends_are P s b T can is = ⊎_elim
    (λ lt. least_sends_is P s b T (can.inside b lt) is)
    (λ le. let e = past_points b P.bodies le in ap (λ (pts : List Point). sends_from P b pts 0 (least_table P s b)) e ∙ sym (ap (λ (pts : List Point). sends_from P b pts 0 T) e))
    (cases_lt b (length P.bodies))

module _ (P : Program) (can : IsInferable P) where
  -- tables of all bodies
  module _ (t : List Qualifier) where
    pub tables_of : List Table
    tables_of = map (least_table P t) (range_with_len 0 (length P.bodies))

    pub table_of-at : (b : ℕ) → b < length P.bodies → slice_index_or tables_of b [] ≡ least_table P t b
    unfolding tables_of
    table_of-at b lt = get_or-map-range_with_len (least_table P t) 0 (length P.bodies) b b [] lt (omega arith)

    empty_is : (b : ℕ) → points_of (body_at P b) ≡ [] → IsLeastTable P t b []
    empty_is b e = record {
      turns = 0;
      made = sym (ap (λ (pts : List Point). slice_set (replicate (length pts) None) 0 (Some (entry_env P t b))) e);
      stable = ap (λ (pts : List Point). flow_all (all_edges P t b pts 0 []) []) e;
    }

    pub tables_least : (b : ℕ) → IsLeastTable P t b (slice_index_or tables_of b [])
    unfolding tables_of
    tables_least b = ⊎_elim
        (λ lt. subst (IsLeastTable P t b) (sym (table_of-at b lt)) (least_is P t b (can.inside b lt)))
        (λ le. subst (IsLeastTable P t b) (sym (past le)) (empty_is b (past_points b P.bodies le)))
        (cases_lt b (length P.bodies))
      where
        past : length P.bodies ≤ b → slice_index_or tables_of b [] ≡ []
        past le = get_or_past (map (least_table P t) (range_with_len 0 (length P.bodies))) b [] (let l = length-map-range_with_len (least_table P t) 0 (length P.bodies) in omega (arith, le, l))
