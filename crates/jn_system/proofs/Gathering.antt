-- Rows of bodies, laid out and put together.
use Rattle.std.proofs.Common.{◌≡◌, ℕ, zero, suc, ◌+◌, ◌<◌, List, [], ◌∷◌, ◌++◌, length, flat_map, refl, sym, ap, ◌∙◌, arith, append_assoc, append-nil}
use Rattle.std.specs.Prelude.{slice_index_or}
use Rattle.jn_base.specs.declared.place.Row.{Row}
use Rattle.jn_quals.specs.Qualifier.{Qualifier}
use Rattle.jn_points.specs.declared.program.Program.{Program}
use Rattle.jn_points.specs.Lookup.{body_at, points_of}
use Rattle.jn_points.specs.Members.{below}
use Rattle.jn_diag.specs.Order.{IsOrderOf}
use Rattle.jn_env.specs.Order.{Table}
use Rattle.jn_transfer.specs.Least.{IsLeastTable}
use Rattle.jn_transfer.specs.Rules.{body_rows, bodies_rows, pairs_rows}
use Rattle.jn_tables_law.proofs.Climbing.{least_is_table, least_unique}
use Rattle.jn_tables_law.specs.Inferable.{IsInferable, least_table}
use Rattle.jn_tables_law.proofs.LeastTables.{least_is}
use Rattle.jn_system.specs.Rows.{least_rows, AreBroken}
use Rattle.jn_tables_law.proofs.LeastTables.{tables_of, table_of-at, tables_least}

-- a least table has a place for each point
pub table_long : (P : Program) (s : List Qualifier) (b : ℕ) (T : Table) → IsInferable P → b < length P.bodies → IsLeastTable P s b T → length T ≡ length (points_of (body_at P b))
table_long P s b T can lt is = (least_is_table P s b (can.inside b lt) T is).long

pub rows_are : (P : Program) (s : List Qualifier) (b : ℕ) (T : Table) (rows : List Row) → IsInferable P → b < length P.bodies → IsLeastTable P s b T → rows ≡ body_rows P s b T → rows ≡ least_rows P s b
unfolding least_rows
rows_are P s b T rows can lt is e = e ∙ ap (body_rows P s b) (least_unique P s b T (least_table P s b) is (least_is P s b (can.inside b lt)))

-- the rows of the bodies below one more
flat_last : (f : ℕ → List Row) (xs : List ℕ) (n : ℕ) → flat_map f (xs ++ n ∷ []) ≡ flat_map f xs ++ f n
flat_last f [] n = append-nil (f n)
flat_last f (x ∷ xs) n = ap (λ r. f x ++ r) (flat_last f xs n) ∙ sym (append_assoc (f x) (flat_map f xs) (f n))

pub rows_more : (f : ℕ → List Row) (n : ℕ) (rows more : List Row) → rows ≡ flat_map f (below n) → more ≡ rows ++ f n → more ≡ flat_map f (below (n + 1))
rows_more f n rows more h e = let s : suc n ≡ n + 1 = omega arith in e ∙ ap (λ r. r ++ f n) h ∙ sym (flat_last f (below n) n) ∙ ap (λ m. flat_map f (below m)) s

flat_same : (f g : ℕ → List Row) (n : ℕ) → ((b : ℕ) → b < n → f b ≡ g b) → flat_map f (below n) ≡ flat_map g (below n)
flat_same f g zero h = refl
flat_same f g (suc n) h =
    let e = flat_same f g n (λ b lt. h b (omega (arith, lt))) in
    let k = h n (omega arith) in
    flat_last f (below n) n ∙ (λ i. e i ++ k i) ∙ sym (flat_last g (below n) n)

module _ (P : Program) (s : List Qualifier) (can : IsInferable P) where
  abbrev rows_in : ℕ → List Row
  rows_in b = body_rows P s b (slice_index_or (tables_of P can s) b [])

  bodies_flat : (bs : List ℕ) → flat_map rows_in bs ≡ bodies_rows P s bs (tables_of P can s)
  bodies_flat [] = refl
  bodies_flat (b ∷ bs) = ap (λ r. rows_in b ++ r) (bodies_flat bs)

  same_rows : (b : ℕ) → b < length P.bodies → least_rows P s b ≡ rows_in b
  unfolding least_rows
  same_rows b lt = ap (body_rows P s b) (sym (table_of-at P can s b lt))

  pub all_broken : (bodies pairs all rows : List Row) → bodies ≡ flat_map (least_rows P s) (below (length P.bodies)) → pairs ≡ pairs_rows P s → all ≡ bodies ++ pairs → IsOrderOf all rows → AreBroken P s rows
  all_broken bodies pairs all rows e f g o = record {
    all = all;
    broken = record {
      tables = tables_of P can s;
      least = tables_least P can s;
      all = g ∙ (λ i. (e ∙ flat_same (least_rows P s) rows_in (length P.bodies) same_rows ∙ bodies_flat (below (length P.bodies))) i ++ f i);
    };
    ordered = o;
  }
