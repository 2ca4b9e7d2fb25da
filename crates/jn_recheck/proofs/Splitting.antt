-- What is found of bodies, taken apart.
use Rattle.std.proofs.Common.{◌≡◌, ℕ, zero, suc, ◌+◌, ◌<◌, false, List, [], ◌∷◌, ◌++◌, length, map, get_or, flat_map, Option, refl, sym, ap, ◌∙◌, subst, arith}
use Rattle.std.specs.Prelude.{cond, drop}
use Rattle.std.proofs.lemmas.List.{drop_more}
use Rattle.jn_base.specs.declared.place.Row.{Row}
use Rattle.jn_quals.specs.Qualifier.{Qualifier}
use Rattle.jn_points.specs.declared.program.Program.{Program}
use Rattle.jn_points.specs.Members.{below}
use Rattle.jn_recheck_law.specs.Reusable.{Solved}
use Rattle.jn_system.specs.Rows.{least_rows}
use Rattle.jn_system.proofs.Gathering.{rows_more}
use Rattle.jn_recheck.specs.declared.rows.BodyRows.{BodyRows}
use Rattle.jn_recheck.specs.KeptRows.{AreKept, AreMadeAnew}
use Rattle.jn_recheck.specs.Found.{AreFound, made_of, rows_found}

map_long : {A B : Type 0} (f : A → B) (xs : List A) → length (map f xs) ≡ length xs
map_long f [] = refl
map_long f (x ∷ xs) = ap suc (map_long f xs)

map_at : {A B : Type 0} (f : A → B) (xs : List A) (i : ℕ) (d : A) (e : B) → i < length xs → get_or (map f xs) i e ≡ f (get_or xs i d)
map_at f [] i d e lt = absurd (omega (arith, lt))
map_at f (x ∷ xs) zero d e lt = refl
map_at f (x ∷ xs) (suc i) d e lt = map_at f xs i d e (omega (arith, lt))

module _ (old : Option Solved) (new : Solved) (found : List BodyRows) (are : AreFound old new found) where
  none_rows : BodyRows
  none_rows = record { rows = []; reused = false }

  pub found_kept : (rows : List (List Row)) → rows ≡ rows_found found → AreKept new.program new.signature rows
  found_kept rows e = subst (AreKept new.program new.signature) (sym e) (record {
    long = map_long (λ (one : BodyRows). one.rows) found ∙ are.long;
    each = λ b lt. map_at (λ (one : BodyRows). one.rows) found b none_rows [] (subst (λ n. b < n) (sym are.long) lt) ∙ (are.each b none_rows lt).rows;
  })

  pub found_anew : (made : ℕ) → made ≡ made_of found → AreMadeAnew old new made
  found_anew made e = record {
    reused = map (λ (one : BodyRows). one.reused) found;
    long = map_long (λ (one : BodyRows). one.reused) found ∙ are.long;
    tells = λ b lt.
        let same = map_at (λ (one : BodyRows). one.reused) found b none_rows false (subst (λ n. b < n) (sym are.long) lt) in
        let r = (are.each b none_rows lt).reused in
        ((λ h. r.0 (sym same ∙ h)), (λ h. same ∙ r.1 h));
    count = e;
  }

-- the rows of one body more
pub flat_more : (P : Program) (s : List Qualifier) (rows : List (List Row)) (at : ℕ) (all more one : List Row) → AreKept P s rows → at < length rows → all ≡ flat_map (least_rows P s) (below at) → one ≡ get_or rows at [] → more ≡ all ++ one → more ≡ flat_map (least_rows P s) (below (at + 1))
flat_more P s rows at all more one kept lt h is e = rows_more (least_rows P s) at all more h (e ∙ ap (λ r. all ++ r) (is ∙ kept.each at (subst (λ n. at < n) kept.long lt)))

pub made_more : (found : List BodyRows) (d : BodyRows) (i : ℕ) → i < length found → made_of (drop i found) ≡ cond (get_or found i d).reused 0 1 + made_of (drop (i + 1) found)
made_more found d i lt = ap made_of (drop_more found i d lt)
