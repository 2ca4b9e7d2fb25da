-- The program of trees without rows has keys whose numbers have 32 bits, since each of its bodies is small and it has few fields.
use Rattle.std.proofs.Common.{◌≡◌, inl, inr, ℕ, zero, suc, ◌+◌, ◌<◌, ◌≤◌, ◌^◌, true, false, not, ◌||◌, ◌&&◌, List, [], ◌∷◌, length, length-append, Option, Some, None, refl, sym, subst, arith}
use Rattle.std.specs.Prelude.{filter, flat_map, ltb, slice_get}
use Rattle.std.proofs.lemmas.Bool.{and_parts, ltb-false, ltb-true}
use Rattle.std.proofs.lemmas.Option.{slice_get_within}
use Rattle.jn_base.specs.declared.code.Code.TheVariants.{J6}
use Rattle.jn_base.specs.declared.infer.Infer.{Infer}
use Rattle.jn_points.specs.declared.program.Body.{Body}
use Rattle.jn_points.specs.declared.program.Field.{Field}
use Rattle.jn_points.specs.declared.program.Program.{Program}
use Rattle.jn_points.specs.Lookup.{body_at, field_info, locals, locals_of, method_in, points_of, ref_field, ref_of}
use Rattle.jn_points.specs.Members.{below}
use Rattle.jn_points.specs.Regular.{Regular}
use Rattle.jn_env.specs.Keys.{Key, distinct, fact_keys, is_key, is_own, kind_keys}
use Rattle.jn_places.specs.Placed.{PlacedFile}
use Rattle.jn_heads.specs.Extract.{heads}
use Rattle.jn_classtable.specs.Table.{table}
use Rattle.jn_lowering.specs.Bodies.{Source, bodies_of, body_of_source, name_span}
use Rattle.jn_lowering.specs.BodyRows.{facts, is_too_large, limit_rows, own_fields, rows_of_bodies, rows_of_body, rows_of_source}
use Rattle.jn_lowering.specs.FileRows.{outside_rows}
use Rattle.jn_lowering.proofs.NoRows.{append_none, or_none, when_none}
use Rattle.jn_program_law.specs.FileProgram.{inferring}
use Rattle.jn_program_law.specs.FileSources.{sources}
use Rattle.jn_program.specs.Lowered.{IsProgram}
use Rattle.jn_cert_form.specs.Counted.{IsCounted, IsIn}
use Rattle.jn_cert_form.proofs.OneReading.{below_low, few_filter, filtered}

in_distinct : (ks : List Key) (k : Key) → IsIn k (distinct ks) → IsIn k ks
in_distinct [] k m = absurd m
in_distinct (x ∷ ks) k (inl e) = inl e
in_distinct (x ∷ ks) k (inr m) = inr (in_distinct ks k (filtered (λ z. not (is_key x.reg x.field z)) (distinct ks) k m).0)

length-below : (n : ℕ) → length (below n) ≡ n
length-below zero = refl
length-below (suc n) = let a = length-append (below n) (n ∷ []) in let b = length-below n in omega (a, b, arith)

-- a key of the facts: a register among the locals, and a reference field
is_fact : (P : Program) (b : ℕ) (k : Key) → IsIn k (fact_keys P b) → (ltb k.reg (locals P b) && ref_field P k.field) ≡ true
is_fact P b k m = (filtered (λ z. ltb z.reg (locals P b) && ref_field P z.field) (flat_map (λ pt. kind_keys pt.kind) (points_of (body_at P b))) k (in_distinct _ k m)).1

ref_there : (P : Program) (f : ℕ) → ref_field P f ≡ true → f < length P.fields
ref_there P f h = by (field_info P f) refl h
  where
    by : (x : Option Field) → field_info P f ≡ x → ref_of x ≡ true → f < length P.fields
    by None e h = cc
    by (Some x) e h = slice_get_within P.fields f x e

-- registers, points and facts of a body that isn't too large
record IsSmall (P : Program) (b : ℕ) : Type 0 where
  pub locals : locals P b ≤ 1024
  pub facts : length (fact_keys P b) ≤ 4096

module _ (trees : List PlacedFile) (rows : rows_of_bodies (table (heads trees)) (sources trees) ≡ []) where
  abbrev T : Program
  T = table (heads trees)

  source_small : (s : Source) → rows_of_body T s ≡ [] → is_too_large T (body_of_source T s) ≡ false
  source_small s none =
      let p = append_none (rows_of_source T s) (limit_rows T (rows_of_source T s) s) none in
      when_none (is_too_large T (body_of_source T s)) (record { span = name_span T s.method; code = J6 }) [] (subst (λ rs. limit_rows T rs s ≡ []) p.0 p.1)

  -- each body of the list isn't too large
  all_small : (ss : List Source) → rows_of_bodies T ss ≡ [] → (b : ℕ) (x : Body) → slice_get (bodies_of T ss) b ≡ Some x → is_too_large T x ≡ false
  all_small [] none b x e = cc
  all_small (s ∷ ss) none zero x e =
      let same : body_of_source T s ≡ x = cc in
      subst (λ z. is_too_large T z ≡ false) same (source_small s (append_none (rows_of_body T s) (rows_of_bodies T ss) none).0)
  all_small (s ∷ ss) none (suc b) x e = all_small ss (append_none (rows_of_body T s) (rows_of_bodies T ss) none).1 b x e

  -- the keys of the facts of a body, where there is one
  abbrev facts_of : Option Body → List Key
  facts_of x = distinct (filter (λ k. ltb k.reg (locals_of x) && ref_field T k.field) (flat_map (λ pt. kind_keys pt.kind) (points_of x)))

  module _ (infer : Infer) (R : Regular (inferring infer trees)) where
    abbrev Q : Program
    Q = inferring infer trees

    body_small : (b : ℕ) → IsSmall Q b
    body_small b = by (body_at Q b) refl
      where
        by : (x : Option Body) → body_at Q b ≡ x → IsSmall Q b
        by None e = record {
          locals = subst (λ z. locals_of z ≤ 1024) (sym e) (omega arith);
          facts = subst (λ z. length (facts_of z) ≤ 4096) (sym e) (omega arith);
        }
        by (Some x) e =
            let large = all_small (sources trees) rows b x e in
            let p = or_none (ltb 65535 (length x.points)) (ltb 1024 (length x.regs) || ltb 4096 (length (facts T x) + length (own_fields T x.method.0))) large in
            let q = or_none (ltb 1024 (length x.regs)) (ltb 4096 (length (facts T x) + length (own_fields T x.method.0))) p.1 in
            let regs : length x.regs ≤ 1024 = ltb-false 1024 (length x.regs) q.0 in
            let keys : length (facts T x) + length (own_fields T x.method.0) ≤ 4096 = ltb-false 4096 (length (facts T x) + length (own_fields T x.method.0)) q.1 in
            let inside : x.locals ≤ length x.regs = (R.bodies b x e).locals in
            record {
              locals = subst (λ z. locals_of z ≤ 1024) (sym e) (omega (regs, inside, arith));
              facts = subst (λ z. length (facts_of z) ≤ 4096) (sym e) (omega (keys, arith));
            }

    counted : IsCounted Q
    counted = record {
      facts = λ b. let s = (body_small b).facts in omega (s, arith);
      registers = λ b k m.
          let l : k.reg < locals Q b = ltb-true k.reg (locals Q b) (and_parts (ltb k.reg (locals Q b)) (ref_field Q k.field) (is_fact Q b k m)).0 in
          let s = (body_small b).locals in
          omega (l, s, arith);
      fields = λ b k m.
          let l : k.field < length Q.fields = ref_there Q k.field (and_parts (ltb k.reg (locals Q b)) (ref_field Q k.field) (is_fact Q b k m)).1 in
          let f : length Q.fields < 2 ^ 32 = R.few.fields in
          omega (l, f, arith);
      own = λ b.
          let l = few_filter (is_own Q (method_in Q b)) (below (length Q.fields)) in
          let n = length-below (length Q.fields) in
          let f : length Q.fields < 2 ^ 32 = R.few.fields in
          omega (l, n, f, arith);
      own_fields = λ b f m.
          let l : f < length Q.fields = below_low (length Q.fields) f (filtered (is_own Q (method_in Q b)) (below (length Q.fields)) f m).0 in
          let n : length Q.fields < 2 ^ 32 = R.few.fields in
          omega (l, n, arith);
    }

pub program_counted : (infer : Infer) (trees : List PlacedFile) (P : Program) → IsProgram infer trees P → IsCounted P
program_counted infer trees P p = subst IsCounted (sym p.program) (counted trees (append_none (outside_rows trees) (rows_of_bodies (table (heads trees)) (sources trees)) p.rows).1 infer (subst Regular p.program p.regular))
