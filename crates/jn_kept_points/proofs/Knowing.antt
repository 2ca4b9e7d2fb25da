-- Bodies that stayed are those of the new trees at their places, and have no row.
use Rattle.std.proofs.Common.{◌≡◌, ℕ, zero, suc, true, false, Bool, List, [], ◌∷◌, ◌++◌, length, Option, Some, None, slice_get, get_or, refl, sym, ap, ◌∙◌, subst, arith, true≢false}
use Rattle.std.proofs.lemmas.Option.{none-some, same_Some}
use Rattle.jn_base.specs.declared.infer.Infer.{Infer}
use Rattle.jn_base.specs.declared.place.Row.{Row}
use Rattle.jn_places.specs.Placed.{PlacedFile}
use Rattle.jn_points.specs.declared.program.Body.{Body}
use Rattle.jn_points.specs.declared.program.Program.{Program}
use Rattle.jn_points.specs.BaseRows.{NoBaseRows}
use Rattle.jn_points.specs.Lookup.{body_at}
use Rattle.jn_heads.specs.Extract.{heads}
use Rattle.jn_heads.specs.declared.head.ClassHead.{ClassHead}
use Rattle.jn_classtable.specs.Rows.{t_rows}
use Rattle.jn_classtable.specs.Table.{table}
use Rattle.jn_lowering.specs.Bodies.{Source, bodies_of, body_of_source, name_span}
use Rattle.jn_lowering.specs.BodyRows.{rows_of_bodies, rows_of_body}
use Rattle.jn_lowering.specs.FileRows.{outside_rows}
use Rattle.jn_program_law.specs.FileProgram.{inferring}
use Rattle.jn_program_law.specs.FileSources.{sources}
use Rattle.jn_places_law.specs.Bare.{Alike, codes_of}
use Rattle.jn_heads_law.specs.Heads.{HeadsAlike}
use Rattle.jn_heads_law.proofs.Heads.{alike_heads}
use Rattle.jn_basecheck.specs.Rows.{AreTyped, BodyRow}
use Rattle.jn_program.specs.declared.sources.Start.{Start}
use Rattle.jn_program.specs.Known.{AreKnown, IsKnown}
use Rattle.jn_program.specs.Lowered.{IsProgram}
use Rattle.jn_program.specs.Starts.{AreStarts, IsStart}
use Rattle.jn_kept_points.specs.declared.typing.KeptTyping.{KeptTyping}
use Rattle.jn_kept_points.specs.declared.typing.Unchanged.{Unchanged}
use Rattle.jn_kept_points.specs.Stays.{KnownFrom, Stays}
use Rattle.jn_kept_points.specs.Typings.{IsKeptOf, IsTypingOf, IsUnchangedIn, SameTrees}
use Rattle.jn_kept_points.proofs.Cutting.{source_of_file}

-- ---- bodies and rows, source by source

body_of : (P : Program) (ss : List Source) (b : ℕ) (s : Source) → slice_get ss b ≡ Some s → slice_get (bodies_of P ss) b ≡ Some (body_of_source P s)
body_of P [] b s e = absurd (none-some s e)
body_of P (x ∷ ss) zero s e = ap (λ y. Some (body_of_source P y)) (same_Some x s e)
body_of P (x ∷ ss) (suc b) s e = body_of P ss b s e

source_of : (P : Program) (ss : List Source) (b : ℕ) (x : Body) → slice_get (bodies_of P ss) b ≡ Some x → (s : Source) × (slice_get ss b ≡ Some s) × (body_of_source P s ≡ x)
source_of P [] b x e = absurd (none-some x e)
source_of P (s ∷ ss) zero x e = (s, refl, same_Some (body_of_source P s) x e)
source_of P (s ∷ ss) (suc b) x e = source_of P ss b x e

no_front : (xs ys : List Row) → xs ++ ys ≡ [] → xs ≡ []
no_front [] ys e = refl
no_front (x ∷ xs) ys e = let long = ap length e in absurd (omega arith)

no_rest : (xs ys : List Row) → xs ++ ys ≡ [] → ys ≡ []
no_rest xs ys e = ap (λ l. l ++ ys) (sym (no_front xs ys e)) ∙ e

no_row_of : (P : Program) (ss : List Source) (b : ℕ) (s : Source) → rows_of_bodies P ss ≡ [] → slice_get ss b ≡ Some s → rows_of_body P s ≡ []
no_row_of P [] b s none e = absurd (none-some s e)
no_row_of P (x ∷ ss) zero s none e = ap (rows_of_body P) (sym (same_Some x s e)) ∙ no_front (rows_of_body P x) (rows_of_bodies P ss) none
no_row_of P (x ∷ ss) (suc b) s none e = no_row_of P ss b s (no_rest (rows_of_body P x) (rows_of_bodies P ss) none) e

none_of_codes : (xs ys : List Row) → codes_of xs ≡ codes_of ys → xs ≡ [] → ys ≡ []
none_of_codes xs [] e none = refl
none_of_codes xs (y ∷ ys) e none = let long = ap length (sym e ∙ ap codes_of none) in absurd (omega arith)

-- types that declare the same have no row T1 to T10 where the others had none
pub no_class_rows : (hs gs : List ClassHead) → codes_of (t_rows hs) ≡ codes_of (t_rows gs) → t_rows hs ≡ [] → t_rows gs ≡ []
no_class_rows hs gs e none = none_of_codes (t_rows hs) (t_rows gs) e none

-- where no body is flagged, nothing is told
pub nothing_known : (T : Program) (ss : List Source) → AreKnown T ss [] []
nothing_known T ss = λ b s told e. absurd (true≢false (sym told))

pub nothing_typed : (infer : Infer) (trees : List PlacedFile) (Q : Program) → IsProgram infer trees Q → AreTyped Q []
nothing_typed infer trees Q q = λ b row told broken. absurd (true≢false (sym told))

-- nor where nothing is flagged and heads aren't told to be alike
pub nothing_told : (P : Program) (base : Option Program) (unchanged : Unchanged) → unchanged.alike ≡ false → unchanged.bodies.items ≡ [] → IsUnchangedIn P base unchanged
nothing_told P None unchanged other none = tt
nothing_told P (Some Q) unchanged other none = (
  λ told. absurd (true≢false (sym told ∙ other)),
  λ b told. absurd (true≢false (sym told ∙ ap (λ (l : List Bool). get_or l b false) none)),
)

-- ---- a body that stayed

module _ (infer : Infer) (before trees : List PlacedFile) (same : List Bool) (same_trees : SameTrees before same trees) where
  -- it has the source that it had, and its method's name stands where it stood
  record SameSource (b : ℕ) : Type 0 where
    source : Source
    old : slice_get (sources before) b ≡ Some source
    new : slice_get (sources trees) b ≡ Some source
    place : name_span (table (heads before)) source.method ≡ name_span (table (heads trees)) source.method

  same_source : (starts : List Start) → AreStarts before starts → AreStarts trees starts → (P Q : Program) → P ≡ inferring infer before → Q ≡ table (heads trees) → (b : ℕ) → Stays P Q same starts b → SameSource b
  same_source starts were are P Q p q b h =
      let tree = same_trees h.file h.told in
      let from_old : IsStart before h.file h.from = were.1 h.file h.from h.begins in
      let to_old : IsStart before (suc h.file) h.to = were.1 (suc h.file) h.to h.ends in
      let from_new : IsStart trees h.file h.from = are.1 h.file h.from h.begins in
      let to_new : IsStart trees (suc h.file) h.to = are.1 (suc h.file) h.to h.ends in
      let moved : slice_get (sources before) b ≡ slice_get (sources trees) b =
      source_of_file before h.file tree.0 tree.1 h.from h.to b from_old to_old h.above h.below
      ∙ sym (source_of_file trees h.file tree.0 tree.2 h.from h.to b from_new to_new h.above h.below) in
      let body : slice_get (bodies_of (table (heads before)) (sources before)) b ≡ Some h.still.0 = subst (λ (R : Program). body_at R b ≡ Some h.still.0) p h.still.1 in
      let found = source_of (table (heads before)) (sources before) b h.still.0 body in
      record {
        source = found.0;
        old = found.1;
        new = sym moved ∙ found.1;
        place = subst (λ (x : Body). name_span (table (heads before)) x.method.0 ≡ name_span (table (heads trees)) x.method.0) (sym found.2)
            (subst (λ (R : Program). name_span (inferring infer before) h.still.0.method.0 ≡ name_span R h.still.0.method.0) q
            (subst (λ (R : Program). name_span R h.still.0.method.0 ≡ name_span Q h.still.0.method.0) p h.still.2));
      }

-- ---- what is told of bodies

module _ (infer : Infer) (before trees : List PlacedFile) (P : Program) (kept : KeptTyping) (is : IsTypingOf infer before P kept) (alike : Alike (table (heads before)) (table (heads trees))) where
  -- what the laws say
  abbrev pub LowersAlike : Type 0
  LowersAlike = (R S : Program) (s : Source) → Alike R S → name_span R s.method ≡ name_span S s.method → body_of_source R s ≡ body_of_source S s

  abbrev pub RefusesAlike : Type 0
  RefusesAlike = (R S : Program) (s : Source) → Alike R S → name_span R s.method ≡ name_span S s.method → rows_of_body R s ≡ rows_of_body S s

  abbrev pub TypesAlike : Type 0
  TypesAlike = (R S : Program) (b : ℕ) (row : Row) → HeadsAlike R S → body_at R b ≡ body_at S b → NoBaseRows S → BodyRow R b row → ⊥

  -- the old program and the new table declare the same but for places
  pub heads_of_table : HeadsAlike P (table (heads trees))
  heads_of_table =
      let h = alike_heads (table (heads before)) (table (heads trees)) alike in
      let here : HeadsAlike (inferring infer before) (table (heads trees)) = record { classes = h.classes; fields = h.fields; methods = h.methods } in
      subst (λ (R : Program). HeadsAlike R (table (heads trees))) (sym is.program) here

  -- and the old program and the new one
  heads_of_program : (Q : Program) → Q ≡ inferring infer trees → HeadsAlike P Q
  heads_of_program Q q =
      let h = heads_of_table in
      let here : HeadsAlike P (inferring infer trees) = record { classes = h.classes; fields = h.fields; methods = h.methods } in
      subst (HeadsAlike P) (sym q) here

  heads_of_old : (Q : Program) → Q ≡ inferring infer trees → HeadsAlike Q P
  heads_of_old Q q = let h = heads_of_program Q q in record { classes = sym h.classes; fields = sym h.fields; methods = sym h.methods }

  module _ (same : List Bool) (starts : List Start) (flags : List Bool) (T : Program) (t : T ≡ table (heads trees)) (same_trees : SameTrees before same trees) (are : AreStarts trees starts) (known : KnownFrom P T same kept.starts.items starts flags) where
    found : (b : ℕ) → get_or flags b false ≡ true → SameSource infer before trees same same_trees b
    found b told = let h = known b told in same_source infer before trees same same_trees starts (subst (AreStarts before) h.0 is.starts) are P T is.program t b h.1

    old_body : (b : ℕ) (s : Source) → slice_get (sources before) b ≡ Some s → body_at P b ≡ Some (body_of_source (table (heads before)) s)
    old_body b s e = ap (λ (R : Program). body_at R b) is.program ∙ body_of (table (heads before)) (sources before) b s e

    -- those that are flagged are what their sources are lowered to, which have no row
    pub are_known : LowersAlike → RefusesAlike → AreKnown (table (heads trees)) (sources trees) P.bodies flags
    are_known bodies rows = λ b s told e.
        let h = found b told in
        let none : rows_of_bodies (table (heads before)) (sources before) ≡ [] = no_rest (outside_rows before) (rows_of_bodies (table (heads before)) (sources before)) is.rows in
        let it : IsKnown (table (heads trees)) h.source (Some (body_of_source (table (heads before)) h.source)) = (
          bodies (table (heads before)) (table (heads trees)) h.source alike h.place,
          sym (rows (table (heads before)) (table (heads trees)) h.source alike h.place) ∙ no_row_of (table (heads before)) (sources before) b h.source none h.old,
        ) in
        subst (λ (z : Source). IsKnown (table (heads trees)) z (slice_get P.bodies b)) (same_Some h.source s (sym h.new ∙ e))
        (subst (IsKnown (table (heads trees)) h.source) (sym (old_body b h.source h.old)) it)

    -- the new program has them at their numbers
    same_body : LowersAlike → (Q : Program) → Q ≡ inferring infer trees → (b : ℕ) → get_or flags b false ≡ true → body_at P b ≡ body_at Q b
    same_body bodies Q q b told =
        let h = found b told in
        let new_body : body_at Q b ≡ Some (body_of_source (table (heads trees)) h.source) = ap (λ (R : Program). body_at R b) q ∙ body_of (table (heads trees)) (sources trees) b h.source h.new in
        old_body b h.source h.old ∙ ap Some (bodies (table (heads before)) (table (heads trees)) h.source alike h.place) ∙ sym new_body

    -- and they have no row of base typing
    pub are_typed : LowersAlike → TypesAlike → NoBaseRows P → (Q : Program) → IsProgram infer trees Q → AreTyped Q flags
    are_typed bodies types none = λ Q q b row told broken. types Q P b row (heads_of_old Q q.program) (sym (same_body bodies Q q.program b told)) none broken

    -- so what is told of the old program stands in the new one
    pub stands : LowersAlike → (base : Option Program) (after : Option KeptTyping) (unchanged : Unchanged) → unchanged.bodies.items ≡ flags → IsKeptOf infer trees base after → IsUnchangedIn P base unchanged
    stands bodies None after unchanged e is_kept = tt
    stands bodies (Some Q) None unchanged e is_kept = absurd is_kept
    stands bodies (Some Q) (Some new) unchanged e is_kept = (
      λ told. heads_of_program Q is_kept.program,
      λ b told. same_body bodies Q is_kept.program b (ap (λ (l : List Bool). get_or l b false) (sym e) ∙ told),
    )
