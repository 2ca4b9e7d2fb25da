-- Fragments and forms without their places are the forms of what they are made of, without its places.
use Rattle.std.proofs.Common.{◌≡◌, ℕ, zero, suc, ◌+◌, Bool, true, false, cond, ◌&&◌, List, [], ◌∷◌, ◌++◌, Option, Some, None, refl, sym, ap, ◌∙◌}
use Rattle.std.specs.Prelude.{ltb}
use Rattle.std.proofs.Math.Path.{fun_ext}
use Rattle.jn_base.specs.declared.number.RegNo.{RegNo}
use Rattle.jn_base.specs.declared.place.Span.{Span}
use Rattle.jn_points.specs.declared.point.BaseType.{BaseType}
use Rattle.jn_points.specs.declared.point.BaseType.TheVariants.{Int, Bool as BoolBase}
use Rattle.jn_points.specs.declared.point.Literal.TheVariants.{Truth}
use Rattle.jn_points.specs.declared.point.Operand.{Operand}
use Rattle.jn_points.specs.declared.point.Operator.{Operator}
use Rattle.jn_points.specs.declared.point.Point.{Point}
use Rattle.jn_points.specs.declared.point.PointKind.{PointKind}
use Rattle.jn_points.specs.declared.point.PointKind.TheVariants.{Const, Move, Binary, Concat, SameRef, FieldRead, StaticRead, ElemRead, ArrayLen, Branch}
use Rattle.jn_points.specs.declared.program.Field.{Field}
use Rattle.jn_points.specs.declared.program.Program.{Program}
use Rattle.jn_points.specs.Lookup.{field_base, field_base_of, field_info}
use Rattle.std.specs.Prelude.{option_map}
use Rattle.jn_lowering.specs.Fragments.{Fragment, Piece, Target, Part, does, asks, goes, plain, to, size_of, before, place, laid, parts, then}
use Rattle.jn_lowering.specs.Temporaries.{Temporaries, take_one}
use Rattle.jn_lowering.specs.Bases.{binary_type, joins}
use Rattle.jn_lowering.specs.Forms.{Value, Condition, Spot, LocalSpot, StaticSpot, FieldSpot, ElementSpot, LengthSpot, NoSpot, Located, Lowered, register, operand, field_no, none_later, branch, no_place, as_value, references, is_equal, binary_kind, gives, kept, read, write, read_of, as_place, truth, as_condition, combined}
use Rattle.jn_places_law.specs.Bare.{bare, bare_field, bare_operand, bare_kind, bare_point, bare_points, no_span}
use Rattle.jn_places_law.proofs.Lookups.{field_info_is}
use Rattle.jn_places_law.specs.Erased.{bare_fragment, bare_pieces, bare_value, bare_condition, bare_spot, bare_located, bare_lowered}

pub pushed : {A B : Type 0} (f : A → B) (b : Bool) (x y : A) → f (cond b x y) ≡ cond b (f x) (f y)
pushed f true x y = refl
pushed f false x y = refl

abbrev pub a_fragment : ℕ → (ℕ → ℕ → ℕ → List Point) → Fragment
a_fragment n f = record { size = n; points = f }

abbrev pub a_value : Fragment → Operand → Temporaries → Value
a_value f o t = record { fragment = f; operand = o; behind = t }

abbrev pub a_condition : Fragment → Temporaries → Condition
a_condition f t = record { fragment = f; behind = t }

abbrev pub a_form : Value → Condition → ((ℕ → Bool) → Located) → Lowered
a_form v q p = record { value = v; condition = q; assigned = p }

-- fragments

bare_append : (xs ys : List Point) → bare_points (xs ++ ys) ≡ bare_points xs ++ bare_points ys
bare_append [] ys = refl
bare_append (x ∷ xs) ys = ap (λ r. bare_point x ∷ r) (bare_append xs ys)

size_bare : (ps : List Piece) → size_of ps ≡ size_of (bare_pieces ps)
size_bare [] = refl
size_bare (p ∷ ps) = ap (λ n. p.fragment.size + n) (size_bare ps)

before_bare : (ps : List Piece) (n : ℕ) → before ps n ≡ before (bare_pieces ps) n
before_bare [] zero = refl
before_bare [] (suc n) = refl
before_bare (p ∷ ps) zero = refl
before_bare (p ∷ ps) (suc n) = ap (λ k. p.fragment.size + k) (before_bare ps n)

laid_bare : (at : Target → ℕ) (here : ℕ) (ps : List Piece) → bare_points (laid at here ps) ≡ laid at here (bare_pieces ps)
laid_bare at here [] = refl
laid_bare at here (p ∷ ps) =
    bare_append (p.fragment.points here (at p.first) (at p.second)) (laid at (here + p.fragment.size) ps)
    ∙ ap (λ r. bare_points (p.fragment.points here (at p.first) (at p.second)) ++ r) (laid_bare at (here + p.fragment.size) ps)

pub parts_bare : (ps : List Piece) → bare_fragment (parts ps) ≡ parts (bare_pieces ps)
parts_bare ps =
    ap (λ (n : ℕ). a_fragment n (λ start first second. bare_points (laid (place (before ps) start first second) start ps))) (size_bare ps)
    ∙ ap (λ (f : ℕ → ℕ → ℕ → List Point). a_fragment (size_of (bare_pieces ps)) f)
    (fun_ext (λ start. fun_ext (λ first. fun_ext (λ second.
    laid_bare (place (before ps) start first second) start ps
    ∙ ap (λ (b : ℕ → ℕ). laid (place b start first second) start (bare_pieces ps)) (fun_ext (before_bare ps))))))

pub then_bare : (a b : Fragment) → bare_fragment (then a b) ≡ then (bare_fragment a) (bare_fragment b)
then_bare a b = parts_bare (plain a ∷ plain b ∷ [])

-- values of a fragment
pub as_valued : {f g : Fragment} (o : Operand) (t : Temporaries) → f ≡ g → a_value f o t ≡ a_value g o t
as_valued o t e = ap (λ (f : Fragment). a_value f o t) e

pub as_tested : {f g : Fragment} (t : Temporaries) → f ≡ g → a_condition f t ≡ a_condition g t
as_tested t e = ap (λ (f : Fragment). a_condition f t) e

pub branch_bare : (v : Value) → bare_condition (branch v) ≡ branch (bare_value v)
branch_bare v = as_tested v.behind (then_bare v.fragment (asks v.operand.span (λ first second. Branch v.operand first second)))

pub as_value_bare : (t : Temporaries) (v : Value) → bare_lowered (as_value t v) ≡ as_value t (bare_value v)
as_value_bare t v = ap (λ (q : Condition). a_form (bare_value v) (q) (λ later. no_place t)) (branch_bare v)

kind_bare : (o : Operator) (a b : BaseType) (l r : Operand) (dst : RegNo) → bare_kind (binary_kind o a b l r dst) ≡ binary_kind o a b (bare_operand l) (bare_operand r) dst
kind_bare o a b l r dst =
    pushed bare_kind (joins o a b) (Concat dst l r) (cond (references o a b) (SameRef dst (is_equal o) l r) (Binary dst o l r))
    ∙ ap (λ x. cond (joins o a b) (bare_kind (Concat dst l r)) x) (pushed bare_kind (references o a b) (SameRef dst (is_equal o) l r) (Binary dst o l r))

-- the parts of a condition as a value
abbrev truth_parts : Condition → Span → ℕ → List Piece
truth_parts q span dst =
    to q.fragment (Part 1) (Part 3)
    ∷ plain (does span (Const (register dst) (Truth true)))
    ∷ to (goes span) (Part 4) (Part 4)
    ∷ plain (does span (Const (register dst) (Truth false)))
    ∷ []

pub base_is : (f : Option Field) → field_base_of (option_map bare_field f) ≡ field_base_of f
base_is None = refl
base_is (Some f) = refl

module _ (P : Program) (first : ℕ) where
  pub field_base_is : (f : ℕ) → field_base (bare P) f ≡ field_base P f
  field_base_is f = ap field_base_of (field_info_is P f) ∙ base_is (field_info P f)

  pub gives_bare : (t : Temporaries) (c : Fragment) (base : BaseType) (span : Span) (kind : RegNo → PointKind) → bare_value (gives P first t c base span kind) ≡ gives (bare P) first t (bare_fragment c) base no_span (λ dst. bare_kind (kind dst))
  gives_bare t c base span kind = as_valued (operand (first + (take_one t base).number) no_span) (take_one t base).behind (then_bare c (does span (kind (register (first + (take_one t base).number)))))

  pub kept_bare : (later : ℕ → Bool) (base : BaseType) (v : Value) → bare_value (kept P first later base v) ≡ kept (bare P) first later base (bare_value v)
  kept_bare later base v =
      pushed bare_value (ltb v.operand.reg.0 first && later v.operand.reg.0) (gives P first v.behind v.fragment base v.operand.span (λ dst. Move dst v.operand None)) v
      ∙ ap (λ x. cond (ltb v.operand.reg.0 first && later v.operand.reg.0) x (bare_value v)) (gives_bare v.behind v.fragment base v.operand.span (λ dst. Move dst v.operand None))

  pub read_bare : (p : Spot) (t : Temporaries) (c : Fragment) (span : Span) → bare_value (read P first p t c span) ≡ read (bare P) first (bare_spot p) t (bare_fragment c) no_span
  read_bare (LocalSpot l) t c span = refl
  read_bare (StaticSpot f) t c span =
      gives_bare t c (field_base P f) span (λ dst. StaticRead dst (field_no f))
      ∙ ap (λ b. gives (bare P) first t (bare_fragment c) b no_span (λ dst. StaticRead dst (field_no f))) (sym (field_base_is f))
  read_bare (FieldSpot object f) t c span =
      gives_bare t c (field_base P f) span (λ dst. FieldRead dst object (field_no f))
      ∙ ap (λ b. gives (bare P) first t (bare_fragment c) b no_span (λ dst. FieldRead dst (bare_operand object) (field_no f))) (sym (field_base_is f))
  read_bare (ElementSpot array index base) t c span = gives_bare t c base span (λ dst. ElemRead dst array index)
  read_bare (LengthSpot array) t c span = gives_bare t c Int span (λ dst. ArrayLen dst array)
  read_bare NoSpot t c span = refl

  pub write_bare : (p : Spot) (span : Span) (v : Operand) → bare_fragment (write P first p span v) ≡ write (bare P) first (bare_spot p) no_span (bare_operand v)
  write_bare (LocalSpot l) span v = refl
  write_bare (StaticSpot f) span v = refl
  write_bare (FieldSpot object f) span v = refl
  write_bare (ElementSpot array index base) span v = refl
  write_bare (LengthSpot array) span v = refl
  write_bare NoSpot span v = refl

  pub read_of_bare : (p : Located) (span : Span) → bare_value (read_of P first p span) ≡ read_of (bare P) first (bare_located p) no_span
  read_of_bare p span = read_bare p.spot p.behind p.fragment span

  -- a form that defines its place
  pub as_place_bare : (span : Span) (p : (ℕ → Bool) → Located) → bare_lowered (as_place P first span p) ≡ as_place (bare P) first no_span (λ later. bare_located (p later))
  as_place_bare span p =
      ap (λ (q : Condition). a_form (bare_value (read_of P first (p none_later) span)) (q) (λ later. bare_located (p later))) (branch_bare (read_of P first (p none_later) span))
      ∙ ap (λ (v : Value). a_form (v) (branch v) (λ later. bare_located (p later))) (read_of_bare (p none_later) span)

  pub truth_bare : (span : Span) (q : Condition) → bare_value (truth P first span q) ≡ truth (bare P) first no_span (bare_condition q)
  truth_bare span q = as_valued (operand (first + (take_one q.behind BoolBase).number) no_span) (take_one q.behind BoolBase).behind (parts_bare (truth_parts q span (first + (take_one q.behind BoolBase).number)))

  pub as_condition_bare : (t : Temporaries) (span : Span) (q : Condition) → bare_lowered (as_condition P first t span q) ≡ as_condition (bare P) first t no_span (bare_condition q)
  as_condition_bare t span q = ap (λ (v : Value). a_form (v) (bare_condition q) (λ later. no_place t)) (truth_bare span q)

  pub combined_bare : (t : Temporaries) (c : Fragment) (span : Span) (o : Operator) (a b : BaseType) (l r : Operand) → bare_value (combined P first t c span o a b l r) ≡ combined (bare P) first t (bare_fragment c) no_span o a b (bare_operand l) (bare_operand r)
  combined_bare t c span o a b l r =
      gives_bare t c (binary_type o a b) span (binary_kind o a b l r)
      ∙ ap (gives (bare P) first t (bare_fragment c) (binary_type o a b) no_span) (fun_ext (kind_bare o a b l r))
