-- What annotated files mean: the same program but for places, in which each slot that gets words is written as it was inferred.
use Rattle.std.specs.Prelude.{◌≡◌, ℕ, ◌+◌, List, [], ◌∷◌, Option, Some}
use Rattle.jn_base.specs.declared.place.Row.{Row}
use Rattle.jn_quals.specs.Qualifier.{Qualifier}
use Rattle.jn_points.specs.declared.program.Program.{Program}
use Rattle.jn_points.specs.declared.point.Point.{Point}
use Rattle.jn_points.specs.BaseRows.{IsBaseRow}
use Rattle.jn_points.specs.Lookup.{method_in, point_at}
use Rattle.jn_env.specs.Environment.{Env}
use Rattle.jn_env.specs.Order.{Table}
use Rattle.jn_transfer.specs.Least.{IsLeastTable}
use Rattle.jn_transfer.specs.Rules.{Breaks, ctor_rows, pair_rows, rows_at}
use Rattle.jn_inference_law.specs.Solution.{IsLeastSignature}
use Rattle.jn_lexer.specs.Lexed.{Lexed}
use Rattle.jn_trees.specs.declared.token.Token.{Token}
use Rattle.jn_places.specs.Placed.{PlacedFile}
use Rattle.jn_places.specs.Places.{IsPlacedFile}
use Rattle.jn_places_law.specs.Bare.{Alike, codes_of}

-- the same rows but for their places
abbrev pub BreaksAlike : Program → Program → List Qualifier → Type 0
BreaksAlike P Q s = (broken : List Row) → Breaks P s broken → (others : List Row) × Breaks Q s others × (codes_of others ≡ codes_of broken)

-- the same codes at the same points, constructors and pairs, under the same tables
pub record BreaksAtTheSame (P Q : Program) (s : List Qualifier) : Type 0 where
  pub tables : (b : ℕ) (t : Table) → IsLeastTable P s b t → IsLeastTable Q s b t
  pub points : (b p : ℕ) (x : Point) → point_at P b p ≡ Some x → (y : Point) × (point_at Q b p ≡ Some y) × ((e : Option Env) → codes_of (rows_at P s b x e) ≡ codes_of (rows_at Q s b y e))
  pub constructors : (b : ℕ) (t : Table) → codes_of (ctor_rows P s b (method_in P b) t) ≡ codes_of (ctor_rows Q s b (method_in Q b) t)
  pub pairs : (m k : ℕ) → codes_of (pair_rows P s m k) ≡ codes_of (pair_rows Q s m k)

-- the same rows J7 to J10 but for their places
abbrev pub BaseAlike : Program → Program → Type 0
BaseAlike P Q = (row : Row) → IsBaseRow P row → (other : Row) × IsBaseRow Q other × (other.code ≡ row.code)

-- Q is P but for places and slots: it has that least signature, breaks the same rules at the same points, constructors and pairs, and is refused for its types where P is
pub record Means (P Q : Program) (s : List Qualifier) : Type 0 where
  pub alike : Alike P Q
  pub least : IsLeastSignature Q s
  pub breaks : BreaksAlike P Q s
  pub back : BreaksAlike Q P s
  pub places : BreaksAtTheSame P Q s
  pub places_back : BreaksAtTheSame Q P s
  pub base : BaseAlike P Q
  pub base_back : BaseAlike Q P

-- the texts are these tokens, file by file from the k-th on, and their names make the old list the new one
abbrev pub TextsLexed : ℕ → List (List ℕ) → List (List ℕ) → List (List Token) → List (List ℕ) → Type 0
TextsLexed k names [] [] last = last ≡ names
TextsLexed k names [] (ts ∷ tss) last = ⊥
TextsLexed k names (text ∷ texts) [] last = ⊥
TextsLexed k names (text ∷ texts) (ts ∷ tss) last = (new : List (List ℕ)) × Lexed (record { 0 = k }) text names ts new × TextsLexed (k + 1) new texts tss last

abbrev pub AllPlaced : List (List Token) → List PlacedFile → Type 0
AllPlaced [] [] = Unit {0}
AllPlaced [] (tree ∷ trees) = ⊥
AllPlaced (ts ∷ tss) [] = ⊥
AllPlaced (ts ∷ tss) (tree ∷ trees) = IsPlacedFile ts tree × AllPlaced tss trees
