-- The item that a row speaks of. A row that speaks of a value points to an operand: its item is the first register that is read there and has the
-- bit, where the row's rule doesn't take it, by body, point and operand. A row of an overriding pair points to the overrider: its item is the slot that has a bit which its partner lacks.
use Rattle.std.specs.Prelude.{ℕ, Bool, false, cond, not, ◌&&◌, eqb, List, [], ◌∷◌, length, Option, Some, None, slice_index_or}
use Rattle.std.specs.Option.{option_or}
use Rattle.jn_base.specs.declared.place.Span.{Span}
use Rattle.jn_base.specs.declared.place.Row.{Row}
use Rattle.jn_base.specs.declared.code.Code.{Code}
use Rattle.jn_base.specs.declared.code.Code.TheVariants.{Deref, Field as FieldCode, FieldInit, Arg, ArgInit, RecvInit, Return as ReturnCode, ReturnInit, Local, LocalInit, Elem, ElemInit, OvrParam, OvrReceiver, OvrResult}
use Rattle.jn_base.specs.declared.number.SlotNo.{SlotNo}
use Rattle.jn_quals.specs.Qualifier.{Qualifier}
use Rattle.jn_quals.specs.Order.{no_qual}
use Rattle.jn_points.specs.declared.point.Point.{Point}
use Rattle.jn_points.specs.declared.program.Method.{Method}
use Rattle.jn_points.specs.declared.program.Program.{Program}
use Rattle.jn_points.specs.Lookup.{body_at, method_at, point_at, points_of}
use Rattle.jn_sigs.specs.Signature.{slot_qual}
use Rattle.jn_env.specs.Environment.{Env}
use Rattle.jn_env.specs.Order.{Table, env_in, qual_at}
use Rattle.jn_transfer.specs.Pairs.{overriders, under}
use Rattle.jn_transfer.specs.Rules.{lacks_null}
use Rattle.jn_reasons_law.specs.declared.item.Bit.{Bit}
use Rattle.jn_reasons_law.specs.declared.item.Bit.TheVariants.{Nullable, Free}
use Rattle.jn_reasons_law.specs.declared.item.Item.{Item}
use Rattle.jn_reasons_law.specs.declared.item.Item.TheVariants.{AtSlot, AtRegister}
use Rattle.jn_reasons_law.specs.Items.{on}
use Rattle.jn_note_words.specs.Owned.{first_below}
use Rattle.jn_notes.specs.Asks.{Ask, asks}
use Rattle.jn_notes.specs.declared.reads.Rule.{Rule}
use Rattle.jn_notes.specs.declared.reads.Rule.TheVariants.{Dereference, Write, Argument, Receiver, Result as ResultRule, Local as LocalRule, Element}
use Rattle.jn_notes.specs.declared.reads.Sought.{Sought}
use Rattle.jn_notes.specs.declared.pairs.Part.{Part}
use Rattle.jn_notes.specs.declared.pairs.Part.TheVariants.{OverParameters, OverReceiver, OverResult}

-- at this span, by this rule, a value that has the bit
abbrev pub seeks : Span → Rule → Bit → Option Sought
seeks span rule bit = Some (record { span = span; rule = rule; bit = bit })

-- what a row of a value speaks of: the rule, and the bit that a note explains. What is whole where it isn't taken needs no note: it ends at its `new`
abbrev pub sought_of : Span → Code → Option Sought
sought_of span Deref = seeks span Dereference Nullable
sought_of span FieldCode = seeks span Write Nullable
sought_of span FieldInit = seeks span Write Free
sought_of span Arg = seeks span Argument Nullable
sought_of span ArgInit = seeks span Argument Free
sought_of span RecvInit = seeks span Receiver Free
sought_of span ReturnCode = seeks span ResultRule Nullable
sought_of span ReturnInit = seeks span ResultRule Free
sought_of span Local = seeks span LocalRule Nullable
sought_of span LocalInit = seeks span LocalRule Free
sought_of span Elem = seeks span Element Nullable
sought_of span ElemInit = seeks span Element Free
sought_of span code = None

-- the part of an overriding pair that a code speaks of
abbrev pub part_of : Code → Option Part
part_of OvrParam = Some OverParameters
part_of OvrReceiver = Some OverReceiver
part_of OvrResult = Some OverResult
part_of code = None

-- two spans are of the same bytes of the same file
abbrev pub same_span : Span → Span → Bool
same_span x y = eqb x.file.0 y.file.0 && eqb x.from y.from && eqb x.to y.to

module _ (q : Sought) (b p : ℕ) (e : Env) where
  -- a value that stands there and has the bit, which isn't taken
  abbrev pub by_ask : Ask → Option Item
  by_ask a = cond (same_span a.value.span q.span && on q.bit (qual_at e a.value.reg.0) && not (on q.bit a.taken)) (Some (AtRegister b p a.value.reg.0 q.bit)) None

  -- the first of these values that is so
  abbrev pub by_asks : List Ask → Option Item
  by_asks [] = None
  by_asks (a ∷ as') = option_or (by_ask a) (by_asks as')

module _ (P : Program) (s : List Qualifier) (q : Sought) where
  module _ (b : ℕ) where
    -- a point, where it is reached
    abbrev pub by_point : ℕ → Option Point → Option Env → Option Item
    by_point p None o = None
    by_point p (Some pt) None = None
    by_point p (Some pt) (Some e) = by_asks q b p e (asks P s q.rule b e pt.kind)

    module _ (T : Table) where
      -- of the body with this number, where it is there
      abbrev pub by_number : ℕ → Option Item
      by_number p = by_point p (point_at P b p) (env_in T p)

      -- the same of a body that may be missing
      abbrev pub by_body : Option Item
      by_body = first_below by_number (length (points_of (body_at P b)))

  -- the first register that is read where the rule finds the bit lacking
  abbrev pub register_item : List Table → Option Item
  register_item tables = first_below (λ b. by_body b (slice_index_or tables b [])) (length P.bodies)

-- what the first qualifier has and the second lacks: null before under construction
abbrev pub lacking_bit : ℕ → Qualifier → Qualifier → Option Item
lacking_bit k q t = cond (lacks_null q t) (Some (AtSlot k Nullable)) (cond (q.free && not t.free) (Some (AtSlot k Free)) None)

module _ (s : List Qualifier) where
  -- a bit that the first slot has and the second lacks, under the signature; none where there is no first slot
  abbrev pub lacking : Option SlotNo → Option SlotNo → Option Item
  lacking None to = None
  lacking (Some n) to = lacking_bit n.0 (slice_index_or s n.0 no_qual) (slot_qual s to)

  -- slot by slot, the first
  abbrev pub some_lacking : List (Option SlotNo) → List (Option SlotNo) → Option Item
  some_lacking [] ys = None
  some_lacking (x ∷ xs) [] = None
  some_lacking (x ∷ xs) (y ∷ ys) = option_or (lacking x y) (some_lacking xs ys)

  -- what the overridden method's parameters and receiver have and the overrider's lack, or the overrider's result has and the other's lacks
  abbrev pub by_part : Part → Method → Method → Option Item
  by_part OverParameters over lower = some_lacking lower.param_slots over.param_slots
  by_part OverReceiver over lower = lacking lower.receiver over.receiver
  by_part OverResult over lower = lacking over.result_slot lower.result_slot

  -- the same of a pair of methods, an overrider and one that it overrides, where both are there
  abbrev pub by_override : Part → Option Method → Option Method → Option Item
  by_override part None lower = None
  by_override part (Some over) None = None
  by_override part (Some over) (Some lower) = by_part part over lower

-- a method is there, and this is its span
abbrev pub stands_at : Span → Option Method → Bool
stands_at span None = false
stands_at span (Some m) = same_span m.span span

module _ (P : Program) (s : List Qualifier) where
  -- of a method with those that it overrides
  abbrev pub by_lower : Part → Option Method → List ℕ → ℕ → Option Item
  by_lower part over ks i = by_override s part over (method_at P (slice_index_or ks i 0))

  module _ (span : Span) (part : Part) where
    -- where the row points to it
    abbrev pub by_under : Option Method → List ℕ → Option Item
    by_under over ks = cond (stands_at span over) (first_below (by_lower part over ks) (length ks)) None

    -- of the method with this number, where the row points to it
    abbrev pub by_overrider : ℕ → Option Item
    by_overrider m = by_under (method_at P m) (under P m)

    -- of the method at this place of the list of those that override
    abbrev pub by_overriders : ℕ → Option Item
    by_overriders j = by_overrider (slice_index_or (overriders P) j 0)

  -- of a code on overriding, the first slot of such a pair at the span that has a bit which its partner lacks
  abbrev pub slot_item : Span → Option Part → Option Item
  slot_item span None = None
  slot_item span (Some part) = first_below (by_overriders span part) (length (overriders P))

  -- a register where the row is of a value, else a slot of an overriding pair
  abbrev pub item_by : Row → List Table → Option Sought → Option Item
  item_by row tables None = slot_item row.span (part_of row.code)
  item_by row tables (Some q) = register_item P s q tables

  -- the item that the row speaks of, where a chain says something of it
  abbrev pub item_of : Row → List Table → Option Item
  item_of row tables = item_by row tables (sought_of row.span row.code)
