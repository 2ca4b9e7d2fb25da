-- The declarations that a row speaks of, whose notes stand before those of its chain: what takes the value, what is overridden, or the fields that a
-- constructor leaves unassigned.
use Rattle.std.specs.Prelude.{ℕ, ◌+◌, Bool, false, cond, codes, eqb, not, ◌&&◌, List, [], ◌∷◌, ◌++◌, length, flat_map, Option, Some, None, slice_index_or}
use Rattle.std.specs.Option.{option_or}
use Rattle.jn_base.specs.declared.code.Code.{Code}
use Rattle.jn_base.specs.declared.code.Code.TheVariants.{CtorFields}
use Rattle.jn_base.specs.declared.place.Row.{Row}
use Rattle.jn_base.specs.declared.place.Span.{Span}
use Rattle.jn_quals.specs.Qualifier.{Qualifier}
use Rattle.jn_quals.specs.Order.{within}
use Rattle.jn_points.specs.declared.point.Operand.{Operand}
use Rattle.jn_points.specs.declared.point.Point.{Point}
use Rattle.jn_points.specs.declared.point.PointKind.{PointKind}
use Rattle.jn_points.specs.declared.point.PointKind.TheVariants.{FieldWrite, New, CtorCall, Call, Return}
use Rattle.jn_points.specs.declared.program.Body.{Body}
use Rattle.jn_points.specs.declared.program.Method.{Method}
use Rattle.jn_points.specs.declared.program.Program.{Program}
use Rattle.jn_points.specs.Lookup.{body_at, field_info, method_at, method_in, point_at, points_of, slots_of}
use Rattle.jn_points.specs.Members.{below}
use Rattle.jn_sigs.specs.Signature.{field_qual, receiver_of, result_of, slot_qual, slot_quals}
use Rattle.jn_env.specs.Environment.{Env}
use Rattle.jn_env.specs.Keys.{is_on, own_keys}
use Rattle.jn_env.specs.Order.{Table, env_in, qual_at}
use Rattle.jn_transfer.specs.Pairs.{overriders, under}
use Rattle.jn_transfer.specs.Rules.{lacks_init, lacks_null}
use Rattle.jn_reasons_law.specs.declared.item.Bit.{Bit}
use Rattle.jn_reasons_law.specs.declared.item.Bit.TheVariants.{Nullable, Committed, Free}
use Rattle.jn_note_words.specs.declared.note.Note.{Note}
use Rattle.jn_note_words.specs.declared.owners.Owner.{Owner}
use Rattle.jn_note_words.specs.declared.owners.Owner.TheVariants.{OfField, OfParameter, OfReceiver, OfResult}
use Rattle.jn_notes.specs.declared.pairs.Part.{Part}
use Rattle.jn_notes.specs.declared.pairs.Part.TheVariants.{OverParameters, OverReceiver, OverResult}
use Rattle.jn_notes.specs.declared.reads.Rule.{Rule}
use Rattle.jn_notes.specs.declared.reads.Rule.TheVariants.{Dereference, Write, Argument, Receiver, Result as ResultRule, Local as LocalRule, Element}
use Rattle.jn_notes.specs.declared.reads.Sought.{Sought}
use Rattle.jn_notes.specs.declared.topics.Topic.{Topic}
use Rattle.jn_notes.specs.declared.topics.Topic.TheVariants.{Takes, Overridden, Unassigned}
use Rattle.jn_notes.specs.Asked.{part_of, same_span, sought_of, stands_at}
use Rattle.jn_notes.specs.Asks.{write_taken}
use Rattle.jn_note_words.specs.Owned.{first_below}
use Rattle.jn_note_words.specs.Worded.{field_name, owner_span, owner_words}

-- ---- what takes a value

-- a value that goes to what has a slot, and what may be taken there
pub record Pass : Type 0 where
  pub value : Operand
  pub taken : Qualifier
  pub to : Owner

-- the same from its parts
abbrev pub pass : Operand → Qualifier → Owner → Pass
pass value taken to = record { value = value; taken = taken; to = to }

-- the same of a value that may be absent
abbrev pub pass_if : Option Operand → Qualifier → Owner → List Pass
pass_if None taken to = []
pass_if (Some value) taken to = pass value taken to ∷ []

-- arguments of a method, each to its parameter, the first of them to that of number i
abbrev pub pass_args : ℕ → ℕ → List Qualifier → List Operand → List Pass
pass_args m i [] args = []
pass_args m i (taken ∷ slots) [] = []
pass_args m i (taken ∷ slots) (value ∷ args) = pass value taken (OfParameter m i) ∷ pass_args m (i + 1) slots args

-- the number of a body's method
abbrev pub method_no : Option Body → ℕ
method_no None = 0
method_no (Some body) = body.method.0

-- a value isn't taken: since it may be null, or by how far it is constructed
abbrev pub is_refused : Bit → Qualifier → Qualifier → Bool
is_refused Nullable q taken = lacks_null q taken
is_refused Committed q taken = lacks_init q taken
is_refused Free q taken = lacks_init q taken

module _ (P : Program) (s : List Qualifier) where
  -- a value that is written to a field
  abbrev pub write_passes : Env → PointKind → List Pass
  write_passes e (FieldWrite object field value) = pass value (write_taken P s (qual_at e object.reg.0) field.0) (OfField field.0) ∷ []
  write_passes e kind = []

  -- the arguments of a call
  abbrev pub call_passes : ℕ → List Operand → List Pass
  call_passes m args = pass_args m 0 (slot_quals s (slots_of (method_at P m))) args

  -- the same at a point that calls
  abbrev pub argument_passes : PointKind → List Pass
  argument_passes (New dst ctor args) = call_passes ctor.0 args
  argument_passes (CtorCall ctor args own) = call_passes ctor.0 args
  argument_passes (Call dst method receiver direct args) = call_passes method.0 args
  argument_passes kind = []

  -- the receiver of a call
  abbrev pub receiver_passes : PointKind → List Pass
  receiver_passes (Call dst method receiver direct args) = pass_if receiver (receiver_of s (method_at P method.0)) (OfReceiver method.0)
  receiver_passes kind = []

  -- a value that body b returns
  abbrev pub result_passes : ℕ → PointKind → List Pass
  result_passes b (Return value) = pass_if value (result_of s (method_in P b)) (OfResult (method_no (body_at P b)))
  result_passes b kind = []

  -- the values of a point of body b that go by a rule to what is declared
  abbrev pub passes : Rule → ℕ → Env → PointKind → List Pass
  passes Dereference b e kind = []
  passes Write b e kind = write_passes e kind
  passes Argument b e kind = argument_passes kind
  passes Receiver b e kind = receiver_passes kind
  passes ResultRule b e kind = result_passes b kind
  passes LocalRule b e kind = []
  passes Element b e kind = []

module _ (q : Sought) (e : Env) where
  -- where a value goes that stands there and isn't taken
  abbrev pub by_pass : Pass → Option Owner
  by_pass x = cond (same_span x.value.span q.span && is_refused q.bit (qual_at e x.value.reg.0) x.taken) (Some x.to) None

  -- of the first of these values that is so
  abbrev pub by_passes : List Pass → Option Owner
  by_passes [] = None
  by_passes (x ∷ xs) = option_or (by_pass x) (by_passes xs)

module _ (P : Program) (s : List Qualifier) (q : Sought) where
  module _ (b : ℕ) where
    -- at a point, where it is reached
    abbrev pub taker_by : Option Point → Option Env → Option Owner
    taker_by None o = None
    taker_by (Some pt) None = None
    taker_by (Some pt) (Some e) = by_passes q e (passes P s q.rule b e pt.kind)

    module _ (T : Table) where
      -- at the point of this number
      abbrev pub taker_at : ℕ → Option Owner
      taker_at p = taker_by (point_at P b p) (env_in T p)

      -- at the first of the body's points where there is one
      abbrev pub taker_in : Option Owner
      taker_in = first_below taker_at (length (points_of (body_at P b)))

  -- what takes the row's value where its rule is broken, by body, point and operand the first
  abbrev pub taker : List Table → Option Owner
  taker tables = first_below (λ b. taker_in b (slice_index_or tables b [])) (length P.bodies)

-- ---- what is overridden

-- an owner, unless the first qualifier is within the other
abbrev pub if_outside : Qualifier → Qualifier → Owner → Option Owner
if_outside x y owner = cond (within x y) None (Some owner)

module _ (k : ℕ) where
  -- the first of the parameters of method k, from that of number i on, that takes what the overrider's doesn't
  abbrev pub first_outside : ℕ → List Qualifier → List Qualifier → Option Owner
  first_outside i [] over = None
  first_outside i (x ∷ lower) [] = None
  first_outside i (x ∷ lower) (y ∷ over) = option_or (if_outside x y (OfParameter k i)) (first_outside (i + 1) lower over)

  module _ (s : List Qualifier) where
    -- what a method narrows or widens of method k, which it overrides
    abbrev pub changed : Part → Method → Method → Option Owner
    changed OverParameters over lower = first_outside 0 (slot_quals s lower.param_slots) (slot_quals s over.param_slots)
    changed OverReceiver over lower = if_outside (slot_qual s lower.receiver) (slot_qual s over.receiver) (OfReceiver k)
    changed OverResult over lower = if_outside (slot_qual s over.result_slot) (slot_qual s lower.result_slot) (OfResult k)

    -- the same where both are there
    abbrev pub changed_in : Part → Option Method → Option Method → Option Owner
    changed_in part None lower = None
    changed_in part (Some over) None = None
    changed_in part (Some over) (Some lower) = changed part over lower

module _ (P : Program) (s : List Qualifier) where
  -- of those that a method overrides, the one at place i
  abbrev pub changed_at : Part → Option Method → List ℕ → ℕ → Option Owner
  changed_at part over ks i = changed_in (slice_index_or ks i 0) s part over (method_at P (slice_index_or ks i 0))

  module _ (span : Span) (part : Part) where
    -- of a method with those that it overrides, where the row points to it
    abbrev pub changed_by : Option Method → List ℕ → Option Owner
    changed_by over ks = cond (stands_at span over) (first_below (changed_at part over ks) (length ks)) None

    -- of the method at this place of the list of those that override
    abbrev pub overridden_at : ℕ → Option Owner
    overridden_at j = changed_by (method_at P (slice_index_or (overriders P) j 0)) (under P (slice_index_or (overriders P) j 0))

    -- what the first overrider at the place changes of the first method of which it changes this part
    abbrev pub overridden_of : Option Owner
    overridden_of = first_below overridden_at (length (overriders P))

-- ---- what is left unassigned

-- a field with the place of a return, where there is such
abbrev pub left_by : ℕ → Option Span → List Topic
left_by f None = []
left_by f (Some span) = Unassigned f span ∷ []

module _ (own : List ℕ) where
  -- a return at which the field isn't assigned, where these are the fields of the constructor's class
  abbrev pub leaves_of : ℕ → PointKind → Env → Bool
  leaves_of f (Return value) e = not (is_on (λ k. eqb k f) own e.assigned)
  leaves_of f kind e = false

  -- the same of a point, where it is reached
  abbrev pub leaves : ℕ → PointKind → Option Env → Bool
  leaves f kind None = false
  leaves f kind (Some e) = leaves_of f kind e

  module _ (T : Table) (f : ℕ) where
    -- the place of the first such, among points that stand from number p on
    abbrev pub left_from : List Point → ℕ → Option Span
    left_from [] p = None
    left_from (pt ∷ pts) p = cond (leaves f pt.kind (env_in T p)) (Some pt.span) (left_from pts (p + 1))

module _ (P : Program) (s : List Qualifier) where
  -- a field whose slot takes no null, where it is left
  abbrev pub left_of : List Point → List ℕ → Table → ℕ → List Topic
  left_of points own T f = cond (field_qual P s f).null [] (left_by f (left_from own T f points 0))

  -- the fields of the class of body b, a constructor's, that are left, in their order
  abbrev pub all_left : ℕ → Table → List Topic
  all_left b T = flat_map (left_of (points_of (body_at P b)) (own_keys P b) T) (own_keys P b)

  -- those of a body, where it is of what is declared at the span
  abbrev pub left_in : Span → List Table → ℕ → List Topic
  left_in span tables b = cond (stands_at span (method_in P b)) (all_left b (slice_index_or tables b [])) []

  -- the fields that a row of a constructor speaks of
  abbrev pub left_for : Span → Code → List Table → List Topic
  left_for span CtorFields tables = flat_map (left_in span tables) (below (length P.bodies))
  left_for span code tables = []

-- ---- of a row

-- what takes a value, where there is such
abbrev pub takes_by : Option Owner → List Topic
takes_by None = []
takes_by (Some owner) = Takes owner ∷ []

-- what is overridden, where there is such
abbrev pub overridden_by : Option Owner → List Topic
overridden_by None = []
overridden_by (Some owner) = Overridden owner ∷ []

module _ (P : Program) (s : List Qualifier) where
  -- of a row of a value
  abbrev pub takes_of : Option Sought → List Table → List Topic
  takes_of None tables = []
  takes_of (Some q) tables = takes_by (taker P s q tables)

  -- of a row of an overriding pair
  abbrev pub overrides_of : Span → Option Part → List Topic
  overrides_of span None = []
  overrides_of span (Some part) = overridden_by (overridden_of P s span part)

  -- what a row speaks of: no row is of two of these kinds
  abbrev pub topics_of : Row → List Table → List Topic
  topics_of row tables = takes_of (sought_of row.span row.code) tables ++ overrides_of row.span (part_of row.code) ++ left_for P s row.span row.code tables

-- ---- in words

-- where a field is left unassigned: a return that stands where the constructor is declared is its end
abbrev pub left_words : Span → Span → List ℕ
left_words span end = cond (same_span end span) (codes "` is left unassigned at the end of the constructor at") (codes "` is left unassigned by the return at")

module _ (P : Program) where
  -- where that is of which a row speaks
  abbrev pub topic_span : Topic → Span
  topic_span (Takes owner) = owner_span P (Some owner)
  topic_span (Overridden owner) = owner_span P (Some owner)
  topic_span (Unassigned f end) = end

module _ (P : Program) (names : List (List ℕ)) where
  -- what has a slot, after a text
  abbrev pub owned_words : List ℕ → Owner → List ℕ
  owned_words front owner = front ++ owner_words P names (Some owner) ++ codes ", as declared at"

  -- a field that a constructor at the span leaves
  abbrev pub unassigned_words : Span → ℕ → Span → List ℕ
  unassigned_words span f end = codes "the field `" ++ field_name names (field_info P f) ++ left_words span end

  -- what a row at the span speaks of, in words up to the place that is named after them
  abbrev pub topic_words : Span → Topic → List ℕ
  topic_words span (Takes owner) = owned_words (codes "it goes to ") owner
  topic_words span (Overridden owner) = owned_words (codes "it overrides ") owner
  topic_words span (Unassigned f end) = unassigned_words span f end

  -- the note of what a row at the span speaks of
  abbrev pub topic_note : Span → Topic → Note
  topic_note span topic = record { joined = false; ends = false; words = topic_words span topic; span = topic_span P topic }
