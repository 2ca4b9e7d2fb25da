-- The raise machine: the words of a table, what each pass knows, and the rule that holds between any two steps.
use Rattle.std.specs.Prelude.{◌≡◌, ℕ, zero, suc, ◌+◌, ◌-◌, ◌*◌, ◌/◌, ◌%◌, ◌^◌, min, ◌<◌, ◌≤◌, ◌==◌, ◌&&◌, not, Bool, true, false, if◌then◌else◌, Option, Some, None, ◌⊎◌, List, [], ◌∷◌, ◌++◌, length, map, replicate, filter, slice_index, slice_set, bit_or, sum_by, take}
use Rattle.std.specs.List.{range_with_len, list_any}
use Rattle.std.specs.Int.{bit_at, bit_not}
use mir.Syntax.{w64}
use mir.Val.{bits}
use mathlib.Core.Option.{some}
use lib.ListN.{get_elem?}
use Rattle.atomic_table.specs.Table.{State, Me, Step}
use Rattle.atomic_table.specs.Seated.{TableId}
use Rattle.atomic_table.specs.declared.shared.Seat.{Seat}
use Rattle.jn_sigtable.specs.declared.view.View.{View}
use Rattle.jn_sigtable.specs.declared.view.Setting.{Setting}
use Rattle.jn_sigtable.specs.System.{System, IsClosed, Within, bits_for, Covers, least, limit_of, risen}

abbrev pub Has : List ℕ → ℕ → Type 0
Has [] x = ⊥
Has (y ∷ ys) x = (y ≡ x) ⊎ Has ys x

abbrev pub has : List ℕ → ℕ → Bool
has xs x = list_any (λ y. y == x) xs

-- the one at x, and all ones but that
abbrev pub one_at : ℕ → ℕ
one_at x = 1 * 2 ^ x % 2 ^ bits w64

abbrev pub all_but : ℕ → ℕ
all_but x = bit_not w64 (one_at x)

-- the bits of dirty word d have the body's bit
abbrev pub is_marked : ℕ → ℕ → ℕ → Bool
is_marked d ones b = (b / 64 == d) && (bit_at ones (b % 64) == 1)

-- bit p of dirty word d is body 64 * d + p
abbrev pub dirty_words : System → ℕ
dirty_words sys = (sys.bodies + 63) / 64

-- the bits of all bodies of dirty word d
abbrev pub dirty_bits : ℕ → ℕ → ℕ
dirty_bits bodies d = 2 ^ min 64 (bodies - d * 64) - 1

abbrev pub IsDirty : System → List ℕ → ℕ → Type 0
IsDirty sys words b = bit_at (slice_index words (sys.words + b / 64)) (b % 64) ≡ 1

-- how many of the first n bodies are dirty
unfoldable pub dirty_below : System → List ℕ → ℕ → ℕ
dirty_below sys words zero = 0
dirty_below sys words (suc n) = dirty_below sys words n + bit_at (slice_index words (sys.words + n / 64)) (n % 64)

abbrev pub bodies_where : System → (ℕ → Bool) → List ℕ
bodies_where sys test = filter test (range_with_len 0 sys.bodies)

-- what the body outputs on the first words stands in them
abbrev pub IsClosedFor : System → List ℕ → ℕ → Type 0
IsClosedFor sys words b =
    (on : List ℕ) → length on ≡ sys.words → ((u : ℕ) → u < sys.words → slice_index on u ≡ slice_index words u)
    → (w : ℕ) → w < sys.words → Within (bits_for (sys.output b on) w) (slice_index words w)

abbrev pub own_marked : Option ℕ → ℕ → ℕ → Bool
own_marked None d ones = false
own_marked (Some b) d ones = is_marked d ones b

abbrev pub own_owed : Option ℕ → List ℕ → Bool
own_owed None marks = false
own_owed (Some b) marks = has marks b

-- the last number of a share, and the share where it is one more
abbrev pub last_of : List ℕ → ℕ
last_of [] = 0
last_of (d ∷ []) = d
last_of (d ∷ e ∷ es) = last_of (e ∷ es)

abbrev pub raised_last : List ℕ → List ℕ
raised_last [] = []
raised_last (d ∷ []) = (d + 1) ∷ []
raised_last (d ∷ e ∷ es) = d ∷ raised_last (e ∷ es)

module _ {C : Type 0} where
  -- ---- of one view, over a system
  -- every word that the body reads was read
  abbrev pub HasReadAll : System → View C → ℕ → Type 0
  HasReadAll sys v b = (w : ℕ) → w < sys.words → sys.reads b w ≡ true → Has v.read w

  -- all its output on these values was raised
  abbrev pub HasRaisedAll : System → View C → ℕ → Type 0
  HasRaisedAll sys v b = (w : ℕ) → w < sys.words → Within (bits_for (sys.output b v.values) w) (bits_for v.raised w)

  abbrev pub IsFinished : System → View C → ℕ → Type 0
  IsFinished sys v b = HasReadAll sys v b × HasRaisedAll sys v b

  -- the pass runs no body or a finished one, and owes no mark
  abbrev pub IsAtRest : System → View C → Type 0
  IsAtRest sys v = (v.owed ≡ []) × ((b : ℕ) → v.body ≡ Some b → IsFinished sys v b)

  -- what it read so far is what stands there now
  abbrev pub IsCurrent : System → ℕ → View C → List ℕ → Type 0
  IsCurrent sys b v words = (w : ℕ) → w < sys.words → sys.reads b w ≡ true → Has v.read w → slice_index v.values w ≡ slice_index words w

  -- a joined pass is spent: it has no share
  abbrev pub IsLive : View C → Type 0
  IsLive v = 0 < length v.share

  pub data IsCovered (sys : System) (words : List ℕ) (views : List (View C)) (b : ℕ) : Type 0 where
    closed : IsClosedFor sys words b → IsCovered sys words views b
    dirty : IsDirty sys words b → IsCovered sys words views b
    owed : (i : ℕ) (v : View C) → get_elem? views i ≡ some v → IsLive v → Has v.owed b → IsCovered sys words views b
    run : (i : ℕ) (v : View C) → get_elem? views i ≡ some v → IsLive v → v.body ≡ Some b → IsCurrent sys b v words → IsCovered sys words views b

  -- some pass hasn't seen the body's bit clear
  abbrev pub IsUnseen : List (View C) → ℕ → Type 0
  IsUnseen views b = (i : ℕ) × (v : View C) × (get_elem? views i ≡ some v) × IsLive v × ¬ Has v.clear b

  -- the number d of a share stands for the part 2 ^ (e - d) of 2 ^ e
  abbrev pub weight : ℕ → View C → ℕ
  weight e v = sum_by (λ d. 2 ^ (e - d)) v.share

  abbrev pub IsFine : ℕ → List (View C) → Type 0
  IsFine e views = (i : ℕ) (v : View C) → get_elem? views i ≡ some v → (d : ℕ) → Has v.share d → d ≤ e

  -- the shares of all passes add up to one
  abbrev pub AddUp : List (View C) → Type 0
  AddUp views = (e : ℕ) → IsFine e views → sum_by (weight e) views ≡ 2 ^ e

  -- its share adds up to one
  abbrev pub IsWhole : View C → Type 0
  IsWhole v = (e : ℕ) → ((d : ℕ) → Has v.share d → d ≤ e) → weight e v ≡ 2 ^ e

  -- the bodies that a pass has taken and not given back
  abbrev pub taken_in : View C → ℕ
  taken_in v = v.taken

  -- these, and the marks that it owes
  abbrev pub held : View C → ℕ
  held v = v.taken + length v.owed

  -- what all passes hold and the dirty bits are together at most one for each body, and one more for each body and each bit above the start.
  -- A pass that runs a body has taken one
  pub record IsCounted (sys : System) (start words : List ℕ) (views : List (View C)) : Type 0 where
    pub most : sum_by held views + dirty_below sys words sys.bodies ≤ sys.bodies + sys.bodies * risen sys start words
    pub runs : (i : ℕ) (v : View C) → get_elem? views i ≡ some v → IsLive v → (b : ℕ) → v.body ≡ Some b → 0 < v.taken

  -- what a view says of the words
  pub record IsBelow (sys : System) (words : List ℕ) (v : View C) : Type 0 where
    pub count : length v.values ≡ sys.words
    pub values : Covers sys.words v.values words
    pub raised : (w : ℕ) → w < sys.words → Within (bits_for v.raised w) (slice_index words w)
    pub inside : (b : ℕ) → v.body ≡ Some b → b < sys.bodies

-- a seat of this table, whose view has its system and the most bodies that its passes may take
abbrev pub IsSeatOf : {C : Type 0} → TableId → C → ℕ → Seat ℕ (View C) → Type 0
IsSeatOf table it most seat = (seat.table_id ≡ table) × (seat.me.0.system ≡ it) × (seat.me.0.limit ≡ most)

-- the pass has taken, and not given back, no more bodies than all passes together may
abbrev pub IsBounded : {C : Type 0} → View C → Type 0
IsBounded v = v.taken ≤ v.limit

-- the bits that may be marked: those that are owed, and the running body's own
abbrev pub MayMark : {C : Type 0} → View C → ℕ → ℕ → Type 0
MayMark v d ones = (b : ℕ) → is_marked d ones b ≡ true → Has v.owed b ⊎ (v.body ≡ Some b)

-- the pass runs a body that reads the word
abbrev pub MayRead : {C : Type 0} → System → View C → ℕ → Type 0
MayRead sys v w = (b : ℕ) × (v.body ≡ Some b) × (sys.reads b w ≡ true)

-- all words that its body reads were read, and the bits are of its output on them
abbrev pub MayRaise : {C : Type 0} → System → View C → ℕ → ℕ → Type 0
MayRaise sys v w ones = (b : ℕ) × (v.body ≡ Some b) × HasReadAll sys v b × Within ones (bits_for (sys.output b v.values) w)

module _ {C : Type 0} (describe : C → System) where
  abbrev pub sys_of : View C → System
  sys_of v = describe v.system

  abbrev pub words_of : C → ℕ
  words_of it = (describe it).words + dirty_words (describe it)

  abbrev pub IsIdle : View C → Type 0
  IsIdle v = IsAtRest (describe v.system) v

  -- ---- what each step makes of a view
  abbrev pub taken_up : View C → ℕ → View C
  taken_up v b = record v { body = Some b; values = replicate (sys_of v).words 0; read = []; raised = []; clear = []; taken = v.taken + 1 }

  abbrev pub found_clear : View C → ℕ → View C
  found_clear v b = record v { body = None; clear = b ∷ v.clear }

  abbrev pub after_take : View C → ℕ → ℕ → View C
  after_take v b n = if bit_at n (b % 64) == 1 then taken_up v b else found_clear v b

  abbrev pub after_read : View C → ℕ → ℕ → View C
  after_read v w n = record v { values = slice_set v.values w n; read = w ∷ v.read }

  abbrev pub after_raise : View C → ℕ → ℕ → ℕ → View C
  after_raise v w ones n = record v {
    raised = (record { 0 = w }, ones) ∷ v.raised;
    owed = if bit_or n ones == n then v.owed else (v.owed ++ bodies_where (sys_of v) (λ b. (sys_of v).reads b w));
  }

  -- the marks that are set are no longer owed, and a body that marks itself ends
  abbrev pub after_mark : View C → ℕ → ℕ → View C
  after_mark v d ones = record v {
    owed = filter (λ b. not (is_marked d ones b)) v.owed;
    clear = [];
    body = if own_marked v.body d ones then None else v.body;
    taken = if own_marked v.body d ones && not (own_owed v.body v.owed) then (v.taken - 1) else v.taken;
  }

  abbrev pub after_scan : View C → ℕ → ℕ → View C
  after_scan v d n = record v { body = None; clear = v.clear ++ bodies_where (sys_of v) (λ b. (b / 64 == d) && (bit_at n (b % 64) == 0)) }

  -- the signature words that the table begins with
  abbrev pub start_of : Setting C → List ℕ
  start_of k = take (describe k.system).words k.words.items

  -- ---- the rule
  pub record Holds (k : Setting C) (s : State ℕ (View C)) : Type 0 where
    pub count : length s.words ≡ (describe k.system).words + dirty_words (describe k.system)
    pub start : Covers (describe k.system).words (start_of k) s.words
    pub below : Covers (describe k.system).words s.words (least (describe k.system) (start_of k))
    pub top : IsClosed (describe k.system) (least (describe k.system) (start_of k))
    pub fixed : (i : ℕ) (v : View C) → get_elem? s.views i ≡ some v → IsLive v → v.system ≡ k.system
    pub limited : (i : ℕ) (v : View C) → get_elem? s.views i ≡ some v → IsLive v → v.limit ≡ limit_of (describe k.system) (start_of k)
    pub fits : (i : ℕ) (v : View C) → get_elem? s.views i ≡ some v → IsLive v → IsBelow (describe k.system) s.words v
    pub cover : (b : ℕ) → b < (describe k.system).bodies → IsCovered (describe k.system) s.words s.views b
    pub scanned : (b : ℕ) → b < (describe k.system).bodies → IsDirty (describe k.system) s.words b → IsUnseen s.views b
    pub shares : AddUp s.views
    pub counted : IsCounted (describe k.system) (start_of k) s.words s.views

  -- ---- what each step tells
  abbrev pub Takes : Step ℕ → Me ℕ (View C) → ℕ → Me ℕ (View C) → Type 0
  Takes s me n after = ((b : ℕ) → s.word ≡ (sys_of me.0).words + b / 64 → s.first ≡ all_but (b % 64) → after ≡ (after_take me.0 b n, me.1)) × IsBounded after.0

  abbrev pub Reads : Step ℕ → Me ℕ (View C) → ℕ → Me ℕ (View C) → Type 0
  Reads s me n after = after ≡ (after_read me.0 s.word n, me.1)

  abbrev pub Raises : Step ℕ → Me ℕ (View C) → ℕ → Me ℕ (View C) → Type 0
  Raises s me n after = after ≡ (after_raise me.0 s.word s.first n, me.1)

  abbrev pub Marks : Step ℕ → Me ℕ (View C) → ℕ → Me ℕ (View C) → Type 0
  Marks s me n after = (d : ℕ) → s.word ≡ (sys_of me.0).words + d → after ≡ (after_mark me.0 d s.first, me.1)

  abbrev pub Scans : Step ℕ → Me ℕ (View C) → ℕ → Me ℕ (View C) → Type 0
  Scans s me n after = ((d : ℕ) → s.word ≡ (sys_of me.0).words + d → after ≡ (after_scan me.0 d n, me.1)) × IsBounded after.0

  -- ---- split and join
  abbrev pub left_of : View C → View C
  left_of v = record v { share = raised_last v.share }

  abbrev pub right_of : View C → View C
  right_of v = record v {
    body = None;
    values = replicate (sys_of v).words 0;
    read = [];
    raised = [];
    owed = [];
    clear = [];
    taken = 0;
    share = (last_of v.share + 1) ∷ [];
  }

  abbrev pub both_of : View C → View C → View C
  both_of v w = record v { clear = filter (has w.clear) v.clear; taken = v.taken + w.taken; share = v.share ++ w.share }

  -- the view of the first pass of a table
  abbrev pub new_view : C → List ℕ → View C
  new_view it start = record {
    system = it;
    limit = limit_of (describe it) start;
    body = None;
    values = replicate (describe it).words 0;
    read = [];
    raised = [];
    owed = [];
    clear = [];
    taken = 0;
    share = 0 ∷ [];
  }

  abbrev pub first_view : Setting C → View C
  first_view k = new_view k.system (start_of k)

-- a spent pass has no system: the rule is over optional ones
abbrev pub no_system : System
no_system = record { bodies = 0; words = 0; reads = λ b w. false; output = λ b ws. [] }

module _ {C : Type 0} (describe : C → System) where
  abbrev pub described : Option C → System
  described None = no_system
  described (Some it) = describe it

abbrev pub spent : {C : Type 0} → View (Option C)
spent = record { system = None; limit = 0; body = None; values = []; read = []; raised = []; owed = []; clear = []; taken = 0; share = [] }

abbrev pub left_seen : {C : Type 0} → (C → System) → View (Option C) → View (Option C)
left_seen describe v = left_of (described describe) v

abbrev pub right_seen : {C : Type 0} → (C → System) → View (Option C) → View (Option C)
right_seen describe v = right_of (described describe) v

abbrev pub both_seen : {C : Type 0} → (C → System) → View (Option C) → View (Option C) → View (Option C)
both_seen describe v w = both_of (described describe) v w

abbrev pub new_seen : {C : Type 0} → (C → System) → C → List ℕ → View (Option C)
new_seen describe it start = new_view (described describe) (Some it) start

-- the words of a table at the start: every body is dirty
abbrev pub opening_words : System → List ℕ → List ℕ
opening_words sys start = start ++ map (dirty_bits sys.bodies) (range_with_len 0 (dirty_words sys))

-- the pass has seen every body's bit clear
abbrev pub HasSeenAll : {C : Type 0} → System → View C → Type 0
HasSeenAll sys v = (b : ℕ) → b < sys.bodies → Has v.clear b

-- the words of a table when it is closed
abbrev pub AreBetween : System → List ℕ → List ℕ → Type 0
AreBetween sys start words = (length words ≡ sys.words) × Covers sys.words start words × Covers sys.words words (least sys start)

-- a whole pass at rest that has seen every body's bit clear
abbrev pub HasAll : {C : Type 0} → System → View C → Type 0
HasAll sys v = IsWhole v × IsAtRest sys v × HasSeenAll sys v
