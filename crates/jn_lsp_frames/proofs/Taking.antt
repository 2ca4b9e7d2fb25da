-- Bytes that a reader takes off its input, and frames that it finds.
use Rattle.std.proofs.Common.{◌≡◌, ℕ, ◌+◌, ◌<◌, ◌≤◌, min, Bool, true, false, List, [], ◌∷◌, ◌++◌, length, take, drop, Option, Some, None, Result, Err, refl, sym, ap, ◌∙◌, inl, inr, arith, append-nil, append_assoc, length-append, subst}
use Rattle.std.specs.Prelude.{cond, nat_le}
use Rattle.std.proofs.lemmas.List.{take-append-drop, take-append-le, take_at, length-take-le}
use Rattle.std.proofs.lemmas.Bool.{le-leb, lt-leb}
use Rattle.jn_base.specs.declared.refusal.Fail.{Fail}
use Rattle.jn_base.specs.declared.refusal.Fail.TheVariants.{Refused, OutOfMemory}
use Rattle.jn_lsp_frames.specs.declared.frame.Frame.{Frame}
use Rattle.jn_lsp_frames.specs.declared.frame.Frame.TheVariants.{Body, BadHeader, TooLarge}
use Rattle.jn_lsp_frames.specs.declared.frame.End.TheVariants.{Between, Within}
use Rattle.jn_lsp_frames.specs.declared.frame.Next.{Next}
use Rattle.jn_lsp_frames.specs.declared.frame.Next.TheVariants as next
use Rattle.jn_lsp_frames.specs.declared.reader.Head.TheVariants.{Overlong, Missing}
use Rattle.jn_lsp_frames.specs.Header.{IsHeader, IsBlock, HasNoBlock, Says, ended as ended_lines}
use Rattle.jn_lsp_frames.specs.Frames.{body_length, frame_by, FrameOf, IsPartial}
use Rattle.jn_lsp_frames.proofs.Lines.{one_block}
use Rattle.jn_lsp_frames.proofs.Fields.{one_saying}
use Rattle.jn_lsp_frames.specs.Reading.{Grows, Takes, HasRead, Counts, EndsBefore, Passes, TakesBody, IsHead, StandsSome, TakesSome, HasRest}

-- ---- what was given

pub grows_none : (gave : List ℕ) → Grows gave gave
grows_none gave = ([], sym (append-nil gave))

pub grows_same : (gave now : List ℕ) → now ≡ gave → Grows gave now
grows_same gave now e = ([], e ∙ sym (append-nil gave))

pub grows_by : (gave now more : List ℕ) → now ≡ gave ++ more → Grows gave now
grows_by gave now more e = (more, e)

pub grows_on : (gave now then_ : List ℕ) → Grows gave now → Grows now then_ → Grows gave then_
grows_on gave now then_ a b = (a.0 ++ b.0, b.1 ∙ ap (λ l. l ++ b.0) a.1 ∙ append_assoc gave a.0 b.0)

-- ---- what was taken

pub takes_none : (gave pending : List ℕ) → Takes gave pending gave pending []
takes_none gave pending = record { more = []; given = sym (append-nil gave); parts = append-nil pending }

pub takes_read : (gave pending more now left : List ℕ) → now ≡ gave ++ more → left ≡ pending ++ more → Takes gave pending now left []
takes_read gave pending more now left e f = record { more = more; given = e; parts = sym f }

pub takes_front : (gave pending left : List ℕ) (count : ℕ) → left ≡ drop count pending → Takes gave pending gave left (take count pending)
takes_front gave pending left count e = record { more = []; given = sym (append-nil gave); parts = append-nil pending ∙ sym (take-append-drop count pending) ∙ ap (λ l. take count pending ++ l) (sym e) }

pub takes_on : (gave pending now left then_ rest a b : List ℕ) → Takes gave pending now left a → Takes now left then_ rest b → Takes gave pending then_ rest (a ++ b)
takes_on gave pending now left then_ rest a b x y = record {
  more = x.more ++ y.more;
  given = y.given ∙ ap (λ l. l ++ y.more) x.given ∙ append_assoc gave x.more y.more;
  parts = sym (append_assoc pending x.more y.more) ∙ ap (λ l. l ++ y.more) x.parts ∙ append_assoc a left y.more ∙ ap (λ l. a ++ l) y.parts ∙ sym (append_assoc a b rest);
}

-- what was taken is pending again
pub takes_back : (gave pending now left own : List ℕ) → Takes gave pending now left own → Takes gave pending now (own ++ left) []
takes_back gave pending now left own t = record { more = t.more; given = t.given; parts = t.parts }

pub takes_grows : (gave pending now left own : List ℕ) → Takes gave pending now left own → Grows gave now
takes_grows gave pending now left own t = (t.more, t.given)

-- ---- faults

pub counts_behind : (T E : Type 0) (before now then_ : ℕ) (result : Result T (Fail E)) → now ≡ before → Counts now then_ result → Counts before then_ result
counts_behind T E before now then_ result e c = subst (λ n. Counts n then_ result) e c

pub counts_err : (T U E : Type 0) (before now : ℕ) (fail : Fail E) → Counts {T = T} before now (Err fail) → Counts {T = U} before now (Err fail)
counts_err T U E before now OutOfMemory c = c
counts_err T U E before now (Refused e) c = c

-- ---- headers

pub front_is : (a b x y : List ℕ) → a ++ x ≡ b ++ y → length a ≤ length b → take (length a) b ≡ a
front_is a b x y e le = sym (take-append-le (length a) b y le) ∙ sym (ap (take (length a)) e) ∙ take_at a x (length a) refl

-- no header is there where none stands
pub none_there : (block bytes x y : List ℕ) → IsBlock block → HasNoBlock bytes → block ++ x ≡ bytes ++ y → length block ≤ length bytes → ⊥
none_there block bytes x y is none e within = none block (drop (length block) bytes) is (sym (take-append-drop (length block) bytes) ∙ ap (λ l. l ++ drop (length block) bytes) (front_is block bytes x y e within))

none_in_less : (mid : List ℕ) (most : ℕ) → HasNoBlock mid → HasNoBlock (take most mid)
none_in_less mid most none block behind is e = none block (behind ++ drop most mid) is (sym (take-append-drop most mid) ∙ ap (λ l. l ++ drop most mid) e ∙ append_assoc block behind (drop most mid))

-- ---- frames

large : (count : ℕ) → 16777216 < count → nat_le count 16777216 ≡ false
large count gt = lt-leb count 16777216 gt

pub frame_header : (own block body : List ℕ) (frame : Frame) (lines : List (List ℕ)) (said : Option ℕ) → IsHeader lines block → Says lines said → own ≡ block ++ body → length body ≡ body_length said → frame ≡ frame_by said body → FrameOf own frame
frame_header own block body frame lines said is says parts whole frame_is = inl record { lines = lines; block = block; said = said; body = body; is = is; says = says; whole = whole; parts = parts; frame_is = frame_is }

module _ (ended : Bool) (gave pending now left : List ℕ) where
  abbrev pub Reads : Next → Type 0
  Reads found = HasRead ended gave pending now left found

  pub reads_bad : (end : ℕ) (block : IsBlock (take end pending)) → Says block.lines None → now ≡ gave → left ≡ drop end pending → Reads (next.Frame BadHeader)
  reads_bad end block says e f = (
    take end pending,
    frame_header (take end pending) (take end pending) [] BadHeader block.lines None block.is says (sym (append-nil (take end pending))) refl refl,
    subst (λ n. Takes gave pending n left (take end pending)) (sym e) (takes_front gave pending left end f),
  )

  pub reads_overlong : (mid : List ℕ) → Takes gave pending now mid [] → IsHead ended mid Overlong → left ≡ drop 8192 mid → Reads (next.Frame BadHeader)
  reads_overlong mid t h e =
      let many : length (take 8192 mid) ≡ 8192 = length-take-le 8192 mid h.0 in (
        take 8192 mid,
        inr (record { many = many; none = none_in_less mid 8192 h.1 }, refl),
        takes_on gave pending now mid now left [] (take 8192 mid) t (takes_front now mid left 8192 e),
      )

  pub reads_behind : (then_ mid : List ℕ) → Takes gave pending then_ mid [] → (found : Next) → HasRead ended then_ mid now left found → Reads found
  reads_behind then_ mid t (next.Frame frame) r = (r.0, r.1, takes_on gave pending then_ mid now left [] r.0 t r.2)
  reads_behind then_ mid t (next.End end) r = (r.0, r.1, takes_on gave pending then_ mid now r.1 [] [] t r.2, r.3)

  pub reads_between : Takes gave pending now left [] → IsHead ended left Missing → left ≡ [] → Reads (next.End Between)
  reads_between t h none = (h.0, left, t, none)

-- a frame in the making: where no header ends
pub partial_header : (rest : List ℕ) → length rest < 8192 → HasNoBlock rest → IsPartial rest
partial_header rest few none own behind frame (inl h) e = none h.block (h.body ++ behind) (record { lines = h.lines; is = h.is }) (e ∙ ap (λ l. l ++ behind) h.parts ∙ append_assoc h.block h.body behind)
partial_header rest few none own behind frame (inr o) e = omega (arith, few, ap length e, length-append own behind, o.0.many)

-- and where fewer bytes follow than it says
pub partial_body : (lines : List (List ℕ)) (block front : List ℕ) (count : ℕ) → IsHeader lines block → Says lines (Some count) → length front < count → IsPartial (block ++ front)
partial_body lines block front count is says few own behind frame (inl h) e =
    let all : block ++ front ≡ h.block ++ (h.body ++ behind) = e ∙ ap (λ l. l ++ behind) h.parts ∙ append_assoc h.block h.body behind in
    let one = one_block lines h.lines block h.block front (h.body ++ behind) is h.is all in
    let said : h.said ≡ Some count = one_saying h.lines h.said (Some count) h.says (subst (λ l. Says l (Some count)) one.0 says) in
    let many : length h.body ≡ count = h.whole ∙ ap body_length said in
    omega (arith, few, many, ap length one.2, length-append h.body behind)
partial_body lines block front count is says few own behind frame (inr o) e = none_there block own front behind (record { lines = lines; is = is }) o.0.none e (omega (arith, is.few, o.0.many))

nonempty : (lines : List (List ℕ)) (block front : List ℕ) → IsHeader lines block → block ++ front ≡ [] → ⊥
nonempty lines block front is e = omega (arith, ap length e, length-append block front, ap length is.parts, length-append (ended_lines lines) (13 ∷ 10 ∷ []))

module _ (ended : Bool) (gave pending now left : List ℕ) where
  pub reads_missing : Takes gave pending now left [] → IsHead ended left Missing → (left ≡ [] → ⊥) → HasRead ended gave pending now left (next.End Within)
  reads_missing t h some = (h.0, left, t, (some, partial_header left h.1 h.2))

  pub reads_within : (end count : ℕ) (rest : List ℕ) (block : IsBlock (take end pending)) → Says block.lines (Some count) → rest ≡ drop end pending → EndsBefore ended gave rest now left count → HasRead ended gave pending now left (next.End Within)
  reads_within end count rest block says at b =
      let front = take end pending in
      let t : Takes gave pending now left (front ++ b.2) = takes_on gave pending gave rest now left front b.2 (takes_front gave pending rest end at) b.4 in
      let e : (front ++ b.2) ++ left ≡ front ++ b.2 = ap (λ l. (front ++ b.2) ++ l) b.1 ∙ append-nil (front ++ b.2) in (
        b.0,
        front ++ b.2,
        subst (λ l. Takes gave pending now l []) e (takes_back gave pending now left (front ++ b.2) t),
        (nonempty block.lines front b.2 block.is, partial_body block.lines front b.2 count block.is says b.3),
      )

-- ---- after a header

module _ (ended : Bool) (gave pending now left : List ℕ) (count : ℕ) where
  pub rest_large : 16777216 < count → Passes ended gave pending now left count true → HasRest ended gave pending now left count (next.Frame TooLarge)
  rest_large gt p = (p.0, p.1, sym (ap (λ b. cond b (Body p.0) TooLarge) (large count gt)), p.2)

  pub rest_body : (body : List ℕ) → count ≤ 16777216 → TakesBody ended gave pending now left count (Some body) → HasRest ended gave pending now left count (next.Frame (Body body))
  rest_body body le t = (body, t.0, sym (ap (λ b. cond b (Body body) TooLarge) (le-leb count 16777216 le)), t.1)

  pub rest_within : EndsBefore ended gave pending now left count → HasRest ended gave pending now left count (next.End Within)
  rest_within b = (refl, b)

pub reads_rest : (ended : Bool) (gave pending now left : List ℕ) (end count : ℕ) (rest : List ℕ) (block : IsBlock (take end pending)) → Says block.lines (Some count) → rest ≡ drop end pending → (found : Next) → HasRest ended gave rest now left count found → HasRead ended gave pending now left found
reads_rest ended gave pending now left end count rest block says at (next.Frame frame) r = (
  take end pending ++ r.0,
  frame_header (take end pending ++ r.0) (take end pending) r.0 frame block.lines (Some count) block.is says refl r.1 r.2,
  takes_on gave pending gave rest now left (take end pending) r.0 (takes_front gave pending rest end at) r.3,
)
reads_rest ended gave pending now left end count rest block says at (next.End end_) r =
    subst (λ e. HasRead ended gave pending now left (next.End e)) (sym r.0) (reads_within ended gave pending now left end count rest block says at r.1)

-- ---- steps of the loops

pub takes_still : (gave pending now left then_ rest : List ℕ) → Takes gave pending now left [] → Takes now left then_ rest [] → Takes gave pending then_ rest []
takes_still gave pending now left then_ rest x y = takes_on gave pending now left then_ rest [] [] x y

pub more_body : (gave pending now left then_ rest body own next_ : List ℕ) → next_ ≡ body ++ own → Takes gave pending now left body → Takes now left then_ rest own → Takes gave pending then_ rest next_
more_body gave pending now left then_ rest body own next_ e x y = subst (λ b. Takes gave pending then_ rest b) (sym e) (takes_on gave pending now left then_ rest body own x y)

empty : (bytes : List ℕ) → (0 < length bytes → ⊥) → bytes ≡ []
empty [] none = refl
empty (byte ∷ bytes) none = absurd (none (omega arith))

pub none_stands : (ended : Bool) (before pending : List ℕ) → (0 < length before → ⊥) → ended ≡ true → pending ≡ before → StandsSome ended pending false
none_stands ended before pending none e f = (e, f ∙ empty before none)

module _ (ended : Bool) (gave pending now left : List ℕ) (most : ℕ) where
  pub some_none : Takes gave pending now left [] → ended ≡ true → left ≡ [] → (own : List ℕ) × TakesSome ended gave pending now left most 0 own
  some_none t e f = ([], record { many = refl; few = omega arith; taken = t; end = λ n. (e, f) })

  pub some_front : (mid : List ℕ) (count : ℕ) → Takes gave pending now mid [] → 0 < length mid → 0 < most → count ≡ min (length mid) most → left ≡ drop count mid → TakesSome ended gave pending now left most count (take count mid)
  some_front mid count t some asked e f = record {
    many = length-take-le count mid (omega (arith, e));
    few = omega (arith, e);
    taken = takes_on gave pending now mid now left [] (take count mid) t (takes_front now mid left count f);
    end = λ z. absurd (omega (arith, z, e, some, asked));
  }

-- the input ended, and what was taken before and now is too short
pub ends_here : (ended : Bool) (gave pending then_ mid now left own more : List ℕ) (all most count : ℕ) → Takes gave pending then_ mid own → length own + most ≡ all → 0 < most → TakesSome ended then_ mid now left most count more → count ≡ 0 → EndsBefore ended gave pending now left all
ends_here ended gave pending then_ mid now left own more all most count t e some k z = (
  (k.end z).0,
  (k.end z).1,
  own ++ more,
  omega (arith, length-append own more, k.many, z, e, some),
  takes_on gave pending then_ mid now left own more t k.taken,
)

pub passes_all : (ended : Bool) (gave pending now left own : List ℕ) (all rest : ℕ) → Takes gave pending now left own → length own + rest ≡ all → (0 < rest → ⊥) → Passes ended gave pending now left all true
passes_all ended gave pending now left own all rest t e none = (own, omega (arith, e, none), t)

pub head_missing : (ended : Bool) (before pending : List ℕ) → pending ≡ before → ended ≡ true → length before < 8192 → HasNoBlock before → IsHead ended pending Missing
head_missing ended before pending e f lt none = subst (λ l. IsHead ended l Missing) (sym e) (f, lt, none)

pub head_overlong : (ended : Bool) (pending : List ℕ) → (length pending < 8192 → ⊥) → HasNoBlock pending → IsHead ended pending Overlong
head_overlong ended pending most none = (omega (arith, most), none)

pub ruleset takings = (grows_none, grows_same, grows_by, grows_on, takes_none, takes_read, takes_front, takes_on, takes_grows, takes_still, counts_behind, counts_err)
