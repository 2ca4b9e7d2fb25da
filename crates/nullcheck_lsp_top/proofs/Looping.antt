-- The loop, frame by frame.
use Rattle.std.proofs.Common.{◌≡◌, ℕ, suc, ◌+◌, ◌≤◌, ◌++◌, true, false, List, [], ◌∷◌, get_or, length, take, Option, Some, None, Err, inl, inr, refl, sym, ap, ◌∙◌, subst, append_assoc, append-nil, arith, length-append}
use Rattle.std.specs.Prelude.{◌⊎◌}
use Rattle.std.proofs.lemmas.List.Elements.{All-append, All-nil}
use Rattle.jn_base.specs.declared.refusal.Fail.{Fail}
use Rattle.jn_base.specs.declared.refusal.Fail.TheVariants.{Refused, OutOfMemory as Short}
use Rattle.jn_outside.specs.Causes.{Rose}
use Rattle.jn_outside.specs.Files.{Holding}
use Rattle.jn_outside.specs.Sink.{Appends, AppendsPrefix}
use Rattle.jn_lsp_frames.specs.Asking.{Asks, IsAsked}
use Rattle.jn_lsp_frames.specs.declared.asking.Asking.{Asking}
use Rattle.jn_lsp_frames.specs.declared.frame.End.{End}
use Rattle.jn_lsp_frames.specs.declared.frame.End.TheVariants.{Between, Within}
use Rattle.jn_lsp_frames.specs.declared.frame.Frame.{Frame}
use Rattle.jn_lsp_frames.specs.declared.frame.Next.TheVariants as next
use Rattle.jn_lsp_frames.specs.Frames.{IsPartial}
use Rattle.jn_lsp_frames.specs.Reading.{Counts, EndsSo, Gives, Grows, HasRead, Lacks}
use Rattle.jn_lsp_frames.proofs.OneReading.{gives_end, gives_grown, gives_more, gives_none}
use Rattle.jn_lsp_text.specs.declared.message.Message.{Message}
use Rattle.jn_lsp_text.specs.declared.reply.Reply.{Reply}
use Rattle.jn_lsp.specs.declared.phase.Phase.{Phase}
use Rattle.jn_lsp.specs.declared.phase.Phase.TheVariants.{Waiting, Serving, ShutDown, Exited}
use Rattle.nullcheck_lsp_top.specs.declared.client.Client.{Client}
use Rattle.nullcheck_lsp_top.specs.declared.frames.Heard.{Heard}
use Rattle.nullcheck_lsp_top.specs.declared.frames.Heard.TheVariants.{Ends}
use Rattle.nullcheck_lsp_top.specs.declared.status.Status.{Status}
use Rattle.nullcheck_lsp_top.specs.declared.status.Status.TheVariants.{Done, Ended, ReadFault, WriteFault, OutOfMemory, Usage}
use Rattle.jn_cli.specs.declared.server.Setup.{Setup}
use Rattle.nullcheck_lsp_top.specs.Answer.{Answered, AnsweredFirst, Answers, AsksInTime, Begins, BeginsOne, BegunFirst, Breaks, Channels, EndsBy, First, IsAnswer, IsCut, IsDone, IsEnded, IsHeard, IsInTime, Served, Starts, Takes, goes_on, most_messages}
use Rattle.nullcheck_lsp_top.specs.Hearing.{Hears, IsMessageOf, StartsBy, announced, begun, framed}
use Rattle.nullcheck_lsp_top.specs.Looking.{Outside, new_client}
use Rattle.nullcheck_lsp_top.proofs.Hearing.{framed_both, hears_more}

-- ---- bytes that are written

taken_none : (written : Option (List ℕ)) → Appends written written []
taken_none None = refl
taken_none (Some bytes) = ap Some (sym (append-nil bytes))

taken_more : (old mid new : Option (List ℕ)) (front back : List ℕ) → Appends old mid front → Appends mid new back → Appends old new (front ++ back)
taken_more None mid new front back a b = subst (λ (m : Option (List ℕ)). Appends m new back) a b
taken_more (Some bytes) mid new front back a b = subst (λ (m : Option (List ℕ)). Appends m new back) a b ∙ ap Some (append_assoc bytes front back)

take_behind : (front back : List ℕ) (n : ℕ) → take (length front + n) (front ++ back) ≡ front ++ take n back
take_behind [] back n = let s : length {A = ℕ} [] + n ≡ n = omega arith in ap (λ m. take m back) s
take_behind (x ∷ xs) back n = let s : length (x ∷ xs) + n ≡ suc (length xs + n) = omega arith in ap (λ m. take m (x ∷ (xs ++ back))) s ∙ ap (λ ys. x ∷ ys) (take_behind xs back n)

prefix_more : (old mid new : Option (List ℕ)) (front back : List ℕ) → Appends old mid front → AppendsPrefix mid new back → AppendsPrefix old new (front ++ back)
prefix_more old mid new front back a b = record {
  count = length front + b.count;
  within = (let l = length-append front back in let w = b.within in omega (arith, l, w));
  taken = subst (Appends old new) (sym (take_behind front back b.count)) (taken_more old mid new front (take b.count back) a b.taken);
}

-- ---- counts of faults

pub counts_refused : (T E : Type 0) (before now : ℕ) (fail : Fail E) (error : E) → fail ≡ Refused error → Counts {T = T} before now (Err fail) → Rose before now
counts_refused T E before now fail error is counts = (subst (λ f. Counts {T = T} before now (Err f)) is counts).1

pub counts_short : (T E : Type 0) (before now : ℕ) (fail : Fail E) → fail ≡ Short → Counts {T = T} before now (Err fail) → now ≡ before
counts_short T E before now fail is counts = subst (λ f. Counts {T = T} before now (Err f)) is counts

-- ---- a frame

module _ (address : Option (List ℕ)) (held : Option Holding) (from mid to : Option (List ℕ)) (before now : ℕ) (old new : Outside) (client : Client) (frame : Frame) (after : Client) (message : Message) (is : IsMessageOf frame message) (sent : List ℕ) (sent_is : sent ≡ framed address (begun client message)) where
  -- memory wasn't found for the answer to its message
  pub heard_short : Appends from to sent → (new ≡ old) ⊎ StartsBy held old new client message → now ≡ before → IsHeard address held from to before now old new client frame after (Ends OutOfMemory)
  heard_short took starts same = (inr (record { message = message; is = is; taken = subst (Appends from to) sent_is took }, starts), same)

  -- of what is sent before its message is worked on a prefix was written
  pub heard_unbegun : AppendsPrefix from to sent → announced client message ≡ true → new ≡ old → Rose before now → IsHeard address held from to before now old new client frame after (Ends WriteFault)
  heard_unbegun took told same rose = (inr (record { message = message; is = is; taken = subst (AppendsPrefix from to) sent_is took }, told, same), rose)

  -- that was written, and then so much of these bytes
  module _ (bytes : List ℕ) (took : Appends from mid sent) (a : IsAnswer address held old new client message after bytes) where
    all_written : sent ++ bytes ≡ framed address (begun client message ++ a.replies)
    all_written = ap (λ (b : List ℕ). b ++ bytes) sent_is ∙ ap (λ (b : List ℕ). framed address (begun client message) ++ b) a.are ∙ sym (framed_both address (begun client message) a.replies)

    takes_by : (Took : Option (List ℕ) → Option (List ℕ) → List ℕ → Type 0) → Took from to (sent ++ bytes) → Takes address held from to before now old new client frame after Took
    takes_by Took wrote = record { message = message; is = is; replies = begun client message ++ a.replies; hears = a.hears; taken = subst (Took from to) all_written wrote }

    by_phase : (phase : Phase) → after.server.phase ≡ phase → Takes address held from to before now old new client frame after Appends → now ≡ before → IsHeard address held from to before now old new client frame after (goes_on phase)
    by_phase Waiting e t same = (t, same)
    by_phase Serving e t same = (t, same)
    by_phase ShutDown e t same = (t, same)
    by_phase (Exited true) e t same = (t, e, same)
    by_phase (Exited false) e t same = (t, e, same)

    pub heard_whole : (phase : Phase) (result : Heard) → Appends mid to bytes → now ≡ before → phase ≡ after.server.phase → result ≡ goes_on phase → IsHeard address held from to before now old new client frame after result
    heard_whole phase result wrote same e goes = subst (λ (r : Heard). IsHeard address held from to before now old new client frame after r) (sym goes) (by_phase phase (sym e) (takes_by Appends (taken_more from mid to sent bytes took wrote)) same)

    pub heard_broken : AppendsPrefix mid to bytes → Rose before now → IsHeard address held from to before now old new client frame after (Ends WriteFault)
    heard_broken wrote rose = (inl (takes_by AppendsPrefix (prefix_more from mid to sent bytes took wrote)), rose)

-- the input failed where no frame was whole
pub lacks_refused : (T E : Type 0) (Such : List ℕ → Type 0) (gave pending now : List ℕ) (fail : Fail E) (error : E) → fail ≡ Refused error → Lacks {T = T} Such gave pending now (Err fail) → (more : List ℕ) × (now ≡ gave ++ more) × Such (pending ++ more)
lacks_refused T E Such gave pending now fail error is lacks = subst (λ f. Lacks {T = T} Such gave pending now (Err f)) is lacks

-- ---- the loop

-- so much was read, taken and written
pub record Running (setup : Setup) (held : Option Holding) (from to : Channels) (old new : Outside) (turns : ℕ) (pending : List ℕ) (client : Client) : Type 0 where
  pub frames : List Frame
  pub replies : List Reply
  pub served : Served setup.infer held from.given to.given old new frames pending replies client
  pub taken : Appends from.written to.written (framed setup.address replies)
  pub hears : to.hears ≡ from.hears
  pub writes : to.writes ≡ from.writes
  pub many : length frames ≡ turns

pub runs_none : (setup : Setup) (held : Option Holding) (at : Channels) (old : Outside) (pending : List ℕ) (client : Client) → pending ≡ [] → client ≡ new_client setup.infer → Running setup held at at old old 0 pending client
runs_none setup held at old pending client none new = record {
  frames = [];
  replies = [];
  served = record { gives = subst (λ (p : List ℕ). Gives at.given at.given [] p) (sym none) (gives_none at.given); hears = (refl, refl, new) };
  taken = taken_none at.written;
  hears = refl;
  writes = refl;
  many = refl;
}

module _ (setup : Setup) (held : Option Holding) (from mid : Channels) (old out : Outside) (turns : ℕ) (pending : List ℕ) (client : Client) (run : Running setup held from mid old out turns pending client) where
  -- what was read before memory wasn't found, or an output failed
  abbrev first_of : (to : Channels) (new : Outside) → Grows mid.given to.given → First setup held from to old new
  first_of to new grows = record {
    heard = mid.given;
    grows = grows;
    mid = out;
    frames = run.frames;
    pending = pending;
    replies = run.replies;
    client = client;
    served = run.served;
  }

  same_taken : (to : Channels) → to.written ≡ mid.written → Appends from.written to.written (framed setup.address run.replies)
  same_taken to same = subst (λ (w : Option (List ℕ)). Appends from.written w (framed setup.address run.replies)) (sym same) run.taken

  rose_on : (a b c : ℕ) → b ≡ a → Rose b c → Rose a c
  rose_on a b c e r = subst (λ n. Rose n c) e r

  -- the next frame couldn't be read
  pub ends_unread : (to : Channels) (more : List ℕ) → to.given ≡ mid.given ++ more → IsPartial (pending ++ more) → to.written ≡ mid.written → to.writes ≡ mid.writes → Rose mid.hears to.hears → Answers setup held from to old out ReadFault
  ends_unread to more gave partial same writes rose = (
    record {
      frames = run.frames;
      pending = pending ++ more;
      replies = run.replies;
      client = client;
      served = record { gives = gives_grown from.given mid.given to.given more run.frames pending run.served.gives gave; hears = run.served.hears };
      taken = same_taken to same;
      ends = partial;
    },
    rose_on from.hears mid.hears to.hears run.hears rose,
    writes ∙ run.writes,
  )

  pub ends_short : (to : Channels) → Grows mid.given to.given → to.written ≡ mid.written → to.writes ≡ mid.writes → to.hears ≡ mid.hears → Answers setup held from to old out OutOfMemory
  ends_short to grows same writes hears = ((first_of to out grows, inl (refl, same_taken to same)), hears ∙ run.hears, writes ∙ run.writes)

  ends_so : (end : End) (rest : List ℕ) → EndsSo end rest → (rest ≡ []) ⊎ IsPartial rest
  ends_so Between rest so = inl so
  ends_so Within rest so = inr so.1

  -- the input ended
  pub ends_input : (to : Channels) (left : List ℕ) (end : End) → HasRead to.ended mid.given pending to.given left (next.End end) → to.written ≡ mid.written → to.writes ≡ mid.writes → to.hears ≡ mid.hears → Answers setup held from to old out Ended
  ends_input to left end (ended, rest, takes, so) same writes hears = (
    record {
      frames = run.frames;
      pending = rest;
      replies = run.replies;
      client = client;
      served = record { gives = gives_end from.given mid.given to.given run.frames pending rest run.served.gives takes; hears = run.served.hears };
      taken = same_taken to same;
      ends = inr (inl (ended, ends_so end rest so));
    },
    hears ∙ run.hears,
    writes ∙ run.writes,
  )

  pub ends_turns : most_messages ≤ turns → Answers setup held from mid old out Ended
  ends_turns many = (
    record {
      frames = run.frames;
      pending = pending;
      replies = run.replies;
      client = client;
      served = run.served;
      taken = run.taken;
      ends = inr (inr (let e = run.many in omega (arith, many, e)));
    },
    run.hears,
    run.writes,
  )

  -- a frame was read, from `mid` to `read`, and taken, from there to `to`
  module _ (read to : Channels) (new : Outside) (left : List ℕ) (frame : Frame) (after : Client) (has : HasRead read.ended mid.given pending read.given left (next.Frame frame)) (written : read.written ≡ mid.written) (writes : read.writes ≡ mid.writes) (hears : read.hears ≡ mid.hears) (given : to.given ≡ read.given) (heard_same : to.hears ≡ read.hears) where
    Taken : (Option (List ℕ) → Option (List ℕ) → List ℕ → Type 0) → Type 0
    Taken Took = Takes setup.address held read.written to.written read.writes to.writes out new client frame after Took

    served_more : (message : Message) (replies : List Reply) → IsMessageOf frame message → Hears held out new client message replies after → Served setup.infer held from.given to.given old new (run.frames ++ frame ∷ []) left (run.replies ++ replies) after
    served_more message replies is hears_it = record {
      gives = subst (λ (b : List ℕ). Gives from.given b (run.frames ++ frame ∷ []) left) (sym given) (gives_more from.given mid.given read.given run.frames frame pending left has.0 run.served.gives has.1 has.2);
      hears = hears_more held old out new (new_client setup.infer) client after run.frames frame message run.replies replies run.served.hears is hears_it;
    }

    taken_on : (replies : List Reply) → Appends read.written to.written (framed setup.address replies) → Appends from.written to.written (framed setup.address (run.replies ++ replies))
    taken_on replies a = subst (Appends from.written to.written) (sym (framed_both setup.address run.replies replies)) (taken_more from.written mid.written to.written (framed setup.address run.replies) (framed setup.address replies) run.taken (subst (λ (w : Option (List ℕ)). Appends w to.written (framed setup.address replies)) written a))

    prefix_on : (replies : List Reply) → AppendsPrefix read.written to.written (framed setup.address replies) → AppendsPrefix from.written to.written (framed setup.address (run.replies ++ replies))
    prefix_on replies a = subst (AppendsPrefix from.written to.written) (sym (framed_both setup.address run.replies replies)) (prefix_more from.written mid.written to.written (framed setup.address run.replies) (framed setup.address replies) run.taken (subst (λ (w : Option (List ℕ)). AppendsPrefix w to.written (framed setup.address replies)) written a))

    pub runs_more : Takes setup.address held read.written to.written read.writes to.writes out new client frame after Appends → to.writes ≡ read.writes → Running setup held from to old new (turns + 1) left after
    runs_more t same = record {
      frames = run.frames ++ frame ∷ [];
      replies = run.replies ++ t.replies;
      served = served_more t.message t.replies t.is t.hears;
      taken = taken_on t.replies t.taken;
      hears = heard_same ∙ hears ∙ run.hears;
      writes = same ∙ writes ∙ run.writes;
      many = (let l = length-append run.frames (frame ∷ []) in let m = run.many in omega (arith, l, m));
    }

    answered : (Took : Option (List ℕ) → Option (List ℕ) → List ℕ → Type 0) (IsEnd : List Frame → List ℕ → Client → Type 0) (t : Takes setup.address held read.written to.written read.writes to.writes out new client frame after Took) → Took from.written to.written (framed setup.address (run.replies ++ t.replies)) → IsEnd (run.frames ++ frame ∷ []) left after → Answered setup held from to old new Took IsEnd
    answered Took IsEnd t taken ends = record {
      frames = run.frames ++ frame ∷ [];
      pending = left;
      replies = run.replies ++ t.replies;
      client = after;
      served = served_more t.message t.replies t.is t.hears;
      taken = taken;
      ends = ends;
    }

    grown : Grows mid.given to.given
    grown = (has.2.more, given ∙ has.2.given)

    gives_one : Gives from.given to.given (run.frames ++ frame ∷ []) left
    gives_one = subst (λ (b : List ℕ). Gives from.given b (run.frames ++ frame ∷ []) left) (sym given) (gives_more from.given mid.given read.given run.frames frame pending left has.0 run.served.gives has.1 has.2)

    -- what is sent before its message is worked on was written, so much of it
    abbrev begins_one : (Took : Option (List ℕ) → Option (List ℕ) → List ℕ → Type 0) (b : Begins setup.address held read.written to.written read.writes to.writes out new client frame after Took) → Took from.written to.written (framed setup.address (run.replies ++ begun client b.message)) → BeginsOne setup held from to old new Took (first_of to new grown)
    begins_one Took b taken = record { frame = frame; left = left; gives = gives_one; message = b.message; is = b.is; taken = taken }

    -- memory wasn't found for it
    short_one : ((to.written ≡ read.written) × (new ≡ out)) ⊎ Starts setup.address held read.written to.written read.writes to.writes out new client frame after → AnsweredFirst setup held from to old new
    short_one (inl (same, none)) = (first_of to new grown, inl (none, same_taken to (same ∙ written)))
    short_one (inr (one, starts)) = (first_of to new grown, inr (begins_one Appends one (taken_on (begun client one.message) one.taken), starts))

    -- a write of it failed
    broken_one : Takes setup.address held read.written to.written read.writes to.writes out new client frame after AppendsPrefix ⊎ Breaks setup.address held read.written to.written read.writes to.writes out new client frame after → Answered setup held from to old new AppendsPrefix (IsCut setup held from to old new) ⊎ BegunFirst setup held from to old new
    broken_one (inl t) = inl (answered AppendsPrefix (IsCut setup held from to old new) t (prefix_on t.replies t.taken) tt)
    broken_one (inr (one, told, none)) = inr (first_of to new grown, begins_one AppendsPrefix one (prefix_on (begun client one.message) one.taken), told, none)

    pub ends_frame : (status : Status) → EndsBy setup.address held read.written to.written read.writes to.writes out new client frame after status → Answers setup held from to old new status
    ends_frame Done (t, phase, same) = (answered Appends (IsDone setup held from to old new) t (taken_on t.replies t.taken) phase, heard_same ∙ hears ∙ run.hears, same ∙ writes ∙ run.writes)
    ends_frame Ended (t, phase, same) = (answered Appends (IsEnded setup held from to old new) t (taken_on t.replies t.taken) (inl phase), heard_same ∙ hears ∙ run.hears, same ∙ writes ∙ run.writes)
    ends_frame WriteFault (t, rose) = (broken_one t, heard_same ∙ hears ∙ run.hears, rose_on from.writes read.writes to.writes (writes ∙ run.writes) rose)
    ends_frame OutOfMemory (t, kept) = (short_one t, heard_same ∙ hears ∙ run.hears, kept ∙ writes ∙ run.writes)
    ends_frame ReadFault none = absurd none
    ends_frame Usage none = absurd none

-- ---- in time

pub in_time_none : (setup : Setup) (held : Option Holding) (from to : Channels) (old : Outside) → to.asks ≡ from.asks → AsksInTime setup held from to old
in_time_none setup held from to old same = record { own = []; all = same ∙ sym (append-nil from.asks); each = All-nil (IsInTime setup held from old) }

-- the calls for one frame more
pub in_time_more : (setup : Setup) (held : Option Holding) (from mid to : Channels) (old out : Outside) (turns : ℕ) (pending : List ℕ) (client : Client) → Running setup held from mid old out turns pending client → AsksInTime setup held from mid old → Asks IsPartial mid.given pending mid.written mid.asks to.asks → AsksInTime setup held from to old
in_time_more setup held from mid to old out turns pending client run before asks = record {
  own = before.own ++ asks.own;
  all = asks.all ∙ ap (λ (l : List Asking). l ++ asks.own) before.all ∙ append_assoc from.asks before.own asks.own;
  each = All-append (IsInTime setup held from old) before.own asks.own before.each (λ k d lt. by (get_or asks.own k d) (asks.each k d lt));
}
  where
    by : (asking : Asking) → IsAsked IsPartial mid.given pending mid.written asking → IsInTime setup held from old asking
    by asking a = record {
      mid = out;
      frames = run.frames;
      pending = pending ++ a.more;
      replies = run.replies;
      client = client;
      served = record { gives = gives_grown from.given mid.given asking.given a.more run.frames pending run.served.gives a.given; hears = run.served.hears };
      partial = a.such;
      taken = subst (λ (w : Option (List ℕ)). Appends from.written w (framed setup.address run.replies)) (sym a.stands) run.taken;
    }

-- no memory was found before the first frame
pub short_at_start : (setup : Setup) (held : Option Holding) (at : Channels) (old : Outside) → Answers setup held at at old old OutOfMemory
short_at_start setup held at old = ends_short setup held at at old old 0 [] (new_client setup.infer) (runs_none setup held at old [] (new_client setup.infer) refl refl) at ([], sym (append-nil at.given)) refl refl refl
