-- Replies nest at most ten deep, and have no floats.
use Rattle.std.proofs.Common.{◌≡◌, ℕ, suc, ◌≤◌, ℤ, pos, negsuc, Bool, false, List, [], ◌∷◌, Option, Some, None, map, codes, refl, sym, ap, ◌∙◌, subst, arith, IsUtf8}
use Rattle.std.specs.Prelude.{◌||◌, max}
use Rattle.std.proofs.Math.Nat.{le_trans, max-le}
use Rattle.serde_json.specs.Data.{Data, null, boolean, number, unsigned, string, object, Items, Members, no_members, member, depth, items_depth, members_depth}
use Rattle.serde_json.specs.Find.{of_integer}
use Rattle.serde_json.specs.View.{items_of}
use Rattle.serde_json.specs.Read.{max_depth, read}
use Rattle.serde_json.specs.Written.{compact_text, has_float, items_have_float, members_have_float}
use Rattle.jn_base.specs.Codes.{code_name}
use Rattle.jn_base.specs.declared.code.Code.{Code}
use Rattle.jn_lsp_text.specs.declared.encoding.Encoding.{Encoding}
use Rattle.jn_lsp_text.specs.declared.encoding.Encoding.TheVariants.{Utf16, Utf8}
use Rattle.jn_lsp_text.specs.declared.markup.Markup.{Markup}
use Rattle.jn_lsp_text.specs.declared.position.Position.{Position}
use Rattle.jn_lsp_text.specs.declared.range.Range.{Range}
use Rattle.jn_lsp_text.specs.declared.id.Id.{Id}
use Rattle.jn_lsp_text.specs.declared.id.Id.TheVariants as id
use Rattle.jn_lsp_text.specs.declared.reply.Action.{Action}
use Rattle.jn_lsp_text.specs.declared.reply.Diagnostic.{Diagnostic}
use Rattle.jn_lsp_text.specs.declared.reply.Failure.{Failure}
use Rattle.jn_lsp_text.specs.declared.reply.Hint.{Hint}
use Rattle.jn_lsp_text.specs.declared.reply.Hover.{Hover}
use Rattle.jn_lsp_text.specs.declared.reply.Insertion.{Insertion}
use Rattle.jn_lsp_text.specs.declared.reply.Related.{Related}
use Rattle.jn_lsp_text.specs.declared.reply.Said.{Said}
use Rattle.jn_lsp_text.specs.declared.reply.Said.TheVariants.{Row, Unchecked}
use Rattle.jn_lsp_text.specs.declared.reply.Reply.{Reply}
use Rattle.jn_lsp_text.specs.declared.reply.Reply.TheVariants as reply
use Rattle.jn_lsp_messages.specs.Incoming.{IsJson}
use Rattle.jn_lsp_messages.specs.Outgoing.{position_data, range_data, location_data, related_data, told, description_data, described, row_data, unchecked_data, said_data, diagnostic_data, insertion_data, edit_data, action_data, tooltip_words, tooltip, hint_with, hint_data, kind_name, hover_words, contents_data, hover_data, hover_or_null, watchers_data, registration_data, registrations_data, request_data, token_data, begin_data, end_data, progress_data, sync_data, kinds_data, workspace_data, capabilities_data, server_data, initialize_data, failure_code, failure_words, error_data, id_data, id_or_null, answer_data, refusal_data, notice_data, versioned, published_data, shown_data, list_data, data_of}
use Rattle.jn_lsp_messages.specs.Uris.{uri_of}

-- a value nests at most so deep, and has no float
record Is (n : ℕ) (d : Data) : Type 0 where
  shallow : depth d ≤ n
  whole : has_float d ≡ false

record AreItems (n : ℕ) (ds : Items) : Type 0 where
  shallow : items_depth ds ≤ n
  whole : items_have_float ds ≡ false

record AreMembers (n : ℕ) (ms : Members) : Type 0 where
  shallow : members_depth ms ≤ n
  whole : members_have_float ms ≡ false

least : (n : ℕ) → 0 ≤ n
least n = omega arith

both : (a b n : ℕ) → a ≤ n → b ≤ n → max a b ≤ n
both a b n one other = max-le one other

above : (a n : ℕ) → a ≤ n → suc a ≤ suc n
above a n le = omega (arith, le)

-- a value within a value that may be deeper
deeper : (n m : ℕ) (d : Data) → n ≤ m → Is n d → Is m d
deeper n m d le is = record { shallow = le_trans is.shallow le; whole = is.whole }

either : (a b : Bool) → a ≡ false → b ≡ false → (a || b) ≡ false
either a b e f = ap (λ x. x || b) e ∙ f

text : (n : ℕ) (s : List ℕ) → Is n (string s)
text n s = record { shallow = least n; whole = refl }

natural : (n m : ℕ) → Is n (number (unsigned m))
natural n m = record { shallow = least n; whole = refl }

truth : (n : ℕ) (b : Bool) → Is n (boolean b)
truth n b = record { shallow = least n; whole = refl }

integer : (n : ℕ) (z : ℤ) → Is n (number (of_integer z))
integer n (pos m) = record { shallow = least n; whole = refl }
integer n (negsuc m) = record { shallow = least n; whole = refl }

nothing : (n : ℕ) → Is n null
nothing n = record { shallow = least n; whole = refl }

last : (n : ℕ) (k : List ℕ) (d : Data) → Is n d → AreMembers n (member k d no_members)
last n k d is = record { shallow = both (depth d) 0 n is.shallow (least n); whole = either (has_float d) false is.whole refl }

next : (n : ℕ) (k : List ℕ) (d : Data) (ms : Members) → Is n d → AreMembers n ms → AreMembers n (member k d ms)
next n k d ms is are = record { shallow = both (depth d) (members_depth ms) n is.shallow are.shallow; whole = either (has_float d) (members_have_float ms) is.whole are.whole }

within : (n : ℕ) (ms : Members) → AreMembers n ms → Is (suc n) (object ms)
within n ms are = record { shallow = above (members_depth ms) n are.shallow; whole = are.whole }

holding : (n m : ℕ) (ms : Members) → m ≡ suc n → AreMembers n ms → Is m (object ms)
holding n m ms e are = subst (λ k. Is k (object ms)) (sym e) (within n ms are)

each_is : {A : Type 0} (datum : A → Data) (n : ℕ) → ((x : A) → Is n (datum x)) → (xs : List A) → AreItems n (items_of (map datum xs))
each_is datum n each [] = record { shallow = least n; whole = refl }
each_is datum n each (x ∷ xs) =
    let first = each x in
    let rest = each_is datum n each xs in
    record { shallow = both (depth (datum x)) (items_depth (items_of (map datum xs))) n first.shallow rest.shallow; whole = either (has_float (datum x)) (items_have_float (items_of (map datum xs))) first.whole rest.whole }

inside : {A : Type 0} (datum : A → Data) (n : ℕ) (xs : List A) → AreItems n (items_of (map datum xs)) → Is (suc n) (list_data datum xs)
inside datum n xs are = record { shallow = above (items_depth (items_of (map datum xs))) n are.shallow; whole = are.whole }

listed : {A : Type 0} (datum : A → Data) (n m : ℕ) → m ≡ suc n → ((x : A) → Is n (datum x)) → (xs : List A) → Is m (list_data datum xs)
listed datum n m e each xs = subst (λ k. Is k (list_data datum xs)) (sym e) (inside datum n xs (each_is datum n each xs))

position_is : (p : Position) → Is 1 (position_data p)
unfolding position_data
position_is p = holding 0 1 _ refl (next 0 _ _ _ (natural 0 p.character) (last 0 _ _ (natural 0 p.line)))

range_is : (r : Range) → Is 2 (range_data r)
unfolding range_data
range_is r = holding 1 2 _ refl (next 1 _ _ _ (position_is r.end) (last 1 _ _ (position_is r.start)))

location_is : (name : List ℕ) (r : Range) → Is 3 (location_data name r)
unfolding location_data
location_is name r = holding 2 3 _ refl (next 2 _ _ _ (range_is r) (last 2 _ _ (text 2 (uri_of name))))

related_is : (r : Related) → Is 4 (related_data r)
unfolding related_data
related_is r = holding 3 4 _ refl (next 3 _ _ _ (location_is r.name r.range) (last 3 _ _ (text 3 r.words)))

description_is : (address : List ℕ) (code : Code) → Is 5 (description_data address code)
unfolding description_data
description_is address code = holding 4 5 _ refl (last 4 _ _ (text 4 _))

described_are : (address : Option (List ℕ)) (code : Code) (ms : Members) → AreMembers 5 ms → AreMembers 5 (described address code ms)
described_are None code ms are = are
described_are (Some address) code ms are = next 5 _ _ ms (description_is address code) are

row_is : (address : Option (List ℕ)) (code : Code) (r : Range) (related : List Related) → Is 6 (row_data address code r related)
unfolding row_data
row_is address code r related =
    holding 5 6 _ refl (next 5 _ _ _ (text 5 (code_name code))
    (described_are address code _
    (next 5 _ _ _ (text 5 (told code))
    (next 5 _ _ _ (deeper 2 5 _ (omega arith) (range_is r))
    (next 5 _ _ _ (listed related_data 4 5 refl related_is related)
    (next 5 _ _ _ (natural 5 1)
    (last 5 _ _ (text 5 (codes "nullcheck")))))))))

unchecked_is : (words : List ℕ) (r : Range) (related : List Related) → Is 6 (unchecked_data words r related)
unfolding unchecked_data
unchecked_is words r related =
    holding 5 6 _ refl (next 5 _ _ _ (text 5 words)
    (next 5 _ _ _ (deeper 2 5 _ (omega arith) (range_is r))
    (next 5 _ _ _ (listed related_data 4 5 refl related_is related)
    (next 5 _ _ _ (natural 5 3)
    (last 5 _ _ (text 5 (codes "nullcheck")))))))

said_is : (address : Option (List ℕ)) (r : Range) (related : List Related) (said : Said) → Is 6 (said_data address r related said)
said_is address r related (Row code) = row_is address code r related
said_is address r related (Unchecked words) = unchecked_is words r related

diagnostic_is : (address : Option (List ℕ)) (d : Diagnostic) → Is 6 (diagnostic_data address d)
diagnostic_is address d = said_is address d.range d.related d.said

versioned_are : (n : ℕ) (version : Option ℤ) → AreMembers n (versioned version)
versioned_are n None = record { shallow = least n; whole = refl }
versioned_are n (Some v) = last n _ _ (integer n v)

published_is : (address : Option (List ℕ)) (name : List ℕ) (version : Option ℤ) (ds : List Diagnostic) → Is 8 (published_data address name version ds)
unfolding published_data
published_is address name version ds = holding 7 8 _ refl (next 7 _ _ _ (listed (diagnostic_data address) 6 7 refl (diagnostic_is address) ds) (next 7 _ _ _ (text 7 (uri_of name)) (versioned_are 7 version)))

shown_is : (words : List ℕ) → Is 8 (shown_data words)
unfolding shown_data
shown_is words = holding 7 8 _ refl (next 7 _ _ _ (text 7 words) (last 7 _ _ (natural 7 2)))

notice_is : (method : List ℕ) (params : Data) → Is 8 params → Is 9 (notice_data method params)
unfolding notice_data
notice_is method params is = holding 8 9 _ refl (next 8 _ _ _ (text 8 (codes "2.0")) (next 8 _ _ _ (text 8 method) (last 8 _ _ is)))

insertion_is : (i : Insertion) → Is 3 (insertion_data i)
unfolding insertion_data
insertion_is i = holding 2 3 _ refl (next 2 _ _ _ (text 2 i.text) (last 2 _ _ (range_is (record { start = i.at; end = i.at }))))

edit_is : (name : List ℕ) (is : List Insertion) → Is 6 (edit_data name is)
unfolding edit_data
edit_is name is = holding 5 6 _ refl (last 5 _ _ (holding 4 5 _ refl (last 4 _ _ (listed insertion_data 3 4 refl insertion_is is))))

action_is : (address : Option (List ℕ)) (a : Action) → Is 8 (action_data address a)
unfolding action_data
action_is address a =
    holding 7 8 _ refl (next 7 _ _ _ (listed (diagnostic_data address) 6 7 refl (diagnostic_is address) a.diagnostics)
    (next 7 _ _ _ (deeper 6 7 _ (omega arith) (edit_is a.name a.insertions))
    (next 7 _ _ _ (text 7 (codes "quickfix"))
    (last 7 _ _ (text 7 a.title)))))

tooltip_are : (places : List Related) → AreMembers 1 (tooltip places)
tooltip_are [] = record { shallow = least 1; whole = refl }
tooltip_are (r ∷ more) = last 1 _ _ (text 1 (tooltip_words r more))

hint_is : (h : Hint) → Is 2 (hint_data h)
unfolding hint_with
hint_is h =
    holding 1 2 _ refl (next 1 _ _ _ (natural 1 1)
    (next 1 _ _ _ (text 1 h.label)
    (next 1 _ _ _ (truth 1 h.space_before)
    (next 1 _ _ _ (truth 1 h.space_behind)
    (next 1 _ _ _ (position_is h.at) (tooltip_are h.related))))))

contents_is : (markup : Markup) (h : Hover) → Is 1 (contents_data markup h)
unfolding contents_data
contents_is markup h = holding 0 1 _ refl (next 0 _ _ _ (text 0 (kind_name markup)) (last 0 _ _ (text 0 (hover_words markup h))))

hover_is : (markup : Markup) (h : Hover) → Is 3 (hover_data markup h)
unfolding hover_data
hover_is markup h = holding 2 3 _ refl (next 2 _ _ _ (deeper 1 2 _ (omega arith) (contents_is markup h)) (last 2 _ _ (range_is h.range)))

hover_or_null_is : (markup : Markup) (hover : Option Hover) → Is 8 (hover_or_null markup hover)
hover_or_null_is markup None = nothing 8
hover_or_null_is markup (Some h) = deeper 3 8 _ (omega arith) (hover_is markup h)

watch_is : Is 9 (request_data (id.Text (codes "watch")) (codes "client/registerCapability") registrations_data)
unfolding request_data registrations_data registration_data watchers_data
watch_is = record { shallow = closed; whole = refl }
  where
    closed : 7 ≤ 9
    closed = omega arith

announce_is : (n : ℕ) → Is 9 (request_data (id.Number (pos n)) (codes "window/workDoneProgress/create") (token_data n))
unfolding request_data token_data
announce_is n =
    holding 8 9 _ refl (next 8 _ _ _ (integer 8 (pos n))
    (next 8 _ _ _ (text 8 (codes "2.0"))
    (next 8 _ _ _ (text 8 (codes "window/workDoneProgress/create"))
    (last 8 _ _ (holding 7 8 _ refl (last 7 _ _ (natural 7 n)))))))

progress_is : (n : ℕ) (said : Data) → Is 7 said → Is 8 (progress_data n said)
unfolding progress_data
progress_is n said is = holding 7 8 _ refl (next 7 _ _ _ (natural 7 n) (last 7 _ _ is))

begin_is : Is 7 begin_data
unfolding begin_data
begin_is =
    holding 6 7 _ refl (next 6 _ _ _ (truth 6 false)
    (next 6 _ _ _ (text 6 (codes "begin"))
    (last 6 _ _ (text 6 (codes "nullcheck: checking")))))

end_is : Is 7 end_data
unfolding end_data
end_is = holding 6 7 _ refl (last 6 _ _ (text 6 (codes "end")))

initialize_is : (encoding : Encoding) → Is 8 (initialize_data encoding)
unfolding initialize_data capabilities_data kinds_data sync_data workspace_data server_data
initialize_is Utf16 = record { shallow = closed; whole = refl }
  where
    closed : 4 ≤ 8
    closed = omega arith
initialize_is Utf8 = record { shallow = closed; whole = refl }
  where
    closed : 4 ≤ 8
    closed = omega arith

id_is : (n : ℕ) (i : Id) → Is n (id_data i)
id_is n (id.Number z) = integer n z
id_is n (id.Text t) = text n t

id_or_null_is : (n : ℕ) (i : Option Id) → Is n (id_or_null i)
id_or_null_is n None = nothing n
id_or_null_is n (Some i) = id_is n i

answer_is : (i : Id) (d : Data) → Is 8 d → Is 9 (answer_data i d)
unfolding answer_data
answer_is i d is = holding 8 9 _ refl (next 8 _ _ _ (id_is 8 i) (next 8 _ _ _ (text 8 (codes "2.0")) (last 8 _ _ is)))

-- the same of what holds actions, which hold diagnostics
offer_is : (i : Id) (d : Data) → Is 9 d → Is 10 (answer_data i d)
unfolding answer_data
offer_is i d is = holding 9 10 _ refl (next 9 _ _ _ (id_is 9 i) (next 9 _ _ _ (text 9 (codes "2.0")) (last 9 _ _ is)))

error_is : (f : Failure) → Is 8 (error_data f)
unfolding error_data
error_is f = holding 7 8 _ refl (next 7 _ _ _ (integer 7 (failure_code f)) (last 7 _ _ (text 7 (failure_words f))))

refusal_is : (i : Option Id) (f : Failure) → Is 9 (refusal_data i f)
unfolding refusal_data
refusal_is i f = holding 8 9 _ refl (next 8 _ _ _ (error_is f) (next 8 _ _ _ (id_or_null_is 8 i) (last 8 _ _ (text 8 (codes "2.0")))))

at_most_ten : (d : Data) → Is 9 d → Is 10 d
at_most_ten d is = deeper 9 10 d (omega arith) is

reply_is : (address : Option (List ℕ)) (r : Reply) → Is 10 (data_of address r)
reply_is address (reply.Capabilities i encoding) = at_most_ten _ (answer_is i (initialize_data encoding) (initialize_is encoding))
reply_is address (reply.Done i) = at_most_ten _ (answer_is i null (nothing 8))
reply_is address (reply.Refusal i f) = at_most_ten _ (refusal_is i f)
reply_is address (reply.Publish name version ds) = at_most_ten _ (notice_is _ _ (published_is address name version ds))
reply_is address (reply.Show words) = at_most_ten _ (notice_is _ _ (shown_is words))
reply_is address reply.Watch = at_most_ten _ watch_is
reply_is address (reply.Actions i actions) = offer_is i _ (listed (action_data address) 8 9 refl (action_is address) actions)
reply_is address (reply.Hints i hints) = at_most_ten _ (answer_is i _ (deeper 3 8 _ (omega arith) (listed hint_data 2 3 refl hint_is hints)))
reply_is address (reply.Hovered i markup hover) = at_most_ten _ (answer_is i _ (hover_or_null_is markup hover))
reply_is address (reply.Announce n) = at_most_ten _ (announce_is n)
reply_is address (reply.Begin n) = at_most_ten _ (notice_is _ _ (progress_is n begin_data begin_is))
reply_is address (reply.End n) = at_most_ten _ (notice_is _ _ (progress_is n end_data end_is))

-- what is written of a value that is a reply's reads as it, and is its compact text
pub reads_as : (address : Option (List ℕ)) (r : Reply) (d : Data) (body : List ℕ) → d ≡ data_of address r → (depth d ≤ max_depth → read body ≡ Some d) → IsUtf8 body → IsJson body (data_of address r)
reads_as address r d body e reads utf8 = (utf8, reads (subst (λ x. depth x ≤ max_depth) (sym e) (le_trans (reply_is address r).shallow ten)) ∙ ap Some e)
  where
    ten : 10 ≤ max_depth
    ten = omega arith

pub is_compact : (address : Option (List ℕ)) (r : Reply) (d : Data) (body : List ℕ) → d ≡ data_of address r → (has_float d ≡ false → body ≡ compact_text d) → body ≡ compact_text (data_of address r)
is_compact address r d body e written = written (ap has_float e ∙ (reply_is address r).whole) ∙ ap compact_text e
