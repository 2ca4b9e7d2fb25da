-- A body has one message.
use Rattle.std.proofs.Common.{◌≡◌, inl, inr, ℕ, List, Option, Some, None, refl, sym, ap, ◌∙◌}
use Rattle.serde_json.specs.Data.{Data}
use Rattle.serde_json.specs.Read.{read}
use Rattle.jn_lsp_text.specs.declared.message.Message.{Message}
use Rattle.jn_lsp_text.specs.declared.message.Message.TheVariants as message
use Rattle.jn_lsp_messages.specs.Incoming.{IsJson, IsMessage, IsNoJson, message_of}

one_datum : (found : Option Data) (d e : Data) → found ≡ Some d → found ≡ Some e → d ≡ e
one_datum found d e is also = cc

not_both : (found : Option Data) (d : Data) → found ≡ Some d → found ≡ None → ⊥
not_both found d is none = cc

-- which message JSON is, and what is no JSON
pub message_is : (body : List ℕ) (d : Data) (m : Message) → IsJson body d → m ≡ message_of d → IsMessage body m
message_is body d m json is = inl (d, json, is)

pub no_message_is : (body : List ℕ) → IsNoJson body → IsMessage body message.NoJson
no_message_is body none = inr (none, refl)

pub one_message : (body : List ℕ) (one other : Message) → IsMessage body one → IsMessage body other → one ≡ other
one_message body one other (inl (d, json, is)) (inl (e, more, also)) = is ∙ ap message_of (one_datum (read body) d e json.1 more.1) ∙ sym also
one_message body one other (inl (d, json, is)) (inr (none, also)) = absurd (not_both (read body) d json.1 (none json.0))
one_message body one other (inr (none, is)) (inl (d, json, also)) = absurd (not_both (read body) d json.1 (none json.0))
one_message body one other (inr (none, is)) (inr (neither, also)) = is ∙ sym also
