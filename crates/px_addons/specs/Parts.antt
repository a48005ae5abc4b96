-- The parts that are asked at each hook, in their order, and what rules make of a draft.
use Rattle.std.specs.Prelude.{Bool, true, false, List, [], ◌∷◌, if◌then◌else◌}
use Rattle.px_event.specs.declared.ask.Hook.{Hook}
use Rattle.px_event.specs.declared.ask.Hook.TheVariants as hooks
use Rattle.px_core.specs.declared.answerer.Draft.{Draft}
use Rattle.px_rule.specs.Body.{body_rules}
use Rattle.px_rule.specs.Header.{header_rules, with_fields}
use Rattle.px_rule.specs.Requests.{uncached, uncoded}
use Rattle.px_rule.specs.View.{body_views, header_views}
use Rattle.px_rule.specs.declared.content.Content.{Content}
use Rattle.px_rule.specs.declared.content.Content.TheVariants as contents
use Rattle.px_map.specs.Block.{block_status}
use Rattle.px_map.specs.Remote.{remote_rules}
use Rattle.px_map.specs.View.{block_views, remote_views}
use Rattle.px_addons.specs.Blocked.{blocked}
use Rattle.px_addons.specs.Mapped.{moved}
use Rattle.px_addons.specs.declared.parts.Part.{Part}
use Rattle.px_addons.specs.declared.parts.Part.TheVariants as part
use Rattle.px_addons.specs.declared.rules.Rules.{Rules}

-- the parts at a hook, one line each
abbrev pub parts : Hook → List Part
parts hooks.RequestHead =
    part.Block ∷ part.MapLocal ∷ part.MapRemote ∷ part.ModifyHeaders ∷ part.Anticache ∷ part.Anticomp
    ∷ part.StickyCookies ∷ part.StickyAuth ∷ part.Addons ∷ []
parts hooks.RequestBody = part.ServerReplay ∷ part.ModifyBody ∷ part.Addons ∷ []
parts hooks.ResponseHead = part.ModifyHeaders ∷ part.KeepCookies ∷ part.Addons ∷ []
parts hooks.ResponseBody = part.ModifyBody ∷ part.Addons ∷ []
parts (hooks.WsMessage _) = part.ModifyBody ∷ part.Addons ∷ []

-- whether the hook is about the response
abbrev pub is_of_response : Hook → Bool
is_of_response hooks.RequestHead = false
is_of_response hooks.RequestBody = false
is_of_response hooks.ResponseHead = true
is_of_response hooks.ResponseBody = true
is_of_response (hooks.WsMessage _) = false

-- the bytes that a hook is about
abbrev pub content_of : Hook → Content
content_of hooks.RequestHead = contents.Request
content_of hooks.RequestBody = contents.Request
content_of hooks.ResponseHead = contents.Response
content_of hooks.ResponseBody = contents.Response
content_of (hooks.WsMessage _) = contents.Message

-- the draft as a part leaves it that is a function of rules, hook and draft; what map local, the
-- sticky parts, server replay and the addons make of it is a relation
abbrev pub made_by : Rules → Hook → Part → Draft → Draft
made_by rules hook part.Block draft = blocked (block_status (block_views rules.block) draft.flow) draft
made_by rules hook part.MapLocal draft = draft
made_by rules hook part.MapRemote draft = moved (remote_rules (remote_views rules.remote) draft.flow) draft
made_by rules hook part.ModifyHeaders draft = record draft { flow = header_rules (is_of_response hook) (header_views rules.headers) draft.flow }
made_by rules hook part.Anticache draft = record draft { flow = if rules.anticache then with_fields false uncached draft.flow else draft.flow }
made_by rules hook part.Anticomp draft = record draft { flow = if rules.anticomp then with_fields false uncoded draft.flow else draft.flow }
made_by rules hook part.StickyCookies draft = draft
made_by rules hook part.StickyAuth draft = draft
made_by rules hook part.KeepCookies draft = draft
made_by rules hook part.ServerReplay draft = draft
made_by rules hook part.ModifyBody draft = record draft { flow = body_rules (content_of hook) (body_views rules.bodies) draft.flow }
made_by rules hook part.Addons draft = draft
