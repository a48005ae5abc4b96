-- What the map rules make of a draft, and which files map local reads for it.
use Rattle.std.specs.Prelude.{◌≡◌, ℕ, false, List, [], ◌∷◌, ◌++◌, codes, Option, Some, None, Result, Ok, Err}
use Rattle.px_message.specs.Length.{content_length}
use Rattle.px_message.specs.declared.flow.Flow.{Flow}
use Rattle.px_message.specs.declared.response.Response.{Response}
use Rattle.px_message.specs.declared.version.Version.TheVariants.{Http11}
use Rattle.px_outside.specs.declared.files.FileCall.{FileCall}
use Rattle.px_core.specs.Answers.{FilesMeaning}
use Rattle.px_core.specs.declared.answerer.Draft.{Draft}
use Rattle.px_core.specs.declared.answerer.Verdict.TheVariants as verdicts
use Rattle.px_rule.specs.Rule.{Rule}
use Rattle.px_map.specs.Reads.{Begins, IsAnswer, Made, Seen}
use Rattle.px_map.specs.Served.{local_names}
use Rattle.px_map.specs.View.{local_views}
use Rattle.px_map.specs.Within.{IsOfRule, ReadsOnly}
use Rattle.px_addons.specs.declared.rules.Rules.{Rules}

-- what a client is told where a map remote rule made a text that is no URL of the scheme `http`
abbrev pub refusal : List ℕ
refusal = codes "map remote: not plain http" ++ 10 ∷ []

-- the fields of the response that tells it
abbrev pub refusal_fields : List (List ℕ × List ℕ)
refusal_fields =
    (codes "Server", codes "mitm") ∷ (codes "Connection", codes "close") ∷ (codes "Content-Type", codes "text/plain") ∷ (content_length, codes "27") ∷ []

-- the response that tells it, behind which the connection is closed (RFC 9110 section 15.6.3)
abbrev pub not_plain_http : Response
not_plain_http = record {
  version = Http11;
  status = 502;
  reason = codes "Bad Gateway";
  fields = refusal_fields;
  body = refusal;
  trailers = [];
  streamed = false;
}

-- the draft with the flow at its new URL; or, where a rule made a text that is none, with the flow as the rules before that one left it,
-- and with that response
abbrev pub moved : Result Flow Flow → Draft → Draft
moved (Ok flow) draft = record draft { flow = flow }
moved (Err flow) draft = record draft { flow = flow; verdict = verdicts.Respond not_plain_http }

-- the draft, answered with a response, if one is told
abbrev pub answered_by : Option Response → Draft → Draft
answered_by None draft = draft
answered_by (Some response) draft = record draft { verdict = verdicts.Respond response }

-- what files mean, in the words of px_map
abbrev pub seen_of : FilesMeaning → Seen
seen_of files = record { contents = files.contents; calls = files.calls; misses = files.misses; faults = files.faults; losses = files.losses }

-- what the map local rules that match a flow mean, in their order
abbrev pub names_for : Rules → Flow → List (Option (List ℕ))
names_for rules flow = local_names (local_views rules.local) flow

-- What map local makes of a draft: the reads of the rules that match the flow, and the response that they come to, if any matches.
pub record MapsLocal (rules : Rules) (draft : Draft) (files : FilesMeaning) (after : Draft) (new_files : FilesMeaning) : Type 0 where
  pub answer : Option Response
  pub made : List FileCall
  pub answers : IsAnswer (names_for rules draft.flow) made answer
  pub reads : Made made (seen_of files) (seen_of new_files)
  pub drafted : after ≡ answered_by answer draft
  pub unread : names_for rules draft.flow ≡ [] → new_files ≡ files

-- What map local did to files where memory ran out: some of the first of those reads were made.
pub record LocalFails (rules : Rules) (draft : Draft) (files new_files : FilesMeaning) : Type 0 where
  pub made : List FileCall
  pub begins : Begins (names_for rules draft.flow) made
  pub reads : Made made (seen_of files) (seen_of new_files)
  pub unread : names_for rules draft.flow ≡ [] → new_files ≡ files

-- What was done to files: reads and nothing else, each of a file that one of the rules names.
pub record ReadsOfRules (rules : List Rule) (files new_files : FilesMeaning) : Type 0 where
  pub made : List FileCall
  pub named : ReadsOnly (IsOfRule rules) made
  pub reads : Made made (seen_of files) (seen_of new_files)
