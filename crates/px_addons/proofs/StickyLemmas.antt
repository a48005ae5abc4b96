-- What is kept of cookies and of authorizations, by one answer and by answers one behind the other.
use Rattle.std.proofs.Common.{◌≡◌, ◌≢◌, ◌∙◌, ℕ, Bool, true, false, if◌then◌else◌, codes, List, [], ◌∷◌, ◌++◌, Option, None, Some, Result, Ok, Err, refl, sym, ap, subst}
use Rattle.std.specs.Prelude.{slice_get}
use Rattle.std.proofs.lemmas.List.{append-nil}
use Rattle.std.proofs.lemmas.List.Concat.{flat_map-append}
use Rattle.px_message.proofs.FieldLaws.{values_of-set_in_other}
use Rattle.px_message.specs.Fields.{is_same_name}
use Rattle.px_message.specs.declared.flow.Flow.{Flow}
use Rattle.px_message.specs.declared.response.Response.{Response}
use Rattle.px_event.specs.declared.ask.Hook.{Hook}
use Rattle.px_event.specs.declared.ask.Hook.TheVariants as hooks
use Rattle.px_outside.specs.declared.files.FileCall.{FileCall}
use Rattle.px_core.specs.Answers.{FilesMeaning}
use Rattle.px_core.specs.declared.answerer.Answer.{Answer}
use Rattle.px_core.specs.declared.answerer.Draft.{Draft}
use Rattle.px_filter.specs.Holds.{holds}
use Rattle.px_filter.specs.View.{expression}
use Rattle.px_map.specs.Block.{block_status}
use Rattle.px_map.specs.Reads.{IsAnswer}
use Rattle.px_map.specs.Remote.{remote_rules}
use Rattle.px_map.specs.View.{block_views, remote_views}
use Rattle.px_refresh.proofs.KeptLemmas.{kept_goes_on}
use Rattle.px_refresh.proofs.KeyLemmas.{cookie_decides, text_decides}
use Rattle.px_refresh.specs.Authorized.{Authorization, authorization_for, authorizations, authorized, shown_by}
use Rattle.px_refresh.specs.Cookies.{Cookie, cookie_text, jar, sent_to, set_by, with_cookies}
use Rattle.px_refresh.specs.Site.{is_same_cookie, site_of}
use Rattle.px_refresh.specs.Text.{is_same_text}
use Rattle.px_refresh.specs.declared.authorization.StickyAuth.{StickyAuth}
use Rattle.px_refresh.specs.declared.cookies.StickyCookies.{StickyCookies}
use Rattle.px_addons.specs.Blocked.{blocked}
use Rattle.px_addons.specs.Chain.{Movers, PartMoves, PartsMove, ChainAnswers, begun, is_going}
use Rattle.px_addons.specs.Mapped.{answered_by, moved, names_for}
use Rattle.px_addons.specs.Moving.{Moves}
use Rattle.px_addons.specs.Parts.{made_by, parts}
use Rattle.px_addons.specs.Sticky.{Authorizes, KeepsCookies, KeepsSet, KeepsShown, sent_cookies}
use Rattle.px_addons.specs.StickyRuns.{HasKeptSet, HasKeptShown, all_shown, cookies_set, sent_on, set_at, shown_at, shown_in, unless_blocked, unless_local, with_rules}
use Rattle.px_addons.specs.Turns.{Given, InTurn, next_given, none_given, of_request_head, of_response_head}
use Rattle.px_addons.specs.declared.parts.Part.{Part}
use Rattle.px_addons.specs.declared.parts.Part.TheVariants as part
use Rattle.px_addons.specs.declared.rules.Rules.{Rules}
use Rattle.px_addons.proofs.BlockLemmas.{all_passed, blocks}
use Rattle.px_addons.proofs.StillLemmas.{auth_moved, cookies_moved, first_of, parts_keep, parts_still}

-- ---- what one ask makes

pub keeps_set : (draft : Draft) (before : Option StickyCookies) (old new : StickyCookies) → before ≡ Some old → new.filter ≡ old.filter →
    new.jar ≡ jar (old.jar ++ set_by draft.flow) → KeepsCookies draft before draft (Some new)
keeps_set draft before old new is filter kept =
    subst (λ b. KeepsCookies draft b draft (Some new)) (sym is) (record { cookies = new; is = refl; filter = filter; kept = kept; drafted = refl })

abbrev with_flow : Draft → Flow → Draft
with_flow draft flow = record draft { flow = flow }

pub keeps_shown : (draft : Draft) (flow : Flow) (before : Option StickyAuth) (old new : StickyAuth) → before ≡ Some old → new.filter ≡ old.filter →
    new.shown ≡ authorizations (old.shown ++ shown_by draft.flow.request) → flow ≡ authorized (expression old.filter) old.shown draft.flow →
    Authorizes draft before (with_flow draft flow) (Some new)
keeps_shown draft flow before old new is filter kept put =
    subst (λ b. Authorizes draft b (with_flow draft flow) (Some new)) (sym is)
    (record { auth = new; is = refl; filter = filter; kept = kept; drafted = ap (with_flow draft) put })

-- ---- one answer more

cookies_with : (rules : Rules) (earlier : List Given) (given : Given) →
    cookies_set rules (earlier ++ given ∷ []) ≡ cookies_set rules earlier ++ of_response_head given.hook (set_at rules given.flow)
cookies_with rules earlier given =
    flat_map-append (λ (g : Given). of_response_head g.hook (set_at rules g.flow)) earlier (given ∷ [])
    ∙ ap (λ l. cookies_set rules earlier ++ l) (append-nil (of_response_head given.hook (set_at rules given.flow)))

shown_with : (rules : Rules) (earlier : List Given) (given : Given) →
    all_shown rules (earlier ++ given ∷ []) ≡ all_shown rules earlier ++ of_request_head given.hook (shown_at rules given.flow)
shown_with rules earlier given =
    flat_map-append (λ (g : Given). of_request_head g.hook (shown_at rules g.flow)) earlier (given ∷ [])
    ∙ ap (λ l. all_shown rules earlier ++ l) (append-nil (of_request_head given.hook (shown_at rules given.flow)))

-- nothing was set, and what is kept is as it was
cookies_stay : (first : StickyCookies) (set : List Cookie) (old new : Option StickyCookies) → HasKeptSet first set old → new ≡ old → HasKeptSet first (set ++ []) new
cookies_stay first set old new so same =
    subst (λ l. HasKeptSet first l new) (sym (append-nil set)) (record { cookies = so.cookies; is = same ∙ so.is; filter = so.filter; kept = so.kept })

auth_stays : (first : StickyAuth) (shown : List Authorization) (old new : Option StickyAuth) → HasKeptShown first shown old → new ≡ old → HasKeptShown first (shown ++ []) new
auth_stays first shown old new so same =
    subst (λ l. HasKeptShown first l new) (sym (append-nil shown)) (record { auth = so.auth; is = same ∙ so.is; filter = so.filter; kept = so.kept })

-- more was set behind it
cookies_more : (first kept new : StickyCookies) (set more : List Cookie) (last : Option StickyCookies) → kept.filter ≡ first.filter → kept.jar ≡ jar set →
    last ≡ Some new → new.filter ≡ kept.filter → new.jar ≡ jar (kept.jar ++ more) → HasKeptSet first (set ++ more) last
cookies_more first kept new set more last filter all is same jarred = record {
  cookies = new;
  is = is;
  filter = same ∙ filter;
  kept = jarred ∙ ap (λ l. jar (l ++ more)) all ∙ kept_goes_on is_same_cookie cookie_decides set more;
}

auth_more : (first kept new : StickyAuth) (shown more : List Authorization) (last : Option StickyAuth) → kept.filter ≡ first.filter → kept.shown ≡ authorizations shown →
    last ≡ Some new → new.filter ≡ kept.filter → new.shown ≡ authorizations (kept.shown ++ more) → HasKeptShown first (shown ++ more) last
auth_more first kept new shown more last filter all is same showed = record {
  auth = new;
  is = is;
  filter = same ∙ filter;
  kept = showed ∙ ap (λ l. authorizations (l ++ more)) all ∙ kept_goes_on is_same_text text_decides shown more;
}

-- ---- sticky cookies change nothing of what a request shows

abbrev authorization_name : List ℕ
authorization_name = codes "Authorization"

abbrev cookie_name : List ℕ
cookie_name = codes "Cookie"

other_name : is_same_name cookie_name authorization_name ≡ false
other_name = refl

shows_same_with : (cookies : List Cookie) (flow : Flow) → shown_by (with_cookies cookies flow).request ≡ shown_by flow.request
shows_same_with [] flow = refl
shows_same_with (cookie ∷ cookies) flow =
    ap (λ values. authorization_for flow.request.host (slice_get values 0))
    (values_of-set_in_other authorization_name cookie_name (cookie_text (cookie ∷ cookies)) flow.request.fields other_name)

shows_same_if : (test : Bool) (cookies : List Cookie) (flow : Flow) → shown_by (if test then with_cookies cookies flow else flow).request ≡ shown_by flow.request
shows_same_if true cookies flow = shows_same_with cookies flow
shows_same_if false cookies flow = refl

shows_same : (cookies : Option StickyCookies) (flow : Flow) → shown_by (sent_cookies cookies flow).request ≡ shown_by flow.request
shows_same None flow = refl
shows_same (Some cookies) flow = shows_same_if (holds flow (expression cookies.filter)) (sent_to (site_of flow.request) flow.request.path cookies.jar) flow

-- ---- what map local and map remote leave of a draft

abbrev still_going : Draft → Type 0
still_going draft = is_going draft.verdict ≡ true

is_over : (draft after : Draft) → after ≡ draft → is_going draft.verdict ≡ false → is_going after.verdict ≡ false
is_over draft after same over = ap (λ (d : Draft). is_going d.verdict) same ∙ over

goes_on : (draft after : Draft) → after ≡ draft → still_going draft → still_going after
goes_on draft after same going = ap (λ (d : Draft). is_going d.verdict) same ∙ going

module _ {B : Type 0} (title state : B → List ℕ) (moves : B → Moves) where
  -- ---- cookies, by one answer

  -- the cookies that a response sets are kept, as the header rules leave it
  head_kept : (rules : Rules) (first : StickyCookies) (set : List Cookie) (draft end : Draft) (old new : Movers B) (files new_files : FilesMeaning) → still_going draft →
      HasKeptSet first set old.cookies →
      PartsMove title state moves rules hooks.ResponseHead (part.ModifyHeaders ∷ part.KeepCookies ∷ part.Addons ∷ []) draft old files end new new_files →
      HasKeptSet first (set ++ set_at rules draft.flow) new.cookies
  head_kept rules first set draft end old new files new_files going so moved =
      let one = first_of title state moves rules hooks.ResponseHead part.ModifyHeaders (part.KeepCookies ∷ part.Addons ∷ []) draft end old new files new_files moved in
      let made = one.moved going in
      let two = first_of title state moves rules hooks.ResponseHead part.KeepCookies (part.Addons ∷ []) one.after end one.mid new one.mid_files new_files one.behind in
      let asked = two.moved (goes_on _ one.after made.0 going) in
      let keeps : KeepsSet one.after so.cookies two.after two.mid.cookies =
      subst (λ c. KeepsCookies one.after c two.after two.mid.cookies) (ap (λ (m : Movers B). m.cookies) made.1 ∙ so.is) asked.0 in
      let still : new.cookies ≡ two.mid.cookies =
      parts_still title state moves part.KeepCookies (λ m. m.cookies) cookies_moved rules hooks.ResponseHead (part.Addons ∷ []) two.after end two.mid new two.mid_files new_files
      ((λ e. cc), tt) two.behind in
      cookies_more first so.cookies keeps.cookies set (set_at rules draft.flow) new.cookies so.filter so.kept (still ∙ keeps.is) keeps.filter
      (keeps.kept ∙ ap (λ (d : Draft). jar (so.cookies.jar ++ set_by d.flow)) made.0)

  -- no other hook changes kept cookies
  pub cookies_elsewhere : (hook : Hook) (flow : Flow) (rules new_rules : Rules) (old new : Movers B) (files new_files : FilesMeaning) (answer : Answer) →
      hook ≢ hooks.ResponseHead → ChainAnswers title state moves hook flow rules old files new_rules new new_files answer → new.cookies ≡ old.cookies
  cookies_elsewhere hooks.RequestHead flow rules new_rules old new files new_files answer other given =
      parts_still title state moves part.KeepCookies (λ m. m.cookies) cookies_moved rules hooks.RequestHead (parts hooks.RequestHead) (begun flow rules.stream) given.left old new files new_files
      ((λ e. cc), ((λ e. cc), ((λ e. cc), ((λ e. cc), ((λ e. cc), ((λ e. cc), ((λ e. cc), ((λ e. cc), ((λ e. cc), tt))))))))) given.moved
  cookies_elsewhere hooks.RequestBody flow rules new_rules old new files new_files answer other given =
      parts_still title state moves part.KeepCookies (λ m. m.cookies) cookies_moved rules hooks.RequestBody (parts hooks.RequestBody) (begun flow rules.stream) given.left old new files new_files
      ((λ e. cc), ((λ e. cc), ((λ e. cc), tt))) given.moved
  cookies_elsewhere hooks.ResponseHead flow rules new_rules old new files new_files answer other given = absurd (other refl)
  cookies_elsewhere hooks.ResponseBody flow rules new_rules old new files new_files answer other given =
      parts_still title state moves part.KeepCookies (λ m. m.cookies) cookies_moved rules hooks.ResponseBody (parts hooks.ResponseBody) (begun flow rules.stream) given.left old new files new_files
      ((λ e. cc), ((λ e. cc), tt)) given.moved
  cookies_elsewhere (hooks.WsMessage side) flow rules new_rules old new files new_files answer other given =
      parts_still title state moves part.KeepCookies (λ m. m.cookies) cookies_moved rules (hooks.WsMessage side) (parts (hooks.WsMessage side)) (begun flow rules.stream) given.left old new files new_files
      ((λ e. cc), ((λ e. cc), tt)) given.moved

  cookies_after : (hook : Hook) (flow : Flow) (rules new_rules : Rules) (first : StickyCookies) (set : List Cookie) (old new : Movers B) (files new_files : FilesMeaning) (answer : Answer) →
      HasKeptSet first set old.cookies → ChainAnswers title state moves hook flow rules old files new_rules new new_files answer →
      HasKeptSet first (set ++ of_response_head hook (set_at rules flow)) new.cookies
  cookies_after hooks.RequestHead flow rules new_rules first set old new files new_files answer so given =
      cookies_stay first set old.cookies new.cookies so (cookies_elsewhere hooks.RequestHead flow rules new_rules old new files new_files answer (λ e. cc) given)
  cookies_after hooks.RequestBody flow rules new_rules first set old new files new_files answer so given =
      cookies_stay first set old.cookies new.cookies so (cookies_elsewhere hooks.RequestBody flow rules new_rules old new files new_files answer (λ e. cc) given)
  cookies_after hooks.ResponseHead flow rules new_rules first set old new files new_files answer so given =
      head_kept rules first set (begun flow rules.stream) given.left old new files new_files refl so given.moved
  cookies_after hooks.ResponseBody flow rules new_rules first set old new files new_files answer so given =
      cookies_stay first set old.cookies new.cookies so (cookies_elsewhere hooks.ResponseBody flow rules new_rules old new files new_files answer (λ e. cc) given)
  cookies_after (hooks.WsMessage side) flow rules new_rules first set old new files new_files answer so given =
      cookies_stay first set old.cookies new.cookies so (cookies_elsewhere (hooks.WsMessage side) flow rules new_rules old new files new_files answer (λ e. cc) given)

  -- where none are kept, none are
  cookies_none : (draft after : Draft) (old new : Option StickyCookies) → old ≡ None → KeepsCookies draft old after new → new ≡ None
  cookies_none draft after None new none kept = kept.1
  cookies_none draft after (Some cookies) new none kept = absurd cc

  asked_no_cookies : (rules : Rules) (hook : Hook) (one : Part) (draft after : Draft) (old new : Movers B) (files new_files : FilesMeaning) →
      PartMoves title state moves rules hook one draft old files after new new_files → old.cookies ≡ None → new.cookies ≡ None
  asked_no_cookies rules hook part.Block draft after old new files new_files moved none = ap (λ (m : Movers B). m.cookies) moved.1 ∙ none
  asked_no_cookies rules hook part.MapLocal draft after old new files new_files moved none = ap (λ (m : Movers B). m.cookies) moved.1 ∙ none
  asked_no_cookies rules hook part.MapRemote draft after old new files new_files moved none = ap (λ (m : Movers B). m.cookies) moved.1 ∙ none
  asked_no_cookies rules hook part.ModifyHeaders draft after old new files new_files moved none = ap (λ (m : Movers B). m.cookies) moved.1 ∙ none
  asked_no_cookies rules hook part.Anticache draft after old new files new_files moved none = ap (λ (m : Movers B). m.cookies) moved.1 ∙ none
  asked_no_cookies rules hook part.Anticomp draft after old new files new_files moved none = ap (λ (m : Movers B). m.cookies) moved.1 ∙ none
  asked_no_cookies rules hook part.StickyCookies draft after old new files new_files moved none = ap (λ (m : Movers B). m.cookies) moved.1 ∙ none
  asked_no_cookies rules hook part.StickyAuth draft after old new files new_files moved none = ap (λ (m : Movers B). m.cookies) moved.1 ∙ none
  asked_no_cookies rules hook part.KeepCookies draft after old new files new_files moved none = cookies_none draft after old.cookies new.cookies none moved.0
  asked_no_cookies rules hook part.ServerReplay draft after old new files new_files moved none = ap (λ (m : Movers B). m.cookies) moved.1 ∙ none
  asked_no_cookies rules hook part.ModifyBody draft after old new files new_files moved none = ap (λ (m : Movers B). m.cookies) moved.1 ∙ none
  asked_no_cookies rules hook part.Addons draft after old new files new_files moved none = ap (λ (m : Movers B). m.cookies) moved.1 ∙ none

  pub no_cookies_kept : (rules : Rules) (first last : Movers B) (made : List Given) → first.cookies ≡ None → InTurn title state moves rules first made last → last.cookies ≡ None
  no_cookies_kept rules first last made none none_given = none
  no_cookies_kept rules first last made none (next_given earlier _ hook flow new_rules old _ addons files new_files answer before by split) =
      parts_keep title state moves (λ m. m.cookies ≡ None) rules hook (asked_no_cookies rules hook) (parts hook) (begun flow rules.stream) by.left (record old { addons = addons }) last
      files new_files by.moved (no_cookies_kept rules first old earlier none before)

  -- ---- cookies, by answers one behind the other

  pub cookies_kept : (rules : Rules) (first last : Movers B) (cookies : StickyCookies) (made : List Given) → first.cookies ≡ Some cookies → cookies.jar ≡ [] →
      InTurn title state moves rules first made last → HasKeptSet cookies (cookies_set rules made) last.cookies
  cookies_kept rules first last cookies made has empty none_given = record { cookies = cookies; is = has; filter = refl; kept = empty }
  cookies_kept rules first last cookies made has empty (next_given earlier _ hook flow new_rules old _ addons files new_files answer before by split) =
      let given : Given = record { hook = hook; flow = flow; answer = answer } in
      let next : HasKeptSet cookies (cookies_set rules earlier ++ of_response_head hook (set_at rules flow)) last.cookies =
      cookies_after hook flow rules new_rules cookies (cookies_set rules earlier) (record old { addons = addons }) last files new_files answer
      (cookies_kept rules first old cookies earlier has empty before) by in
      subst (λ l. HasKeptSet cookies (cookies_set rules l) last.cookies) (sym split)
      (subst (λ l. HasKeptSet cookies l last.cookies) (sym (cookies_with rules earlier given)) next)

  -- ---- authorizations, by one answer

  -- from sticky authorization on
  auth_asked : (rules : Rules) (first : StickyAuth) (shown : List Authorization) (draft end : Draft) (old new : Movers B) (files new_files : FilesMeaning) → still_going draft →
      HasKeptShown first shown old.auth →
      PartsMove title state moves rules hooks.RequestHead (part.StickyAuth ∷ part.Addons ∷ []) draft old files end new new_files →
      HasKeptShown first (shown ++ shown_by draft.flow.request) new.auth
  auth_asked rules first shown draft end old new files new_files going so moved =
      let one = first_of title state moves rules hooks.RequestHead part.StickyAuth (part.Addons ∷ []) draft end old new files new_files moved in
      let keeps : KeepsShown draft so.auth one.after one.mid.auth = subst (λ a. Authorizes draft a one.after one.mid.auth) so.is (one.moved going).0 in
      let still : new.auth ≡ one.mid.auth =
      parts_still title state moves part.StickyAuth (λ m. m.auth) auth_moved rules hooks.RequestHead (part.Addons ∷ []) one.after end one.mid new one.mid_files new_files
      ((λ e. cc), tt) one.behind in
      auth_more first so.auth keeps.auth shown (shown_by draft.flow.request) new.auth so.filter so.kept (still ∙ keeps.is) keeps.filter keeps.kept

  -- from the header rules on
  rules_asked : (rules : Rules) (first : StickyAuth) (shown : List Authorization) (draft end : Draft) (old new : Movers B) (files new_files : FilesMeaning) → still_going draft →
      HasKeptShown first shown old.auth →
      PartsMove title state moves rules hooks.RequestHead
      (part.ModifyHeaders ∷ part.Anticache ∷ part.Anticomp ∷ part.StickyCookies ∷ part.StickyAuth ∷ part.Addons ∷ []) draft old files end new new_files →
      HasKeptShown first (shown ++ shown_by (with_rules rules draft.flow).request) new.auth
  rules_asked rules first shown draft end old new files new_files going so parted =
      let hook = hooks.RequestHead in
      let one = first_of title state moves rules hook part.ModifyHeaders (part.Anticache ∷ part.Anticomp ∷ part.StickyCookies ∷ part.StickyAuth ∷ part.Addons ∷ [])
      draft end old new files new_files parted in
      let a = one.moved going in
      let two = first_of title state moves rules hook part.Anticache (part.Anticomp ∷ part.StickyCookies ∷ part.StickyAuth ∷ part.Addons ∷ [])
      one.after end one.mid new one.mid_files new_files one.behind in
      let a_goes = goes_on _ one.after a.0 going in
      let b = two.moved a_goes in
      let b_goes = goes_on _ two.after b.0 a_goes in
      let three = first_of title state moves rules hook part.Anticomp (part.StickyCookies ∷ part.StickyAuth ∷ part.Addons ∷ [])
      two.after end two.mid new two.mid_files new_files two.behind in
      let c = three.moved b_goes in
      let c_goes = goes_on _ three.after c.0 b_goes in
      let four = first_of title state moves rules hook part.StickyCookies (part.StickyAuth ∷ part.Addons ∷ [])
      three.after end three.mid new three.mid_files new_files three.behind in
      let d = four.moved c_goes in
      let flows : three.after.flow ≡ with_rules rules draft.flow =
      ap (λ (x : Draft). x.flow) (c.0 ∙ ap (made_by rules hook part.Anticomp) (b.0 ∙ ap (made_by rules hook part.Anticache) a.0)) in
      let sent : shown_by four.after.flow.request ≡ shown_by (with_rules rules draft.flow).request =
      ap (λ (x : Draft). shown_by x.flow.request) d.0 ∙ shows_same three.mid.cookies three.after.flow ∙ ap (λ (f : Flow). shown_by f.request) flows in
      let kept : HasKeptShown first shown four.mid.auth =
      subst (λ (m : Movers B). HasKeptShown first shown m.auth) (sym (d.1 ∙ c.1 ∙ b.1 ∙ a.1)) so in
      subst (λ l. HasKeptShown first (shown ++ l) new.auth) sent
      (auth_asked rules first shown four.after end four.mid new four.mid_files new_files (goes_on _ four.after d.0 c_goes) kept four.behind)

  -- where a part answered, nothing is kept
  ended_stays : (rules : Rules) (list : List Part) (first : StickyAuth) (shown : List Authorization) (draft end : Draft) (before old new : Movers B) (files new_files : FilesMeaning) →
      is_going draft.verdict ≡ false → old ≡ before → HasKeptShown first shown before.auth →
      PartsMove title state moves rules hooks.RequestHead list draft old files end new new_files → HasKeptShown first (shown ++ []) new.auth
  ended_stays rules list first shown draft end before old new files new_files over same so behind =
      auth_stays first shown before.auth new.auth so
      (ap (λ (m : Movers B). m.auth) ((all_passed title state moves rules hooks.RequestHead list draft end old new files new_files behind over).1 ∙ same))

  abbrev FromHeaders : List Part
  FromHeaders = part.ModifyHeaders ∷ part.Anticache ∷ part.Anticomp ∷ part.StickyCookies ∷ part.StickyAuth ∷ part.Addons ∷ []

  -- from map remote on
  remote_by : (rules : Rules) (first : StickyAuth) (shown : List Authorization) (draft after end : Draft) (old mid new : Movers B) (files mid_files new_files : FilesMeaning)
      (told : Result Flow Flow) → still_going draft → after ≡ moved told draft → mid ≡ old → HasKeptShown first shown old.auth →
      PartsMove title state moves rules hooks.RequestHead FromHeaders after mid mid_files end new new_files →
      HasKeptShown first (shown ++ shown_in (sent_on rules told)) new.auth
  remote_by rules first shown draft after end old mid new files mid_files new_files (Ok flow) going made same so behind =
      subst (λ (d : Draft). HasKeptShown first (shown ++ shown_by (with_rules rules d.flow).request) new.auth) made
      (rules_asked rules first shown after end mid new mid_files new_files (goes_on _ after made going)
      (subst (λ (m : Movers B). HasKeptShown first shown m.auth) (sym same) so) behind)
  remote_by rules first shown draft after end old mid new files mid_files new_files (Err flow) going made same so behind =
      ended_stays rules FromHeaders first shown after end old mid new mid_files new_files (is_over _ after made refl) same so behind

  remote_asked : (rules : Rules) (first : StickyAuth) (shown : List Authorization) (draft end : Draft) (old new : Movers B) (files new_files : FilesMeaning) → still_going draft →
      HasKeptShown first shown old.auth → PartsMove title state moves rules hooks.RequestHead (part.MapRemote ∷ FromHeaders) draft old files end new new_files →
      HasKeptShown first (shown ++ shown_in (sent_on rules (remote_rules (remote_views rules.remote) draft.flow))) new.auth
  remote_asked rules first shown draft end old new files new_files going so parted =
      let one = first_of title state moves rules hooks.RequestHead part.MapRemote FromHeaders draft end old new files new_files parted in
      let made = one.moved going in
      remote_by rules first shown draft one.after end old one.mid new files one.mid_files new_files (remote_rules (remote_views rules.remote) draft.flow) going made.0 made.1 so one.behind

  -- from map local on
  local_by : (rules : Rules) (first : StickyAuth) (shown : List Authorization) (draft after end : Draft) (old mid new : Movers B) (files mid_files new_files : FilesMeaning)
      (names : List (Option (List ℕ))) (calls : List FileCall) (answer : Option Response) → still_going draft → IsAnswer names calls answer → after ≡ answered_by answer draft →
      mid ≡ old → HasKeptShown first shown old.auth →
      PartsMove title state moves rules hooks.RequestHead (part.MapRemote ∷ FromHeaders) after mid mid_files end new new_files →
      HasKeptShown first (shown ++ shown_in (unless_local names (sent_on rules (remote_rules (remote_views rules.remote) draft.flow)))) new.auth
  local_by rules first shown draft after end old mid new files mid_files new_files [] calls answer going is made same so behind =
      let untouched : after ≡ draft = made ∙ ap (λ a. answered_by a draft) is.1 in
      subst (λ (d : Draft). HasKeptShown first (shown ++ shown_in (sent_on rules (remote_rules (remote_views rules.remote) d.flow))) new.auth) untouched
      (remote_asked rules first shown after end mid new mid_files new_files (goes_on _ after untouched going)
      (subst (λ (m : Movers B). HasKeptShown first shown m.auth) (sym same) so) behind)
  local_by rules first shown draft after end old mid new files mid_files new_files (name ∷ names) calls answer going is made same so behind =
      ended_stays rules (part.MapRemote ∷ FromHeaders) first shown after end old mid new mid_files new_files
      (is_over _ after (made ∙ ap (λ a. answered_by a draft) is.1) refl) same so behind

  local_asked : (rules : Rules) (first : StickyAuth) (shown : List Authorization) (draft end : Draft) (old new : Movers B) (files new_files : FilesMeaning) → still_going draft →
      HasKeptShown first shown old.auth → PartsMove title state moves rules hooks.RequestHead (part.MapLocal ∷ part.MapRemote ∷ FromHeaders) draft old files end new new_files →
      HasKeptShown first (shown ++ shown_in (unless_local (names_for rules draft.flow) (sent_on rules (remote_rules (remote_views rules.remote) draft.flow)))) new.auth
  local_asked rules first shown draft end old new files new_files going so parted =
      let one = first_of title state moves rules hooks.RequestHead part.MapLocal (part.MapRemote ∷ FromHeaders) draft end old new files new_files parted in
      let maps = one.moved going in
      local_by rules first shown draft one.after end old one.mid new files one.mid_files new_files (names_for rules draft.flow) maps.0.made maps.0.answer going maps.0.answers maps.0.drafted
      maps.1 so one.behind

  -- from the block rules on
  block_by : (rules : Rules) (first : StickyAuth) (shown : List Authorization) (draft after end : Draft) (old mid new : Movers B) (files mid_files new_files : FilesMeaning)
      (status : Option ℕ) → still_going draft → after ≡ blocked status draft → mid ≡ old → HasKeptShown first shown old.auth →
      PartsMove title state moves rules hooks.RequestHead (part.MapLocal ∷ part.MapRemote ∷ FromHeaders) after mid mid_files end new new_files →
      HasKeptShown first (shown ++ shown_in (unless_blocked status
      (unless_local (names_for rules draft.flow) (sent_on rules (remote_rules (remote_views rules.remote) draft.flow))))) new.auth
  block_by rules first shown draft after end old mid new files mid_files new_files None going made same so behind =
      subst (λ (d : Draft). HasKeptShown first (shown ++ shown_in (unless_local (names_for rules d.flow) (sent_on rules (remote_rules (remote_views rules.remote) d.flow)))) new.auth) made
      (local_asked rules first shown after end mid new mid_files new_files (goes_on _ after made going)
      (subst (λ (m : Movers B). HasKeptShown first shown m.auth) (sym same) so) behind)
  block_by rules first shown draft after end old mid new files mid_files new_files (Some status) going made same so behind =
      ended_stays rules (part.MapLocal ∷ part.MapRemote ∷ FromHeaders) first shown after end old mid new mid_files new_files (is_over _ after made (blocks status)) same so behind

  head_shown : (rules : Rules) (first : StickyAuth) (shown : List Authorization) (draft end : Draft) (old new : Movers B) (files new_files : FilesMeaning) → still_going draft →
      HasKeptShown first shown old.auth →
      PartsMove title state moves rules hooks.RequestHead (part.Block ∷ part.MapLocal ∷ part.MapRemote ∷ FromHeaders) draft old files end new new_files →
      HasKeptShown first (shown ++ shown_at rules draft.flow) new.auth
  head_shown rules first shown draft end old new files new_files going so parted =
      let one = first_of title state moves rules hooks.RequestHead part.Block (part.MapLocal ∷ part.MapRemote ∷ FromHeaders) draft end old new files new_files parted in
      let made = one.moved going in
      block_by rules first shown draft one.after end old one.mid new files one.mid_files new_files (block_status (block_views rules.block) draft.flow) going made.0 made.1 so one.behind

  -- no other hook changes kept authorizations
  pub auth_elsewhere : (hook : Hook) (flow : Flow) (rules new_rules : Rules) (old new : Movers B) (files new_files : FilesMeaning) (answer : Answer) →
      hook ≢ hooks.RequestHead → ChainAnswers title state moves hook flow rules old files new_rules new new_files answer → new.auth ≡ old.auth
  auth_elsewhere hooks.RequestHead flow rules new_rules old new files new_files answer other given = absurd (other refl)
  auth_elsewhere hooks.RequestBody flow rules new_rules old new files new_files answer other given =
      parts_still title state moves part.StickyAuth (λ m. m.auth) auth_moved rules hooks.RequestBody (parts hooks.RequestBody) (begun flow rules.stream) given.left old new files new_files
      ((λ e. cc), ((λ e. cc), ((λ e. cc), tt))) given.moved
  auth_elsewhere hooks.ResponseHead flow rules new_rules old new files new_files answer other given =
      parts_still title state moves part.StickyAuth (λ m. m.auth) auth_moved rules hooks.ResponseHead (parts hooks.ResponseHead) (begun flow rules.stream) given.left old new files new_files
      ((λ e. cc), ((λ e. cc), ((λ e. cc), tt))) given.moved
  auth_elsewhere hooks.ResponseBody flow rules new_rules old new files new_files answer other given =
      parts_still title state moves part.StickyAuth (λ m. m.auth) auth_moved rules hooks.ResponseBody (parts hooks.ResponseBody) (begun flow rules.stream) given.left old new files new_files
      ((λ e. cc), ((λ e. cc), tt)) given.moved
  auth_elsewhere (hooks.WsMessage side) flow rules new_rules old new files new_files answer other given =
      parts_still title state moves part.StickyAuth (λ m. m.auth) auth_moved rules (hooks.WsMessage side) (parts (hooks.WsMessage side)) (begun flow rules.stream) given.left old new files new_files
      ((λ e. cc), ((λ e. cc), tt)) given.moved

  auth_after : (hook : Hook) (flow : Flow) (rules new_rules : Rules) (first : StickyAuth) (shown : List Authorization) (old new : Movers B) (files new_files : FilesMeaning) (answer : Answer) →
      HasKeptShown first shown old.auth → ChainAnswers title state moves hook flow rules old files new_rules new new_files answer →
      HasKeptShown first (shown ++ of_request_head hook (shown_at rules flow)) new.auth
  auth_after hooks.RequestHead flow rules new_rules first shown old new files new_files answer so given =
      head_shown rules first shown (begun flow rules.stream) given.left old new files new_files refl so given.moved
  auth_after hooks.RequestBody flow rules new_rules first shown old new files new_files answer so given =
      auth_stays first shown old.auth new.auth so (auth_elsewhere hooks.RequestBody flow rules new_rules old new files new_files answer (λ e. cc) given)
  auth_after hooks.ResponseHead flow rules new_rules first shown old new files new_files answer so given =
      auth_stays first shown old.auth new.auth so (auth_elsewhere hooks.ResponseHead flow rules new_rules old new files new_files answer (λ e. cc) given)
  auth_after hooks.ResponseBody flow rules new_rules first shown old new files new_files answer so given =
      auth_stays first shown old.auth new.auth so (auth_elsewhere hooks.ResponseBody flow rules new_rules old new files new_files answer (λ e. cc) given)
  auth_after (hooks.WsMessage side) flow rules new_rules first shown old new files new_files answer so given =
      auth_stays first shown old.auth new.auth so (auth_elsewhere (hooks.WsMessage side) flow rules new_rules old new files new_files answer (λ e. cc) given)

  -- where none are kept, none are
  auth_none : (draft after : Draft) (old new : Option StickyAuth) → old ≡ None → Authorizes draft old after new → new ≡ None
  auth_none draft after None new none kept = kept.1
  auth_none draft after (Some auth) new none kept = absurd cc

  asked_no_auth : (rules : Rules) (hook : Hook) (one : Part) (draft after : Draft) (old new : Movers B) (files new_files : FilesMeaning) →
      PartMoves title state moves rules hook one draft old files after new new_files → old.auth ≡ None → new.auth ≡ None
  asked_no_auth rules hook part.Block draft after old new files new_files moved none = ap (λ (m : Movers B). m.auth) moved.1 ∙ none
  asked_no_auth rules hook part.MapLocal draft after old new files new_files moved none = ap (λ (m : Movers B). m.auth) moved.1 ∙ none
  asked_no_auth rules hook part.MapRemote draft after old new files new_files moved none = ap (λ (m : Movers B). m.auth) moved.1 ∙ none
  asked_no_auth rules hook part.ModifyHeaders draft after old new files new_files moved none = ap (λ (m : Movers B). m.auth) moved.1 ∙ none
  asked_no_auth rules hook part.Anticache draft after old new files new_files moved none = ap (λ (m : Movers B). m.auth) moved.1 ∙ none
  asked_no_auth rules hook part.Anticomp draft after old new files new_files moved none = ap (λ (m : Movers B). m.auth) moved.1 ∙ none
  asked_no_auth rules hook part.StickyCookies draft after old new files new_files moved none = ap (λ (m : Movers B). m.auth) moved.1 ∙ none
  asked_no_auth rules hook part.StickyAuth draft after old new files new_files moved none = auth_none draft after old.auth new.auth none moved.0
  asked_no_auth rules hook part.KeepCookies draft after old new files new_files moved none = ap (λ (m : Movers B). m.auth) moved.1 ∙ none
  asked_no_auth rules hook part.ServerReplay draft after old new files new_files moved none = ap (λ (m : Movers B). m.auth) moved.1 ∙ none
  asked_no_auth rules hook part.ModifyBody draft after old new files new_files moved none = ap (λ (m : Movers B). m.auth) moved.1 ∙ none
  asked_no_auth rules hook part.Addons draft after old new files new_files moved none = ap (λ (m : Movers B). m.auth) moved.1 ∙ none

  pub no_auth_kept : (rules : Rules) (first last : Movers B) (made : List Given) → first.auth ≡ None → InTurn title state moves rules first made last → last.auth ≡ None
  no_auth_kept rules first last made none none_given = none
  no_auth_kept rules first last made none (next_given earlier _ hook flow new_rules old _ addons files new_files answer before by split) =
      parts_keep title state moves (λ m. m.auth ≡ None) rules hook (asked_no_auth rules hook) (parts hook) (begun flow rules.stream) by.left (record old { addons = addons }) last
      files new_files by.moved (no_auth_kept rules first old earlier none before)

  -- ---- authorizations, by answers one behind the other

  pub auth_kept : (rules : Rules) (first last : Movers B) (auth : StickyAuth) (made : List Given) → first.auth ≡ Some auth → auth.shown ≡ [] →
      InTurn title state moves rules first made last → HasKeptShown auth (all_shown rules made) last.auth
  auth_kept rules first last auth made has empty none_given = record { auth = auth; is = has; filter = refl; kept = empty }
  auth_kept rules first last auth made has empty (next_given earlier _ hook flow new_rules old _ addons files new_files answer before by split) =
      let given : Given = record { hook = hook; flow = flow; answer = answer } in
      let next : HasKeptShown auth (all_shown rules earlier ++ of_request_head hook (shown_at rules flow)) last.auth =
      auth_after hook flow rules new_rules auth (all_shown rules earlier) (record old { addons = addons }) last files new_files answer
      (auth_kept rules first old auth earlier has empty before) by in
      subst (λ l. HasKeptShown auth (all_shown rules l) last.auth) (sym split)
      (subst (λ l. HasKeptShown auth l last.auth) (sym (shown_with rules earlier given)) next)
