-- Where it is known first that a request is streamed, the machine begins to send it as the chain does.
use Rattle.std.proofs.Common.{◌≡◌, ℕ, ◌≤◌, Bool, true, false, List, [], ◌∷◌, ◌++◌, length, drop, Option, Some, None, refl, ap, sym, ◌∙◌, subst, append_assoc, arith}
use Rattle.std.proofs.lemmas.Grind.{flat_map-append}
use Rattle.std.proofs.lemmas.List.{append-nil}
use Rattle.px_message.specs.declared.flow.Flow.{Flow}
use Rattle.px_message.specs.declared.request.Request.{Request}
use Rattle.px_message.specs.declared.version.Version.{Version}
use Rattle.px_message.specs.declared.version.Version.TheVariants as versions
use Rattle.px_event.specs.declared.command.Command.{Command}
use Rattle.px_read.specs.Chunks.{goes_on, whole, fails}
use Rattle.px_read.specs.Items.{content_in as content_at}
use Rattle.px_read.specs.Marks.{Mark, asks}
use Rattle.px_read.specs.Readings.{request_reading}
use Rattle.px_read.specs.Reader.{State, Reads, request, to_come}
use Rattle.px_read.specs.declared.head.RequestHead.{RequestHead as ReadRequest}
use Rattle.px_write.specs.Text.{request_head_text}
use Rattle.px_exchange.specs.declared.body.Progress.{Progress}
use Rattle.px_exchange.specs.declared.body.Progress.TheVariants as progress
use Rattle.px_exchange.specs.declared.place.Place.{Place}
use Rattle.px_exchange.specs.declared.terms.Terms.{Terms}
use Rattle.px_exchange.specs.Bodies.{HasCome, content_of}
use Rattle.px_exchange.specs.Places.{form_at, is_same_address, server_for}
use Rattle.px_exchange.specs.Requests.{is_head}
use Rattle.px_exchange.specs.Texts.{interim_commands}
use Rattle.px_parts.proofs.TextLemmas.{marks_both}
use Rattle.px_parts.specs.Texts.{last_text, left_of, marks_text}
use Rattle.px_chain.specs.Chain.{end_up, goes_up_by, parked_for, pass_going, reached, side_if, sight_ended}
use Rattle.px_chain.specs.Going.{framed_up, goes_up, going_text, sending_on}
use Rattle.px_chain.specs.Keeping.{is_silent, unspoilt_at, unspoilt_by}
use Rattle.px_chain.proofs.KeepingLaws.{silent_nothing}
use Rattle.px_chain.specs.Sights.{Sight, left_by}
use Rattle.px_chain.specs.Stages.{At, Parked, Stage, busy, connection, going_up, request_body, response_head, unparked}
use Rattle.px_stream.specs.declared.going.HeldRequest.{HeldRequest}
use Rattle.px_stream.specs.declared.link.Link.{Link}
use Rattle.px_stream.specs.declared.phase.Wanted.{Wanted}
use Rattle.px_stream.specs.declared.phase.Wanted.TheVariants as ready
use Rattle.px_stream.specs.Comings.{GoesOverHeld}
use Rattle.px_stream.specs.Goings.{framed_up_by, goes_up_with, up_text}
use Rattle.px_stream.specs.GoingUp.{DialsUp, HeldUpWent, LedUp, RestsUp, TakesSide}
use Rattle.px_stream.specs.Stands.{IsOpen, IsRead, ReadsBody, ReadsGoing, ReadsLink, ReadsUp, none_sent, parked_link, silent_link, unread_link}
use Rattle.px_stream.specs.Turns.{opened_side, with_open}
use Rattle.px_stream.proofs.CameLemmas.{finish_of, none_left}
use Rattle.px_stream.proofs.KeptLemmas.{behind_whole}
use Rattle.px_stream.proofs.GoneLemmas.{GoesBy, head_rises, rises_by}
use Rattle.px_stream.proofs.ParkedLemmas.{open_as}
use Rattle.px_stream.proofs.ReadUpLemmas.{framed_same, going_is, item_is, streams_is, whole_is}
use Rattle.px_stream.proofs.UnreadLemmas.{unread_reads}
use Rattle.px_stream.proofs.WentUpLemmas.{UpTo}

-- no interim responses are no commands
no_commands_by : (version : Version) (message : Request) → message.version ≡ version → interim_commands message [] ≡ []
no_commands_by versions.Http10 message is = rw is refl
no_commands_by versions.Http11 message is = rw is refl

no_commands : (message : Request) → interim_commands message [] ≡ []
no_commands message = no_commands_by message.version message refl

-- The side that is parked, where the request goes there, is one of which all is to be read: nothing was heard of it.
opened_by : (b : Bool) (asked_head : Bool) (parked : Parked) (server : ℕ) (seen : Sight) → side_if b parked.server ≡ Some server → is_silent seen.server seen.shut ≡ true →
    IsOpen (ReadsLink asked_head server seen.server seen.shut [] []) (opened_side false server asked_head (silent_link true parked.server))
opened_by true asked_head parked server seen is silent =
    let same : parked.server ≡ server = (let e : Some parked.server ≡ Some server = is in cc) in
    let nothing = silent_nothing seen.server seen.shut silent in
    let P : ℕ → List ℕ → Bool → Type 0 = λ n bytes shut. ReadsLink asked_head server bytes shut [] [] (unread_link n asked_head [] false) in
    subst (λ n. P n seen.server seen.shut) (sym same) (subst (λ bytes. P server bytes seen.shut) (sym nothing.empty) (subst (P server []) (sym nothing.is_open) (unread_reads asked_head server [] false)))
opened_by false asked_head parked server seen is silent = absurd (let no : None ≡ Some server = is in cc)

opened_silent : (place : Place) (message : Request) (parked : Parked) (asked_head : Bool) (server : ℕ) (seen : Sight) (silent : Bool) → is_silent seen.server seen.shut ≡ silent →
    parked_for place message (unspoilt_by silent (Some parked)) ≡ Some server → IsOpen (ReadsLink asked_head server seen.server seen.shut [] []) (opened_side false server asked_head (silent_link silent parked.server))
opened_silent place message parked asked_head server seen true silent is = opened_by (is_same_address parked.address (server_for place message)) asked_head parked server seen is silent
opened_silent place message parked asked_head server seen false silent is = absurd (let no : None ≡ Some server = is in cc)

none_for : (place : Place) (message : Request) (silent : Bool) → parked_for place message (unspoilt_by silent None) ≡ None
none_for place message true = refl
none_for place message false = refl

opened_there : (place : Place) (message : Request) (o : Option Parked) (asked_head : Bool) (server : ℕ) (seen : Sight) → parked_for place message (unspoilt_by (is_silent seen.server seen.shut) o) ≡ Some server →
    IsOpen (ReadsLink asked_head server seen.server seen.shut [] []) (opened_side false server asked_head (parked_link o seen))
opened_there place message None asked_head server seen is =
    absurd (let no : None ≡ Some server = sym (none_for place message (is_silent seen.server seen.shut)) ∙ is in cc)
opened_there place message (Some parked) asked_head server seen is = opened_silent place message parked asked_head server seen (is_silent seen.server seen.shut) refl is

no_less : (n m : ℕ) → n ≡ 0 → n ≤ m
no_less n m is = omega arith

-- ---- all that came of it, of which nothing was sent before

module _ (terms : Terms) (flow : Flow) (seen : Sight) (goes : Request) (head : ReadRequest) (all : List Mark) (new : State) (text : List ℕ) (sent_as : goes ≡ framed_up head flow.request)
    (untold : seen.told ≡ 0) (reads : Reads request (asks head ∷ all) seen.client false new) (is_text : text ≡ up_text terms.place (Some goes) all) where
  none_told : (l : List ℕ) → left_of seen.told l ≡ l
  none_told l = ap (λ n. drop n l) untold

  going_first : ReadsGoing flow seen (Some goes) all new
  going_first = record { head = head; sent_as = ap (λ (r : Request). Some r) sent_as; reads = reads }

  up_first : ReadsUp terms flow seen goes text new
  up_first = record {
    marks = all;
    going_on = going_first;
    within = no_less seen.told (length (up_text terms.place (Some goes) all)) untold;
    is_text = is_text ∙ sym (none_told (up_text terms.place (Some goes) all));
  }

  whole_text : (size : ℕ) (trailers : List (List ℕ × List ℕ)) → request_reading seen.client ≡ record { marks = asks head ∷ all; finish = whole trailers size } →
      left_of seen.told (going_text terms.place flow seen) ≡ text ++ last_text goes.fields trailers
  whole_text size trailers is =
      let last : List ℕ = last_text goes.fields trailers in
      none_told (going_text terms.place flow seen)
      ∙ (going_is seen head all (whole trailers size) is terms.place flow
      ∙ (ap (λ (g : Request). request_head_text g (form_at terms.place) ++ (marks_text all ++ last_text g.fields trailers)) (sym sent_as)
      ∙ (sym (append_assoc (request_head_text goes (form_at terms.place)) (marks_text all) last) ∙ ap (λ l. l ++ last) (sym is_text))))

  up_to_first : (got : Progress) → HasCome got (request_reading seen.client) (asks head ∷ all) seen.client new → UpTo got terms flow seen goes [] text new
  up_to_first progress.Missing has = (whole_is seen head all goes_on has, up_first, none_left progress.Missing request (asks head ∷ all) seen.client false new reads has)
  up_to_first (progress.Bad fault) has = (whole_is seen head all (fails fault) has, up_first, none_left (progress.Bad fault) request (asks head ∷ all) seen.client false new reads has)
  up_to_first (progress.Whole trailers) has = (
    has.0,
    whole_is seen head all (whole trailers has.0) has.1,
    whole_text has.0 trailers has.1,
    record { rest = has.2 ∙ ap (λ i. left_by i seen.client) (sym (item_is seen head all (whole trailers has.0) has.1)); open_still = reads.closed; behind = behind_whole request (asks head ∷ all) seen.client false new trailers reads has.4 },
  )

-- ---- what came of a request that may yet be streamed

module _ (terms : Terms) (at now : At) (flow : Flow) (most : Option ℕ) (seen : Sight) (held : HeldRequest) (content : List ℕ) (old new : State) (side later : Option Link) (next : Wanted) (out longer : List Command)
    (is : ReadsBody None most seen content (Some held) old) (parked : side ≡ parked_link at.parked seen) (got : Progress) (body : List ℕ) (more : HeldRequest) (same : more.read ≡ held.read)
    (read : GoesOverHeld got old content held.said.items new body more.said.items) where
  abbrev head : ReadRequest
  head = is.head

  abbrev all : List Mark
  all = is.marks ++ read.over.marks

  reads_all : Reads request (asks head ∷ all) seen.client false new
  reads_all = read.over.reads request (asks head ∷ is.marks) seen.client false is.reads

  has_come : HasCome got (request_reading seen.client) (asks head ∷ all) seen.client new
  has_come = read.come request (asks head ∷ is.marks) seen.client false is.reads

  was_read : IsRead head more.read
  was_read = subst (IsRead head) (sym same) is.holds.1

  body_is : body ≡ content_of all
  body_is = read.over.grown ∙ (ap (λ l. l ++ content_of read.over.marks) is.is_content ∙ sym (flat_map-append content_at is.marks read.over.marks))

  says_all : more.said.items ≡ marks_text all
  says_all = read.over.says ∙ (ap (λ l. l ++ marks_text read.over.marks) is.holds.2 ∙ sym (marks_both is.marks read.over.marks))

  none_to_come : (to_come new).marks ≡ []
  none_to_come = none_left got request (asks head ∷ all) seen.client false new reads_all has_come

  -- it is judged as the chain judges it
  pub judged : goes_up most seen ≡ goes_up_with more.read most (length body)
  judged =
      let ended = finish_of got (request_reading seen.client) (asks head ∷ all) seen.client new has_come in
      streams_is seen head all ended.0 ended.1 more.read most was_read ∙ ap (λ l. goes_up_with more.read most (length l)) (sym body_is)

  abbrev Begins : Stage → Type 0
  Begins stage = GoesBy terms (end_up terms stage seen) (sight_ended stage seen) now new later next [] out longer

  -- it is kept on
  kept_on : goes_up most seen ≡ false → RestsUp at now next (ready.RequestBody flow None most body (Some more)) side later out longer → Begins (busy at flow (request_body None most))
  kept_on none rests =
      let stage : Stage = busy at flow (request_body None most) in
      let P : At → Wanted → Option Link → Type 0 = λ a n s. GoesBy terms (end_up terms stage seen) (sight_ended stage seen) a new s n [] out longer in
      subst (λ a. P a next later) (sym rests.same) (subst (λ n. P at n later) (sym rests.is_there) (subst (P at (ready.RequestBody flow None most body (Some more))) (sym rests.same_side) (record {
        sent = none_sent;
        more = [];
        grown = rests.gives ∙ sym (append-nil out);
        owes = λ view. refl;
        is_ready = record {
          is_stage = refl;
          request = record { head = head; marks = all; is_content = body_is; holds = (refl, was_read, says_all); untold = is.untold; reads = reads_all };
          has_side = parked;
        };
        is_gone = none;
        no_more = none_to_come;
      })))

  -- or it is streamed: its text as far as it came
  text_is : (goes : Request) → request_head_text goes (form_at terms.place) ++ more.said.items ≡ up_text terms.place (Some goes) all
  text_is goes = ap (λ l. request_head_text goes (form_at terms.place) ++ l) says_all

  sent_is : (goes : Request) → goes ≡ framed_up_by more.read (sending_on flow).request → goes ≡ framed_up head (sending_on flow).request
  sent_is goes framed = framed ∙ framed_same head more.read was_read (sending_on flow).request

  -- its server is to be dialled
  dials : (goes : Request) → goes ≡ framed_up_by more.read (sending_on flow).request →
      DialsUp at now (sending_on flow) goes (request_head_text goes (form_at terms.place) ++ more.said.items) next side later out longer → Begins (goes_up_by None terms.place at (sending_on flow))
  dials goes framed up =
      let stage : Stage = busy at (sending_on flow) (connection going_up) in
      let there : Wanted = ready.Connection (sending_on flow) (Some up.going) in
      let P : At → Wanted → Option Link → Type 0 = λ a n s. GoesBy terms (end_up terms stage seen) (sight_ended stage seen) a new s n [] out longer in
      subst (λ a. P a next later) (sym up.same) (subst (λ n. P at n later) (sym up.is_there) (subst (P at there) (sym up.same_side) (record {
        sent = none_sent;
        more = [];
        grown = up.gives ∙ sym (append-nil out);
        owes = λ view. refl;
        is_ready = record {
          is_stage = refl;
          request = record {
            marks = all;
            going_on = record { head = head; sent_as = ap (λ (r : Request). Some r) (up.sent_as ∙ sent_is goes framed); reads = reads_all };
            is_text = up.says ∙ (text_is goes ∙ ap (λ (g : Request). up_text terms.place (Some g) all) (sym up.sent_as));
          };
          has_side = parked;
        };
        is_gone = refl;
        no_more = tt;
      })))

  -- or it goes to the side that was parked
  takes : (server : ℕ) (moment : ℕ) (goes : Request) → moment ≡ seen.now → parked_for terms.place flow.request (unspoilt_at at seen).parked ≡ Some server → goes ≡ framed_up_by more.read (sending_on flow).request →
      TakesSide terms.place at now moment (sending_on flow) server goes got (request_head_text goes (form_at terms.place) ++ more.said.items) next side later out longer → Begins (goes_up_by (Some server) terms.place at (sending_on flow))
  takes server moment goes at_now there framed side_taken =
      let text : List ℕ = request_head_text goes (form_at terms.place) ++ more.said.items in
      let told : Flow = reached terms.place (sending_on flow) in
      let stage : Stage = busy (unparked at) told (response_head server going_up) in
      let P : At → Wanted → List Command → Type 0 = λ a n l. GoesBy terms (end_up terms stage seen) (sight_ended stage seen) a new later n l out longer in
      let opened : IsOpen (ReadsLink (is_head flow.request.method) server seen.server seen.shut [] []) later =
      (let Q : Option Link → Type 0 = IsOpen (ReadsLink (is_head flow.request.method) server seen.server seen.shut [] []) in
      subst Q (sym side_taken.opens) (subst (λ s. Q (opened_side false server (is_head flow.request.method) s)) (sym parked)
      (opened_there terms.place flow.request at.parked (is_head flow.request.method) server seen there))) in
      let first = up_to_first terms told seen goes head all new text (sent_is goes framed) is.untold reads_all (text_is goes) got has_come in
      subst (λ a. P a next []) (sym side_taken.unparks) (subst (λ n. P (unparked at) n []) (sym side_taken.is_there)
      (subst (λ l. P (unparked at) (ready.ResponseHead side_taken.told server side_taken.goes) l) (no_commands flow.request)
      (rises_by terms (unparked at) told server (response_head server going_up) (interim_commands told.request []) none_sent (λ f u. ready.ResponseHead f server u) later seen
      (head_rises terms (unparked at) told server none_sent seen later goes opened) goes text new out longer moment got side_taken.told side_taken.goes at_now first side_taken.went)))

  led : (o : Option ℕ) (moment : ℕ) (goes : Request) → moment ≡ seen.now → parked_for terms.place flow.request (unspoilt_at at seen).parked ≡ o → goes ≡ framed_up_by more.read (sending_on flow).request →
      LedUp o terms.place at now moment (sending_on flow) goes got (request_head_text goes (form_at terms.place) ++ more.said.items) next side later out longer → Begins (goes_up_by o terms.place at (sending_on flow))
  led None moment goes at_now there framed up = dials goes framed up
  led (Some server) moment goes at_now there framed up = takes server moment goes at_now there framed up

  -- it goes to the side that is kept still
  open_for : parked_for terms.place flow.request (with_open at side).parked ≡ parked_for terms.place flow.request (unspoilt_at at seen).parked
  open_for = ap (λ (a : At). parked_for terms.place flow.request a.parked) (open_as at seen side parked)

  pub begins_by : (b : Bool) (moment : ℕ) → moment ≡ seen.now → goes_up most seen ≡ b → HeldUpWent b terms.place at now moment flow None most body more got next side later out longer →
      Begins (pass_going b terms.place at flow most seen)
  begins_by true moment at_now streams went =
      let P : Option ℕ → Type 0 = λ o. LedUp o terms.place at now moment (sending_on flow) went.sent got (request_head_text went.sent (form_at terms.place) ++ more.said.items) next side later out longer in
      led (parked_for terms.place flow.request (unspoilt_at at seen).parked) moment went.sent at_now refl went.sent_as (subst P open_for went.led)
  begins_by false moment at_now streams went = kept_on streams went
