-- Where a request goes up whose server is connected, the machine sends on what came of it as the chain does.
use Rattle.std.proofs.Common.{◌≡◌, ℕ, List, [], ◌∷◌, ◌++◌, Option, Some, None, refl, ap, sym, ◌∙◌, subst}
use Rattle.std.proofs.lemmas.List.{append-nil}
use Rattle.px_message.specs.declared.flow.Flow.{Flow}
use Rattle.px_message.specs.declared.request.Request.{Request}
use Rattle.px_message.specs.declared.response.Response.{Response}
use Rattle.px_event.specs.Chain.{Turn}
use Rattle.px_event.specs.View.{View, seen_of}
use Rattle.px_event.specs.declared.command.Command.{Command}
use Rattle.px_event.specs.declared.command.Command.TheVariants as commands
use Rattle.px_event.specs.declared.side.Side.TheVariants.{Server}
use Rattle.px_read.specs.Reader.{State, to_come}
use Rattle.px_read.specs.declared.head.ResponseHead.{ResponseHead as ReadResponse}
use Rattle.px_read.specs.Marks.{Mark}
use Rattle.px_exchange.specs.declared.body.Progress.{Progress}
use Rattle.px_exchange.specs.declared.body.Progress.TheVariants as progress
use Rattle.px_exchange.specs.declared.terms.Terms.{Terms}
use Rattle.px_exchange.specs.Texts.{interim_commands}
use Rattle.px_parts.specs.Texts.{last_text, left_of}
use Rattle.px_chain.specs.Chain.{end_by, gone, gone_by, going_at, past_gone}
use Rattle.px_chain.specs.Going.{going_text, whole_in, with_whole}
use Rattle.px_chain.specs.Sights.{Sight, left_by, request_in}
use Rattle.px_chain.specs.Stages.{At, Doing, Stage, busy, coming_down, going_up, response_body, response_head}
use Rattle.px_stream.specs.declared.coming.Held.{Held}
use Rattle.px_stream.specs.declared.going.Sending.{Sending}
use Rattle.px_stream.specs.declared.going.Sending.TheVariants as sending
use Rattle.px_stream.specs.declared.link.Link.{Link}
use Rattle.px_stream.specs.declared.phase.Wanted.{Wanted}
use Rattle.px_stream.specs.declared.phase.Wanted.TheVariants as ready
use Rattle.px_stream.specs.Comings.{sends_text}
use Rattle.px_stream.specs.Goings.{sends_to}
use Rattle.px_stream.specs.GoingUp.{HasNoMoreUp, IsGone, WentUp}
use Rattle.px_stream.specs.Stands.{HasRequest, HasSide, Holds, HoldsWhole, IsOpen, IsReady, Keeps, ReadsDown, ReadsReturn, ReadsUp, SentOn, sent_on, stage_of}
use Rattle.px_stream.proofs.UpViewLemmas.{IsForClient, interim_for_client, nothing_for_client, server_atoms, text_for_client, up_more, up_sent}
use Rattle.px_stream.proofs.WentUpLemmas.{UpTo}

-- this is owed and leads there, and this is left of the sight
pub record GoesBy (terms : Terms) (turn : Turn Stage Command) (past : Sight) (at : At) (requests : State) (side : Option Link) (looked : Wanted) (before out longer : List Command) : Type 0 where
  pub sent : SentOn
  pub more : List Command
  pub grown : longer ≡ out ++ more
  pub owes : (view : View) → seen_of view (before ++ more) ≡ seen_of view (turn.owed ++ sent_on turn.stage sent)
  pub is_ready : IsReady terms at requests side looked turn.stage past sent
  pub is_gone : IsGone terms.place turn.stage past
  pub no_more : HasNoMoreUp looked requests

-- this was sent of the request
abbrev pub sent_up : SentOn → List ℕ → SentOn
sent_up sent text = record sent { up = text }

-- What is the same whatever is awaited while a request goes up to this server: this was said to the client.
pub record Rises (terms : Terms) (at : At) (flow : Flow) (server : ℕ) (doing : Doing) (rest : List Command) (sent : SentOn) (there : Flow → Sending → Wanted) (side : Option Link) (seen : Sight) : Type 0 where
  pub going : going_at doing ≡ Some server
  pub stage : (goes : Request) → stage_of at (there flow (sending.GoingUp goes)) ≡ busy at flow doing
  pub ended : (told : Flow) → stage_of at (there told sending.All) ≡ busy at told (gone doing)
  pub sends : (text : List ℕ) → sent_on (busy at flow doing) (sent_up sent text) ≡ sends_to server text ++ rest
  pub sends_none : (moment : ℕ) → sent_on (busy at (with_whole flow moment) (gone doing)) (sent_up sent []) ≡ rest
  pub has_request : (goes : Request) (text : List ℕ) (requests : State) → ReadsUp terms flow seen goes text requests →
      HasRequest terms (busy at flow doing) seen text (there flow (sending.GoingUp goes)) requests
  pub keeps : (moment : ℕ) (past : Sight) (requests : State) → Keeps past.client requests →
      HasRequest terms (busy at (with_whole flow moment) (gone doing)) past [] (there (with_whole flow moment) sending.All) requests
  pub has_side : (goes : Request) (text : List ℕ) → HasSide (busy at flow doing) seen (sent_up sent text) (there flow (sending.GoingUp goes)) side
  pub side_past : (moment : ℕ) (client : List ℕ) →
      HasSide (busy at (with_whole flow moment) (gone doing)) (record seen { client = client }) (sent_up sent []) (there (with_whole flow moment) sending.All) side
  pub no_more : (goes : Request) (requests : State) → (to_come requests).marks ≡ [] → HasNoMoreUp (there flow (sending.GoingUp goes)) requests
  pub none_more : (told : Flow) (requests : State) → HasNoMoreUp (there told sending.All) requests
  pub is_gone : whole_in seen ≡ None → IsGone terms.place (busy at flow doing) seen
  pub gone_is : (told : Flow) (past : Sight) → IsGone terms.place (busy at told (gone doing)) past
  pub for_client : IsForClient rest

module _ (terms : Terms) (at : At) (flow : Flow) (server : ℕ) (doing : Doing) (rest : List Command) (sent : SentOn) (there : Flow → Sending → Wanted) (side : Option Link) (seen : Sight)
    (rises : Rises terms at flow server doing rest sent there side seen) (goes : Request) (text : List ℕ) (new : State) (out longer : List Command) where
  abbrev Ends : Option ℕ → Wanted → Type 0
  Ends whole next = GoesBy terms (end_by (gone_by (Some server) whole) terms.place at flow doing seen) (past_gone (gone_by (Some server) whole) seen) at new side next
      (sends_to server sent.up ++ rest) out longer

  -- it goes up on
  goes_on : whole_in seen ≡ None → ReadsUp terms flow seen goes (sent.up ++ text) new → (to_come new).marks ≡ [] → longer ≡ out ++ sends_to server text → Ends None (there flow (sending.GoingUp goes))
  goes_on none reads left gives = record {
    sent = sent_up sent (sent.up ++ text);
    more = sends_to server text;
    grown = gives;
    owes = λ view. up_more view server sent.up text rest rises.for_client ∙ (up_sent view server (sent.up ++ text) rest ∙ ap (seen_of view) (sym (rises.sends (sent.up ++ text))));
    is_ready = record {
      is_stage = rises.stage goes;
      request = rises.has_request goes (sent.up ++ text) new reads;
      has_side = rises.has_side goes (sent.up ++ text);
    };
    is_gone = rises.is_gone none;
    no_more = rises.no_more goes new left;
  }

  -- or it is whole
  is_ended : (all : List ℕ) (size : ℕ) → left_of seen.told (going_text terms.place flow seen) ≡ sent.up ++ all → Keeps (left_by (request_in seen) seen.client) new → longer ≡ out ++ sends_to server all →
      Ends (Some size) (there (with_whole flow seen.now) sending.All)
  is_ended all size left keeps gives = record {
    sent = sent_up sent [];
    more = sends_to server all;
    grown = gives;
    owes = λ view.
        up_more view server sent.up all rest rises.for_client
        ∙ (ap (λ l. server_atoms view server l ++ seen_of view rest) (sym left)
        ∙ ap (λ l. seen_of view (commands.Send (Server server) (left_of seen.told (going_text terms.place flow seen)) ∷ l)) (sym (rises.sends_none seen.now)));
    is_ready = record {
      is_stage = rises.ended (with_whole flow seen.now);
      request = rises.keeps seen.now (past_gone (Some server) seen) new keeps;
      has_side = rises.side_past seen.now (left_by (request_in seen) seen.client);
    };
    is_gone = rises.gone_is (with_whole flow seen.now) (past_gone (Some server) seen);
    no_more = rises.none_more (with_whole flow seen.now) new;
  }

  ends_by : (got : Progress) → UpTo got terms flow seen goes sent.up text new → (told : Flow) (next : Sending) → WentUp seen.now flow server goes got text told next out longer → Ends (whole_in seen) (there told next)
  ends_by progress.Missing (none, reads, left) told next went =
      subst (λ w. Ends w (there told next)) (sym none)
      (subst (λ f. Ends None (there f next)) (sym went.is_told) (subst (λ u. Ends None (there flow u)) (sym went.is_next) (goes_on none reads left went.gives)))
  ends_by (progress.Bad fault) (none, reads, left) told next went =
      subst (λ w. Ends w (there told next)) (sym none)
      (subst (λ f. Ends None (there f next)) (sym went.is_told) (subst (λ u. Ends None (there flow u)) (sym went.is_next) (goes_on none reads left went.gives)))
  ends_by (progress.Whole trailers) (size, whole, left, keeps) told next went =
      subst (λ w. Ends w (there told next)) (sym whole)
      (subst (λ f. Ends (Some size) (there f next)) (sym went.is_told)
      (subst (λ u. Ends (Some size) (there (with_whole flow seen.now) u)) (sym went.is_next) (is_ended (text ++ last_text goes.fields trailers) size left keeps went.gives)))

  -- What came more of it is sent on as the chain owes it.
  pub rises_by : (moment : ℕ) (got : Progress) (told : Flow) (next : Sending) → moment ≡ seen.now → UpTo got terms flow seen goes sent.up text new → WentUp moment flow server goes got text told next out longer →
      GoesBy terms (end_by (gone_by (going_at doing) (whole_in seen)) terms.place at flow doing seen) (past_gone (gone_by (going_at doing) (whole_in seen)) seen) at new side (there told next)
      (sent_on (busy at flow doing) sent) out longer
  rises_by moment got told next now to went =
      let P : Option ℕ → List Command → Type 0 = λ o l. GoesBy terms (end_by (gone_by o (whole_in seen)) terms.place at flow doing seen) (past_gone (gone_by o (whole_in seen)) seen) at new side (there told next) l out longer in
      subst (λ o. P o (sent_on (busy at flow doing) sent)) (sym rises.going)
      (subst (P (Some server)) (sym (rises.sends sent.up)) (ends_by got to told next (subst (λ m. WentUp m flow server goes got text told next out longer) now went)))

-- ---- what is awaited

module _ (terms : Terms) (at : At) (flow : Flow) (server : ℕ) (sent : SentOn) (seen : Sight) where
  -- the head of the response
  pub head_rises : (side : Option Link) (goes : Request) → HasSide (busy at flow (response_head server going_up)) seen sent (ready.ResponseHead flow server (sending.GoingUp goes)) side →
      Rises terms at flow server (response_head server going_up) (interim_commands flow.request sent.interim) sent (λ told up. ready.ResponseHead told server up) side seen
  head_rises side goes has = record {
    going = refl;
    stage = λ one. refl;
    ended = λ told. refl;
    sends = λ text. refl;
    sends_none = λ moment. refl;
    has_request = λ one text requests reads. reads;
    keeps = λ moment past requests rests. rests;
    has_side = λ one text. has;
    side_past = λ moment client. has;
    no_more = λ one requests none. none;
    none_more = λ told requests. tt;
    is_gone = λ none. ap (gone_by (Some server)) none;
    gone_is = λ told past. refl;
    for_client = interim_for_client flow.request sent.interim;
  }

  -- its body, which is kept
  whole_held : (o : Option Response) (moment : ℕ) (most : Option ℕ) (head : ReadResponse) → HoldsWhole flow most head o → HoldsWhole (with_whole flow moment) most head o
  whole_held None moment most head is = tt
  whole_held (Some answer) moment most head is = is

  still_holds : (held : Option Held) (moment : ℕ) (most : Option ℕ) (head : ReadResponse) (marks : List Mark) → Holds flow most head marks held → Holds (with_whole flow moment) most head marks held
  still_holds None moment most head marks is = whole_held flow.response moment most head is
  still_holds (Some held) moment most head marks is = is

  return_past : (side : Option Link) (moment : ℕ) (client : List ℕ) (most : Option ℕ) (content : List ℕ) (held : Option Held) → IsOpen (ReadsReturn flow server most seen content held) side →
      IsOpen (ReadsReturn (with_whole flow moment) server most (record seen { client = client }) content held) side
  return_past None moment client most content held is = is
  return_past (Some link) moment client most content held is = record {
    sent = is.sent;
    head = is.head;
    marks = is.marks;
    is_content = is.is_content;
    holds = still_holds held moment most is.head is.marks is.holds;
    final = is.final;
    lasts = is.lasts;
    is_link = is.is_link;
  }

  pub body_rises : (side : Option Link) (goes : Request) (most : Option ℕ) (body : List ℕ) (held : Option Held) → IsOpen (ReadsReturn flow server most seen body held) side →
      Rises terms at flow server (response_body server going_up most) [] sent (λ told up. ready.ResponseBody told server up most body held) side seen
  body_rises side goes most body held has = record {
    going = refl;
    stage = λ one. refl;
    ended = λ told. refl;
    sends = λ text. sym (append-nil (sends_to server text));
    sends_none = λ moment. refl;
    has_request = λ one text requests reads. reads;
    keeps = λ moment past requests rests. rests;
    has_side = λ one text. has;
    side_past = λ moment client. return_past side moment client most body held has;
    no_more = λ one requests none. none;
    none_more = λ told requests. tt;
    is_gone = λ none. ap (gone_by (Some server)) none;
    gone_is = λ told past. refl;
    for_client = nothing_for_client;
  }

  -- or comes down
  down_past : (side : Option Link) (moment : ℕ) (client : List ℕ) (its : Response) → IsOpen (ReadsDown flow server seen (Some its) sent.text) side →
      IsOpen (ReadsDown (with_whole flow moment) server (record seen { client = client }) (Some its) sent.text) side
  down_past None moment client its is = is
  down_past (Some link) moment client its is = record {
    sent = is.sent;
    head = is.head;
    marks = is.marks;
    is_text = is.is_text;
    streamed = record { response = is.streamed.response; is_given = is.streamed.is_given; is_sent = is.streamed.is_sent; has_body = is.streamed.has_body };
    final = is.final;
    lasts = is.lasts;
    is_link = is.is_link;
  }

  pub down_rises : (side : Option Link) (goes : Request) (its : Response) → IsOpen (ReadsDown flow server seen (Some its) sent.text) side →
      Rises terms at flow server (coming_down server going_up) (sends_text sent.text) sent (λ told up. ready.ComingDown told server up its) side seen
  down_rises side goes its has = record {
    going = refl;
    stage = λ one. refl;
    ended = λ told. refl;
    sends = λ text. refl;
    sends_none = λ moment. refl;
    has_request = λ one text requests reads. reads;
    keeps = λ moment past requests rests. rests;
    has_side = λ one text. has;
    side_past = λ moment client. down_past side moment client its has;
    no_more = λ one requests none. none;
    none_more = λ told requests. tt;
    is_gone = λ none. ap (gone_by (Some server)) none;
    gone_is = λ told past. refl;
    for_client = text_for_client sent.text;
  }
