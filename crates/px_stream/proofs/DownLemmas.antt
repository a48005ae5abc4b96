-- What was sent of a response that is streamed is its text, as far as it came; and how it stands where its reader has no more to give.
use Rattle.std.proofs.Common.{◌≡◌, ℕ, ◌+◌, ◌<◌, Bool, false, List, [], ◌∷◌, ◌++◌, length, Option, Some, None, refl, ap, sym, ◌∙◌, subst, arith, length-append}
use Rattle.std.proofs.lemmas.List.{append-nil}
use Rattle.px_text.specs.Prefix.{IsPrefixOf}
use Rattle.px_message.specs.Length.{has_no_body}
use Rattle.px_message.specs.declared.flow.Flow.{Flow}
use Rattle.px_message.specs.declared.response.Response.{Response}
use Rattle.px_message.specs.declared.version.Version.{Version}
use Rattle.px_message.specs.declared.version.Version.TheVariants as versions
use Rattle.px_event.specs.declared.command.Command.TheVariants as commands
use Rattle.px_event.specs.declared.side.Side.TheVariants.{Client}
use Rattle.px_read.specs.Chunks.{Finish, Reading, goes_on, whole, fails}
use Rattle.px_read.specs.Heads.{is_interim}
use Rattle.px_read.specs.Items.{Body, answer_list, bad_body, body_of, complete, item_behind, part}
use Rattle.px_read.specs.Laws.{head_in}
use Rattle.px_read.specs.Marks.{Mark, answers, marks_of}
use Rattle.px_read.specs.Reader.{IsNext, Reads, State, behind_marks, response, to_come}
use Rattle.px_read.specs.Readings.{behind_bytes, only, response_reading}
use Rattle.px_read.specs.declared.head.ResponseHead.{ResponseHead as ReadResponse}
use Rattle.px_read.specs.declared.part.Part.{Part}
use Rattle.px_read.specs.declared.part.Part.TheVariants as given
use Rattle.px_write.specs.Text.{interim_text, response_head_text, version_text}
use Rattle.px_exchange.specs.declared.body.Progress.{Progress}
use Rattle.px_exchange.specs.declared.body.Progress.TheVariants as progress
use Rattle.px_exchange.specs.Bodies.{stop_of}
use Rattle.px_exchange.specs.Requests.{is_head}
use Rattle.px_exchange.proofs.BodyLemmas.{come}
use Rattle.px_parts.specs.Texts.{behind_text, end_text, final_so_far, marks_text}
use Rattle.px_chain.specs.Coming.{Came, came_by, came_in, coming_by, coming_text, framed_as}
use Rattle.px_chain.specs.Sights.{Sight, answers_in}
use Rattle.px_stream.specs.declared.link.Link.{Link}
use Rattle.px_stream.specs.Comings.{sends_text}
use Rattle.px_stream.specs.Looks.{GaveEnd}
use Rattle.px_stream.specs.Stands.{IsLink, IsQuiet, ReadsDown, ReadsLink}
use Rattle.px_stream.proofs.CameLemmas.{read_as}
use Rattle.px_stream.proofs.CameLemmas as came
use Rattle.px_stream.proofs.QuietLemmas.{still_quiet}

-- ---- what its bytes tell

module _ (asked_head : Bool) (number : ℕ) (bytes : List ℕ) (shut : Bool) (sent : List ReadResponse) (head : ReadResponse) (final : is_interim head ≡ false) (marks : List Mark) (link : Link)
    (keeps : ReadsLink asked_head number bytes shut sent (answers head ∷ marks) link) where
  -- what was read and what is to come
  abbrev all : Reading → List Mark
  all coming = marks ++ coming.marks

  abbrev finish : Reading → Finish
  finish coming = behind_bytes (length keeps.reads.used) coming.finish

  told_is : (coming : Reading) → to_come link.responses ≡ coming → response_reading asked_head shut keeps.fed ≡ read_as (answers head ∷ all coming) (finish coming)
  told_is coming is = come (response asked_head) (answers head ∷ marks) keeps.fed shut link.responses keeps.reads ∙ ap (λ r. behind_marks (answers head ∷ marks) (length keeps.reads.used) r) is

  -- the item that stands there
  pub item_is : (coming : Reading) → to_come link.responses ≡ coming → (answer_list asked_head shut bytes).final ≡ item_behind head (body_of (all coming)) (finish coming)
  item_is coming is = came.item_is asked_head shut bytes keeps.fed sent keeps.passes head final (all coming) (finish coming) (told_is coming is)

  -- its head
  pub head_is : head_in (answer_list asked_head shut bytes).final ≡ Some head
  head_is = let coming = to_come link.responses in came.head_is asked_head shut bytes keeps.fed sent keeps.passes head final (all coming) (finish coming) (told_is coming refl)

  -- and the text of a response that is sent as this one
  pub text_is : (sends : Response) → has_no_body sends.status asked_head ≡ false →
      final_so_far sends asked_head shut bytes ≡ response_head_text sends ++ behind_text sends.fields (behind_marks (answers head ∷ marks) (length keeps.reads.used) (to_come link.responses))
  text_is sends has_body =
      let coming = to_come link.responses in
      came.text_is asked_head shut bytes keeps.fed sent keeps.passes head final (all coming) (finish coming) (told_is coming refl) sends has_body

-- ---- what comes down

module _ (flow : Flow) (server : ℕ) (seen : Sight) (sends : Response) (text : List ℕ) (link : Link) (reads : ReadsDown flow server seen (Some sends) text link) where
  abbrev asked_head : Bool
  asked_head = is_head flow.request.method

  abbrev used : ℕ
  used = length reads.is_link.reads.used

  sends_same : sends ≡ framed_as reads.head reads.streamed.response
  sends_same = let e : Some sends ≡ Some (framed_as reads.head reads.streamed.response) = reads.streamed.is_sent in cc

  -- its text is what was read behind its head, and what is to come
  pub coming_is : coming_text flow seen ≡ response_head_text sends ++ behind_text sends.fields (behind_marks (answers reads.head ∷ reads.marks) used (to_come link.responses))
  coming_is =
      let answer : Response = reads.streamed.response in
      let framed : Response = framed_as reads.head answer in
      ap (λ o. coming_by o (head_in (answers_in flow.request seen).final) flow.request seen.shut seen.server) reads.streamed.is_given
      ∙ (ap (λ h. coming_by (Some answer) h flow.request seen.shut seen.server)
      (head_is asked_head server seen.server seen.shut reads.sent reads.head reads.final reads.marks link reads.is_link)
      ∙ (text_is asked_head server seen.server seen.shut reads.sent reads.head reads.final reads.marks link reads.is_link framed reads.streamed.has_body
      ∙ ap (λ (s : Response). response_head_text s ++ behind_text s.fields (behind_marks (answers reads.head ∷ reads.marks) used (to_come link.responses))) (sym sends_same)))

  -- where no more is to come and it is not whole, that is what was sent
  pub coming_sent : (f : Finish) → to_come link.responses ≡ only f → end_text sends.fields (behind_bytes used f) ≡ [] → coming_text flow seen ≡ text
  coming_sent f is none =
      coming_is
      ∙ (ap (λ r. response_head_text sends ++ behind_text sends.fields (behind_marks (answers reads.head ∷ reads.marks) used r)) is
      ∙ (ap (λ l. response_head_text sends ++ (marks_text (reads.marks ++ []) ++ l)) none
      ∙ (ap (λ l. response_head_text sends ++ l) (append-nil (marks_text (reads.marks ++ [])) ∙ ap marks_text (append-nil reads.marks))
      ∙ sym reads.is_text)))

  -- while it has not come, no whole one stands there
  pub never_whole : came_in flow seen ≡ None → (body : Body) (trailers : List (List ℕ × List ℕ)) (size : ℕ) → (answers_in flow.request seen).final ≡ complete reads.head body trailers size → ⊥
  never_whole came body trailers size is =
      let here : Came = record { response = reads.streamed.response; head = reads.head } in
      let no : Some here ≡ None =
      sym (ap (λ o. came_by o (complete reads.head body trailers size)) reads.streamed.is_given) ∙ (sym (ap (came_by flow.response) is) ∙ came) in cc

  -- How it stands behind one part more, where nothing was to come.
  abbrev pub DownShown : Option Progress → Link → Type 0
  DownShown (Some progress.Missing) new = ((answers_in flow.request seen).final ≡ part reads.head (body_of (reads.marks ++ []))) × (coming_text flow seen ≡ text) × ReadsDown flow server seen (Some sends) text new × IsQuiet new.responses
  DownShown (Some (progress.Bad fault)) new = ((answers_in flow.request seen).final ≡ bad_body fault reads.head (body_of (reads.marks ++ []))) × (coming_text flow seen ≡ text)
  DownShown stop new = ⊥

  none_first : (first all : List Mark) → IsPrefixOf first all → all ≡ [] → 0 < length first → ⊥
  none_first first all (rest, is) none some = let sizes = ap length (sym is ∙ none) in let both = length-append first rest in omega arith

  shown_by : (got : Part) (responses : State) → came_in flow seen ≡ None → (to_come link.responses).marks ≡ [] → IsNext got (to_come link.responses) →
      IsLink flow.request server seen reads.sent ((answers reads.head ∷ reads.marks) ++ marks_of got) (record link { responses = responses }) →
      Reads (response asked_head) ((answers reads.head ∷ reads.marks) ++ marks_of got) reads.is_link.fed seen.shut responses → DownShown (stop_of got) (record link { responses = responses })
  shown_by given.More responses came none next is_link further = (
    item_is asked_head server seen.server seen.shut reads.sent reads.head reads.final reads.marks link reads.is_link (only goes_on) next,
    coming_sent goes_on next refl,
    record {
      sent = reads.sent;
      head = reads.head;
      marks = reads.marks;
      is_text = reads.is_text;
      streamed = reads.streamed;
      final = reads.final;
      lasts = reads.lasts;
      is_link = subst (λ l. IsLink flow.request server seen reads.sent (answers reads.head ∷ l) (record link { responses = responses })) (append-nil reads.marks) is_link;
    },
    still_quiet (response asked_head) (answers reads.head ∷ reads.marks) reads.is_link.fed seen.shut link.responses responses reads.is_link.reads next further,
  )
  shown_by (given.Bad fault) responses came none next is_link further = (
    item_is asked_head server seen.server seen.shut reads.sent reads.head reads.final reads.marks link reads.is_link (only (fails fault)) next,
    coming_sent (fails fault) next refl,
  )
  shown_by (given.End trailers) responses came none (size, next) is_link further =
      never_whole came (body_of (reads.marks ++ [])) trailers (used + size)
      (item_is asked_head server seen.server seen.shut reads.sent reads.head reads.final reads.marks link reads.is_link (only (whole trailers size)) next)
  shown_by (given.Request head) responses came none next is_link further = none_first (marks_of (given.Request head)) (to_come link.responses).marks next.1 none next.0
  shown_by (given.Response head) responses came none next is_link further = none_first (marks_of (given.Response head)) (to_come link.responses).marks next.1 none next.0
  shown_by (given.Piece bytes) responses came none next is_link further = none_first (marks_of (given.Piece bytes)) (to_come link.responses).marks next.1 none next.0
  shown_by (given.ChunkStart size) responses came none next is_link further = none_first (marks_of (given.ChunkStart size)) (to_come link.responses).marks next.1 none next.0
  shown_by given.ChunkEnd responses came none next is_link further = none_first (marks_of given.ChunkEnd) (to_come link.responses).marks next.1 none next.0

  pub down_shown : (stop : Option Progress) (responses : State) → came_in flow seen ≡ None → (to_come link.responses).marks ≡ [] → GaveEnd stop link.responses responses →
      DownShown stop (record link { responses = responses })
  down_shown stop responses came none ends =
      let P : Option Progress → Type 0 = λ s. DownShown s (record link { responses = responses }) in
      let keeps = reads.is_link in
      let further = ends.gave.gives (response asked_head) (answers reads.head ∷ reads.marks) keeps.fed seen.shut keeps.reads in
      subst P (sym ends.stops)
      (shown_by ends.gave.got responses came none ends.gave.next (record {
        server = keeps.server;
        is_asked = keeps.is_asked;
        closed = keeps.closed;
        fed = keeps.fed;
        passes = keeps.passes;
        reads = further;
      }) further)

-- ---- what is sent of a response is never empty

sends_first : (version : Version) (code : ℕ) (reason : List ℕ) (fields : List (List ℕ × List ℕ)) (rest : List ℕ) →
    sends_text (interim_text version code reason fields ++ rest) ≡ commands.Send Client (interim_text version code reason fields ++ rest) ∷ []
unfolding version_text
sends_first versions.Http10 code reason fields rest = refl
sends_first versions.Http11 code reason fields rest = refl

pub sends_all : (sends : Response) (rest : List ℕ) → sends_text (response_head_text sends ++ rest) ≡ commands.Send Client (response_head_text sends ++ rest) ∷ []
sends_all sends rest = sends_first sends.version sends.status sends.reason sends.fields rest
