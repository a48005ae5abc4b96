-- One look where a server is connected: what it shows of a request that goes up, beside what it shows of the response.
use Rattle.std.proofs.Common.{◌≡◌, ℕ, List, ◌++◌, Option, Some, None, refl, ap, sym, ◌∙◌, subst, append_assoc}
use Rattle.std.specs.Prelude.{⊤}
use Rattle.std.proofs.lemmas.List.{append-nil}
use Rattle.px_message.specs.declared.fault.Fault.{Fault}
use Rattle.px_message.specs.declared.flow.Flow.{Flow}
use Rattle.px_message.specs.declared.request.Request.{Request}
use Rattle.px_event.specs.Chain.{Look, Ends}
use Rattle.px_event.specs.declared.command.Command.{Command}
use Rattle.px_event.specs.View.{View, seen_of}
use Rattle.px_event.proofs.Seen.{seen_append}
use Rattle.px_read.specs.Chunks.{Reading}
use Rattle.px_read.specs.Reader.{State}
use Rattle.px_exchange.specs.declared.terms.Terms.{Terms}
use Rattle.px_parts.specs.Texts.{left_of}
use Rattle.px_chain.specs.Chain.{bad_or, gone_by, look_up}
use Rattle.px_chain.specs.Going.{going_text, sends_up, whole_in}
use Rattle.px_chain.specs.Sights.{Sight, client_left}
use Rattle.px_chain.specs.Stages.{Stage, coming_down, response_body, response_head}
use Rattle.px_stream.specs.declared.going.Sending.{Sending}
use Rattle.px_stream.specs.declared.going.Sending.TheVariants as sending
use Rattle.px_stream.specs.Goings.{sends_while, sent_of}
use Rattle.px_stream.specs.GoingUp.{IsNotWhole, NoMoreUp}
use Rattle.px_stream.specs.Looks.{UpRead}
use Rattle.px_stream.specs.Stands.{AskedUp, GoesOnUp, Keeps, ReadsUp, UpQuiet}
use Rattle.px_stream.proofs.UpShownLemmas.{UpShown, up_shown}
use Rattle.px_stream.proofs.UpViewLemmas.{server_atoms, to_seen}
use Rattle.px_stream.proofs.WentUpLemmas.{all_sent_of}

-- ---- in a view

-- what is seen the same, and the same behind it
pub both : (view : View) (a b c d : List Command) → seen_of view a ≡ seen_of view b → c ≡ d → seen_of view (a ++ c) ≡ seen_of view (b ++ d)
both view a b c d one two = seen_append view a c ∙ (ap (λ l. l ++ seen_of view c) one ∙ (ap (λ l. seen_of view b ++ seen_of view l) two ∙ sym (seen_append view b d)))

-- and so where more is told behind both
pub beside : (view : View) (a b c d more told : List Command) → seen_of view a ≡ seen_of view b → c ++ more ≡ d ++ told → seen_of view ((a ++ c) ++ more) ≡ seen_of view ((b ++ d) ++ told)
beside view a b c d more told one two = ap (seen_of view) (append_assoc a c more) ∙ (both view a b (c ++ more) (d ++ told) one two ∙ ap (seen_of view) (sym (append_assoc b d told)))

-- ---- a request that goes up and is not whole

abbrev pub NotWhole : Sending → Sight → Type 0
NotWhole sending.All seen = ⊤
NotWhole (sending.GoingUp sent) seen = whole_in seen ≡ None

none_whole : (server : ℕ) (whole : Option ℕ) → gone_by (Some server) whole ≡ None → whole ≡ None
none_whole server None is = refl
none_whole server (Some size) is = absurd (let no : Some server ≡ None = is in cc)

pub head_not : (up : Sending) (server : ℕ) (seen : Sight) → IsNotWhole (response_head server (sent_of up)) seen → NotWhole up seen
head_not sending.All server seen is = tt
head_not (sending.GoingUp sent) server seen is = none_whole server (whole_in seen) is

pub body_not : (up : Sending) (server : ℕ) (most : Option ℕ) (seen : Sight) → IsNotWhole (response_body server (sent_of up) most) seen → NotWhole up seen
body_not sending.All server most seen is = tt
body_not (sending.GoingUp sent) server most seen is = none_whole server (whole_in seen) is

pub down_not : (up : Sending) (server : ℕ) (seen : Sight) → IsNotWhole (coming_down server (sent_of up)) seen → NotWhole up seen
down_not sending.All server seen is = tt
down_not (sending.GoingUp sent) server seen is = none_whole server (whole_in seen) is

-- what was sent of it is what is owed of it
pub sent_all : (terms : Terms) (flow : Flow) (server : ℕ) (seen : Sight) (up : Sending) (was : List ℕ) (old : State) → GoesOnUp terms flow seen up was old → NoMoreUp up old → NotWhole up seen → (view : View) →
    seen_of view (sends_while (sent_of up) server was) ≡ seen_of view (sends_up terms.place flow server (sent_of up) seen)
sent_all terms flow server seen sending.All was old reads none not view = refl
sent_all terms flow server seen (sending.GoingUp sent) was old reads none not view =
    to_seen view server was
    ∙ (ap (server_atoms view server) (all_sent_of terms flow server seen sent was old reads none (ap (gone_by (Some server)) not))
    ∙ sym (append-nil (server_atoms view server (left_of seen.told (going_text terms.place flow seen)))))

-- ---- one part more of it

-- what is found is what is found of the response, and it stands as before
pub record UpStays (terms : Terms) (flow : Flow) (seen : Sight) (up : Sending) (was : List ℕ) (new : State) : Type 0 where
  pub finds : (ends : Fault → List Command) (l : Look Command) → look_up (sent_of up) seen ends l ≡ l
  pub goes_on : GoesOnUp terms flow seen up was new
  pub quiet : UpQuiet up new
  pub asked : (stage : Stage) → client_left stage seen ≡ seen.client → AskedUp flow stage seen up new

-- or its fault is found
abbrev pub UpFails : Sending → Sight → Fault → Type 0
UpFails up seen fault = (ends : Fault → List Command) (l : Look Command) → look_up (sent_of up) seen ends l ≡ Ends (ends fault)

abbrev pub UpJudged : Terms → Flow → Sight → Sending → List ℕ → State → Option Fault → Type 0
UpJudged terms flow seen up was new None = UpStays terms flow seen up was new
UpJudged terms flow seen up was new (Some fault) = UpFails up seen fault

going_judged : (terms : Terms) (flow : Flow) (seen : Sight) (sent : Request) (was : List ℕ) (old new : State) (up : ReadsUp terms flow seen sent was old) (bad : Option Fault) → whole_in seen ≡ None →
    UpShown terms flow seen sent was old new up bad → UpJudged terms flow seen (sending.GoingUp sent) was new bad
going_judged terms flow seen sent was old new up None not (item, reads, quiet) = record {
  finds = λ ends l. ap (λ i. bad_or i ends l) item;
  goes_on = reads;
  quiet = quiet;
  asked = λ stage is. record { marks = reads.marks; going_on = reads.going_on; all_read = ap (λ (r : Reading). r.marks) quiet; not_whole = not };
}
going_judged terms flow seen sent was old new up (Some fault) not item = λ ends l. ap (λ i. bad_or i ends l) item

-- So it is judged.
pub up_judged : (terms : Terms) (flow : Flow) (seen : Sight) (up : Sending) (was : List ℕ) (old new : State) (bad : Option Fault) → GoesOnUp terms flow seen up was old → NoMoreUp up old → NotWhole up seen →
    UpRead up bad old new → UpJudged terms flow seen up was new bad
up_judged terms flow seen sending.All was old new bad keeps none not (same, no_fault) =
    let kept : Keeps seen.client new = subst (Keeps seen.client) (sym same) keeps in
    let stays : UpStays terms flow seen sending.All was new = record { finds = λ ends l. refl; goes_on = kept; quiet = tt; asked = λ stage is. subst (λ l. Keeps l new) (sym is) kept } in
    subst (UpJudged terms flow seen sending.All was new) (sym no_fault) stays
up_judged terms flow seen (sending.GoingUp sent) was old new bad reads none not gave =
    going_judged terms flow seen sent was old new reads bad not (up_shown terms flow seen sent was old new reads bad not none gave)
