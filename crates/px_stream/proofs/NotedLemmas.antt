-- Whether a response persists is noted beside what is read of it.
use Rattle.std.proofs.Common.{◌≡◌, ℕ, Bool, List, refl}
use Rattle.std.specs.Prelude.{⊤}
use Rattle.px_message.specs.declared.request.Request.{Request}
use Rattle.px_read.specs.Marks.{Mark}
use Rattle.px_read.specs.declared.head.ResponseHead.{ResponseHead}
use Rattle.px_exchange.specs.Endings.{read_persists}
use Rattle.px_stream.specs.declared.link.Link.{Link}
use Rattle.px_stream.specs.declared.reading.FinalHead.{FinalHead}
use Rattle.px_stream.specs.declared.reading.FinalHead.TheVariants as answer
use Rattle.px_stream.specs.Responses.{AnswerCome, noting}
use Rattle.px_stream.specs.Stands.{ReadsLink}

link_noted : (message : Request) (got : FinalHead) (asked_head : Bool) (number : ℕ) (bytes : List ℕ) (shut : Bool) (sent : List ResponseHead) (told : List Mark) (link : Link) →
    ReadsLink asked_head number bytes shut sent told link → ReadsLink asked_head number bytes shut sent told (noting message got link)
link_noted message got asked_head number bytes shut sent told link is =
    record { server = is.server; is_asked = is.is_asked; closed = is.closed; fed = is.fed; passes = is.passes; reads = is.reads }

-- what there is of the final response is the same
pub come_noted : (message : Request) (got : FinalHead) (asked_head : Bool) (number : ℕ) (bytes : List ℕ) (shut : Bool) (all : List ResponseHead) (link : Link) →
    AnswerCome got asked_head number bytes shut all link → AnswerCome got asked_head number bytes shut all (noting message got link)
come_noted message (answer.Head head) asked_head number bytes shut all link (is_link, stands, final, interim) = (link_noted message (answer.Head head) asked_head number bytes shut all _ link is_link, stands, final, interim)
come_noted message answer.Missing asked_head number bytes shut all link (is_link, is, interim, quiet) = (link_noted message answer.Missing asked_head number bytes shut all _ link is_link, is, interim, quiet)
come_noted message (answer.Bad fault) asked_head number bytes shut all link (is_link, is, interim) = (link_noted message (answer.Bad fault) asked_head number bytes shut all _ link is_link, is, interim)

-- of a head it says whether its response persists
abbrev pub Lasts : Request → FinalHead → Link → Type 0
Lasts message (answer.Head head) link = link.persists ≡ read_persists message head
Lasts message got link = ⊤

pub lasts_noted : (message : Request) (got : FinalHead) (link : Link) → Lasts message got (noting message got link)
lasts_noted message (answer.Head head) link = refl
lasts_noted message answer.Missing link = tt
lasts_noted message (answer.Bad fault) link = tt
